use Rattle.std.proofs.Common.{ℕ, List, sym, subst}
use Rattle.blossom_match.proofs.Names.{HasFreeSlack, matches_in}
use Rattle.blossom_match.proofs.InitialDualLemmas.{free_lies}
use Rattle.blossom_match.proofs.initial_duals.tight_with.Goals as goal

pub tight_place-requires-clause-lies : goal.tight_place-requires-clause-lies
tight_place-requires-clause-lies c =
    subst (λ (xs : List ℕ). HasFreeSlack c.args.t.now c.deref.result.now xs c.args.place) (sym c.deref-2.ensures.value)
    (subst (λ (hs : List ℕ). HasFreeSlack c.args.t.now hs c.args.s.now.free.items c.args.place) (sym c.deref.ensures.value)
    (free_lies c.args.t.now (matches_in c.args.s.now.sets c.args.s.now.matches.items) c.args.s.now.free.items c.args.s.now.heights.items
    c.args.place c.requires.stands
    c.requires.here))
