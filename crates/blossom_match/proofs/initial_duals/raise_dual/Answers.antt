use Rattle.std.proofs.Common.{ℕ, List, get_or, refl, sym, subst}
use Rattle.blossom_match.proofs.Names.{matches_in, KeepsSlack, length-set}
use Rattle.blossom_match.proofs.InitialDualLemmas.{free_lies, low_enough, risen}
use Rattle.blossom_match.proofs.initial_duals.raise_dual.Goals as goal

pub slack_at-price-requires-clause-low : goal.slack_at-price-requires-clause-low
slack_at-price-requires-clause-low c =
    subst (λ (hs : List ℕ). KeepsSlack c.args.t.now hs c.args.place 0) (sym c.deref.ensures.value)
    (low_enough c.args.t.now c.args.from.heights.items c.args.place (get_or c.args.from.heights.items c.args.place 0)
    (free_lies c.args.t.now (matches_in c.args.from.sets c.args.from.matches.items) c.args.from.free.items c.args.from.heights.items
    c.args.place c.requires.stands
    c.requires.here).slack)

pub returns-clause-stands : goal.returns-clause-stands
returns-clause-stands c =
    risen c.args.t.now (matches_in c.args.from.sets c.args.from.matches.items) c.args.from.free.items c.args.from.heights.items _
    c.args.place c.slack_at-price.result
    c.requires.stands c.requires.here
    (subst (λ (hs : List ℕ). KeepsSlack c.args.t.now hs c.args.place c.slack_at-price.result) c.deref.ensures.value
    c.slack_at-price.ensures.slack) refl
    (length-set c.args.from.heights.items c.args.place c.slack_at-price.result)
