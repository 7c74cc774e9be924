use Rattle.std.proofs.Common.{List, [], ◌∷◌, ◌++◌, ◌≡◌, ap, refl, ◌∙◌, arith}
use Rattle.odd_sets.proofs.Names.{branch_in, part_in, parts_in, reversed_edge, TightEdge, BlossomPart, nat_tests}
use Rattle.odd_sets.proofs.ChainLemmas.{chaining_left, chaining_right, chaining_aside, chaining_ends}
use Rattle.odd_sets.proofs.ListLemmas.{mapped_last, mapped_two}
use Rattle.odd_sets.proofs.ShrunkLemmas.{last_kept}
use Rattle.odd_sets.proofs.shrinking.Chain.climb.Goals as goal

pub returns-then-holds : goal.returns-then-holds
returns-then-holds c =
    let sets = c.args.sets.now in
    let b = branch_in sets c.args.b in
    let here = c.if-holds.ensures.yes refl in
    let first = c.in_ok-put_first.ensures in
    let second = c.in_ok-put_first-2.ensures in
    let outer : BlossomPart = record { handle = c.args.b.outer; next = c.args.self.now.way } in
    let inner : BlossomPart = record { handle = c.args.b.inner; next = c.args.b.pair } in
    let parts : c.put_first-then-holds.new.self.parts.items ≡ inner ∷ outer ∷ c.args.self.now.parts.items =
    cc (second.parts, first.parts, first.way) in
    record {
      goes = λ link root tree left bs sh e g.
          let kept = last_kept link root tree left bs b _ _ _ _ sh g e in
          chaining_ends link root tree bs _ _ _ _ _ _ (chaining_left link root tree left bs b _ _ _ _ _ g e here
          (grind (arith, nat_tests, c.requires)) kept.0 kept.1
          (ap (λ (ps : List BlossomPart). parts_in sets ps) parts)) second.way (second.to ∙ first.to);
    }

pub returns-then-holds-2 : goal.returns-then-holds-2
returns-then-holds-2 c =
    let sets = c.args.sets.now in
    let b = branch_in sets c.args.b in
    let first = c.in_ok-put_last.ensures in
    let second = c.in_ok-put_last-2.ensures in
    let outer : BlossomPart = record { handle = c.args.b.outer; next = reversed_edge c.args.b.pair } in
    let inner : BlossomPart = record { handle = c.args.b.inner; next = reversed_edge c.args.b.up } in
    let parts : c.put_last-then-holds-2.new.self.parts.items ≡ (c.args.self.now.parts.items ++ outer ∷ []) ++ inner ∷ [] =
    cc (second.parts, first.parts, c.back.ensures, c.back-then-holds-2.ensures) in
    record {
      goes = λ link root tree left bs sh e g.
          let kept = last_kept link root tree left bs b _ _ _ _ sh g e in
          chaining_ends link root tree bs _ _ _ _ _ _ (chaining_right link root tree left bs b _ _ _ _ _ g e
          (c.if-holds.ensures.no refl) (c.if-holds-2.ensures.yes refl) kept.0 kept.1 (mapped_two (part_in sets) _ _ _ _ parts))
          (second.way ∙ first.way) (second.to ∙ ap (λ (l : TightEdge). l.to) c.back-then-holds-2.ensures);
    }

pub returns : goal.returns
returns c =
    let sets = c.args.sets.now in
    record {
      goes = λ link root tree left bs sh e g. chaining_aside link root tree left bs (branch_in sets c.args.b) _ _ _ _ _ g e
          (c.if-holds.ensures.no refl) (c.if-holds-2.ensures.no refl) (mapped_last (branch_in sets) _ _ _ c.in_ok-push.ensures.items);
    }
