-- The passes of stitches, as they are kept of those that lead forward.
use Rattle.std.proofs.Common.{◌≡◌, ◌+◌, ℕ, ℤ, Bool, true, false, ◌||◌, ◌&&◌, cond, Option, Some, min, if◌then◌else◌, [], ap, sym, refl, arith, ◌∙◌}
use Rattle.std.proofs.Math.Path.{ap₂, fun_ext}
use Rattle.std.proofs.lemmas.Bool.{and_parts}
use Rattle.std.proofs.lemmas.Bool.Decides.{Decides-int_eq, nat_tests}
use Rattle.std.specs.Ordering.{int_eq}
use Rattle.std.specs.Prelude.{int_lt, unwrap_or}
use Rattle.design_model.proofs.CallerLemmas.{point_itself, same_is, same_point}
use Rattle.design_model.specs.declared.point.Point.{Point}
use Rattle.design_model.specs.Points.{is_same_point}
use Rattle.design_picture.specs.declared.arrow_squares.ArrowSquare.{ArrowSquare}
use Rattle.design_picture.specs.declared.links.Passes.{Passes}
use Rattle.design_picture.specs.declared.links.PointPair.{PointPair}
use Rattle.design_picture.specs.declared.links.TheConstants.{MAX_PASSES, NO_PASSES}
use Rattle.design_picture.specs.declared.sewn_stitches.SewnStitches.{SewnStitches}
use Rattle.design_picture.specs.Strokes.{SewnSoFar, none_passed, sewn_by}
use Rattle.design_picture.specs.KeptPasses.{forward_stitch, is_forward, passes_by, passes_toward, with_pass}
use Rattle.design_picture.specs.Passes.{earlier_passes, is_same_stitch, passes_with, turned_stitch}

abbrev pair : Point → Point → PointPair
pair from to = record { from = from; to = to }

same_stitch : (a b : PointPair) → is_same_stitch a b ≡ true → a ≡ b
same_stitch a b same = let parts = and_parts (is_same_point a.from b.from) (is_same_point a.to b.to) same in
    ap₂ pair (same_is a.from b.from parts.0) (same_is a.to b.to parts.1)

never : true ≡ false → ⊥
never is = cc

-- Of two numbers one comes first, or they are the same.
order : (a b c d : ℤ) → (int_lt a b || (int_eq a b && int_lt c d)) ≡ true → (int_lt b a || (int_eq b a && int_lt d c)) ≡ false
order a b c d is = grind (arith, nat_tests, Decides-int_eq)

same_x : (a b c d : ℤ) → (int_lt a b || (int_eq a b && int_lt c d)) ≡ false
    → (int_lt b a || (int_eq b a && int_lt d c)) ≡ false → a ≡ b
same_x a b c d is not = grind (arith, nat_tests, Decides-int_eq)

same_y : (a b c d : ℤ) → (int_lt a b || (int_eq a b && int_lt c d)) ≡ false
    → (int_lt b a || (int_eq b a && int_lt d c)) ≡ false → c ≡ d
same_y a b c d is not = grind (arith, nat_tests, Decides-int_eq)

same_itself : (s : PointPair) → is_same_stitch s s ≡ true
same_itself s = ap (λ (t : Bool). t && is_same_point s.to s.to) (point_itself s.from) ∙ point_itself s.to

where_forward : (s : PointPair) → is_forward s ≡ true → forward_stitch s ≡ s
where_forward s is = ap (λ (t : Bool). if t then s else turned_stitch s) is

where_back : (s : PointPair) → is_forward s ≡ false → forward_stitch s ≡ turned_stitch s
where_back s is = ap (λ (t : Bool). if t then s else turned_stitch s) is

-- A stitch and the opposite one are kept as one.
turned_forward : (s : PointPair) → forward_stitch (turned_stitch s) ≡ forward_stitch s
turned_forward s = by_test (is_forward s) refl (is_forward (turned_stitch s)) refl
  where
    by_test : (a : Bool) → is_forward s ≡ a → (b : Bool) → is_forward (turned_stitch s) ≡ b
        → forward_stitch (turned_stitch s) ≡ forward_stitch s
    by_test true is b other =
        where_back (turned_stitch s) (order s.from.x s.to.x s.from.y s.to.y is) ∙ sym (where_forward s is)
    by_test false is true other = where_forward (turned_stitch s) other ∙ sym (where_back s is)
    by_test false is false other =
        let one : s.from ≡ s.to = same_point s.from s.to (same_x s.from.x s.to.x s.from.y s.to.y is other)
        (same_y s.from.x s.to.x s.from.y s.to.y is other) in
        where_back (turned_stitch s) other ∙ ap₂ pair one (sym one) ∙ sym (where_back s is)

-- Stitches that are kept as one and lead in one direction are the same.
same_way : (s o : PointPair) (a : Bool) → is_forward s ≡ a → is_forward o ≡ a → forward_stitch s ≡ forward_stitch o → s ≡ o
same_way s o true is other one = sym (where_forward s is) ∙ one ∙ where_forward o other
same_way s o false is other one =
    ap turned_stitch (sym (where_back s is) ∙ one ∙ where_back o other)

more : (n : ℕ) → min (min (min n MAX_PASSES + 1) MAX_PASSES) MAX_PASSES ≡ min (min n MAX_PASSES + 1) MAX_PASSES
more n = grind (arith, nat_tests)

counted_more : (a : Bool) (p : Passes) → passes_toward a (with_pass a p) ≡ min (passes_toward a p + 1) MAX_PASSES
counted_more true p = more p.forward
counted_more false p = more p.back

-- A pass in one direction leaves those in the other.
counted_other : (a b : Bool) → (a ≡ b → ⊥) → (p : Passes) → passes_toward b (with_pass a p) ≡ passes_toward b p
counted_other true true other p = absurd (other refl)
counted_other true false other p = refl
counted_other false true other p = refl
counted_other false false other p = absurd (other refl)

-- One more pass of a stitch is kept where it is counted of the one that leads forward.
counts_one : (kept now : PointPair → Option Passes) (s : PointPair) (p : Passes) → p ≡ unwrap_or (kept (forward_stitch s)) NO_PASSES
    → ((k : PointPair) → now k ≡ cond (is_same_stitch (forward_stitch s) k) (Some (with_pass (is_forward s) p)) (kept k))
    → passes_by now ≡ passes_with (passes_by kept) s
counts_one kept now s p is put = fun_ext at
  where
    toward : (o : PointPair) → passes_by now o
        ≡ passes_toward (is_forward o) (unwrap_or (cond (is_same_stitch (forward_stitch s) (forward_stitch o))
        (Some (with_pass (is_forward s) p)) (kept (forward_stitch o))) NO_PASSES)
    toward o = ap (λ (k : Option Passes). passes_toward (is_forward o) (unwrap_or k NO_PASSES)) (put (forward_stitch o))

    chosen : (o : PointPair) (t : Bool) → is_same_stitch (forward_stitch s) (forward_stitch o) ≡ t
        → passes_by now o ≡ passes_toward (is_forward o)
        (unwrap_or (cond t (Some (with_pass (is_forward s) p)) (kept (forward_stitch o))) NO_PASSES)
    chosen o t at = toward o ∙ ap (λ (u : Bool). passes_toward (is_forward o)
        (unwrap_or (cond u (Some (with_pass (is_forward s) p)) (kept (forward_stitch o))) NO_PASSES)) at

    of_itself : passes_by now s ≡ min (passes_by kept s + 1) MAX_PASSES
    of_itself = chosen s true (same_itself (forward_stitch s)) ∙ counted_more (is_forward s) p
        ∙ ap (λ (q : Passes). min (passes_toward (is_forward s) q + 1) MAX_PASSES) is

    other_way : (o : PointPair) → is_same_stitch s o ≡ false → forward_stitch s ≡ forward_stitch o → is_forward s ≡ is_forward o → ⊥
    other_way o not one way =
        never (sym (same_itself s) ∙ ap (is_same_stitch s) (same_way s o (is_forward o) way refl one) ∙ not)

    of_other : (o : PointPair) → is_same_stitch s o ≡ false → (t : Bool) → is_same_stitch (forward_stitch s) (forward_stitch o) ≡ t
        → passes_by now o ≡ passes_by kept o
    of_other o not false at = chosen o false at
    of_other o not true at =
        let one = same_stitch (forward_stitch s) (forward_stitch o) at in
        chosen o true at ∙ counted_other (is_forward s) (is_forward o) (other_way o not one) p
        ∙ ap (passes_toward (is_forward o)) (is ∙ ap (λ (k : PointPair). unwrap_or (kept k) NO_PASSES) one)

    by_test : (o : PointPair) (t : Bool) → is_same_stitch s o ≡ t
        → passes_by now o ≡ (if t then min (passes_by kept s + 1) MAX_PASSES else passes_by kept o)
    by_test o true at = ap (passes_by now) (sym (same_stitch s o at)) ∙ of_itself
    by_test o false at = of_other o at (is_same_stitch (forward_stitch s) (forward_stitch o)) refl

    at : (o : PointPair) → passes_by now o ≡ passes_with (passes_by kept) s o
    at o = by_test o (is_same_stitch s o) refl

pub counts : (kept now : PointPair → Option Passes) (s forward : PointPair) (p more : Passes) (way : Bool)
    → p ≡ unwrap_or (kept (forward_stitch s)) NO_PASSES → forward ≡ forward_stitch s → way ≡ is_forward s → more ≡ with_pass way p
    → ((k : PointPair) → now k ≡ cond (is_same_stitch forward k) (Some more) (kept k))
    → passes_by now ≡ passes_with (passes_by kept) s
counts kept now s forward p more way is leads toward one put = counts_one kept now s p is
    (λ k. put k ∙ ap (λ (f : PointPair). cond (is_same_stitch f k) (Some more) (kept k)) leads
    ∙ ap (λ (w : Passes). cond (is_same_stitch (forward_stitch s) k) (Some w) (kept k)) (one ∙ ap (λ (b : Bool). with_pass b p) toward))

-- The passes in both directions are those before a stitch.
pub earlier : (kept : PointPair → Option Passes) (s turned forward : PointPair) (p : Passes) (way other : Bool) (along against : ℕ)
    → forward ≡ forward_stitch s → p ≡ unwrap_or (kept forward) NO_PASSES → way ≡ is_forward s → turned ≡ turned_stitch s
    → other ≡ is_forward turned → along ≡ passes_toward way p → against ≡ passes_toward other p
    → along + against ≡ earlier_passes (passes_by kept) s
earlier kept s turned forward p way other along against leads is toward turns away one two =
    ap₂ (λ (m n : ℕ). m + n)
    (one ∙ ap (λ (b : Bool). passes_toward b p) toward ∙ ap (passes_toward (is_forward s)) of_stitch)
    (two ∙ ap (λ (b : Bool). passes_toward b p) (away ∙ ap is_forward turns)
    ∙ ap (passes_toward (is_forward (turned_stitch s)))
    (of_stitch ∙ ap (λ (k : PointPair). unwrap_or (kept k) NO_PASSES) (sym (turned_forward s))))
  where
    of_stitch : p ≡ unwrap_or (kept (forward_stitch s)) NO_PASSES
    of_stitch = is ∙ ap (λ (k : PointPair). unwrap_or (kept k) NO_PASSES) leads

nothing : (way : Bool) → passes_toward way NO_PASSES ≡ 0
nothing true = refl
nothing false = refl

-- Where nothing is kept, nothing was sewn.
pub none_sewn : (sewn : SewnStitches) → sewn.passes.entries ≡ [] → sewn.arrows.keys ≡ [] → sewn_by sewn ≡ none_passed
none_sewn sewn passes arrows =
    ap₂ (λ (p : PointPair → ℕ) (a : ArrowSquare → Bool). (let so : SewnSoFar = record { passes = p; arrows = a } in so))
    (fun_ext (λ s. rw passes (nothing (is_forward s)))) (fun_ext (λ square. rw arrows refl))

-- One more pass of a stitch with the greatest number changes nothing.
pub full_stays : (kept : PointPair → Option Passes) (s : PointPair) → passes_by kept s ≡ MAX_PASSES
    → passes_by kept ≡ passes_with (passes_by kept) s
full_stays kept s full = fun_ext (λ o. by_test o (is_same_stitch s o) refl)
  where
    by_test : (o : PointPair) (t : Bool) → is_same_stitch s o ≡ t
        → passes_by kept o ≡ (if t then min (passes_by kept s + 1) MAX_PASSES else passes_by kept o)
    by_test o false at = refl
    by_test o true at = ap (passes_by kept) (sym (same_stitch s o at)) ∙ full ∙ sym (ap (λ (n : ℕ). min (n + 1) MAX_PASSES) full)
