-- Stitches that are sewn there and back.
use Rattle.std.proofs.Common.{◌≡◌, ℕ, zero, suc, ◌-◌, ◌<◌, ◌⊎◌, inl, inr, Bool, true, false, List, [], ◌∷◌, ◌++◌, Option, Some, None, Contains, is_none, refl, sym, ap, subst, ◌∙◌, arith}
use Rattle.std.proofs.lemmas.List.Elements.{Contains-append_cases, Contains-append_left, Contains-append_right}
use Rattle.design_model.specs.declared.act.Act.TheVariants as act
use Rattle.sewing_edits.proofs.Names.{Act, Point, act_point, are_in_order, bean_points, beaned_from, filter_map, needles_at, order_needles, there_and_back}

-- one time more
pub once_more : (times : ℕ) (from to : Point) (rest : List Act) → 0 < times
    → needles_at (there_and_back times from to) ++ rest
    ≡ act.Needle to false ∷ act.Needle from false ∷ (needles_at (there_and_back (times - 1) from to) ++ rest)
once_more zero from to rest some = absurd (omega (arith, some))
once_more (suc times) from to rest some =
    ap (λ n. act.Needle to false ∷ act.Needle from false ∷ (needles_at (there_and_back n from to) ++ rest)) (omega arith)

-- stitches are in order there and back
pub beaned_order : (times : ℕ) (before : Option Point) (acts : List Act) → are_in_order (is_none before) acts ≡ true
    → are_in_order (is_none before) (beaned_from times before acts) ≡ true
beaned_order times before [] ordered = refl
beaned_order times None (act.Needle p true ∷ rest) ordered = cc
beaned_order times None (act.Needle p false ∷ rest) ordered = beaned_order times (Some p) rest ordered
beaned_order times (Some b) (act.Needle p float ∷ rest) ordered =
    order_needles (bean_points times (Some b) p float) (act.Needle p float ∷ beaned_from times (Some p) rest)
    ∙ beaned_order times (Some p) rest ordered
beaned_order times None (act.Trim ∷ rest) ordered = cc
beaned_order times (Some b) (act.Trim ∷ rest) ordered = beaned_order times None rest ordered
beaned_order times None (act.Stop ∷ rest) ordered = beaned_order times None rest ordered
beaned_order times (Some b) (act.Stop ∷ rest) ordered = beaned_order times None rest ordered

-- the points of needles
points_at : (points : List Point) (acts : List Act) → filter_map act_point (needles_at points ++ acts) ≡ points ++ filter_map act_point acts
points_at [] acts = refl
points_at (p ∷ points) acts = ap (λ ps. p ∷ ps) (points_at points acts)

-- the needles there and back are the two ends
ends_only : (times : ℕ) (from to p : Point) → Contains (there_and_back times from to) p → (to ≡ p) ⊎ (from ≡ p)
ends_only zero from to p has = absurd (omega (arith, has.1))
ends_only (suc times) from to p has = by_cases (Contains-append_cases (to ∷ from ∷ []) (there_and_back times from to) p has)
    (ends_only times from to p)
  where
    first : Contains (to ∷ from ∷ []) p → (to ≡ p) ⊎ (from ≡ p)
    first (zero, less, is) = inl is
    first (suc zero, less, is) = inr is
    first (suc (suc k), less, is) = absurd (omega (arith, less))

    by_cases : Contains (to ∷ from ∷ []) p ⊎ Contains (there_and_back times from to) p
        → (Contains (there_and_back times from to) p → (to ≡ p) ⊎ (from ≡ p)) → (to ≡ p) ⊎ (from ≡ p)
    by_cases (inl here) later = first here
    by_cases (inr there) later = later there

-- the needles before a needle act are it, or the one before
bean_ends : (times : ℕ) (before : Option Point) (q : Point) (float : Bool) (p : Point) → Contains (bean_points times before q float) p
    → (q ≡ p) ⊎ (before ≡ Some p)
bean_ends times None q float p has = absurd (omega (arith, has.1))
bean_ends times (Some b) q true p has = absurd (omega (arith, has.1))
bean_ends times (Some b) q false p has = by_end (ends_only times b q p has)
  where
    by_end : (q ≡ p) ⊎ (b ≡ p) → (q ≡ p) ⊎ (◌≡◌ {A = Option Point} (Some b) (Some p))
    by_end (inl is) = inl is
    by_end (inr is) = inr (ap Some is)

contains_first : (p : Point) (ps : List Point) → Contains (p ∷ ps) p
contains_first p ps = (0, omega arith, refl)

-- a point of stitches there and back is a point of the needles, or of the one before
pub points_from : (times : ℕ) (before : Option Point) (acts : List Act) (p : Point)
    → Contains (filter_map act_point (beaned_from times before acts)) p
    → (before ≡ Some p) ⊎ Contains (filter_map act_point acts) p
points_from times before [] p has = inr has
points_from times before (act.Needle q float ∷ rest) p has =
    by_cases (Contains-append_cases (bean_points times before q float) (q ∷ filter_map act_point (beaned_from times (Some q) rest)) p
    (subst (λ ps. Contains ps p) (points_at (bean_points times before q float) (act.Needle q float ∷ beaned_from times (Some q) rest)) has))
    (λ later. points_from times (Some q) rest p later)
  where
    here : q ≡ p → Contains (q ∷ filter_map act_point rest) p
    here is = subst (λ r. Contains (q ∷ filter_map act_point rest) r) is (contains_first q (filter_map act_point rest))

    some_is : ◌≡◌ {A = Option Point} (Some q) (Some p) → q ≡ p
    some_is is = cc

    after : (◌≡◌ {A = Option Point} (Some q) (Some p)) ⊎ Contains (filter_map act_point rest) p
        → Contains (q ∷ filter_map act_point rest) p
    after (inl is) = here (some_is is)
    after (inr has) = Contains-append_right (q ∷ []) (filter_map act_point rest) p has

    first : Contains (q ∷ []) p → q ≡ p
    first (zero, less, is) = is
    first (suc k, less, is) = absurd (omega (arith, less))

    by_tail : Contains (q ∷ []) p ⊎ Contains (filter_map act_point (beaned_from times (Some q) rest)) p
        → (Contains (filter_map act_point (beaned_from times (Some q) rest)) p
        → (◌≡◌ {A = Option Point} (Some q) (Some p)) ⊎ Contains (filter_map act_point rest) p)
        → Contains (q ∷ filter_map act_point rest) p
    by_tail (inl is) on = here (first is)
    by_tail (inr later) on = after (on later)

    by_bean : (q ≡ p) ⊎ (before ≡ Some p) → (before ≡ Some p) ⊎ Contains (q ∷ filter_map act_point rest) p
    by_bean (inl is) = inr (here is)
    by_bean (inr is) = inl is

    by_cases : Contains (bean_points times before q float) p ⊎ Contains (q ∷ filter_map act_point (beaned_from times (Some q) rest)) p
        → (Contains (filter_map act_point (beaned_from times (Some q) rest)) p
        → (◌≡◌ {A = Option Point} (Some q) (Some p)) ⊎ Contains (filter_map act_point rest) p)
        → (before ≡ Some p) ⊎ Contains (q ∷ filter_map act_point rest) p
    by_cases (inl bean) on = by_bean (bean_ends times before q float p bean)
    by_cases (inr later) on = inr
        (by_tail (Contains-append_cases (q ∷ []) (filter_map act_point (beaned_from times (Some q) rest)) p later) on)
points_from times before (act.Trim ∷ rest) p has = by_none (points_from times None rest p has)
  where
    by_none : (◌≡◌ {A = Option Point} None (Some p)) ⊎ Contains (filter_map act_point rest) p
        → (before ≡ Some p) ⊎ Contains (filter_map act_point rest) p
    by_none (inl is) = cc
    by_none (inr has) = inr has
points_from times before (act.Stop ∷ rest) p has = by_none (points_from times None rest p has)
  where
    by_none : (◌≡◌ {A = Option Point} None (Some p)) ⊎ Contains (filter_map act_point rest) p
        → (before ≡ Some p) ⊎ Contains (filter_map act_point rest) p
    by_none (inl is) = cc
    by_none (inr has) = inr has

-- a point of the needles is one of stitches there and back
pub points_to : (times : ℕ) (before : Option Point) (acts : List Act) (p : Point)
    → Contains (filter_map act_point acts) p → Contains (filter_map act_point (beaned_from times before acts)) p
points_to times before [] p has = has
points_to times before (act.Needle q float ∷ rest) p has =
    subst (λ ps. Contains ps p) (sym (points_at (bean_points times before q float) (act.Needle q float ∷ beaned_from times (Some q) rest)))
    (Contains-append_right (bean_points times before q float) (q ∷ filter_map act_point (beaned_from times (Some q) rest)) p
    (by_cases (Contains-append_cases (q ∷ []) (filter_map act_point rest) p has) (λ later. points_to times (Some q) rest p later)))
  where
    by_cases : Contains (q ∷ []) p ⊎ Contains (filter_map act_point rest) p
        → (Contains (filter_map act_point rest) p → Contains (filter_map act_point (beaned_from times (Some q) rest)) p)
        → Contains (q ∷ filter_map act_point (beaned_from times (Some q) rest)) p
    by_cases (inl here) on = Contains-append_left (q ∷ []) (filter_map act_point (beaned_from times (Some q) rest)) p here
    by_cases (inr later) on = Contains-append_right (q ∷ []) (filter_map act_point (beaned_from times (Some q) rest)) p (on later)
points_to times before (act.Trim ∷ rest) p has = points_to times None rest p has
points_to times before (act.Stop ∷ rest) p has = points_to times None rest p has

-- no needle is before the first
pub old_point : (acts : List Act) (p : Point) → (◌≡◌ {A = Option Point} None (Some p)) ⊎ Contains (filter_map act_point acts) p
    → Contains (filter_map act_point acts) p
old_point acts p (inl is) = absurd (none_is is)
  where
    none_is : ◌≡◌ {A = Option Point} None (Some p) → ⊥
    none_is is = cc
old_point acts p (inr has) = has
