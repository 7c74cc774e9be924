-- Short trims that are carried over.
use Rattle.std.proofs.Common.{◌≡◌, ℕ, Bool, true, false, not, ◌&&◌, List, [], ◌∷◌, Option, Some, None, is_none, refl, ap}
use Rattle.design_model.specs.declared.act.Act.TheVariants as act
use Rattle.sewing_edits.proofs.Names.{Act, Point, act_point, are_in_order, are_trims_far, carried_from, filter_map, is_near_next, is_thread_end, if◌then◌else◌}

pub carried_needles : (limit : ℕ) (carried : Bool) (before : Option Point) (acts : List Act)
    → filter_map act_point (carried_from limit carried before acts) ≡ filter_map act_point acts
carried_needles limit carried before [] = refl
carried_needles limit carried before (act.Needle p float ∷ rest) = ap (λ ps. p ∷ ps) (carried_needles limit false (Some p) rest)
carried_needles limit carried before (act.Trim ∷ rest) =
    by_test (is_near_next limit before rest) (carried_needles limit true None rest) (carried_needles limit false None rest)
  where
    by_test : (near : Bool) → filter_map act_point (carried_from limit true None rest) ≡ filter_map act_point rest
        → filter_map act_point (carried_from limit false None rest) ≡ filter_map act_point rest
        → filter_map act_point (if near then carried_from limit true None rest else act.Trim ∷ carried_from limit false None rest)
        ≡ filter_map act_point rest
    by_test true on off = on
    by_test false on off = off
carried_needles limit carried before (act.Stop ∷ rest) = carried_needles limit false None rest

-- what is carried over to comes next
near_goes_on : (limit : ℕ) (before : Option Point) (rest : List Act) → is_near_next limit before rest ≡ true → is_thread_end rest ≡ false
near_goes_on limit None rest near = cc
near_goes_on limit (Some b) [] near = cc
near_goes_on limit (Some b) (act.Needle p float ∷ rest) near = refl
near_goes_on limit (Some b) (act.Trim ∷ rest) near = cc
near_goes_on limit (Some b) (act.Stop ∷ rest) near = cc

-- the thread is carried over only to a needle
abbrev pub CarriesOn : Bool → List Act → Type 0
CarriesOn carried acts = carried ≡ true → is_thread_end acts ≡ false

off : (acts : List Act) → CarriesOn false acts
off acts is = cc

pub carried_order : (limit : ℕ) (carried : Bool) (before : Option Point) (acts : List Act) → CarriesOn carried acts
    → are_in_order (is_none before) acts ≡ true
    → are_in_order (is_none before && not carried) (carried_from limit carried before acts) ≡ true
carried_order limit carried before [] on ordered = refl
carried_order limit carried None (act.Needle p true ∷ rest) on ordered = cc
carried_order limit true None (act.Needle p false ∷ rest) on ordered = carried_order limit false (Some p) rest (off rest) ordered
carried_order limit false None (act.Needle p false ∷ rest) on ordered = carried_order limit false (Some p) rest (off rest) ordered
carried_order limit carried (Some b) (act.Needle p float ∷ rest) on ordered = carried_order limit false (Some p) rest (off rest) ordered
carried_order limit carried None (act.Trim ∷ rest) on ordered = cc
carried_order limit true (Some b) (act.Trim ∷ rest) on ordered = absurd_end (on refl)
  where
    absurd_end : true ≡ false → are_in_order false (carried_from limit true (Some b) (act.Trim ∷ rest)) ≡ true
    absurd_end is = cc
carried_order limit false (Some b) (act.Trim ∷ rest) on ordered =
    by_test (is_near_next limit (Some b) rest) refl
    (λ near. carried_order limit true None rest (λ is. near) ordered) (carried_order limit false None rest (off rest) ordered)
  where
    by_test : (near : Bool) → is_near_next limit (Some b) rest ≡ near
        → (is_thread_end rest ≡ false → are_in_order false (carried_from limit true None rest) ≡ true)
        → are_in_order true (carried_from limit false None rest) ≡ true
        → are_in_order false (if near then carried_from limit true None rest else act.Trim ∷ carried_from limit false None rest) ≡ true
    by_test true is carry trim = carry (near_goes_on limit (Some b) rest is)
    by_test false is carry trim = trim
carried_order limit true None (act.Stop ∷ rest) on ordered = carried_order limit false None rest (off rest) ordered
carried_order limit false None (act.Stop ∷ rest) on ordered = carried_order limit false None rest (off rest) ordered
carried_order limit carried (Some b) (act.Stop ∷ rest) on ordered = carried_order limit false None rest (off rest) ordered

-- the acts after a trim that stays begin with the same act
near_same : (limit : ℕ) (before : Option Point) (rest : List Act)
    → is_near_next limit before (carried_from limit false None rest) ≡ is_near_next limit before rest
near_same limit None rest = refl
near_same limit (Some b) [] = refl
near_same limit (Some b) (act.Needle p float ∷ rest) = refl
near_same limit (Some b) (act.Trim ∷ rest) = refl
near_same limit (Some b) (act.Stop ∷ rest) = refl

pub carried_far : (limit : ℕ) (carried : Bool) (before out : Option Point) (acts : List Act) → CarriesOn carried acts
    → (carried ≡ false → out ≡ before) → are_trims_far limit out (carried_from limit carried before acts) ≡ true
carried_far limit carried before out [] on same = refl
carried_far limit carried before out (act.Needle p float ∷ rest) on same =
    carried_far limit false (Some p) (Some p) rest (off rest) (λ is. refl)
carried_far limit true before out (act.Trim ∷ rest) on same = absurd_end (on refl)
  where
    absurd_end : true ≡ false → are_trims_far limit out (carried_from limit true before (act.Trim ∷ rest)) ≡ true
    absurd_end is = cc
carried_far limit false before out (act.Trim ∷ rest) on same =
    by_test (is_near_next limit before rest) refl
    (λ near. carried_far limit true None out rest (λ is. near) (λ is. absurd (no is)))
    (carried_far limit false None None rest (off rest) (λ is. refl))
  where
    no : true ≡ false → ⊥
    no is = cc

    by_test : (near : Bool) → is_near_next limit before rest ≡ near
        → (is_thread_end rest ≡ false → are_trims_far limit out (carried_from limit true None rest) ≡ true)
        → are_trims_far limit None (carried_from limit false None rest) ≡ true
        → are_trims_far limit out (if near then carried_from limit true None rest else act.Trim ∷ carried_from limit false None rest) ≡ true
    by_test true is carry trim = carry (near_goes_on limit before rest is)
    by_test false is carry trim = rw (same refl, near_same limit before rest, is) trim
carried_far limit carried before out (act.Stop ∷ rest) on same = carried_far limit false None None rest (off rest) (λ is. refl)
