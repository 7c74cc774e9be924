-- Long floats that are cut.
use Rattle.std.proofs.Common.{◌≡◌, ℕ, Bool, true, false, ◌&&◌, List, [], ◌∷◌, ◌++◌, Option, Some, None, is_none, refl, ap, ◌∙◌}
use Rattle.design_model.specs.declared.act.Act.TheVariants as act
use Rattle.sewing_edits.proofs.Names.{Act, Point, act_point, are_floats_within, are_in_order, cut_from, cut_if, filter_map, is_farther}

-- a needle that is cut off or not, before acts whose floats are within the limit
within_next : (limit : ℕ) (before : Option Point) (p : Point) (float test : Bool) (acts : List Act)
    → (float && is_farther limit before p) ≡ test → are_floats_within limit (Some p) acts ≡ true
    → are_floats_within limit before (cut_if test p float ++ acts) ≡ true
within_next limit before p float true acts is within = within
within_next limit before p float false acts is within = rw is within

pub cut_within : (limit : ℕ) (before : Option Point) (acts : List Act) → are_floats_within limit before (cut_from limit before acts) ≡ true
cut_within limit before [] = refl
cut_within limit before (act.Needle p float ∷ rest) =
    within_next limit before p float (float && is_farther limit before p) (cut_from limit (Some p) rest) refl
    (cut_within limit (Some p) rest)
cut_within limit before (act.Trim ∷ rest) = cut_within limit None rest
cut_within limit before (act.Stop ∷ rest) = cut_within limit None rest

needle_once : (test : Bool) (p : Point) (float : Bool) (acts : List Act)
    → filter_map act_point (cut_if test p float ++ acts) ≡ p ∷ filter_map act_point acts
needle_once true p float acts = refl
needle_once false p float acts = refl

pub cut_needles : (limit : ℕ) (before : Option Point) (acts : List Act)
    → filter_map act_point (cut_from limit before acts) ≡ filter_map act_point acts
cut_needles limit before [] = refl
cut_needles limit before (act.Needle p float ∷ rest) =
    needle_once (float && is_farther limit before p) p float (cut_from limit (Some p) rest)
    ∙ ap (λ ps. p ∷ ps) (cut_needles limit (Some p) rest)
cut_needles limit before (act.Trim ∷ rest) = cut_needles limit None rest
cut_needles limit before (act.Stop ∷ rest) = cut_needles limit None rest

order_next : (test : Bool) (p : Point) (float : Bool) (acts : List Act) → are_in_order false acts ≡ true
    → are_in_order false (cut_if test p float ++ acts) ≡ true
order_next true p float acts ordered = ordered
order_next false p float acts ordered = ordered

pub cut_order : (limit : ℕ) (before : Option Point) (acts : List Act) → are_in_order (is_none before) acts ≡ true
    → are_in_order (is_none before) (cut_from limit before acts) ≡ true
cut_order limit before [] ordered = refl
cut_order limit None (act.Needle p true ∷ rest) ordered = cc
cut_order limit None (act.Needle p false ∷ rest) ordered = cut_order limit (Some p) rest ordered
cut_order limit (Some b) (act.Needle p float ∷ rest) ordered =
    order_next (float && is_farther limit (Some b) p) p float (cut_from limit (Some p) rest) (cut_order limit (Some p) rest ordered)
cut_order limit None (act.Trim ∷ rest) ordered = cc
cut_order limit (Some b) (act.Trim ∷ rest) ordered = cut_order limit None rest ordered
cut_order limit None (act.Stop ∷ rest) ordered = cut_order limit None rest ordered
cut_order limit (Some b) (act.Stop ∷ rest) ordered = cut_order limit None rest ordered
