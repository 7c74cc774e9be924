-- The laws of cut floats, of carried trims and of merged needles: what they state of one design, and what no design becomes.
-- Points are in tenths of a millimetre.
use Rattle.std.proofs.Common.{◌≡◌, ◌∙◌, ℕ, pos, Bool, true, false, List, [], ◌∷◌, None, map, refl, ap, sym, true≢false}
use Rattle.design_model.specs.declared.act.Act.TheVariants as act
use Rattle.design_model.specs.Lengths.{square_of}
use Rattle.sewing_edits.specs.CarriedTrims.{CarryKeepsNeedles, CarryKeepsOrder, CarryLeavesNoNearTrim, carried_acts}
use Rattle.sewing_edits.specs.FloatCuts.{CutKeepsNeedles, CutKeepsOrder, CutLeavesNoLongFloat, cut_acts}
use Rattle.sewing_edits.specs.Merges.{MergeKeepsEnds, MergeKeepsOrder, MergeLeavesNoShortStitch, merged_acts}
use Rattle.sewing_edits.proofs.Names.{Act, Point, act_point, are_floats_within, are_in_order, are_long_enough, are_trims_far, filter_map, thread_ends}

-- the point at those coordinates
abbrev at : ℕ → Point
at x = record { x = pos x; y = pos 0 }

-- a needle on the axis that points to the right, sewn or carried to
abbrev sewn : ℕ → Act
sewn x = act.Needle (at x) false

abbrev carried : ℕ → Act
carried x = act.Needle (at x) true

-- Two threads with a float of 6.1 mm and one of 6 mm, a stitch of 0.1 mm, and a trim of 0.4 mm; then two threads of a needle each.
abbrev pub acts : List Act
acts = sewn 0 ∷ sewn 20 ∷ carried 81 ∷ carried 141 ∷ sewn 142 ∷ sewn 160 ∷ act.Trim ∷ sewn 164 ∷ sewn 190 ∷ act.Trim ∷ sewn 300
    ∷ act.Stop ∷ act.Stop ∷ sewn 9 ∷ []

-- cut at 6 mm, carried over at 0.5 mm, and merged at 0.3 mm
abbrev cut : List Act
cut = sewn 0 ∷ sewn 20 ∷ act.Trim ∷ sewn 81 ∷ carried 141 ∷ sewn 142 ∷ sewn 160 ∷ act.Trim ∷ sewn 164 ∷ sewn 190 ∷ act.Trim
    ∷ sewn 300 ∷ act.Stop ∷ act.Stop ∷ sewn 9 ∷ []

abbrev carried_over : List Act
carried_over = sewn 0 ∷ sewn 20 ∷ carried 81 ∷ carried 141 ∷ sewn 142 ∷ sewn 160 ∷ carried 164 ∷ sewn 190 ∷ act.Trim ∷ sewn 300
    ∷ act.Stop ∷ act.Stop ∷ sewn 9 ∷ []

abbrev merged : List Act
merged = sewn 0 ∷ sewn 20 ∷ carried 81 ∷ carried 141 ∷ sewn 160 ∷ act.Trim ∷ sewn 164 ∷ sewn 190 ∷ act.Trim ∷ sewn 300
    ∷ act.Stop ∷ act.Stop ∷ sewn 9 ∷ []

abbrev needles : List Point
needles = map at (0 ∷ 20 ∷ 81 ∷ 141 ∷ 142 ∷ 160 ∷ 164 ∷ 190 ∷ 300 ∷ 9 ∷ [])

pub known_cut_laws : CutLeavesNoLongFloat → CutKeepsNeedles → CutKeepsOrder
    → (are_floats_within 60 None cut ≡ true) × (filter_map act_point cut ≡ needles) × (are_in_order true cut ≡ true)
unfolding square_of
known_cut_laws short keeps orders = (short 60 acts, keeps 60 acts, orders 60 acts refl)

pub known_carry_laws : CarryLeavesNoNearTrim → CarryKeepsNeedles → CarryKeepsOrder
    → (are_trims_far 5 None carried_over ≡ true) × (filter_map act_point carried_over ≡ needles)
    × (are_in_order true carried_over ≡ true)
unfolding square_of
known_carry_laws far keeps orders = (far 5 acts, keeps 5 acts, orders 5 acts refl)

pub known_merge_laws : MergeLeavesNoShortStitch → MergeKeepsEnds → MergeKeepsOrder
    → (are_long_enough 3 None merged ≡ true)
    × (thread_ends None merged
    ≡ sewn 0 ∷ sewn 160 ∷ act.Trim ∷ sewn 164 ∷ sewn 190 ∷ act.Trim ∷ sewn 300 ∷ act.Stop ∷ act.Stop ∷ sewn 9 ∷ [])
    × (are_in_order true merged ≡ true)
unfolding square_of
known_merge_laws long keeps orders = (long 3 acts, keeps 3 acts, orders 3 acts refl)

-- a test that holds of all results, and not of these acts
refuted : (test : List Act → Bool) (result bad : List Act) → test result ≡ true → test bad ≡ false → result ≡ bad → ⊥
refuted test result bad holds fails is = true≢false (sym holds ∙ ap test is ∙ fails)

-- No design keeps a float of 6.1 mm, a trim of 0.5 mm, or a stitch of 0.2 mm inside a thread.
pub known_long_float : CutLeavesNoLongFloat → (acts : List Act) → cut_acts 60 acts ≡ sewn 0 ∷ carried 61 ∷ [] → ⊥
unfolding square_of
known_long_float law acts is = refuted (are_floats_within 60 None) _ _ (law 60 acts) refl is

pub known_near_trim : CarryLeavesNoNearTrim → (acts : List Act) → carried_acts 5 acts ≡ sewn 0 ∷ act.Trim ∷ sewn 5 ∷ [] → ⊥
unfolding square_of
known_near_trim law acts is = refuted (are_trims_far 5 None) _ _ (law 5 acts) refl is

pub known_short_stitch : MergeLeavesNoShortStitch → (acts : List Act) → merged_acts 3 acts ≡ sewn 0 ∷ sewn 2 ∷ sewn 9 ∷ [] → ⊥
unfolding square_of
known_short_stitch law acts is = refuted (are_long_enough 3 None) _ _ (law 3 acts) refl is

-- Where all acts are left out, there was no needle, and no end of a thread.
pub known_needles_left_out : CutKeepsNeedles → CarryKeepsNeedles → MergeKeepsEnds → (limit : ℕ) (acts : List Act)
    → (cut_acts limit acts ≡ [] → filter_map act_point acts ≡ [])
    × (carried_acts limit acts ≡ [] → filter_map act_point acts ≡ [])
    × (merged_acts limit acts ≡ [] → thread_ends None acts ≡ [])
known_needles_left_out cuts carries merges limit acts = (
  λ none. sym (cuts limit acts) ∙ ap (filter_map act_point) none,
  λ none. sym (carries limit acts) ∙ ap (filter_map act_point) none,
  λ none. sym (merges limit acts) ∙ ap (thread_ends None) none,
)

-- No acts in order become a float at the beginning.
pub known_out_of_order : CutKeepsOrder → CarryKeepsOrder → MergeKeepsOrder → (limit : ℕ) (acts : List Act)
    → are_in_order true acts ≡ true
    → (cut_acts limit acts ≡ carried 5 ∷ [] → ⊥) × (carried_acts limit acts ≡ carried 5 ∷ [] → ⊥)
    × (merged_acts limit acts ≡ carried 5 ∷ [] → ⊥)
known_out_of_order cuts carries merges limit acts ordered = (
  λ is. refuted (are_in_order true) _ _ (cuts limit acts ordered) refl is,
  λ is. refuted (are_in_order true) _ _ (carries limit acts ordered) refl is,
  λ is. refuted (are_in_order true) _ _ (merges limit acts ordered) refl is,
)
