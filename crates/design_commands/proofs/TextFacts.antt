-- Worked texts of places, of differences and of refused edits.
use Rattle.std.proofs.Common.{◌≡◌, ◌∷◌, [], pos, negsuc, Some, None, true, false, codes, map, refl}
use Rattle.std.specs.Fmt.{digits}
use Rattle.design_commands.specs.DifferenceTexts.{act_difference_text, thread_difference_text}
use Rattle.design_commands.specs.EditOrders.{bad_design_edit_text}
use Rattle.design_commands.specs.LookTexts.{origin_line, places_line, size_line}
use Rattle.design_commands.specs.PlaceTexts.{design_place_lines, design_place_text}
use Rattle.design_model.specs.declared.act.Act.TheVariants as act
use Rattle.design_review.specs.declared.place.DesignPlace.TheVariants as place
use Rattle.edited_designs.specs.declared.design_fault.DesignFault.TheVariants as fault

pub known_places : map design_place_text (place.NoNeedle ∷ place.Stitch 412 2 ∷ place.Float 77 480 ∷ place.Hole 31 9
    ∷ place.UntiedStart 3 ∷ place.UntiedEnd 4 ∷ place.EmptyBlock 2 ∷ place.FrameMove 1 600 ∷ [])
    ≡ codes "no needle at all" ∷ codes "command 412: stitch of 2" ∷ codes "command 77: float of 480 without a trim"
    ∷ codes "command 31: 9 needles in one hole" ∷ codes "piece 3: not tied at its start" ∷ codes "piece 4: not tied at its end"
    ∷ codes "block 2: no needle" ∷ codes "stop 1: the frame moves by 600" ∷ []
unfolding digits
known_places = refl

pub known_lines : (design_place_lines (place.NoNeedle ∷ place.EmptyBlock 2 ∷ []) ≡ codes "no needle at all\nblock 2: no needle\n")
    × (size_line (Some (record { min = record { x = negsuc 2; y = pos 4 }; max = record { x = pos 10; y = pos 5 } }))
    ≡ codes "size 13 1\n")
    × (origin_line (Some (record { min = record { x = negsuc 2; y = pos 4 }; max = record { x = pos 10; y = pos 5 } }))
    ≡ codes "origin 3 -4\n")
    × (size_line None ≡ codes "size 0 0\n") × (origin_line None ≡ codes "origin 0 0\n") × (places_line 12 ≡ codes "places 12\n")
unfolding digits
known_lines = (refl, refl, refl, refl, refl, refl)

pub known_differences : (act_difference_text (record {
  number = 83;
  first = Some (act.Needle (record { x = pos 10; y = negsuc 19 }) false);
  second = Some (act.Needle (record { x = pos 10; y = pos 21 }) true);
}) ≡ codes "act 83: needle 10 -20, float 10 21")
    × (act_difference_text (record { number = 2; first = Some act.Trim; second = Some act.Stop }) ≡ codes "act 2: trim, stop")
    × (act_difference_text (record { number = 1; first = None; second = Some act.Trim }) ≡ codes "act 1: end, trim")
    × (thread_difference_text (record { block = 1; first = 37; second = 5 }) ≡ codes "block 1: thread 37, 5")
unfolding digits
known_differences = (refl, refl, refl, refl)

pub known_refusals : map (bad_design_edit_text (codes "a.dst"))
    (record { number = 1; fault = fault.Range 12 } ∷ record { number = 2; fault = fault.NoPlace 4 3 }
    ∷ record { number = 30; fault = fault.TooMany } ∷ [])
    ≡ codes "a.dst: edit 1: command 12 moved out of range" ∷ codes "a.dst: edit 2: no block 4, there are 3"
    ∷ codes "a.dst: edit 30: more than 1000000 commands" ∷ []
unfolding digits
known_refusals = refl
