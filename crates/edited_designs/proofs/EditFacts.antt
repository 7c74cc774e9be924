-- Worked values of edits of a design, and of the arguments for them.
use Rattle.std.proofs.Common.{◌≡◌, ℕ, pos, negsuc, List, [], ◌∷◌, Some, None, Ok, Err, true, false, codes, refl}
use Rattle.design_edits.specs.declared.motion.Motion.TheVariants as motion
use Rattle.design_model.specs.Designs.{empty_design}
use Rattle.edited_designs.specs.DesignChanges.{bared, beaned, carried, centred, cut, draws_thumbnails, merged, moved, named, needled, pictured, scaled, threaded, tied}
use Rattle.edited_designs.specs.EditMistakes.{edit_mistake}
use Rattle.edited_designs.specs.declared.edit_keys.EditKey.TheVariants as key
use Rattle.edited_designs.specs.declared.edit_mistakes.EditMistake.TheVariants as mistake
use Rattle.edited_designs.specs.EditedInOrder.{edited_in_order}
use Rattle.edited_designs.specs.declared.design_fault.DesignFault.TheVariants as fault
use Rattle.edited_designs.proofs.Names.{parsed_change}

-- an argument that is no edit
abbrev refused : List ℕ → Type 0
refused word = parsed_change word ≡ None

-- edits without a value
pub known_plain : (parsed_change (codes "tie") ≡ Some (tied 10)) × (parsed_change (codes "bare") ≡ Some bared)
    × (parsed_change (codes "centre") ≡ Some centred) × (parsed_change (codes "drop-empty") ≡ Some needled)
    × (parsed_change (codes "thumbnails") ≡ Some pictured) × refused (codes "center")
known_plain = (refl, refl, refl, refl, refl, refl)

-- each key with its least number, and one below
pub known_least : (parsed_change (codes "tie=8") ≡ Some (tied 8)) × refused (codes "tie=7")
    × (parsed_change (codes "cut=0") ≡ Some (cut 0)) × refused (codes "cut=-1")
    × (parsed_change (codes "float=1") ≡ Some (carried 1)) × refused (codes "float=0")
    × (parsed_change (codes "merge=1") ≡ Some (merged 1)) × refused (codes "merge=0")
    × (parsed_change (codes "bean=1") ≡ Some (beaned 1)) × refused (codes "bean=0")
    × (parsed_change (codes "scale=1") ≡ Some (scaled 1)) × refused (codes "scale=0")
known_least = (refl, refl, refl, refl, refl, refl, refl, refl, refl, refl, refl, refl)

-- each key with its greatest number, and one above
pub known_most : (parsed_change (codes "tie=18") ≡ Some (tied 18)) × refused (codes "tie=19")
    × (parsed_change (codes "cut=60000") ≡ Some (cut 60000)) × refused (codes "cut=60001")
    × (parsed_change (codes "float=60000") ≡ Some (carried 60000)) × refused (codes "float=60001")
    × (parsed_change (codes "merge=100") ≡ Some (merged 100)) × refused (codes "merge=101")
    × (parsed_change (codes "bean=10") ≡ Some (beaned 10)) × refused (codes "bean=11")
    × (parsed_change (codes "scale=1000") ≡ Some (scaled 1000)) × refused (codes "scale=1001")
known_most = (refl, refl, refl, refl, refl, refl, refl, refl, refl, refl, refl, refl)

-- the edits of the program stitch, and a label of 16 bytes and of 17
pub known_others : (parsed_change (codes "shift=1,-2") ≡ Some (moved (motion.Shift (pos 1) (negsuc 1))))
    × (parsed_change (codes "thread=3,40") ≡ Some (threaded 3 40)) × refused (codes "thread=0,40")
    × (parsed_change (codes "name=Rose 2") ≡ Some (named (codes "Rose 2")))
    × (parsed_change (codes "name=abcdefghijklmnop") ≡ Some (named (codes "abcdefghijklmnop")))
    × refused (codes "name=abcdefghijklmnopq") × refused (codes "nome=Rose")
known_others = (refl, refl, refl, refl, refl, refl, refl)

-- the second edit is refused: a design without a stop has one block
pub known_order : edited_in_order 1 (named (codes "a") ∷ threaded 2 5 ∷ bared ∷ []) empty_design
    ≡ Err (record { number = 2; fault = fault.NoPlace 2 1 })
known_order = refl

-- thumbnails are drawn wherever the edit stands, which leaves the design
pub known_thumbnails : (draws_thumbnails (bared ∷ pictured ∷ centred ∷ []) ≡ true) × (draws_thumbnails (bared ∷ centred ∷ []) ≡ false)
    × (edited_in_order 1 (pictured ∷ []) empty_design ≡ Ok empty_design)
known_thumbnails = (refl, refl, refl)

-- what is said of mistaken edits
pub known_mistakes : (edit_mistake (codes "tie=99") ≡ mistake.Range key.Tie) × (edit_mistake (codes "bean=x") ≡ mistake.Range key.Bean)
    × (edit_mistake (codes "name=abcdefghijklmnopq") ≡ mistake.NotALabel) × (edit_mistake (codes "strt=1") ≡ mistake.NotAnEdit)
    × (edit_mistake (codes "center") ≡ mistake.NotAnEdit)
known_mistakes = (refl, refl, refl, refl, refl)
