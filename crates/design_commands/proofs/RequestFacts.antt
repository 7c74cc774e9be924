-- Worked requests, and mistakes of arguments: the first that isn't understood is named, with what is wrong with it.
use Rattle.std.proofs.Common.{◌≡◌, ◌∷◌, [], ℕ, List, IsSome, Some, None, Ok, true, false, codes, refl}
use Rattle.command_words.specs.ValidNames.{AreFileNames}
use Rattle.command_words.specs.declared.names.FileNames.{FileNames}
use Rattle.program_texts.specs.MistakenWords.{mistaken}
use Rattle.edited_designs.specs.DesignChanges.{bared, needled, pictured, tied}
use Rattle.edited_designs.specs.EditArguments.{parsed_changes}
use Rattle.design_commands.specs.Commands.{design_mistake, design_order, telling}
use Rattle.design_commands.specs.EditRequests.{RequestedDesign, compare, edit, help, list, look, palette, pass, version}
use Rattle.design_commands.specs.Requests.{IsDesignEditRequest, parsed_command_words, parsed_design_words}
use Rattle.design_commands.specs.Usage.{design_usage_text}

-- arguments that request that
abbrev Requests : List (List ℕ) → RequestedDesign → Type 0
Requests words requested = parsed_design_words words ≡ Ok requested

pub known_requests :
    Requests (codes "look" ∷ codes "a" ∷ codes "tie=4" ∷ codes "hole=0" ∷ codes "tie=5" ∷ [])
    (look (codes "a") (record { short = 3; long = 70; float = 60; tie = 5; hole = 0 }))
    × Requests (codes "pass" ∷ codes "a" ∷ codes "short=1000" ∷ codes "long=2" ∷ codes "float=9" ∷ [])
    (pass (codes "a") (record { short = 1000; long = 2; float = 9; tie = 20; hole = 6 }))
    × Requests (codes "compare" ∷ codes "a" ∷ codes "b" ∷ []) (compare (codes "a") (codes "b") false)
    × Requests (codes "compare" ∷ codes "a" ∷ codes "b" ∷ codes "--threads" ∷ []) (compare (codes "a") (codes "b") true)
    × Requests (codes "threads" ∷ codes "a" ∷ []) (list (codes "a")) × Requests (codes "threads" ∷ []) palette
    × Requests (codes "--help" ∷ []) help × Requests (codes "--version" ∷ []) version
unfolding parsed_command_words
known_requests = (refl, refl, refl, refl, refl, refl, refl, refl)

pub known_edits :
    Requests (codes "edit" ∷ codes "a" ∷ codes "b" ∷ codes "bare" ∷ codes "tie" ∷ codes "drop-empty" ∷ [])
    (edit (codes "a") (codes "b") (bared ∷ tied 10 ∷ needled ∷ []))
    × Requests (codes "edit" ∷ codes "a" ∷ codes "b" ∷ codes "thumbnails" ∷ codes "bare" ∷ [])
    (edit (codes "a") (codes "b") (pictured ∷ bared ∷ []))
unfolding parsed_command_words
known_edits = (refl, refl)

-- arguments of which one isn't understood, over no format
abbrev IsMistaken : List (List ℕ) → (word why : List ℕ) → Type 0
IsMistaken words word why = (design_order [] words ≡ None) × (design_mistake [] words ≡ Some (mistaken word why))

pub known_commands : IsMistaken (codes "sew" ∷ []) (codes "sew") (codes "not a command")
    × IsMistaken (codes "--help" ∷ codes "x" ∷ []) (codes "x") (codes "not understood")
    × (design_order [] (codes "--help" ∷ []) ≡ Some (telling design_usage_text))
    × (design_order [] (codes "--version" ∷ []) ≡ Some (telling (codes "stitch_design 0.4.0\n")))
    × (design_order [] [] ≡ None) × (design_mistake [] [] ≡ None) × (design_mistake [] (codes "threads" ∷ []) ≡ None)
unfolding parsed_command_words
known_commands = ((refl, refl), (refl, refl), refl, refl, refl, refl, refl)

pub known_looks : IsMistaken (codes "look" ∷ []) (codes "look") (codes "needs a file")
    × IsMistaken (codes "pass" ∷ [] ∷ codes "x" ∷ []) [] (codes "not a file name")
    × IsMistaken (codes "look" ∷ codes "a" ∷ codes "strt=1" ∷ []) (codes "strt=1") (codes "not a limit")
    × IsMistaken (codes "look" ∷ codes "a" ∷ codes "short=-1" ∷ codes "x" ∷ []) (codes "short=-1") (codes "from 0 to 1000")
    × IsMistaken (codes "pass" ∷ codes "a" ∷ codes "hole=1001" ∷ []) (codes "hole=1001") (codes "from 0 to 1000")
    × IsMistaken (codes "look" ∷ codes "a.rw" ∷ []) (codes "a.rw") (codes "no format has this ending")
unfolding parsed_command_words
known_looks = ((refl, refl), (refl, refl), (refl, refl), (refl, refl), (refl, refl), (refl, refl))

pub known_comparisons : IsMistaken (codes "compare" ∷ []) (codes "compare") (codes "needs a file")
    × IsMistaken (codes "compare" ∷ codes "a" ∷ []) (codes "a") (codes "needs a file")
    × IsMistaken (codes "compare" ∷ codes "a" ∷ codes "b" ∷ codes "-t" ∷ []) (codes "-t") (codes "not understood")
    × IsMistaken (codes "threads" ∷ codes "a" ∷ codes "b" ∷ []) (codes "b") (codes "not understood")
    × IsMistaken (codes "compare" ∷ codes "a" ∷ codes "b" ∷ []) (codes "a") (codes "no format has this ending")
unfolding parsed_command_words
known_comparisons = ((refl, refl), (refl, refl), (refl, refl), (refl, refl), (refl, refl))

pub known_edit_mistakes : IsMistaken (codes "edit" ∷ []) (codes "edit") (codes "needs a file")
    × IsMistaken (codes "edit" ∷ codes "a" ∷ []) (codes "a") (codes "needs a file")
    × IsMistaken (codes "edit" ∷ codes "a" ∷ codes "b" ∷ []) (codes "b") (codes "needs an edit")
    × IsMistaken (codes "edit" ∷ codes "a" ∷ codes "a" ∷ codes "tie" ∷ []) (codes "a") (codes "is the input")
    × IsMistaken (codes "edit" ∷ codes "a" ∷ codes "b" ∷ codes "tie" ∷ codes "strt=1" ∷ []) (codes "strt=1") (codes "not an edit")
    × IsMistaken (codes "edit" ∷ codes "a" ∷ codes "b" ∷ codes "tie=19" ∷ []) (codes "tie=19") (codes "from 8 to 18")
    × IsMistaken (codes "edit" ∷ codes "a" ∷ codes "b" ∷ codes "tie" ∷ []) (codes "a") (codes "no format has this ending")
unfolding parsed_command_words
known_edit_mistakes = ((refl, refl), (refl, refl), (refl, refl), (refl, refl), (refl, refl), (refl, refl), (refl, refl))

-- the names of a request of edits are file names, and each edit is one
pub known_edit_request : (names : FileNames) (words : List (List ℕ)) → IsDesignEditRequest names words
    → AreFileNames names × IsSome (parsed_changes words)
known_edit_request names words is = (is.named, is.parsed)
