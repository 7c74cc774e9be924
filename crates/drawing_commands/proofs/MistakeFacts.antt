-- Worked mistakes of arguments: the first that isn't understood is named, with what is wrong with it.
use Rattle.std.proofs.Common.{◌≡◌, ◌∷◌, [], ℕ, List, Some, None, Ok, codes, refl}
use Rattle.program_texts.specs.MistakenWords.{mistaken}
use Rattle.drawing_commands.proofs.Names.{drawing_mistake, drawing_order_of, space_order, spacing, telling}
use Rattle.drawing_commands.specs.Names.{parsed_gap}
use Rattle.drawing_commands.specs.Requests.{command_order}
use Rattle.drawing_commands.specs.Usage.{drawing_usage_text}

-- arguments of which one isn't understood
abbrev IsMistaken : List (List ℕ) → (word why : List ℕ) → Type 0
IsMistaken words word why = (drawing_order_of words ≡ None) × (drawing_mistake words ≡ Some (mistaken word why))

pub known_commands : IsMistaken (codes "sew" ∷ []) (codes "sew") (codes "not a command")
    × IsMistaken (codes "--help" ∷ codes "x" ∷ []) (codes "x") (codes "not understood")
    × IsMistaken (codes "--version" ∷ codes "x" ∷ []) (codes "x") (codes "not understood")
    × (drawing_order_of (codes "--help" ∷ []) ≡ Some (telling drawing_usage_text))
    × (drawing_order_of (codes "--version" ∷ []) ≡ Some (telling (codes "stitch_drawing 0.4.0\n")))
    × (drawing_order_of [] ≡ None) × (drawing_mistake [] ≡ None) × (drawing_mistake (codes "--help" ∷ []) ≡ None)
unfolding command_order
known_commands = ((refl, refl), (refl, refl), (refl, refl), refl, refl, refl, refl, refl)

pub known_looks : IsMistaken (codes "look" ∷ []) (codes "look") (codes "needs a file")
    × IsMistaken (codes "look" ∷ [] ∷ codes "x" ∷ []) [] (codes "not a file name")
    × IsMistaken (codes "look" ∷ codes "a" ∷ codes "x" ∷ []) (codes "x") (codes "from 0 to 100")
    × IsMistaken (codes "look" ∷ codes "a" ∷ codes "101" ∷ codes "y" ∷ []) (codes "101") (codes "from 0 to 100")
    × IsMistaken (codes "look" ∷ codes "a" ∷ codes "100" ∷ codes "y" ∷ []) (codes "y") (codes "not understood")
unfolding command_order
known_looks = ((refl, refl), (refl, refl), (refl, refl), (refl, refl), (refl, refl))

-- the gap is 0.2 mm where none is given
pub known_gaps : (parsed_gap [] ≡ Ok 2) × (parsed_gap (codes "0" ∷ []) ≡ Ok 0) × (parsed_gap (codes "100" ∷ []) ≡ Ok 100)
known_gaps = (refl, refl, refl)

pub known_snaps : IsMistaken (codes "snap" ∷ []) (codes "snap") (codes "needs a gap")
    × IsMistaken (codes "snap" ∷ codes "-1" ∷ []) (codes "-1") (codes "from 0 to 100")
    × IsMistaken (codes "snap" ∷ codes "3" ∷ []) (codes "3") (codes "needs a file")
    × IsMistaken (codes "snap" ∷ codes "3" ∷ codes "a" ∷ []) (codes "a") (codes "needs a file")
    × IsMistaken (codes "snap" ∷ codes "3" ∷ codes "a" ∷ codes "a" ∷ []) (codes "a") (codes "is the input")
    × IsMistaken (codes "snap" ∷ codes "3" ∷ codes "a" ∷ codes "b" ∷ codes "c" ∷ []) (codes "c") (codes "not understood")
unfolding command_order
known_snaps = ((refl, refl), (refl, refl), (refl, refl), (refl, refl), (refl, refl), (refl, refl))

pub known_spaces : IsMistaken (codes "space" ∷ []) (codes "space") (codes "needs a file")
    × IsMistaken (codes "space" ∷ [] ∷ codes "b" ∷ []) [] (codes "not a file name")
    × IsMistaken (codes "space" ∷ codes "a" ∷ [] ∷ []) [] (codes "not a file name")
    × IsMistaken (codes "space" ∷ codes "a" ∷ codes "b" ∷ codes "c" ∷ []) (codes "c") (codes "not understood")
    × IsMistaken (codes "space" ∷ codes "a" ∷ codes "b" ∷ codes "width=3" ∷ []) (codes "width=3") (codes "not understood")
    × IsMistaken (codes "space" ∷ codes "a" ∷ codes "b" ∷ codes "length=0" ∷ []) (codes "length=0") (codes "from 1 to 2047")
    × IsMistaken (codes "space" ∷ codes "a" ∷ codes "b" ∷ codes "leeway=0" ∷ codes "length=2048" ∷ []) (codes "length=2048")
    (codes "from 1 to 2047")
    × IsMistaken (codes "space" ∷ codes "a" ∷ codes "b" ∷ codes "leeway=101" ∷ []) (codes "leeway=101") (codes "from 0 to 100")
unfolding command_order
known_spaces = ((refl, refl), (refl, refl), (refl, refl), (refl, refl), (refl, refl), (refl, refl), (refl, refl), (refl, refl))

-- what is given of the rule, in any order, and the last one of a key
pub known_spacings : (drawing_order_of (codes "space" ∷ codes "a" ∷ codes "b" ∷ [])
    ≡ Some (spacing (space_order (record { length = None; leeway = None }) (codes "a") (codes "b"))))
    × (drawing_order_of (codes "space" ∷ codes "a" ∷ codes "b" ∷ codes "leeway=0" ∷ codes "length=2047" ∷ [])
    ≡ Some (spacing (space_order (record { length = Some 2047; leeway = Some 0 }) (codes "a") (codes "b"))))
    × (drawing_order_of (codes "space" ∷ codes "a" ∷ codes "b" ∷ codes "length=1" ∷ codes "leeway=100" ∷ codes "length=25" ∷ [])
    ≡ Some (spacing (space_order (record { length = Some 25; leeway = Some 100 }) (codes "a") (codes "b"))))
unfolding command_order
known_spacings = (refl, refl, refl)

pub known_edits : IsMistaken (codes "edit" ∷ []) (codes "edit") (codes "needs a file")
    × IsMistaken (codes "edit" ∷ codes "a" ∷ codes "b" ∷ []) (codes "b") (codes "needs an edit")
    × IsMistaken (codes "edit" ∷ codes "a" ∷ codes "a" ∷ codes "centre" ∷ []) (codes "a") (codes "is the input")
    × IsMistaken (codes "edit" ∷ codes "a" ∷ codes "b" ∷ codes "centre" ∷ codes "strt=0,0" ∷ []) (codes "strt=0,0") (codes "not an edit")
unfolding command_order
known_edits = ((refl, refl), (refl, refl), (refl, refl), (refl, refl))
