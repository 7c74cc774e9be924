-- The flags of `convert`, and the changes that they request.
use Rattle.std.specs.Prelude.{ℕ, Bool, true, false, ◌&&◌, ◌||◌, List, [], ◌∷◌, ◌++◌, Option, Some, None, bytes_eq, codes, if◌then◌else◌}
use Rattle.command_words.specs.Changes.{Change, cut, split}

-- The test whether two arguments are two given texts, in either order.
abbrev pub are_in_either_order : (a b one two : List ℕ) → Bool
are_in_either_order a b one two = (bytes_eq a one && bytes_eq b two)
    || (bytes_eq a two && bytes_eq b one)

-- The flags of `convert`: `--split` and `--cut`, each at most once, in any order.
abbrev pub parsed_refits : List (List ℕ) → Option (Bool × Bool)
parsed_refits [] = Some (false, false)
parsed_refits (a ∷ []) =
    if bytes_eq a (codes "--split") then Some (true, false)
    else (if bytes_eq a (codes "--cut") then Some (false, true)
    else None)
parsed_refits (a ∷ b ∷ []) =
    if are_in_either_order a b (codes "--split") (codes "--cut") then Some (true, true) else None
parsed_refits _ = None

-- The changes of the flags: stitches are split before floats are cut.
abbrev pub refit_changes : Bool → Bool → List Change
refit_changes splits cuts = (if splits then split ∷ [] else []) ++ (if cuts then cut ∷ [] else [])
