-- Worked values of views, and of what contracts see of files.
use Rattle.std.proofs.Common.{◌≡◌, Bool, false, [], ◌∷◌, Option, Some, None, if◌then◌else◌, bytes_eq, refl, sym, ap, is_some, true≢false, ℕ, List, ◌++◌, take}
use Rattle.outside_io.proofs.Names.{Files, read_call, write_call}
use Rattle.outside_io.specs.Blames.{blame_of}
use Rattle.outside_io.specs.FileParts.{IsContentPrefix, IsNextPart}
use Rattle.outside_io.specs.Files.{FileExists}
use Rattle.outside_io.specs.MemSinks.{sink_view}
use Rattle.outside_io.specs.Views.{hidden_bytes, hidden_files}
use Rattle.outside_io.specs.declared.blame.CallKind.TheVariants as kind

-- a sink in memory shows all its bytes and its faults
pub known_sink_view : sink_view (record { bytes = 1 ∷ 2 ∷ []; room = 3; failing = 2 ∷ []; calls = 2; faults = 4 })
    ≡ record { taken = Some (1 ∷ 2 ∷ []); faults = 4 }
known_sink_view = refl

-- hidden files and bytes leave the faults, and the last failed call
pub known_hidden : (hidden_files (record { count = 3; last = Some (read_call (97 ∷ [])) })
    ≡ record { files = None; faults = 3; blame = Some (read_call (97 ∷ [])) })
    × (hidden_bytes 5 ≡ record { taken = None; faults = 5 })
known_hidden = (refl, refl)

-- a kind and a name are the call that is blamed, and without a kind there is none
pub known_blame_of : (blame_of (Some kind.Write) (97 ∷ []) ≡ Some (write_call (97 ∷ [])))
    × (blame_of (Some kind.Read) (98 ∷ []) ≡ Some (read_call (98 ∷ [])))
    × (blame_of None (97 ∷ []) ≡ None)
known_blame_of = (refl, refl, refl)

-- the name `a` alone has a file
abbrev only_a : Files
only_a name = if bytes_eq name (97 ∷ []) then Some (1 ∷ []) else None

-- whether visible files have one under the name `a`
abbrev has_a : Option Files → Bool
has_a None = false
has_a (Some files) = is_some (files (97 ∷ []))

-- a file exists under that name, and under no other
pub known_exists : FileExists (Some only_a) (97 ∷ [])
known_exists visible is = ap (has_a) (sym is)

pub known_exists_not : FileExists (Some only_a) (98 ∷ []) → ⊥
known_exists_not exists = true≢false (sym (exists only_a refl))

-- the next part of a file is what comes after the bytes before it, and none is left at its end
pub known_next_part : (before buffer : List ℕ) (count : ℕ) → IsNextPart (Some only_a) (97 ∷ []) before buffer count
    → IsContentPrefix (Some (1 ∷ [])) (before ++ take count buffer)
    × (count ≡ 0 → ◌≡◌ {A = Option (List ℕ)} (Some (1 ∷ [])) (Some before))
known_next_part before buffer count is = (is.on only_a refl, λ none. is.end none only_a refl)
