-- Worked values of the results of reading entire files, and of sinks.
use Rattle.std.proofs.Common.{◌≡◌, [], ◌∷◌, Some, None, Ok, Err, refl}
use Rattle.outside_io.proofs.Names.{whole_file_result, with_bytes_taken}
use Rattle.outside_io.specs.declared.whole_files.GetFault.TheVariants as fault

-- a file of as many bytes as the limit is given whole, and one of one byte more is refused
pub known_whole_file_result : (whole_file_result (Some (7 ∷ 8 ∷ 9 ∷ [])) 3 ≡ Ok (7 ∷ 8 ∷ 9 ∷ []))
    × (whole_file_result (Some (7 ∷ 8 ∷ 9 ∷ 10 ∷ [])) 3 ≡ Err fault.TooLong)
    -- an empty file is there
    × (whole_file_result (Some []) 0 ≡ Ok [])
    × (whole_file_result None 3 ≡ Err fault.Missing)
known_whole_file_result = (refl, refl, refl, refl)

-- Bytes are added at the end, if they are visible.
pub known_with_bytes_taken : (with_bytes_taken (Some (1 ∷ 2 ∷ [])) (3 ∷ []) ≡ Some (1 ∷ 2 ∷ 3 ∷ []))
    × (with_bytes_taken None (3 ∷ []) ≡ None)
known_with_bytes_taken = (refl, refl)
