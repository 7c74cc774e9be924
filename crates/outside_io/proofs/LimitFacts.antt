-- The limits of names and of reads, in bytes.
use Rattle.std.proofs.Common.{◌≡◌, true, false, [], ◌∷◌, codes, map, replicate, refl}
use Rattle.outside_io.proofs.Names.{is_file_name}
use Rattle.outside_io.specs.declared.limits.TheConstants.{MAX_NAME}
use Rattle.outside_io.specs.declared.whole_files.TheConstants.{READ_SIZE}

-- how many bytes of a file are read at once
pub known_read_size : READ_SIZE ≡ 16384
known_read_size = refl

-- how long a name may be
pub known_name : MAX_NAME ≡ 4096
known_name = refl

-- a name has from 1 to 4,096 bytes
pub known_names : map is_file_name (codes "a" ∷ [] ∷ replicate 4096 97 ∷ replicate 4097 97 ∷ []) ≡ true ∷ false ∷ true ∷ false ∷ []
known_names = refl
