-- The greatest length of a file, in bytes.
use Rattle.std.proofs.Common.{◌≡◌, refl}
use Rattle.design_model.specs.declared.limits.TheConstants.{MAX_FILE}

-- 64 times 2 to the 20th
pub known_file : MAX_FILE ≡ 67108864
known_file = refl
