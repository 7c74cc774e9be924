-- Numbers with a sign in two's complement, as records have them: from minus a half to below it.
use Rattle.std.specs.Prelude.{ℕ, ◌*◌, ℤ, pos, ◌-ℤ◌, unsigned_abs, nat_lt, if◌then◌else◌}
use Rattle.std.specs.Int.{int_rem_euclid}

-- A number below twice the half, read as two's complement: from the half on, it is negative.
abbrev pub from_twos_complement : ℕ → ℕ → ℤ
from_twos_complement half n = if nat_lt n half then pos n else pos n -ℤ pos (2 * half)

-- A number from minus the half to below the half, encoded as two's complement.
abbrev pub to_twos_complement : ℕ → ℤ → ℕ
to_twos_complement half z = unsigned_abs (int_rem_euclid z (pos (2 * half)))
