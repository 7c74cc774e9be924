-- The value of digits, read one by one, with a cap.
use Rattle.std.proofs.lemmas.Bool.Decides.{nat_tests}
use Rattle.std.proofs.Common.{◌≡◌, ℕ, ◌+◌, ◌*◌, ◌<◌, List, length, get_or, take, min, arith}
use Rattle.std.proofs.lemmas.Int.Digits.{digits_value_more}
use Rattle.std.specs.Char.{digit_value}
use Rattle.std.specs.Str.Parse.{digits_value}

-- capping before and after a digit is capping after it
cap_once : (most value d : ℕ) → min (min value most * 10 + d) most ≡ min (value * 10 + d) most
cap_once most value d = omega arith

-- one digit more
pub capped_more : (bs : List ℕ) (i most value r : ℕ) → i < length bs → value ≡ min (digits_value 10 (take i bs)) most
    → r ≡ min (value * 10 + digit_value (get_or bs i 0)) most → r ≡ min (digits_value 10 (take (i + 1) bs)) most
capped_more bs i most value r there so_far next = grind (arith, nat_tests, digits_value_more, cap_once)
