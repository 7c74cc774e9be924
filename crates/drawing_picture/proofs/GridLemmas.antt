-- The lines of a grid, one after another.
use Rattle.std.proofs.Common.{◌≡◌, ◌<◌, ℕ, ◌+◌, ◌-◌, List, ◌++◌, arith}
use Rattle.design_model.proofs.ListLemmas.{next_range}
use Rattle.drawing_picture.proofs.Names.{append_assoc, flat_map, range_with_len}

-- The next line is added.
pub takes_next_line : (f : ℕ → List ℕ) (k count : ℕ) (text text' whole : List ℕ) → k < count
    → text ++ flat_map f (range_with_len k (count - k)) ≡ whole → text' ≡ text ++ f k
    → text' ++ flat_map f (range_with_len (k + 1) (count - (k + 1))) ≡ whole
takes_next_line f k count text text' whole below is added =
    grind (arith, append_assoc, rw (next_range k count below) at is, added)
