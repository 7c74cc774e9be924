-- The parts of a text: the bytes between marks of one kind, and the words of a line, which are
-- separated by one space (32).
use Rattle.std.specs.Prelude.{ℕ, ◌==◌, List, [], ◌∷◌, Option, Some, None, if◌then◌else◌}
use Rattle.std.specs.List.{slice_split}

-- The parts of bytes between marks: one part more than there are marks.
abbrev pub parts_between : ℕ → List ℕ → List (List ℕ)
parts_between mark bytes = slice_split (λ b. b == mark) bytes

-- The words of a line. A word is empty beside a space that does not separate two others.
abbrev pub words_in : List ℕ → List (List ℕ)
words_in line = parts_between 32 line

-- Two parts of bytes, with a byte added in front of the first.
abbrev pub with_first_byte : ℕ → Option (List ℕ × List ℕ) → Option (List ℕ × List ℕ)
with_first_byte byte None = None
with_first_byte byte (Some (before, after)) = Some (byte ∷ before, after)

-- The bytes before the first mark and those after it, if there is a mark.
abbrev pub split_at_byte : ℕ → List ℕ → Option (List ℕ × List ℕ)
split_at_byte mark [] = None
split_at_byte mark (b ∷ bytes) =
    if b == mark then Some ([], bytes) else with_first_byte b (split_at_byte mark bytes)
