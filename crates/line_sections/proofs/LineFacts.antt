-- Worked values of lines that are the same.
use Rattle.std.proofs.Common.{◌≡◌, ℕ, pos, negsuc, true, false, [], ◌∷◌, refl}
use Rattle.line_sections.proofs.Names.{Point, LineValue}
use Rattle.line_sections.specs.Lines.{is_same_line}

abbrev first : Point
first = record { x = pos 0; y = pos 5 }

abbrev second : Point
second = record { x = negsuc 2; y = pos 7 }

abbrev short : ℕ → LineValue
short block = record { block = block; points = first ∷ second ∷ [] }

abbrev long : LineValue
long = record { block = 1; points = first ∷ second ∷ first ∷ [] }

abbrev turned : LineValue
turned = record { block = 1; points = second ∷ first ∷ [] }

pub known_same : is_same_line (short 1) (short 1) ≡ true
known_same = refl

-- of another block, with more points or fewer, and in the opposite order they aren't
pub known_other_block : is_same_line (short 1) (short 2) ≡ false
known_other_block = refl

pub known_longer : (is_same_line (short 1) long ≡ false) × (is_same_line long (short 1) ≡ false)
known_longer = (refl, refl)

pub known_turned : is_same_line (short 1) turned ≡ false
known_turned = refl
