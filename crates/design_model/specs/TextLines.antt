-- Lines of text.
use Rattle.std.specs.Prelude.{ℕ, List, [], ◌∷◌}

-- The line terminator: one byte, 10.
abbrev pub newline : List ℕ
newline = 10 ∷ []
