-- The drawing of a draft is that of its lines as they are drawn.
use Rattle.std.proofs.Common.{◌≡◌, ℕ, arith}
use Rattle.drawing_text.proofs.Names.{and_then, DrawingDraft, Version, drawing_of_draft, lines_of_draft, nat_tests}
use Rattle.drawing_text.specs.DrawingLines.{drawing_of_lines}
use Rattle.drawing_text.specs.declared.version.Version.TheVariants as version

-- in each version
pub drawing_from_lines : (version : Version) (number : ℕ) (draft : DrawingDraft)
    → drawing_of_draft version number draft
    ≡ and_then (lines_of_draft version number draft) (drawing_of_lines version number draft.opened)
drawing_from_lines version.One number draft = grind (arith, nat_tests)
drawing_from_lines version.Two number draft = grind (arith, nat_tests)
drawing_from_lines version.Three number draft = grind (arith, nat_tests)
