-- The text of a certificate, which has for each piece its retraced cost, its walk and its cuts. Own
-- text: each line ends with the byte 10, words are separated by one space, and numbers are decimal
-- without leading zeros.
use Rattle.std.specs.Prelude.{ℕ, ◌+◌, List, ◌++◌, codes, decimal, if◌then◌else◌}
use Rattle.std.specs.List.{flat_map}
use Rattle.odd_cuts.specs.declared.certificate.PieceCert.{PieceCert}
use Rattle.odd_cuts.specs.declared.cut.Cut.{Cut}
use Rattle.design_model.specs.TextLines.{newline}
use Rattle.line_graph.specs.declared.pass.Pass.{Pass}

-- The text of a pass: a space, a minus sign where it goes backwards, and the number of its line,
-- from 1.
abbrev pub pass_text : Pass → List ℕ
pass_text pass = (if pass.back then codes " -" else codes " ") ++ decimal (pass.line + 1)

-- The text of the passes of a walk.
abbrev pub passes_text : List Pass → List ℕ
passes_text walk = flat_map pass_text walk

-- The text of a member of a cut: a space and the number of the junction, from 1.
abbrev pub member_text : ℕ → List ℕ
member_text j = codes " " ++ decimal (j + 1)

-- The line of a cut: its weight in halves of a step, and its members.
abbrev pub cut_line_text : Cut → List ℕ
cut_line_text cut = codes "cut " ++ (decimal cut.weight
    ++ (flat_map member_text cut.members ++ newline))

-- The lines of a piece.
abbrev pub piece_text : PieceCert → List ℕ
piece_text piece = codes "piece " ++ (decimal piece.retraced ++ (newline
    ++ (codes "walk" ++ (passes_text piece.walk
    ++ (newline ++ flat_map cut_line_text piece.cuts)))))

-- The text of a certificate.
abbrev pub certificate_text : List PieceCert → List ℕ
certificate_text pieces = codes "redwork-certificate 1" ++ (newline ++ (flat_map piece_text pieces
    ++ (codes "end" ++ newline)))
