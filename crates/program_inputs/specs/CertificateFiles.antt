-- The text about a file that is no certificate.
use Rattle.std.specs.Prelude.{ℕ, List, codes}
use Rattle.program_shell.specs.FileTexts.{text_at}

-- The text about a line, numbered from 1, at which a text is not a certificate.
abbrev pub bad_line_text : List ℕ → ℕ → List ℕ
bad_line_text name number = text_at name (codes "line") number (codes "not a certificate")
