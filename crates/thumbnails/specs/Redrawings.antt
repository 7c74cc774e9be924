-- A PEC or PES file with the thumbnails of its design: they take the place of the blank ones at its
-- end, and are not read.
use Rattle.std.specs.Prelude.{◌≡◌, ℕ, ◌-◌, List, ◌++◌, length, replicate, take, IfOk}
use Rattle.design_model.specs.Designs.{DesignValue, KeepsLimits}
use Rattle.format_traits.specs.Meanings.{Meaning}
use Rattle.pes_codec.specs.declared.file_kind.FileKind.{FileKind}
use Rattle.pes_codec.specs.Formats.{file_meaning}
use Rattle.thumbnails.specs.Sketches.{drawn_thumbnails_of}

-- The bytes of a file before its last ones, which are as many as the thumbnails of a design.
abbrev pub before_thumbnails : DesignValue → List ℕ → List ℕ
before_thumbnails d file = take (length file - length (drawn_thumbnails_of d)) file

-- A file with the thumbnails of a design in place of its last bytes.
abbrev pub with_thumbnails_of : DesignValue → List ℕ → List ℕ
with_thumbnails_of d file = before_thumbnails d file ++ drawn_thumbnails_of d

-- A file of a design whose thumbnails may be drawn: the last bytes are blank. With thumbnails in
-- their place it is read as before, has the same moves, and has as many bytes.
pub record IsRedrawn (m : Meaning) (d : DesignValue) (file : List ℕ) : Type 0 where
  pub blank : file ≡ before_thumbnails d file ++ replicate (length (drawn_thumbnails_of d)) 0
  pub reads : m.reads (with_thumbnails_of d file) ≡ m.reads file
  pub moves : m.moves (with_thumbnails_of d file) ≡ m.moves file
  pub size : length (with_thumbnails_of d file) ≡ length file

-- Theorem: the thumbnails of each written PEC or PES file may be drawn.
abbrev pub ThumbnailsAreNotRead : Type 0
ThumbnailsAreNotRead = (kind : FileKind) (d : DesignValue) → KeepsLimits d
    → IfOk ((file_meaning kind).writes d) (λ file. IsRedrawn (file_meaning kind) d file)

-- A file of a design in a format: where the format is PEC or PES, its thumbnails may be drawn.
abbrev pub MayBeRedrawn : Meaning → DesignValue → List ℕ → Type 0
MayBeRedrawn m d file = (kind : FileKind) → m ≡ file_meaning kind → IsRedrawn m d file
