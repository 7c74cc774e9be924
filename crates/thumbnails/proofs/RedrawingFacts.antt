-- Worked values of files with thumbnails, and what each field of a redrawn file excludes.
use Rattle.std.proofs.Common.{◌≡◌, ℕ, List, [], ◌∷◌, Err, length, replicate, take, refl, ap, true, false, ◌++◌, ◌==◌, ◌&&◌, ◌||◌, map, IfOk, true}
use Rattle.design_model.specs.Designs.{DesignValue, empty_design, KeepsLimits}
use Rattle.format_traits.specs.Meanings.{Meaning}
use Rattle.format_traits.specs.declared.fault.ReadFault.TheVariants as fault
use Rattle.thumbnails.specs.Packings.{thumb_bytes, row_bytes, rows_from}
use Rattle.thumbnails.specs.Redrawings.{IsRedrawn, with_thumbnails_of, ThumbnailsAreNotRead}
use Rattle.pec_codec.specs.Records.{records_after_skip}
use Rattle.pes_codec.specs.Formats.{file_meaning}
use Rattle.pes_codec.specs.declared.file_kind.FileKind.{FileKind}
use Rattle.record_formats.specs.Records.{next, over, refused}
use Rattle.record_formats.specs.declared.event.Event.TheVariants as event
use Rattle.thumbnails.specs.LitPoints.{ThumbPoints, points_in_cells}
use Rattle.thumbnails.specs.Sketches.{nothing_sketched, sketch_by}
use Rattle.thumbnails.specs.Tails.{TailsAreNotRead, has_end}
use Rattle.thumbnails.specs.declared.lit_points.ThumbPoint.{ThumbPoint}
use Rattle.thumbnails.specs.declared.sketch.Sketch.{Sketch}

-- The last 456 bytes are replaced: two thumbnails of a design without commands, which are blank.
pub known_redrawn : (with_thumbnails_of empty_design (1 ∷ 2 ∷ 3 ∷ replicate 456 9) ≡ 1 ∷ 2 ∷ 3 ∷ replicate 456 0)
    × (with_thumbnails_of empty_design (7 ∷ []) ≡ replicate 456 0)
unfolding thumb_bytes
known_redrawn = (refl, refl)

-- A file that is refused, or has another move, once it has thumbnails.
pub refused_after : (m : Meaning) (d : DesignValue) (file : List ℕ) → m.reads file ≡ Err (fault.Short 1)
    → m.reads (with_thumbnails_of d file) ≡ Err (fault.Short 2) → IsRedrawn m d file → ⊥
refused_after m d file before after is = let same = is.reads in cc

pub moved_after : (m : Meaning) (d : DesignValue) (file : List ℕ) → length (m.moves file) ≡ 1
    → length (m.moves (with_thumbnails_of d file)) ≡ 2 → IsRedrawn m d file → ⊥
moved_after m d file before after is = let same = ap length is.moves in cc

-- A file of another length, and one whose last bytes aren't blank.
pub longer_after : (m : Meaning) (d : DesignValue) (file : List ℕ) → length file ≡ 1
    → length (with_thumbnails_of d file) ≡ 2 → IsRedrawn m d file → ⊥
longer_after m d file before after is = let same = is.size in cc

pub not_blank : (m : Meaning) → IsRedrawn m empty_design (replicate 456 9) → ⊥
unfolding thumb_bytes
not_blank m is = let first : 9 ∷ [] ≡ 0 ∷ [] = ap (take 1) is.blank in cc

-- Points in the columns 0, 9 and 47, and one below the first: bit 0 of the first byte, bit 1 of the second, bit 7 of the last.
abbrev lit : ThumbPoints
lit point = (point.row == 5 && (point.column == 0 || (point.column == 9 || point.column == 47)))
    || (point.row == 6 && point.column == 16)

pub known_rows : (row_bytes lit 5 ≡ 1 ∷ 2 ∷ 0 ∷ 0 ∷ 0 ∷ 128 ∷ [])
    × (rows_from lit 5 2 ≡ 1 ∷ 2 ∷ 0 ∷ 0 ∷ 0 ∷ 128 ∷ 0 ∷ 0 ∷ 1 ∷ 0 ∷ 0 ∷ 0 ∷ []) × (rows_from lit 5 0 ≡ [])
known_rows = (refl, refl, refl)

-- what is drawn, by the tables of points
pub known_sketch : (sketch : Sketch) → sketch_by sketch ≡ record {
  whole = points_in_cells sketch.whole;
  block = points_in_cells sketch.block;
  place = sketch.place;
  loose = sketch.loose;
  done = sketch.done;
}
known_sketch sketch = refl

-- at first no point is drawn, the needle is at the upper left, and the thread is loose
pub known_nothing : (point : ThumbPoint) → (nothing_sketched.whole point ≡ false) × (nothing_sketched.block point ≡ false)
    × (nothing_sketched.place ≡ record { column = 0; row = 0 }) × (nothing_sketched.loose ≡ true) × (nothing_sketched.done ≡ [])
known_nothing point = (refl, refl, refl, refl, refl)

-- records with an end, without one, and refused
pub known_ends : map has_end (next 5 event.Trim (over true) ∷ next 5 event.Trim (over false) ∷ refused (fault.Control 7) ∷ [])
    ≡ true ∷ false ∷ false ∷ []
known_ends = refl

-- after the end of a block, the bytes 7 and 8 are read as two blank ones are
pub known_tails : TailsAreNotRead
    → records_after_skip 0 100 (5 ∷ 7 ∷ 255 ∷ 7 ∷ 8 ∷ []) ≡ records_after_skip 0 100 (5 ∷ 7 ∷ 255 ∷ 0 ∷ 0 ∷ [])
known_tails law = law (5 ∷ 7 ∷ 255 ∷ []) (7 ∷ 8 ∷ []) 2 0 100 refl

pub known_any_tail : TailsAreNotRead → (bytes tail : List ℕ)
    → has_end (records_after_skip 0 100 (bytes ++ replicate 2 0)) ≡ true
    → records_after_skip 0 100 (bytes ++ tail) ≡ records_after_skip 0 100 (bytes ++ replicate 2 0)
known_any_tail law bytes tail ends = law bytes tail 2 0 100 ends

-- a written file is read as before and has as many bytes with its thumbnails
pub known_unread : ThumbnailsAreNotRead → (kind : FileKind) (d : DesignValue) → KeepsLimits d
    → IfOk ((file_meaning kind).writes d) (λ file. IsRedrawn (file_meaning kind) d file)
known_unread law kind d limits = law kind d limits
