-- The header of a PEC block. The first 512 bytes contain the label and the threads of the colour
-- blocks. The other 16 bytes contain the distance to the thumbnails and the size of the design.
-- Words have the low byte first.
use Rattle.std.specs.Prelude.{ℕ, ◌+◌, nat_eq, List, [], ◌∷◌, ◌++◌, take, drop, map, replicate, Option, slice_index, ◌==◌, codes, if◌then◌else◌}
use Rattle.std.specs.List.{range_with_len, starts_with}
use Rattle.byteorder.specs.Endian.{little_bytes}
use Rattle.design_model.specs.declared.bounds.Extent.{Extent}
use Rattle.design_model.specs.declared.design.TheConstants.{MAX_LABEL}
use Rattle.design_model.specs.Designs.{DesignValue, thread_of}
use Rattle.design_model.specs.Extents.{extent_of, extent_height, extent_width}
use Rattle.format_traits.specs.LabelFields.{padded_right, label_field, label_in}
use Rattle.pec_codec.specs.declared.block.TheConstants.{LABELS_LENGTH}

-- The threads of the first `count` colour blocks.
abbrev pub threads_of : DesignValue → ℕ → List ℕ
threads_of d count = map (thread_of d) (range_with_len 0 count)

-- The label and the threads of a design with `stops` stops; the header contains the number of
-- colour blocks less one.
abbrev pub labels_of : DesignValue → ℕ → List ℕ
labels_of d stops = codes "LA:" ++ label_field d.label ++ 13 ∷ replicate 12 32
    ++ 255 ∷ 0 ∷ 6 ∷ 38 ∷ replicate 12 32 ++ stops ∷ threads_of d (stops + 1)

-- The field of the distance to the thumbnails, which is counted from the beginning of this field.
abbrev pub distance_field : ℕ → List ℕ
distance_field distance = 0 ∷ 0 ∷ little_bytes 3 distance ++ 49 ∷ 255 ∷ 240 ∷ []

-- The fields of the size of the design and of the hoop.
abbrev pub size_fields : Option Extent → List ℕ
size_fields extent = little_bytes 2 (extent_width extent) ++ little_bytes 2 (extent_height extent)
    ++ little_bytes 2 480 ++ little_bytes 2 432

-- The header of a design, by the number of its stops and the distance to the thumbnails.
abbrev pub pec_header_of : DesignValue → ℕ → ℕ → List ℕ
pec_header_of d stops distance =
    padded_right LABELS_LENGTH (labels_of d stops) ++ distance_field distance
    ++ size_fields (extent_of d)

-- The label of a block that begins with `LA:`; else no label.
abbrev pub pec_label_of : List ℕ → List ℕ
pec_label_of block =
    if starts_with nat_eq block (codes "LA:") then label_in (take MAX_LABEL (drop 3 block)) else []

-- The threads at the beginning of bytes, one more than the number; no thread where the number is
-- 255.
abbrev pub threads_after : ℕ → List ℕ → List ℕ
threads_after number bytes = if number == 255 then [] else take (number + 1) bytes

-- The threads that a block lists.
abbrev pub threads_in : List ℕ → List ℕ
threads_in block = threads_after (slice_index block 48) (drop 49 block)
