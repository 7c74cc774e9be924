-- The formats of the programs. A name's ending chooses among them, and each ending is that of one.
use Rattle.std.specs.Prelude.{List, [], ◌∷◌}
use Rattle.dst_codec.specs.Format.{dst_meaning}
use Rattle.exp_codec.specs.Format.{exp_meaning}
use Rattle.format_traits.specs.Meanings.{Meaning}
use Rattle.pes_codec.specs.Formats.{pec_meaning, pes_meaning}
use Rattle.stitch_text.specs.Format.{list_meaning}

-- The meanings of the five formats: Tajima DST, Melco EXP, Brother PEC and PES, and the stitch
-- list.
abbrev pub stitch_formats : List Meaning
stitch_formats = dst_meaning ∷ exp_meaning ∷ pec_meaning ∷ pes_meaning ∷ list_meaning ∷ []
