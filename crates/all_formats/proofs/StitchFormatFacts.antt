-- Worked values of the formats of the programs: what each ending of a name chooses.
use Rattle.std.proofs.Common.{◌≡◌, [], ◌∷◌, map, Some, None, refl, codes}
use Rattle.all_formats.specs.StitchFormats.{stitch_formats}
use Rattle.dst_codec.specs.Format.{dst_meaning}
use Rattle.exp_codec.specs.Format.{exp_meaning}
use Rattle.format_traits.specs.Endings.{format_of}
use Rattle.pes_codec.specs.Formats.{pec_meaning, pes_meaning}
use Rattle.stitch_text.specs.Format.{list_meaning}

-- the endings of the five formats, no two alike
pub known_endings : map (λ m. m.ending) stitch_formats
    ≡ codes "dst" ∷ codes "exp" ∷ codes "pec" ∷ codes "pes" ∷ codes "lst" ∷ []
known_endings = refl

-- the greatest moves, in tenths of a millimetre
pub known_limits : map (λ m. m.limit) stitch_formats ≡ 121 ∷ 127 ∷ 2047 ∷ 2047 ∷ 2047 ∷ []
known_limits = refl

-- a name's format by its ending, in capitals or not, and names without one
pub known_formats_of_names : (format_of stitch_formats (codes "x.dst") ≡ Some dst_meaning)
    × (format_of stitch_formats (codes "a.b.EXP") ≡ Some exp_meaning)
    × (format_of stitch_formats (codes "x.pec") ≡ Some pec_meaning)
    × (format_of stitch_formats (codes "x.Pes") ≡ Some pes_meaning)
    × (format_of stitch_formats (codes "x.lst") ≡ Some list_meaning)
    × (format_of stitch_formats (codes "x.jef") ≡ None)
    × (format_of stitch_formats (codes "dst") ≡ None)
known_formats_of_names = (refl, refl, refl, refl, refl, refl, refl)
