-- Worked values of sizes and scales, by hand.
use Rattle.std.proofs.Common.{◌≡◌, ℕ, List, pos, negsuc, [], ◌∷◌, ◌++◌, Some, None, codes, refl}
use Rattle.std.specs.Fmt.{digits}
use Rattle.picture_parts.proofs.PartFacts.{point}
use Rattle.picture_parts.specs.declared.sheet.Sheet.{Sheet}
use Rattle.picture_parts.specs.Parts.{filled}
use Rattle.picture_parts.specs.PlainSheets.{plain_foot_text, plain_head_text, plain_title_text}
use Rattle.picture_parts.specs.Sheets.{head_text, sheet_head, style_text}
use Rattle.picture_parts.specs.Sizes.{scale_if_sized}

-- a sheet that is to fit so many millimetres, wide and high
abbrev sized : (width height across down : ℕ) → Sheet
sized width height across down = record {
  corner = point (negsuc 49) (pos 7);
  width = width;
  height = height;
  size = Some (record { width = across; height = down });
}

-- the scale of such a sheet
abbrev scaled : (width height across down : ℕ) → List ℕ
scaled width height across down =
    scale_if_sized (sized width height across down).size (sized width height across down) (codes "<") (codes ">")

-- Where one side is too long the picture is smaller: 52.6 cm in 21 cm are 2.50 times as long, 90 cm in 29.7 cm are 3.03 times as long.
pub known_reductions : (scaled 5260 2970 210 297 ≡ codes "<scale 1 : 2.5>") × (scaled 300 9000 210 297 ≡ codes "<scale 1 : 3.0>")
    × (scaled 2101 300 210 297 ≡ codes "<scale 1 : 1.0>") × (scaled 2100 9950 100 100 ≡ codes "<scale 1 : 10.0>")
unfolding digits filled
known_reductions = (refl, refl, refl, refl)

-- Where both sides fit it is as large or larger: 8.2 cm by 4 cm in 21 cm by 29.7 cm is 2.56 times as large, by its width.
pub known_enlargements : (scaled 820 400 210 297 ≡ codes "<scale 2.6 : 1>") × (scaled 400 820 297 210 ≡ codes "<scale 2.6 : 1>")
    × (scaled 2100 2970 210 297 ≡ codes "<scale 1.0 : 1>") × (scaled 800 100 100 100 ≡ codes "<scale 1.3 : 1>")
    × (scaled 100 100 100 500 ≡ codes "<scale 10.0 : 1>") × (scaled 100 100 500 100 ≡ codes "<scale 10.0 : 1>")
unfolding digits filled
known_enlargements = (refl, refl, refl, refl, refl, refl)

-- A picture in true size has no scale.
pub known_true_size : scale_if_sized None (sized 300 260 10 10) (codes "<") (codes ">") ≡ []
known_true_size = refl

-- The size is that of the file, and the numbers in it keep their unit.
pub known_sized_heads : (sheet_head (sized 300 260 210 297)
    ≡ codes "<svg xmlns='http://www.w3.org/2000/svg' width='210.0mm' height='297.0mm' viewBox='-50,7,300,260'>"
    ++ (10 ∷ codes "<path fill='#d9d1be' d='M-50,7h300v260h-300z'/>" ++ (10 ∷ style_text)))
    × (plain_head_text (sized 300 260 210 297) (codes "ffffff")
    ≡ codes "<svg xmlns='http://www.w3.org/2000/svg' width='210.0mm' height='297.0mm' viewBox='-50,7,300,260'>"
    ++ (10 ∷ codes "<path fill='#ffffff' d='M-50,7h300v260h-300z'/>"
    ++ (10 ∷ codes "<style>.thread{fill:none;stroke-width:3;stroke-linecap:round;stroke-linejoin:round}</style>" ++ 10 ∷ [])))
unfolding head_text plain_head_text filled digits
known_sized_heads = (refl, refl)

-- The title and the end of a plain picture, each line ended.
pub known_plain_lines : (plain_title_text (codes "rose") 12
    ≡ codes "<title>Embroidery rose</title>" ++ (10 ∷ codes "<g transform='translate(12,12)'>" ++ 10 ∷ []))
    × (plain_foot_text ≡ codes "</g>" ++ (10 ∷ codes "</svg>" ++ 10 ∷ []))
unfolding plain_foot_text plain_title_text filled digits
known_plain_lines = (refl, refl)
