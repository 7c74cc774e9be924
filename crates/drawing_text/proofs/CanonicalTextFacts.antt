-- A worked value of the canonical text.
use Rattle.std.proofs.Common.{◌≡◌, ℤ, pos, negsuc, [], ◌∷◌, ◌++◌, map, codes, refl}
use Rattle.std.specs.Fmt.{digits}
use Rattle.drawing_text.proofs.Names.{Point, DrawingValue, header_text, canonical_text2, canonical_text}
use Rattle.drawing_text.specs.declared.version.Version.TheVariants as version

abbrev pub place : ℤ → ℤ → Point
place x y = record { x = x; y = y }

-- two strokes in two blocks
abbrev pub strokes : DrawingValue
strokes = record {
  label = codes "ab";
  step = 25;
  threads = 5 ∷ 0 ∷ [];
  lines = record { block = 0; points = place (pos 0) (pos 0) ∷ place (negsuc 2) (pos 4) ∷ [] }
      ∷ record { block = 1; points = place (pos 10) (pos 2) ∷ place (pos 3) (pos 4) ∷ [] } ∷ [];
  starts = [];
  ends = [];
}

-- its text has a line for the label, the step, and each block and stroke
pub known_spelling : canonical_text strokes
    ≡ codes "redwork 1" ++ 10 ∷ (codes "name ab" ++ 10 ∷ (codes "step 25" ++ 10 ∷ (codes "color 5"
    ++ 10 ∷ (codes "line 0 0 -3 4" ++ 10 ∷ (codes "color 0" ++ 10 ∷ (codes "line 10 2 3 4" ++ 10 ∷ []))))))
unfolding digits
known_spelling = refl

-- in version 2 the first line alone is another
pub known_spelling2 : canonical_text2 (record strokes { label = []; threads = 5 ∷ [] })
    ≡ codes "redwork 2" ++ 10 ∷ (codes "step 25" ++ 10 ∷ (codes "color 5" ++ 10 ∷ (codes "line 0 0 -3 4" ++ 10 ∷ [])))
unfolding digits
known_spelling2 = refl

-- the first line of each version
pub known_headers : map header_text (version.One ∷ version.Two ∷ version.Three ∷ [])
    ≡ codes "redwork 1" ∷ codes "redwork 2" ∷ codes "redwork 3" ∷ []
known_headers = refl
