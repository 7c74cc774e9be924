-- The text lines of starts and ends: each is read as one more start or end of the draft.
use Rattle.std.proofs.Common.{◌≡◌, ℕ, ◌+◌, ◌-◌, ◌≤◌, Bool, true, false, List, [], ◌∷◌, ◌++◌, Result, Ok, length, map, codes, All, ap, sym, ◌∙◌, refl, append_assoc, append-nil, arith}
use Rattle.drawing_text.proofs.Names.{nat_tests, map-append, flat_map-cons, All-cons, All-head, All-nil, All-tail, flat_map, Spot, DrawingValue, IsNeedlePoint, DrawingDraft, DrawFault, Version, WalkEnd, points_text, allows_ends, draft_after_words, words_by_line, within_parts, signed_read, end_line_text}
use Rattle.drawing_text.proofs.PrintedLines.{after_text, coordinates, coordinates_are, draft_of, line_judged, points_spelled}
use Rattle.drawing_text.proofs.PrintedWords.{IsWord, tail_of}

-- the keyword of a start or an end
abbrev pub end_word : Bool → List ℕ
end_word true = codes "start"
end_word false = codes "end"

is_end_word : (is_start : Bool) → IsWord (end_word is_start)
is_end_word true = record { filled = refl; inner = refl }
is_end_word false = record { filled = refl; inner = refl }

-- a start or an end without the number of its text line
abbrev pub unnumbered : WalkEnd → WalkEnd
unnumbered end = record { number = 0; is_start = end.is_start; spot = end.spot }

abbrev pub end_at : Bool → Spot → WalkEnd
end_at is_start spot = record { number = 0; is_start = is_start; spot = spot }

-- a start or an end that a text of the version may name
pub record IsNamable (version : Version) (spot : Spot) : Type 0 where
  pub allowed : allows_ends version ≡ true
  pub in_range : IsNeedlePoint spot.at

-- the draft with one more start or end
abbrev with_end : List WalkEnd → ℕ → Bool → Spot → List WalkEnd
with_end ends number is_start spot = ends ++ record { number = number; is_start = is_start; spot = spot } ∷ []

end_says : (version : Version) (number opened : ℕ) (named : Bool) (ends : List WalkEnd) (d : DrawingValue) (is_start : Bool) (spot : Spot)
    → IsNamable version spot → 1 ≤ length d.threads → spot.block ≡ length d.threads - 1
    → draft_after_words version number (draft_of ends named opened d) (end_word is_start ∷ coordinates (spot.at ∷ []))
    ≡ Ok (draft_of (with_end ends number is_start spot) named opened d)
end_says version number opened named ends d true spot may some inside =
    grind (arith, nat_tests, within_parts 30000 spot.at may.in_range, signed_read spot.at.x, signed_read spot.at.y)
end_says version number opened named ends d false spot may some inside =
    grind (arith, nat_tests, within_parts 30000 spot.at may.in_range, signed_read spot.at.x, signed_read spot.at.y)

-- a text is read to the target after the drawing so far and these starts and ends, whatever numbers their text lines have
abbrev pub ReadsOn : {A : Type 0} → (ℕ → DrawingDraft → Result A DrawFault) → Version → Result A DrawFault → DrawingValue
    → List WalkEnd → List ℕ → Type 0
ReadsOn close version target d found text = (number opened : ℕ) (named : Bool) (ends : List WalkEnd) → map unnumbered ends ≡ found
    → after_text close version number (draft_of ends named opened d) (words_by_line text) ≡ target

module _ {A : Type 0} (close : ℕ → DrawingDraft → Result A DrawFault) (version : Version) (target : Result A DrawFault) (d : DrawingValue)
    (some : 1 ≤ length d.threads) (is_start : Bool) where
  -- printed starts or ends are read, and then what follows them
  pub ends_read : (found : List WalkEnd) (spots : List Spot) (rest : List ℕ) → All (λ spot. spot.block ≡ length d.threads - 1) spots
      → All (IsNamable version) spots → ReadsOn close version target d (found ++ map (end_at is_start) spots) rest
      → ReadsOn close version target d found (flat_map (end_line_text (end_word is_start)) spots ++ rest)
  ends_read found [] rest inside may on number opened named ends are =
      on number opened named ends (are ∙ sym (append-nil found))
  ends_read found (spot ∷ spots) rest inside may on number opened named ends are =
      let here = All-head (IsNamable version) spot spots may in
      let next : List WalkEnd = with_end ends number is_start spot in
      let put : map unnumbered next ≡ found ++ end_at is_start spot ∷ [] =
      map-append unnumbered ends (record { number = number; is_start = is_start; spot = spot } ∷ [])
      ∙ ap (λ (list : List WalkEnd). list ++ end_at is_start spot ∷ []) are in
      let text : flat_map (end_line_text (end_word is_start)) (spot ∷ spots) ++ rest
      ≡ end_word is_start ++ (tail_of (coordinates (spot.at ∷ [])) ++ (flat_map (end_line_text (end_word is_start)) spots ++ rest)) =
      ap (λ (all : List ℕ). all ++ rest) (flat_map-cons (end_line_text (end_word is_start)) spot spots)
      ∙ (append_assoc (end_line_text (end_word is_start) spot) (flat_map (end_line_text (end_word is_start)) spots) rest
      ∙ (append_assoc (end_word is_start) (points_text (spot.at ∷ [])) (flat_map (end_line_text (end_word is_start)) spots ++ rest)
      ∙ ap (λ (tail : List ℕ). end_word is_start ++ (tail ++ (flat_map (end_line_text (end_word is_start)) spots ++ rest)))
      (points_spelled (spot.at ∷ [])))) in
      ap (λ (all : List ℕ). after_text close version number (draft_of ends named opened d) (words_by_line all)) text
      ∙ (line_judged close version number (draft_of ends named opened d) (draft_of next named opened d) (end_word is_start)
      (coordinates (spot.at ∷ [])) (flat_map (end_line_text (end_word is_start)) spots ++ rest) (is_end_word is_start)
      (coordinates_are (spot.at ∷ []) (All-cons IsNeedlePoint spot.at [] here.in_range (All-nil IsNeedlePoint)))
      (end_says version number opened named ends d is_start spot here some
      (All-head (λ (s : Spot). s.block ≡ length d.threads - 1) spot spots inside))
      ∙ ends_read (found ++ end_at is_start spot ∷ []) spots rest
      (All-tail (λ (s : Spot). s.block ≡ length d.threads - 1) spot spots inside) (All-tail (IsNamable version) spot spots may)
      (λ n o m es same. on n o m es (same ∙ append_assoc found (end_at is_start spot ∷ []) (map (end_at is_start) spots)))
      (number + 1) opened named next put)
