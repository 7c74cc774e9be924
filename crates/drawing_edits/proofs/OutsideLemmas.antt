-- The lines that are not in a piece, one after another.
use Rattle.std.proofs.Common.{◌≡◌, ◌<◌, ℕ, ◌+◌, ◌==◌, Bool, true, false, not, List, [], ◌∷◌, ◌++◌, map, append_assoc, ap, sym, ◌∙◌}
use Rattle.drawing_edits.proofs.Names.{list_any, LineValue, lines_outside, PiecesComeBefore, filter_skips, filter_takes}

-- A line is not in a piece.
abbrev is_outside : List ℕ → ℕ → Bool
is_outside piece line = not (list_any (λ n. n == line) piece)

-- A line of the piece is left out.
pub outside_skips : (f : ℕ → LineValue) (piece : List ℕ) (line to : ℕ) (lines whole : List LineValue) → line < to
    → list_any (λ n. n == line) piece ≡ true → lines ++ map f (lines_outside piece line to) ≡ whole
    → lines ++ map f (lines_outside piece (line + 1) to) ≡ whole
outside_skips f piece line to lines whole below found before =
    ap (λ (ns : List ℕ). lines ++ map f ns) (sym (filter_skips (is_outside piece) line to below (ap not found))) ∙ before

-- Any other line is added.
pub outside_takes : (f : ℕ → LineValue) (piece : List ℕ) (line to : ℕ) (lines more whole : List LineValue) → line < to
    → list_any (λ n. n == line) piece ≡ false → more ≡ lines ++ f line ∷ [] → lines ++ map f (lines_outside piece line to) ≡ whole
    → more ++ map f (lines_outside piece (line + 1) to) ≡ whole
outside_takes f piece line to lines more whole below missed is before =
    let rest : List LineValue = map f (lines_outside piece (line + 1) to) in
    ap (λ (ls : List LineValue). ls ++ rest) is
    ∙ (append_assoc lines (f line ∷ []) rest
    ∙ (ap (λ (ns : List ℕ). lines ++ map f ns) (sym (filter_takes (is_outside piece) line to below (ap not missed))) ∙ before))

-- The line before which a piece comes is the first of the others after the piece.
pub piece_then_line : PiecesComeBefore
piece_then_line piece line count below missed = ap (λ (ns : List ℕ). lines_outside piece 0 line ++ (piece ++ ns))
    (filter_takes (is_outside piece) line count below (ap not missed))
