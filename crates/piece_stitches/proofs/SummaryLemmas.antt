-- Summaries of stitches of two lists, one after the other.
use Rattle.std.proofs.Common.{◌≡◌, ◌∙◌, ℕ, suc, ◌+◌, max, min, Bool, true, false, List, [], ◌∷◌, ◌++◌, filter, length, sum_by, if◌then◌else◌, refl, sym, ap}
use native.Mathlib.Omega.{arith}
use Rattle.std.proofs.lemmas.List.Sums.{sum_by-cons}
use Rattle.line_graph.specs.Drawings.{DrawingValue}
use Rattle.line_graph.specs.LineNeedles.{needles_of_line}
use Rattle.piece_stitches.specs.declared.stitch_summary.StitchSummary.{StitchSummary}
use Rattle.piece_stitches.specs.GrowingSummaries.{no_stitches, with_stitch, with_stitches}
use Rattle.piece_stitches.specs.StitchSummaries.{is_short, least_from, lengths_of_lines, longest_of, stitch_lengths, summary_of_lengths}
use Rattle.design_model.proofs.ListLemmas.{suc_zero}

abbrev summary_with : (stitches shortest longest short thread : ℕ) → StitchSummary
summary_with stitches shortest longest short thread =
    record { stitches = stitches; shortest = shortest; longest = longest; short = short; thread = thread }

pub with_stitches_of_both : (s : StitchSummary) (xs ys : List ℕ) → with_stitches s (xs ++ ys) ≡ with_stitches (with_stitches s xs) ys
with_stitches_of_both s [] ys = refl
with_stitches_of_both s (x ∷ xs) ys = with_stitches_of_both (with_stitch s x) xs ys

-- after the stitches of a line come those of the lines after it
pub with_line_first : (d : DrawingValue) (s : StitchSummary) (line : ℕ) (after : List ℕ)
    → with_stitches (with_stitches s (stitch_lengths (needles_of_line d line))) (lengths_of_lines d after)
    ≡ with_stitches s (lengths_of_lines d (line ∷ after))
with_line_first d s line after =
    sym (with_stitches_of_both s (stitch_lengths (needles_of_line d line)) (lengths_of_lines d after))

-- summaries with the same parts are the same
same_parts : (a a2 b b2 c c2 d d2 e e2 : ℕ) → a ≡ a2 → b ≡ b2 → c ≡ c2 → d ≡ d2 → e ≡ e2
    → summary_with a b c d e ≡ summary_with a2 b2 c2 d2 e2
same_parts a a2 b b2 c c2 d d2 e e2 one two three four five = cc

one_more_short : (is : Bool) (few x : ℕ) (rest : List ℕ)
    → (if is then few + 1 else few) + length rest ≡ few + length (if is then x ∷ rest else rest)
one_more_short true few x rest = omega arith
one_more_short false few x rest = refl

-- a summary of some stitches, with one more
one_more : (n best most few thread x : ℕ) → with_stitch (summary_with (suc n) best most few thread) x
    ≡ summary_with (suc (suc n)) (min best x) (max most x) (if is_short x then few + 1 else few) (thread + x)
one_more n best most few thread x = same_parts _ _ _ _ _ _ _ _ _ _ (omega arith)
    (ap (λ (b : Bool). if b then x else min best x) (suc_zero n)) refl refl refl

-- a summary of some stitches and further ones
grown : (n best most few thread : ℕ) (xs : List ℕ)
    → with_stitches (summary_with (suc n) best most few thread) xs
    ≡ summary_with (suc n + length xs) (least_from best xs) (max most (longest_of xs)) (few + length (filter is_short xs))
    (thread + sum_by (λ x. x) xs)
grown n best most few thread [] =
    same_parts _ _ _ _ _ _ _ _ _ _ (omega arith) refl (omega arith) (omega arith) (omega arith)
grown n best most few thread (x ∷ rest) =
    ap (λ (s : StitchSummary). with_stitches s rest) (one_more n best most few thread x)
    ∙ (grown (suc n) (min best x) (max most x) (if is_short x then few + 1 else few) (thread + x) rest
    ∙ same_parts _ _ _ _ _ _ _ _ _ _ (omega arith) refl (omega arith) (one_more_short (is_short x) few x (filter is_short rest))
    (omega (arith, sum_by-cons (λ (y : ℕ). y) x rest)))

-- a summary of one stitch
first_one : (x : ℕ) → with_stitch no_stitches x ≡ summary_with 1 x x (if is_short x then 0 + 1 else 0) x
first_one x = same_parts _ _ _ _ _ _ _ _ _ _ (omega arith) refl (omega arith) refl (omega arith)

-- a summary that grew from no stitches is the summary of their lengths
pub grown_from_none : (xs : List ℕ) → with_stitches no_stitches xs ≡ summary_of_lengths xs
grown_from_none [] = refl
grown_from_none (x ∷ rest) =
    ap (λ (s : StitchSummary). with_stitches s rest) (first_one x)
    ∙ (grown 0 x x (if is_short x then 0 + 1 else 0) x rest
    ∙ same_parts _ _ _ _ _ _ _ _ _ _ (omega arith) refl (omega arith)
    (omega (arith, one_more_short (is_short x) 0 x (filter is_short rest)))
    (omega (arith, sum_by-cons (λ (y : ℕ). y) x rest)))
