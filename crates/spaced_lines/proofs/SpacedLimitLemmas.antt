-- The spaced lines of a drawing are within the limits of a drawing.
use Rattle.std.proofs.Common.{◌≡◌, ◌∙◌, ℕ, ◌<◌, ◌≤◌, Bool, List, [], ◌∷◌, length, map, All, Contains, refl, ap, subst, arith}
use Rattle.std.specs.List.Sorted.{IsNonDecreasing}
use Rattle.spaced_lines.proofs.Names.{length-map, All-head, All-tail, All-weaker, sum_by-cons, Point, point_count, steps_of_line, is_junction, LineValue, all_sections, SpacedLinesKeepLimits, is_spot_of, rule_of, spaced_line, spaced_lines, spaced_points, length-append, SpacingRule, EachPointSavesAStep, SpacedLinesAreLines, All-map, sum_by, IsLine}
use Rattle.spaced_lines.proofs.SpacingLemmas.{kept_after, of_kept}

-- a spaced line has no more points
fewer_after : (stays : Point → Bool) (rule : SpacingRule) (a : Point) (points : List Point)
    → length (kept_after stays rule a points) ≤ length points
fewer_after stays rule = of_kept stays rule (λ a points kept. length kept ≤ length points) (λ a. omega arith)
    (λ a b out after kept may is. omega (arith, is, length-append out (b ∷ after)))

fewer_points : (stays : Point → Bool) (rule : SpacingRule) (points : List Point) → length (spaced_points stays rule points) ≤ length points
fewer_points stays rule [] = omega arith
fewer_points stays rule (a ∷ points) = let most = fewer_after stays rule a points in omega (arith, most)

-- a sum of terms that are no more is no more
sums_less : (weight : LineValue → ℕ) (change : LineValue → LineValue) (lines : List LineValue)
    → All (λ line. weight (change line) ≤ weight line) lines → sum_by weight (map change lines) ≤ sum_by weight lines
sums_less weight change [] less = omega arith
sums_less weight change (line ∷ rest) less =
    let one = All-head (λ (l : LineValue). weight (change l) ≤ weight l) line rest less in
    let more = sums_less weight change rest (All-tail (λ (l : LineValue). weight (change l) ≤ weight l) line rest less) in
    omega (arith, one, more, sum_by-cons weight (change line) (map change rest), sum_by-cons weight line rest)

pub points_less : (rule : SpacingRule) (lines : List LineValue) → All (λ line. 1 ≤ length line.points) lines
    → point_count (spaced_lines rule lines) ≤ point_count lines
points_less rule lines some =
    let change : LineValue → LineValue = spaced_line (is_junction (all_sections lines)) rule in
    sums_less (λ (l : LineValue). length l.points) change lines
    (All-weaker (λ (l : LineValue). 1 ≤ length l.points) (λ (l : LineValue). length (change l).points ≤ length l.points)
    (λ line is. fewer_points (is_spot_of (is_junction (all_sections lines)) line.block) rule line.points) lines some)

module _ (sewn : SpacedLinesAreLines) (saved : EachPointSavesAStep) where
  pub limits_kept : SpacedLinesKeepLimits
  limits_kept limits d keeps =
      let rule : SpacingRule = rule_of limits d.step in
      let change : LineValue → LineValue = spaced_line (is_junction (all_sections d.lines)) rule in
      let stays : LineValue → Point → Bool = λ line. is_spot_of (is_junction (all_sections d.lines)) line.block in
      let Blocks : List ℕ → Type 0 = λ blocks. (block : ℕ) → block < length d.threads → Contains blocks block in
      let Ordered : List ℕ → Type 0 = λ blocks. IsNonDecreasing blocks in
      record {
        label = keeps.label;
        one_word = keeps.one_word;
        step_from = keeps.step_from;
        step_to = keeps.step_to;
        blocks_from = keeps.blocks_from;
        blocks_to = keeps.blocks_to;
        threads = keeps.threads;
        used = subst Blocks (same_blocks change (λ line. refl) d.lines) keeps.used;
        there = All-map (λ (l : LineValue). l.block < length d.threads) change d.lines keeps.there;
        ordered = subst Ordered (same_blocks change (λ line. refl) d.lines) keeps.ordered;
        lines = All-map (λ (l : LineValue). IsLine l.points) change d.lines
            (All-weaker (λ (l : LineValue). IsLine l.points) (λ (l : LineValue). IsLine (change l).points)
            (λ line is. sewn (stays line) rule line.points is) d.lines keeps.lines);
        line_count = let as_many = length-map d.lines change in omega (arith, as_many, keeps.line_count);
        point_count = let less = points_less rule d.lines (All-weaker (λ (l : LineValue). IsLine l.points)
            (λ (l : LineValue). 1 ≤ length l.points) (λ line is. omega (arith, is.long)) d.lines keeps.lines) in
            omega (arith, less, keeps.point_count);
        cost = let less = sums_less (λ (l : LineValue). steps_of_line d.step l.points) change d.lines
            (All-weaker (λ (l : LineValue). IsLine l.points)
            (λ (l : LineValue). steps_of_line d.step (change l).points ≤ steps_of_line d.step l.points)
            (λ line is. let save = saved (stays line) rule line.points keeps.step_from is in
            let few = fewer_points (stays line) rule line.points in omega (arith, save, few)) d.lines keeps.lines) in
            omega (arith, less, keeps.cost);
      }
    where
      same_blocks : (change : LineValue → LineValue) → ((line : LineValue) → line.block ≡ (change line).block) → (lines : List LineValue)
          → map (λ line. line.block) lines ≡ map (λ line. line.block) (map change lines)
      same_blocks change same [] = refl
      same_blocks change same (line ∷ rest) =
          ap (λ (block : ℕ). block ∷ map (λ (l : LineValue). l.block) rest) (same line)
          ∙ ap (λ (blocks : List ℕ). (change line).block ∷ blocks) (same_blocks change same rest)
