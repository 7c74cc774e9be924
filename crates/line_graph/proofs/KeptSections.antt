-- The drawing of all sections keeps the limits of drawings.
use Rattle.std.proofs.Common.{◌≡◌, ℕ, zero, suc, ◌<◌, ◌≤◌, inl, inr, true, false, nat_lt, List, [], ◌∷◌, ◌++◌, length, map, All, Contains, ap, sym, subst, ◌∙◌, refl, arith}
use Rattle.line_graph.proofs.DrawingNames.{nat_tests, map-append, flat_map-cons, All-append, All-head, All-map, All-nil, All-tail, All-weaker, Contains-append_left, Contains-append_right, flat_map, IsNonDecreasing, Point, LineValue, SectionsHaveSegments, SectionsKeepSegments, WholeLinesStay, all_sections, is_shared_point, line_sections, sections_of, DrawingValue, IsLine, KeepsDrawingLimits, point_count, IsValidDrawing, HasValidEnds, get_or-map, length-map, Contains-append_cases, are_whole_lines, JoinedDrawingsStay}
use Rattle.line_graph.proofs.SectionCosts.{cost_kept, sections_sew, some_sections}

-- what holds of all sections
module _ (of_line : LineValue → List LineValue) where
  all_flat : (P Q : LineValue → Type 0) → ((line : LineValue) → P line → All Q (of_line line)) → (lines : List LineValue)
      → All P lines → All Q (flat_map of_line lines)
  all_flat P Q each [] have = All-nil Q
  all_flat P Q each (line ∷ rest) have =
      subst (λ (all : List LineValue). All Q all) (sym (flat_map-cons of_line line rest))
      (All-append Q (of_line line) (flat_map of_line rest) (each line (All-head P line rest have))
      (all_flat P Q each rest (All-tail P line rest have)))

  used_flat : (P : LineValue → Type 0) (block : ℕ)
      → ((line : LineValue) → P line → Contains (map (λ (l : LineValue). l.block) (of_line line)) line.block) → (lines : List LineValue)
      → All P lines → Contains (map (λ (l : LineValue). l.block) lines) block
      → Contains (map (λ (l : LineValue). l.block) (flat_map of_line lines)) block
  used_flat P block each [] have used = used
  used_flat P block each (line ∷ rest) have used =
      let blocks : List LineValue → List ℕ = map (λ (l : LineValue). l.block) in
      let parts : blocks (flat_map of_line (line ∷ rest)) ≡ blocks (of_line line) ++ blocks (flat_map of_line rest) =
      ap blocks (flat_map-cons of_line line rest) ∙ map-append (λ (l : LineValue). l.block) (of_line line) (flat_map of_line rest) in
      subst (λ (all : List ℕ). Contains all block) (sym parts)
      (elim (Contains-append_cases (line.block ∷ []) (blocks rest) block used) [
        | inl first ↦ Contains-append_left (blocks (of_line line)) (blocks (flat_map of_line rest)) block
            (subst (λ (b : ℕ). Contains (blocks (of_line line)) b) (only line.block block first) (each line (All-head P line rest have)))
        | inr later ↦ Contains-append_right (blocks (of_line line)) (blocks (flat_map of_line rest)) block
            (used_flat P block each rest (All-tail P line rest have) later)
      ])
    where
      only : (a b : ℕ) → Contains (a ∷ []) b → a ≡ b
      only a b (zero, there, is) = is
      only a b (suc i, there, is) = absurd (omega (arith, there))

-- the blocks of the lines do not fall
abbrev Rises : List LineValue → Type 0
Rises [] = Unit {0}
Rises (line ∷ rest) = All (λ other. line.block ≤ other.block) rest × Rises rest

rises_of : (lines : List LineValue) → IsNonDecreasing (map (λ line. line.block) lines) → Rises lines
rises_of [] ordered = tt
rises_of (line ∷ rest) ordered = (
  λ k e there. let more = ordered 0 (suc k) 0 (omega arith) (omega (arith, length-map rest (λ (l : LineValue). l.block))) in
      omega (arith, more, get_or-map (λ (l : LineValue). l.block) rest k e 0 there),
  rises_of rest (λ i j e less there. ordered (suc i) (suc j) e (omega (arith, less)) (omega (arith, there))),
)

ordered_of : (lines : List LineValue) → Rises lines → IsNonDecreasing (map (λ line. line.block) lines)
ordered_of [] rises i j e less there = absurd (omega (arith, there))
ordered_of (line ∷ rest) rises zero zero e less there = omega arith
ordered_of (line ∷ rest) rises (suc i) zero e less there = absurd (omega (arith, less))
ordered_of (line ∷ rest) rises (suc i) (suc j) e less there =
    ordered_of rest rises.1 i j e (omega (arith, less)) (omega (arith, there))
ordered_of (line ∷ rest) rises zero (suc j) e less there =
    let none : LineValue = record { block = e; points = [] } in
    let within : j < length rest = omega (arith, there, length-map rest (λ (l : LineValue). l.block)) in
    omega (arith, rises.0 j none within, get_or-map (λ (l : LineValue). l.block) rest j none e within)

-- lines of one block before lines of no lesser one
put_rises : (block : ℕ) (parts rest : List LineValue) → All (λ (l : LineValue). l.block ≡ block) parts
    → All (λ (l : LineValue). block ≤ l.block) rest → Rises rest → Rises (parts ++ rest)
put_rises block [] rest same above rises = rises
put_rises block (part ∷ parts) rest same above rises =
    let here : part.block ≡ block = All-head (λ (l : LineValue). l.block ≡ block) part parts same in
    let others = All-tail (λ (l : LineValue). l.block ≡ block) part parts same in (
      All-append (λ (l : LineValue). part.block ≤ l.block) parts rest
          (All-weaker (λ (l : LineValue). l.block ≡ block) (λ (l : LineValue). part.block ≤ l.block)
          (λ l is. omega (arith, is, here)) parts others)
          (All-weaker (λ (l : LineValue). block ≤ l.block) (λ (l : LineValue). part.block ≤ l.block)
          (λ l is. omega (arith, is, here)) rest above),
      put_rises block parts rest others above rises,
    )

-- sections rise where the lines do
rises_flat : (of_line : LineValue → List LineValue) → ((line : LineValue) → All (λ (l : LineValue). l.block ≡ line.block) (of_line line))
    → (lines : List LineValue) → Rises lines → Rises (flat_map of_line lines)
rises_flat of_line each [] rises = tt
rises_flat of_line each (line ∷ rest) rises =
    let above : All (λ (l : LineValue). line.block ≤ l.block) (flat_map of_line rest) =
    all_flat of_line (λ (l : LineValue). line.block ≤ l.block) (λ (l : LineValue). line.block ≤ l.block)
    (λ l reach. All-weaker (λ (s : LineValue). s.block ≡ l.block) (λ (s : LineValue). line.block ≤ s.block)
    (λ s is. omega (arith, is, reach)) (of_line l) (each l)) rest rises.0 in
    subst Rises (sym (flat_map-cons of_line line rest))
    (put_rises line.block (of_line line) (flat_map of_line rest) (each line) above (rises_flat of_line each rest rises.1))

-- a line of a block
abbrev line_of : ℕ → List Point → LineValue
line_of block points = record { block = block; points = points }

-- a section is in the block of its line
in_block : (lines : List LineValue) (line : LineValue) → All (λ (l : LineValue). l.block ≡ line.block) (line_sections lines line)
in_block lines line = All-map (λ (l : LineValue). l.block ≡ line.block) (line_of line.block)
    (sections_of (is_shared_point lines line.block) line.points) (λ i d there. refl)

-- and each line has one
has_section : SectionsKeepSegments → (lines : List LineValue) (line : LineValue) → IsLine line.points
    → Contains (map (λ (l : LineValue). l.block) (line_sections lines line)) line.block
has_section keep lines line able = grind (arith, nat_tests, some_sections keep (is_shared_point lines line.block) line.points able)

keeps_joined : SectionsKeepSegments → SectionsHaveSegments → (d : DrawingValue) → KeepsDrawingLimits d
    → nat_lt 1024 (length (all_sections d.lines)) ≡ false
    → nat_lt 65536 (point_count (all_sections d.lines)) ≡ false → KeepsDrawingLimits (record d { lines = all_sections d.lines })
keeps_joined keep have d keeps few short = record {
  label = keeps.label;
  one_word = keeps.one_word;
  step_from = keeps.step_from;
  step_to = keeps.step_to;
  blocks_from = keeps.blocks_from;
  blocks_to = keeps.blocks_to;
  threads = keeps.threads;
  used = λ block there. used_flat (line_sections d.lines) (λ (l : LineValue). IsLine l.points) block
      (has_section keep d.lines) d.lines keeps.lines (keeps.used block there);
  there = all_flat (line_sections d.lines) (λ (l : LineValue). l.block < length d.threads)
      (λ (l : LineValue). l.block < length d.threads)
      (λ line below. All-weaker (λ (l : LineValue). l.block ≡ line.block) (λ (l : LineValue). l.block < length d.threads)
      (λ l is. omega (arith, is, below)) (line_sections d.lines line) (in_block d.lines line)) d.lines keeps.there;
  ordered = ordered_of (all_sections d.lines)
      (rises_flat (line_sections d.lines) (in_block d.lines) d.lines (rises_of d.lines keeps.ordered));
  lines = all_flat (line_sections d.lines) (λ (l : LineValue). IsLine l.points) (λ (l : LineValue). IsLine l.points)
      (λ line able. All-map (λ (l : LineValue). IsLine l.points) (line_of line.block)
      (sections_of (is_shared_point d.lines line.block) line.points)
      (sections_sew keep have (is_shared_point d.lines line.block) line.points able)) d.lines keeps.lines;
  line_count = grind (arith, nat_tests, few);
  point_count = grind (arith, nat_tests, short);
  cost = omega (arith, cost_kept keep d.step d.lines, keeps.cost);
}

-- lines that are whole are their own sections, since each has a point
joined_same : WholeLinesStay → (lines : List LineValue) → All (λ (line : LineValue). IsLine line.points) lines
    → are_whole_lines lines ≡ true → all_sections lines ≡ lines
joined_same stay lines able =
    stay lines (All-weaker (λ (line : LineValue). IsLine line.points) (λ (line : LineValue). 1 ≤ length line.points)
    (λ line is. omega (arith, is.long)) lines able)

-- and so a drawing that is joined stays as it is
pub joined_stay : WholeLinesStay → JoinedDrawingsStay
joined_stay stay d keeps joined = grind (arith, nat_tests, joined_same stay d.lines keeps.lines joined)

-- so all is kept
pub all_kept : SectionsKeepSegments → SectionsHaveSegments → WholeLinesStay → (d : DrawingValue) (lines sections slice : List LineValue)
    → KeepsDrawingLimits d → HasValidEnds d → lines ≡ d.lines → sections ≡ all_sections lines → slice ≡ sections → length sections ≤ 1024
    → nat_lt 65536 (point_count slice) ≡ false → IsValidDrawing (record d { lines = sections })
all_kept keep have stay d lines sections slice keeps ends same are slice_is few short = record {
  limits = grind (arith, nat_tests, keeps_joined);
  ends = grind (arith, nat_tests, joined_same);
}
