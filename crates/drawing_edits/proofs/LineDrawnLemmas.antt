-- Lines within the limits of a drawing are drawn again as they are.
use Rattle.std.proofs.Common.{◌≡◌, ℕ, zero, suc, ◌+◌, ◌-◌, ◌<◌, ◌≤◌, ◌==◌, Bool, true, false, ◌||◌, nat_lt, List, [], ◌∷◌, ◌++◌, length, map, Result, Ok, All, Contains, if◌then◌else◌, refl, ap, sym, subst, ◌∙◌, arith, append_assoc, append-nil}
use Rattle.std.proofs.lemmas.List.Folds.{list_any-append}
use Rattle.drawing_edits.proofs.Names.{Decides-eqb, nat_tests, length-append, All-head, All-tail, list_any, LineValue, DrawKind, MAX_BLOCKS, MAX_LINES, MAX_POINTS, DrawingValue, IsLine, and_then, block_added, empty_drawing, finished_drawing, is_last_empty, point_count, with_new_block, with_new_line, line_added_if, with_blocks, with_lines_of, or_left, or_right, list_all-from_AllPass, sum_by-append, sum_by-cons, is_point_within, MAX_COST, all_in_needle_range, has_repeated_point, line_added, step_count, LinesWithinLimitsAreDrawn, none_repeats}
use Rattle.line_graph.specs.Needles.{steps_of_line}
use Rattle.drawing_edits.proofs.BlockGroupLemmas.{grouped, in_block, in_order, rise_all}

-- A drawing has room for more lines that can be sewn.
record HasRoom (d : DrawingValue) (more : List LineValue) : Type 0 where
  line_count : length (d.lines ++ more) ≤ MAX_LINES
  point_count : point_count (d.lines ++ more) ≤ MAX_POINTS
  cost : step_count d.step (d.lines ++ more) ≤ MAX_COST
  lines : All (λ line. IsLine line.points) more

-- A line that there is room for is added.
line_comes : (d : DrawingValue) (line : LineValue) (more : List LineValue) → 1 ≤ length d.threads → HasRoom d (line ∷ more)
    → line_added d line.points ≡ Ok (with_new_line d line.points)
line_comes d line more some room =
    let sewn : IsLine line.points = All-head (λ (l : LineValue). IsLine l.points) line more room.lines in
    let points_are = sum_by-append (λ (l : LineValue). length l.points) d.lines (line ∷ more) in
    let points_then = sum_by-cons (λ (l : LineValue). length l.points) line more in
    let steps_are = sum_by-append (λ (l : LineValue). steps_of_line d.step l.points) d.lines (line ∷ more) in
    let steps_then = sum_by-cons (λ (l : LineValue). steps_of_line d.step l.points) line more in
    let lines_are = length-append d.lines (line ∷ more) in
    let below : length d.lines < 1024 = omega (arith, lines_are, room.line_count) in
    let few : point_count d.lines + length line.points ≤ 65536 = omega (arith, points_are, points_then, room.point_count) in
    let cheap : step_count d.step d.lines + steps_of_line d.step line.points ≤ 200000 =
    omega (arith, steps_are, steps_then, room.cost) in
    let blocks : (length d.threads == 0) ≡ false = grind (arith, nat_tests, some) in
    let near : all_in_needle_range line.points ≡ true = list_all-from_AllPass (is_point_within 30000) line.points sewn.in_range in
    let long : nat_lt (length line.points) 2 ≡ false = grind (arith, nat_tests, sewn.long) in
    let moving : has_repeated_point line.points ≡ false = none_repeats line.points sewn.moving in
    let place : (length d.lines == 1024) ≡ false = grind (arith, nat_tests, below) in
    let points_fit : nat_lt 65536 (point_count d.lines + length line.points) ≡ false = grind (arith, nat_tests, few) in
    let steps_fit : nat_lt 200000 (step_count d.step d.lines + steps_of_line d.step line.points) ≡ false =
    grind (arith, nat_tests, cheap) in
    rw (blocks, near, long, moving, place, points_fit, steps_fit) refl

-- The same room is seen from after some of the lines.
room_after : (d : DrawingValue) (threads : List ℕ) (some more : List LineValue) → HasRoom d (some ++ more)
    → HasRoom (record d { threads = threads; lines = d.lines ++ some }) more
room_after d threads some more room = record {
  line_count = subst (λ (all : List LineValue). length all ≤ MAX_LINES) (sym (append_assoc d.lines some more)) room.line_count;
  point_count = subst (λ (all : List LineValue). point_count all ≤ MAX_POINTS) (sym (append_assoc d.lines some more)) room.point_count;
  cost = subst (λ (all : List LineValue). step_count d.step all ≤ MAX_COST) (sym (append_assoc d.lines some more)) room.cost;
  lines = rest some room.lines;
}
  where
    rest : (before : List LineValue) → All (λ (l : LineValue). IsLine l.points) (before ++ more)
        → All (λ (l : LineValue). IsLine l.points) more
    rest [] all = all
    rest (line ∷ before) all = rest before (All-tail (λ (l : LineValue). IsLine l.points) line (before ++ more) all)

-- A drawing with more lines.
abbrev with_more : DrawingValue → List LineValue → DrawingValue
with_more d lines = record d { lines = d.lines ++ lines }

-- A line of the last block is the line that is added.
own_line : (block : ℕ) (d : DrawingValue) (line : LineValue) → length d.threads ≡ block + 1 → (line.block == block) ≡ true
    → with_new_line d line.points ≡ with_more d (line ∷ [])
own_line block d line h1 h2 = grind (arith, nat_tests)

lines_if : (block : ℕ) (d : DrawingValue) (line : LineValue) (rest after : List LineValue) → length d.threads ≡ block + 1 → (b : Bool)
    → (line.block == block) ≡ b → HasRoom d ((if b then line ∷ in_block block rest else in_block block rest) ++ after)
    → ((next : DrawingValue) → length next.threads ≡ block + 1 → HasRoom next (in_block block rest ++ after) → with_lines_of block next rest
    ≡ Ok (with_more next (in_block block rest)))
    → and_then (line_added_if b d line.points) (λ next. with_lines_of block next rest)
    ≡ Ok (with_more d (if b then line ∷ in_block block rest else in_block block rest))
lines_if block d line rest after last true same room later =
    ap (λ (r : Result DrawingValue DrawKind). and_then r (λ (next : DrawingValue). with_lines_of block next rest))
    (line_comes d line (in_block block rest ++ after) (omega (arith, last)) room
    ∙ ap (λ (new : DrawingValue). Ok new) (own_line block d line last same))
    ∙ later (with_more d (line ∷ [])) last (room_after d d.threads (line ∷ []) (in_block block rest ++ after) room)
    ∙ ap (λ (lines : List LineValue). Ok (record d { lines = lines })) (append_assoc d.lines (line ∷ []) (in_block block rest))
lines_if block d line rest after last false same room later = later d last room

-- The lines of a block that there is room for are added.
lines_come : (block : ℕ) (d : DrawingValue) (lines after : List LineValue) → length d.threads ≡ block + 1
    → HasRoom d (in_block block lines ++ after) → with_lines_of block d lines ≡ Ok (with_more d (in_block block lines))
lines_come block d [] after last room =
    ap (λ (lines : List LineValue). Ok (record d { lines = lines })) (sym (append-nil d.lines))
lines_come block d (line ∷ rest) after last room =
    lines_if block d line rest after last (line.block == block) refl room
    (λ next own more. lines_come block next rest after own more)

-- A line of a block is among given lines.
abbrev is_in : ℕ → List LineValue → Bool
is_in block lines = list_any (λ line. line.block == block) lines

kept_in : (block : ℕ) (lines : List LineValue) → is_in block lines ≡ true → is_in block (in_block block lines) ≡ true
kept_in block [] some = some
kept_in block (line ∷ rest) some = by_test (line.block == block) refl some (kept_in block rest)
  where
    by_test : (b : Bool) → (line.block == block) ≡ b → (b || is_in block rest) ≡ true
        → (is_in block rest ≡ true → is_in block (in_block block rest) ≡ true)
        → is_in block (if b then line ∷ in_block block rest else in_block block rest) ≡ true
    by_test true same either later = or_left (line.block == block) (is_in block (in_block block rest)) same
    by_test false same either later = later either

block_comes : (d : DrawingValue) (thread : ℕ) → is_last_empty d ≡ false → length d.threads < MAX_BLOCKS
    → block_added d thread ≡ Ok (with_new_block d thread)
block_comes d thread h1 h2 = grind (arith, nat_tests)

-- A drawing with more blocks and lines.
abbrev grown : DrawingValue → List ℕ → List LineValue → DrawingValue
grown d threads lines = record d { threads = d.threads ++ threads; lines = d.lines ++ lines }

-- Blocks that there is room for are added with their lines, where each has a line.
blocks_come : (threads : List ℕ) (block : ℕ) (d : DrawingValue) (lines : List LineValue) → length d.threads ≡ block
    → is_last_empty d ≡ false → block + length threads ≤ MAX_BLOCKS
    → ((n : ℕ) → block ≤ n → n < block + length threads → is_in n lines ≡ true) → HasRoom d (grouped block threads lines)
    → (with_blocks d block threads lines ≡ Ok (grown d threads (grouped block threads lines)))
    × (is_last_empty (grown d threads (grouped block threads lines)) ≡ false)
blocks_come [] block d lines last filled few used room =
    let stays : grown d [] [] ≡ d =
    ap (λ (threads : List ℕ). record d { threads = threads; lines = d.lines ++ [] }) (append-nil d.threads)
    ∙ ap (λ (some : List LineValue). record d { lines = some }) (append-nil d.lines) in
    (ap (λ (new : DrawingValue). Ok new) (sym stays), ap is_last_empty stays ∙ filled)
blocks_come (thread ∷ rest) block d lines last filled few used room =
    let opened : DrawingValue = with_new_block d thread in
    let own : length opened.threads ≡ block + 1 = omega (arith, last, length-append d.threads (thread ∷ [])) in
    let after : List LineValue = grouped (block + 1) rest lines in
    let next : DrawingValue = with_more opened (in_block block lines) in
    let there : is_in block next.lines ≡ true =
    list_any-append (λ (line : LineValue). line.block == block) d.lines (in_block block lines)
    ∙ or_right (is_in block d.lines) (is_in block (in_block block lines))
    (kept_in block lines (used block (omega arith) (omega arith))) in
    let later = blocks_come rest (block + 1) next lines own (grind (arith, nat_tests)) (omega (arith, few))
    (λ n low high. used n (omega (arith, low)) (omega (arith, high)))
    (room_after d opened.threads (in_block block lines) after room) in
    let same : grown next rest after ≡ grown d (thread ∷ rest) (in_block block lines ++ after) =
    ap (λ (threads : List ℕ). record d { threads = threads; lines = (d.lines ++ in_block block lines) ++ after })
    (append_assoc d.threads (thread ∷ []) rest)
    ∙ ap (λ (some : List LineValue). record d { threads = d.threads ++ thread ∷ rest; lines = some })
    (append_assoc d.lines (in_block block lines) after) in
    let first : block_added d thread ≡ Ok opened = block_comes d thread filled (omega (arith, last, few)) in
    let filling : with_lines_of block opened lines ≡ Ok next =
    lines_come block opened lines after own (record {
      line_count = room.line_count;
      point_count = room.point_count;
      cost = room.cost;
      lines = room.lines;
    }) in (
      ap (λ (r : Result DrawingValue DrawKind). and_then (and_then r (λ (o : DrawingValue). with_lines_of block o lines))
          (λ (n : DrawingValue). with_blocks n (block + 1) rest lines)) first
          ∙ ap (λ (r : Result DrawingValue DrawKind). and_then r (λ (n : DrawingValue). with_blocks n (block + 1) rest lines)) filling
          ∙ later.0 ∙ ap (λ (new : DrawingValue). Ok new) same,
      ap is_last_empty (sym same) ∙ later.1,
    )

finished : (d : DrawingValue) → 1 ≤ length d.threads → is_last_empty d ≡ false → finished_drawing d ≡ Ok d
finished d h1 h2 = grind (arith, nat_tests)

-- Each block of a valid drawing has a line.
found_in : (block : ℕ) (lines : List LineValue) → Contains (map (λ (line : LineValue). line.block) lines) block → is_in block lines ≡ true
found_in block [] has = absurd (omega (arith, has.1))
found_in block (line ∷ rest) (zero, low, is) =
    or_left (line.block == block) (is_in block rest) ((Decides-eqb line.block block).1 is)
found_in block (line ∷ rest) (suc k, low, is) =
    or_right (line.block == block) (is_in block rest) (found_in block rest (k, omega (arith, low), is))

-- Lines within the limits are drawn again as they are.
pub lines_drawn : LinesWithinLimitsAreDrawn
lines_drawn d keeps =
    let all : grouped 0 d.threads d.lines ≡ d.lines =
    in_order d.threads 0 d.lines (rise_all (length d.threads) d.lines keeps.ordered keeps.there) in
    let empty : DrawingValue = empty_drawing d.label d.step in
    let room : HasRoom empty (grouped 0 d.threads d.lines) = subst (HasRoom empty) (sym all) (record {
      line_count = keeps.line_count;
      point_count = keeps.point_count;
      cost = keeps.cost;
      lines = keeps.lines;
    }) in
    let made = blocks_come d.threads 0 empty d.lines refl refl (omega (arith, keeps.blocks_to))
    (λ n low high. found_in n d.lines (keeps.used n (omega (arith, high)))) room in
    ap (λ (r : Result DrawingValue DrawKind). and_then r finished_drawing) made.0
    ∙ finished (grown empty d.threads (grouped 0 d.threads d.lines)) keeps.blocks_from made.1
    ∙ ap (λ (lines : List LineValue). Ok (record d { lines = lines; starts = []; ends = [] })) all
