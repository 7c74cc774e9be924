-- Drawings that grow keep their limits.
use Rattle.std.proofs.Common.{◌≡◌, ◌≢◌, ℕ, ◌+◌, ◌-◌, ◌<◌, ◌≤◌, ◌==◌, Bool, true, false, nat_le, nat_lt, List, [], ◌∷◌, ◌++◌, Result, Ok, Err, length, map, get_or, All, Contains, sym, subst, ◌∙◌, refl, arith, length-append, eq-eqb, if◌then◌else◌}
use Rattle.std.proofs.lemmas.List.Sorted.{IsNonDecreasingBy-push}
use Rattle.line_graph.proofs.DrawingNames.{or_parts, nat_tests, map-append, All-head, All-map, All-nil, All-push, All-weaker, Contains-append_left, Contains-append_right, list_any_none, sum_by-append, is_ascii_graphic, list_all, list_any, IsNonDecreasing, Point, is_same_point, IsNeedlePoint, HasNoRepeatAfter, LineValue, DrawKind, DrawingValue, HasNoRepeat, IsLine, KeepsDrawingLimits, all_in_needle_range, has_repeated_point, is_last_empty, is_used, point_count, repeats_after, step_count, steps_with_line, with_new_block, with_new_line, IsMakerState, steps_of_line, IsValidDrawing, and_parts, or_right, All-get_or, list_any-append, AllPass-from_list_all, get_or_from_slice_get, slice_get_within, is_point_within, is_drawing_label, AreBlocks}
use Rattle.design_model.specs.Labels.{IsLabel, IsPrintable}
use Rattle.line_graph.specs.declared.draw_kind.DrawKind.TheVariants as kind
use Rattle.line_graph.proofs.DrawingLemmas.{last_by, same_found}

-- where no repeat is found, none is there
keeps_moving : (p : Point) (rest : List Point) → repeats_after p rest ≡ false → HasNoRepeatAfter p rest
keeps_moving p [] none = tt
keeps_moving p (q ∷ rest) none =
    grind (arith, nat_tests, or_parts (is_same_point p q) (repeats_after q rest) none, same_found p q, keeps_moving q rest)

pub no_repeat : (points : List Point) → has_repeated_point points ≡ false → HasNoRepeat points
no_repeat [] none = tt
no_repeat (p ∷ rest) none = keeps_moving p rest none

-- where all points are found in range, needles may go down at them
pub all_in_range : (points : List Point) → all_in_needle_range points ≡ true → All IsNeedlePoint points
all_in_range points test = AllPass-from_list_all (is_point_within 30000) points test

pub line_of : (points : List Point) → 2 ≤ length points → has_repeated_point points ≡ false → All IsNeedlePoint points → IsLine points
line_of points long none in_range = record { long = long; moving = no_repeat points none; in_range = in_range }

-- a byte of a label
record IsInk (byte : ℕ) : Type 0 where
  from : 33 ≤ byte
  to : byte ≤ 126

ink : (byte : ℕ) → is_ascii_graphic byte ≡ true → IsInk byte
ink byte test = record { from = grind (arith, nat_tests); to = grind (arith, nat_tests) }

all_ink : (word : List ℕ) → list_all is_ascii_graphic word ≡ true → All IsInk word
all_ink word test =
    All-weaker (λ byte. is_ascii_graphic byte ≡ true) IsInk ink word (AllPass-from_list_all is_ascii_graphic word test)

label_of : (word : List ℕ) → is_drawing_label word ≡ true → IsLabel word × All (λ byte. byte ≢ 32) word
label_of word test =
    let both = and_parts (nat_le (length word) 16) (list_all is_ascii_graphic word) test in
    let inked = all_ink word both.1 in
    let other : All (λ byte. byte ≢ 32) word =
    All-weaker IsInk (λ byte. byte ≢ 32) (λ byte has same. absurd (omega (arith, has.from))) word inked in (
      record {
        short = grind (arith, nat_tests, both.0);
        printable = All-weaker IsInk IsPrintable
            (λ byte has. record { from_space = omega (arith, has.from); to_tilde = has.to }) word inked;
        trimmed = λ last.
            let at = get_or_from_slice_get word (length word - 1) 32 32 last in
            other (length word - 1) 32 (slice_get_within word (length word - 1) 32 last) at;
      },
      other,
    )

-- with another label
pub label_set : (d : DrawingValue) (word : List ℕ) (empty : Bool) (points steps : ℕ) → IsMakerState d empty points steps
    → is_drawing_label word ≡ true → IsMakerState (record d { label = word }) empty points steps
label_set d word empty points steps made test = grind (arith, nat_tests, label_of word test)

-- before any block there are no lines
no_lines : (threads : List ℕ) (lines : List LineValue) → All (λ line. line.block < length threads) lines → length threads ≡ 0 → lines ≡ []
no_lines threads [] there none = refl
no_lines threads (line ∷ rest) there none = grind (arith, nat_tests, All-head (λ l. l.block < length threads) line rest there)

-- and another step may be set
pub step_set : (d : DrawingValue) (step : ℕ) (empty : Bool) (points steps : ℕ) → IsMakerState d empty points steps
    → 1 ≤ step → step ≤ 2047 → length d.threads ≡ 0 → IsMakerState (record d { step = step }) empty points steps
step_set d step empty points steps made low high none = grind (arith, nat_tests, no_lines d.threads d.lines made.blocks.there none)

-- a block that a line is found in has a line
used_by : (found : Bool) (block : ℕ) (line : LineValue) (lines : List LineValue) → (line.block == block) ≡ found
    → (list_any (λ l. l.block == block) lines ≡ true → Contains (map (λ l. l.block) lines) block)
    → list_any (λ l. l.block == block) (line ∷ lines) ≡ true → Contains (map (λ l. l.block) (line ∷ lines)) block
used_by true block line lines test later some = grind (arith, nat_tests)
used_by false block line lines test later some =
    grind (arith, nat_tests, Contains-append_right (line.block ∷ []) (map (λ (l : LineValue). l.block) lines) block)

used_there : (block : ℕ) (lines : List LineValue) → list_any (λ l. l.block == block) lines ≡ true
    → Contains (map (λ l. l.block) lines) block
used_there block [] some = absurd cc
used_there block (line ∷ lines) some =
    used_by (line.block == block) block line lines refl (used_there block lines) some

-- no line is in a block that isn't there
unused : (block : ℕ) (lines : List LineValue) → All (λ line. line.block < block) lines → list_any (λ l. l.block == block) lines ≡ false
unused block lines there = list_any_none (λ (l : LineValue). l.block == block) lines
    (All-weaker (λ (l : LineValue). l.block < block) (λ (l : LineValue). (l.block == block) ≡ false)
    (λ (l : LineValue) (below : l.block < block). grind (arith, nat_tests)) lines there)

-- where the last block isn't empty, each block has a line
last_used : (d : DrawingValue) (block : ℕ) (used : Bool) → length d.threads ≡ block + 1 → is_used d block ≡ used
    → is_last_empty d ≡ false → used ≡ true
last_used d block true count is filled = refl
last_used d block false count is filled = grind (arith, nat_tests, last_by d block false count is)

used_at : (d : DrawingValue) (block : ℕ) (last : Bool) → AreBlocks d.threads d.lines → is_last_empty d ≡ false → block < length d.threads
    → (block + 1 == length d.threads) ≡ last → Contains (map (λ line. line.block) d.lines) block
used_at d block true blocks filled there test =
    used_there block d.lines
    (last_used d block (is_used d block) (grind (arith, nat_tests, test)) refl filled)
used_at d block false blocks filled there test = blocks.used block (grind (arith, nat_tests, test))

used_all : (d : DrawingValue) → AreBlocks d.threads d.lines → is_last_empty d ≡ false → (block : ℕ)
    → block < length d.threads → Contains (map (λ line. line.block) d.lines) block
used_all d blocks filled block there = grind (arith, nat_tests, used_at d block (block + 1 == length d.threads) blocks filled there refl)

-- with one block more
pub block_put : (d : DrawingValue) (thread points steps : ℕ) → IsMakerState d false points steps → thread < 256
    → length d.threads ≢ 255 → IsMakerState (with_new_block d thread) true points steps
block_put d thread points steps made fits few =
    let longer = length-append d.threads (thread ∷ []) in
    record {
      head = made.head;
      blocks = record {
        blocks_to = omega (arith, longer, made.blocks.blocks_to);
        in_range = All-push (λ t. t < 256) d.threads thread made.blocks.in_range fits;
        used = λ block below. used_all d made.blocks (sym made.last_is) block (omega (arith, longer, below));
        there = All-weaker (λ (l : LineValue). l.block < length d.threads)
            (λ (l : LineValue). l.block < length (d.threads ++ thread ∷ []))
            (λ l below. omega (arith, longer)) d.lines made.blocks.there;
        ordered = made.blocks.ordered;
      };
      lines = made.lines;
      no_ends = record { starts = made.no_ends.starts; ends = made.no_ends.ends };
      last_is = sym (last_by (with_new_block d thread) (length d.threads) false longer
          (unused (length d.threads) d.lines made.blocks.there));
      points_are = made.points_are;
      steps_are = made.steps_are;
    }

-- a line at the end is in its block
found_last : (lines : List LineValue) (line : LineValue) → list_any (λ l. l.block == line.block) (lines ++ line ∷ []) ≡ true
found_last lines line =
    let here : (line.block == line.block) ≡ true = eq-eqb line.block line.block refl in
    list_any-append (λ (l : LineValue). l.block == line.block) lines (line ∷ [])
    ∙ or_right (list_any (λ (l : LineValue). l.block == line.block) lines) _ (rw here refl)

-- each line is in a block that is there
below_last : (lines : List LineValue) (count e : ℕ) → All (λ line. line.block < count) lines
    → 0 < length (map (λ (l : LineValue). l.block) lines)
    → get_or (map (λ (l : LineValue). l.block) lines) (length (map (λ (l : LineValue). l.block) lines) - 1) e ≤ count - 1
below_last lines count e there some =
    grind (arith, nat_tests, All-get_or (λ (n : ℕ). n < count), All-map (λ (n : ℕ). n < count) (λ (l : LineValue). l.block) lines there)

-- the results of the tests of a line that may be added
pub record MayCome (d : DrawingValue) (points : List Point) (steps : ℕ) : Type 0 where
  pub line : IsLine points
  pub room : length d.lines ≢ 1024
  pub few : point_count d.lines + length points ≤ 65536
  pub steps_are : steps ≡ step_count d.step d.lines + steps_of_line d.step points
  pub cost : steps ≤ 200000

-- a test that refuses nothing came out false
passed : (test : Bool) (why : DrawKind) (rest : Result ℕ DrawKind) (steps : ℕ)
    → (if test then Err why else rest) ≡ Ok steps → (test ≡ false) × (rest ≡ Ok steps)
passed true why rest steps is = absurd cc
passed false why rest steps is = (refl, is)

pub may_come : (d : DrawingValue) (points : List Point) (steps : ℕ) → All IsNeedlePoint points
    → steps_with_line d points ≡ Ok steps → MayCome d points steps
may_come d points steps in_range is =
    let long = passed (nat_lt (length points) 2) kind.FewPoints _ steps is in
    let moving = passed (has_repeated_point points) kind.RepeatedPoint _ steps long.1 in
    let room = passed (length d.lines == 1024) kind.TooManyLines _ steps moving.1 in
    let few = passed (nat_lt 65536 (point_count d.lines + length points)) kind.TooManyPoints _ steps room.1 in
    let cost = passed (nat_lt 200000 (step_count d.step d.lines + steps_of_line d.step points)) kind.TooMuchCost _ steps few.1 in
    let same : step_count d.step d.lines + steps_of_line d.step points ≡ steps = cc (cost.1) in
    record {
      line = line_of points (grind (arith, nat_tests, long.0)) moving.0 in_range;
      room = grind (arith, nat_tests, room.0);
      few = grind (arith, nat_tests, few.0);
      steps_are = sym same;
      cost = grind (arith, nat_tests, cost.0, same);
    }

-- with one line more
pub line_put : (d : DrawingValue) (line : List Point) (empty : Bool) (points steps more : ℕ) → IsMakerState d empty points steps
    → 1 ≤ length d.threads → MayCome d line more → IsMakerState (with_new_line d line) false (points + length line) more
line_put d points empty count steps more made some comes =
    let line : LineValue = record { block = length d.threads - 1; points = points } in
    let last : length d.threads ≡ line.block + 1 = omega arith in
    let blocks = map-append (λ (l : LineValue). l.block) d.lines (line ∷ []) in
    let Ordered : List ℕ → Type 0 = λ numbers. IsNonDecreasing numbers in
    let lines_are = length-append d.lines (line ∷ []) in
    let points_are = sum_by-append (λ (l : LineValue). length l.points) d.lines (line ∷ []) in
    let steps_are = sum_by-append (λ (l : LineValue). steps_of_line d.step l.points) d.lines (line ∷ []) in
    record {
      head = made.head;
      blocks = record {
        blocks_to = made.blocks.blocks_to;
        in_range = made.blocks.in_range;
        used = λ block below. rw blocks
            (Contains-append_left (map (λ (l : LineValue). l.block) d.lines) (line.block ∷ []) block
            (made.blocks.used block below));
        there = All-push (λ (l : LineValue). l.block < length d.threads) d.lines line made.blocks.there
            (omega (arith, last));
        ordered = subst Ordered (sym blocks)
            (IsNonDecreasingBy-push (λ (n : ℕ). n) (map (λ (l : LineValue). l.block) d.lines) line.block
            made.blocks.ordered (λ e there. below_last d.lines (length d.threads) e made.blocks.there there));
      };
      lines = record {
        each = All-push (λ (l : LineValue). IsLine l.points) d.lines line made.lines.each comes.line;
        line_count = omega (arith, lines_are, comes.room, made.lines.line_count);
        points_to = omega (arith, points_are, comes.few);
        cost = omega (arith, steps_are, comes.steps_are, comes.cost);
      };
      no_ends = record { starts = made.no_ends.starts; ends = made.no_ends.ends };
      last_is = sym (last_by (with_new_line d points) line.block true last (found_last d.lines line));
      points_are = omega (arith, points_are, made.points_are);
      steps_are = omega (arith, steps_are, comes.steps_are);
    }

-- at its end
drawn : (d : DrawingValue) (points steps : ℕ) → IsMakerState d false points steps → length d.threads ≢ 0 → KeepsDrawingLimits d
drawn d points steps made some = grind (arith, nat_tests, used_all d made.blocks (sym made.last_is))

-- at its end it is a drawing
pub drawn_all : (d : DrawingValue) (points steps : ℕ) → IsMakerState d false points steps → length d.threads ≢ 0 → IsValidDrawing d
drawn_all d points steps made some = record {
  limits = drawn d points steps made some;
  ends =
      grind (arith, nat_tests, All-nil, made.no_ends);
}
