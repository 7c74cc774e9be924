-- A canonical text is read line by line: what its draft means at the end is what the text means.
use Rattle.std.proofs.Common.{◌≡◌, ◌≢◌, ℕ, zero, suc, ◌+◌, ◌-◌, ◌<◌, ◌≤◌, ◌==◌, Bool, true, false, not, nat_lt, List, [], ◌∷◌, ◌++◌, Result, Ok, length, map, codes, sum_by, All, ap, sym, subst, ◌∙◌, refl, append_assoc, append-nil, length-append, arith}
use Rattle.std.proofs.lemmas.List.Filters.{length-filter_both, sum_by-filter_both}
use Rattle.drawing_text.proofs.Names.{nat_tests, flat_map-cons, All-head, All-tail, All-weaker, decimal, flat_map, list_any, IsLabel, Spot, LineValue, DrawingValue, IsLine, KeepsDrawingLimits, finished_drawing, is_last_empty, point_count, step_count, with_new_block, with_new_line, steps_of_line, DrawingDraft, DrawFault, Version, WalkEnd, label_text, line_text, lines_of_block, number_line_text, points_text, blocks_text3, end_lines_text, default_drawing, empty_draft, words_by_line, All-filter, filter_passes, sum_by-append, sum_by-cons, block_text3, last_by}
use Rattle.drawing_text.proofs.PrintedBlocks.{all_below, found_used, items_in, last_found, lines_below, next_lines, none_first}
use Rattle.drawing_text.proofs.PrintedEnds.{IsNamable, ReadsOn, end_at, ends_read, unnumbered}
use Rattle.drawing_text.proofs.PrintedLines.{HasRoom, after_text, color_says, coordinates, coordinates_are, draft_of, is_color, is_line, is_name, is_step, label_word, line_judged, line_says, name_says, points_spelled, step_says}
use Rattle.drawing_text.proofs.PrintedNumbers.{decimal_word}
use Rattle.drawing_text.proofs.PrintedWords.{tail_of}
use Rattle.drawing_text.proofs.WordLemmas.{filled}

-- the drawing has room for n more lines in the last block
record MayFollow (d : DrawingValue) (lines : List LineValue) : Type 0 where
  block : 1 ≤ length d.threads
  inside : All (λ line. line.block ≡ length d.threads - 1) lines
  able : All (λ line. IsLine line.points) lines
  count : length d.lines + length lines ≤ 1024
  points_to : point_count d.lines + point_count lines ≤ 65536
  steps_to : step_count d.step d.lines + step_count d.step lines ≤ 200000

-- the drawing with these lines
abbrev with_lines : DrawingValue → List LineValue → DrawingValue
with_lines d lines = record d { lines = d.lines ++ lines }

-- the first of them may come, and then the others
first_room : (d : DrawingValue) (line : LineValue) (lines : List LineValue) → MayFollow d (line ∷ lines) → HasRoom d line.points
first_room d line lines may = record {
  block = may.block;
  lines = omega (arith, may.count);
  points_to = omega (arith, may.points_to, sum_by-cons (λ (l : LineValue). length l.points) line lines);
  steps_to = omega (arith, may.steps_to, sum_by-cons (λ (l : LineValue). steps_of_line d.step l.points) line lines);
}

others_follow : (d : DrawingValue) (line : LineValue) (lines : List LineValue) → MayFollow d (line ∷ lines)
    → MayFollow (with_lines d (line ∷ [])) lines
others_follow d line lines may = record {
  block = may.block;
  inside = All-tail (λ (l : LineValue). l.block ≡ length d.threads - 1) line lines may.inside;
  able = All-tail (λ (l : LineValue). IsLine l.points) line lines may.able;
  count = omega (arith, may.count, length-append d.lines (line ∷ []));
  points_to = omega (
    arith,
    may.points_to,
    sum_by-cons (λ (l : LineValue). length l.points) line lines,
    sum_by-append (λ (l : LineValue). length l.points) d.lines (line ∷ []),
  );
  steps_to = omega (
    arith,
    may.steps_to,
    sum_by-cons (λ (l : LineValue). steps_of_line d.step l.points) line lines,
    sum_by-append (λ (l : LineValue). steps_of_line d.step l.points) d.lines (line ∷ []),
  );
}

-- the line of a block that is the last is put there
same_line : (d : DrawingValue) (line : LineValue) → line.block ≡ length d.threads - 1
    → with_new_line d line.points ≡ with_lines d (line ∷ [])
same_line d line is = ap (λ (block : ℕ). with_lines d (record { block = block; points = line.points } ∷ [])) (sym is)

-- a drawing with other starts and ends
abbrev pub ended : DrawingValue → (starts ends : List Spot) → DrawingValue
ended d starts ends = record d { starts = starts; ends = ends }

-- printed lines are read, and then what follows them
lines_read : {A : Type 0} (close : ℕ → DrawingDraft → Result A DrawFault) (version : Version) (target : Result A DrawFault)
    (so_far : DrawingValue) (found : List WalkEnd) (lines : List LineValue) (rest : List ℕ) → MayFollow so_far lines
    → ReadsOn close version target (with_lines so_far lines) found rest
    → ReadsOn close version target so_far found (flat_map line_text lines ++ rest)
lines_read close version target so_far found [] rest may on number opened named ends are =
    let same : with_lines so_far [] ≡ so_far = ap (λ (lines : List LineValue). record so_far { lines = lines }) (append-nil so_far.lines) in
    let Reads : DrawingValue → Type 0 = λ e. ReadsOn close version target e found rest in
    subst Reads same on number opened named ends are
lines_read close version target so_far found (line ∷ lines) rest may on number opened named ends are =
    let one : DrawingValue = with_lines so_far (line ∷ []) in
    let able : IsLine line.points = All-head (λ (l : LineValue). IsLine l.points) line lines may.able in
    let inside : line.block ≡ length so_far.threads - 1 =
    All-head (λ (l : LineValue). l.block ≡ length so_far.threads - 1) line lines may.inside in
    let more : with_lines one lines ≡ with_lines so_far (line ∷ lines) =
    ap (λ (all : List LineValue). record so_far { lines = all }) (append_assoc so_far.lines (line ∷ []) lines) in
    let Reads : DrawingValue → Type 0 = λ e. ReadsOn close version target e found rest in
    let next : ReadsOn close version target one found (flat_map line_text lines ++ rest) =
    lines_read close version target one found lines rest (others_follow so_far line lines may) (subst Reads (sym more) on) in
    let says = line_says version number opened named ends so_far line.points able (first_room so_far line lines may)
    ∙ ap (λ (e : DrawingValue). Ok (draft_of ends named opened e)) (same_line so_far line inside) in
    let text : flat_map line_text (line ∷ lines) ++ rest
    ≡ codes "line" ++ (tail_of (coordinates line.points) ++ (flat_map line_text lines ++ rest)) =
    ap (λ (all : List ℕ). all ++ rest) (flat_map-cons line_text line lines)
    ∙ (append_assoc (line_text line) (flat_map line_text lines) rest
    ∙ (append_assoc (codes "line") (points_text line.points) (flat_map line_text lines ++ rest)
    ∙ ap (λ (tail : List ℕ). codes "line" ++ (tail ++ (flat_map line_text lines ++ rest))) (points_spelled line.points))) in
    ap (λ (all : List ℕ). after_text close version number (draft_of ends named opened so_far) (words_by_line all)) text
    ∙ (line_judged close version number (draft_of ends named opened so_far) (draft_of ends named opened one) (codes "line")
    (coordinates line.points)
    (flat_map line_text lines ++ rest) is_line (coordinates_are line.points able.in_range) says
    ∙ next (number + 1) opened named ends are)

-- the drawing before its block of that index
abbrev so_far : DrawingValue → List ℕ → ℕ → DrawingValue
so_far d before block = record {
  label = d.label;
  step = d.step;
  threads = before;
  lines = lines_below block d.lines;
  starts = [];
  ends = [];
}

-- the starts or ends of a block
abbrev spots_of : ℕ → List Spot → List Spot
spots_of block spots = items_in (λ spot. spot.block) block spots

-- what passes a filter passes its test
passes : (block : ℕ) (lines : List LineValue) → All (λ line. line.block ≡ block) (lines_of_block block lines)
passes block lines = All-weaker (λ (l : LineValue). (l.block == block) ≡ true) (λ (l : LineValue). l.block ≡ block)
    (λ l test. grind (arith, nat_tests, test)) (lines_of_block block lines)
    (filter_passes (λ (l : LineValue). l.block == block) lines)

-- what holds of all holds of one in the middle
pub all_middle : {A : Type 0} (P : A → Type 0) (before : List A) (thread : A) (left : List A) → All P (before ++ thread ∷ left) → P thread
all_middle P [] thread left all = All-head P thread left all
all_middle P (x ∷ before) thread left all =
    all_middle P before thread left (All-tail P x (before ++ thread ∷ left) all)

-- the last block of a drawing has a line
last_filled : (d : DrawingValue) → KeepsDrawingLimits d → is_last_empty d ≡ false
last_filled d keeps = last_by d (length d.threads - 1) true (omega (arith, keeps.blocks_from))
    (found_used d.lines (length d.threads - 1) (keeps.used (length d.threads - 1) (omega (arith, keeps.blocks_from))))

-- the drawing without starts and ends is complete
pub finished_whole : (d : DrawingValue) → KeepsDrawingLimits d → finished_drawing (ended d [] []) ≡ Ok (ended d [] [])
finished_whole d keeps = grind (arith, nat_tests, last_filled d keeps)

-- the starts and ends that the text of a block names
abbrev pub found_in : ℕ → (starts ends : List Spot) → List WalkEnd
found_in block starts ends = map (end_at true) (spots_of block starts) ++ map (end_at false) (spots_of block ends)

-- those that the text of blocks names, from the given block on
abbrev pub found_from : ℕ → List ℕ → (starts ends : List Spot) → List WalkEnd
found_from block [] starts ends = []
found_from block (thread ∷ rest) starts ends = found_in block starts ends ++ found_from (block + 1) rest starts ends

-- a draft of the drawing with these starts and ends means the target
abbrev pub Means : {A : Type 0} → (ℕ → DrawingDraft → Result A DrawFault) → Result A DrawFault → DrawingValue → List WalkEnd → Type 0
Means close target d found = (number opened : ℕ) (named : Bool) (ends : List WalkEnd) → map unnumbered ends ≡ found
    → close number (draft_of ends named opened (ended d [] [])) ≡ target

-- a drawing whose starts and ends the version allows, and whose draft means the target
module _ {A : Type 0} (close : ℕ → DrawingDraft → Result A DrawFault) (version : Version) (target : Result A DrawFault)
    (d : DrawingValue) (starts ends : List Spot) (keeps : KeepsDrawingLimits d) (start_may : All (IsNamable version) starts)
    (end_may : All (IsNamable version) ends) (means : Means close target d (found_from 0 d.threads starts ends)) where
  -- at each block before the last one the block before has a line
  filled_before : (before : List ℕ) (block : ℕ) → length before ≡ block → block < length d.threads
      → is_last_empty (so_far d before block) ≡ false
  filled_before before zero count there =
      let none : (length before == 0) ≡ true = grind (arith, nat_tests, count) in
      rw none refl
  filled_before before (suc block) count there =
      let next : suc block ≡ block + 1 = omega arith in
      let used : list_any (λ (l : LineValue). l.block == block) (lines_below (suc block) d.lines) ≡ true =
      ap (λ (n : ℕ). list_any (λ (l : LineValue). l.block == block) (lines_below n d.lines)) next
      ∙ last_found d block keeps (omega (arith, there)) in
      last_by (so_far d before (suc block)) block true (count ∙ next) used

  -- the lines of the next block may come
  fewer_lines : (block : ℕ) → length (lines_below block d.lines) ≤ length d.lines
  fewer_lines block =
      let test : LineValue → Bool = λ line. nat_lt line.block block in
      omega (arith, length-filter_both test (λ line. not (test line)) (λ line. refl) d.lines)

  fewer_by : (count : LineValue → ℕ) (block : ℕ) → sum_by count (lines_below block d.lines) ≤ sum_by count d.lines
  fewer_by count block =
      let test : LineValue → Bool = λ line. nat_lt line.block block in
      omega (arith, sum_by-filter_both test (λ line. not (test line)) (λ line. refl) count d.lines)

  block_follows : (before : List ℕ) (block thread : ℕ) → length before ≡ block
      → MayFollow (with_new_block (so_far d before block) thread) (lines_of_block block d.lines)
  block_follows before block thread count =
      let longer = length-append before (thread ∷ []) in
      let next = next_lines d block keeps in
      let points : LineValue → ℕ = λ line. length line.points in
      let steps : LineValue → ℕ = λ line. steps_of_line d.step line.points in
      record {
        block = omega (arith, longer);
        inside = All-weaker (λ (l : LineValue). l.block ≡ block) (λ (l : LineValue). l.block ≡ length (before ++ thread ∷ []) - 1)
            (λ l is. omega (arith, is, longer, count)) (lines_of_block block d.lines) (passes block d.lines);
        able = All-filter (λ (l : LineValue). l.block == block) (λ (l : LineValue). IsLine l.points) d.lines keeps.lines;
        count = omega (
          arith,
          ap (λ (lines : List LineValue). length lines) next,
          length-append (lines_below block d.lines) (lines_of_block block d.lines),
          fewer_lines (block + 1),
          keeps.line_count,
        );
        points_to = omega (
          arith,
          ap (sum_by points) next,
          sum_by-append points (lines_below block d.lines) (lines_of_block block d.lines),
          fewer_by points (block + 1),
          keeps.point_count,
        );
        steps_to = omega (
          arith,
          ap (sum_by steps) next,
          sum_by-append steps (lines_below block d.lines) (lines_of_block block d.lines),
          fewer_by steps (block + 1),
          keeps.cost,
        );
      }

  -- after the last block the drawing is complete
  whole : (before : List ℕ) (block : ℕ) → length before ≡ block → before ++ [] ≡ d.threads → so_far d before block ≡ ended d [] []
  whole before block count are =
      let threads : before ≡ d.threads = sym (append-nil before) ∙ are in
      let all : block ≡ length d.threads = sym count ∙ ap (λ (list : List ℕ). length list) threads in
      let Below : ℕ → Type 0 = λ n. All (λ (l : LineValue). l.block < n) d.lines in
      let lines : lines_below block d.lines ≡ d.lines =
      all_below (λ (l : LineValue). l.block) block d.lines (subst Below (sym all) keeps.there) in
      ap (λ (list : List ℕ). so_far d list block) threads
      ∙ ap (λ (list : List LineValue). record d { lines = list; starts = []; ends = [] }) lines

  -- the starts or ends of the next block may come
  spots_follow : (before : List ℕ) (block thread : ℕ) (spots : List Spot) → length before ≡ block
      → All (λ (s : Spot). s.block ≡ length (before ++ thread ∷ []) - 1) (spots_of block spots)
  spots_follow before block thread spots count =
      All-weaker (λ (s : Spot). (s.block == block) ≡ true) (λ (s : Spot). s.block ≡ length (before ++ thread ∷ []) - 1)
      (λ s test. grind (arith, nat_tests, test, length-append before (thread ∷ []), count)) (spots_of block spots)
      (filter_passes (λ (s : Spot). s.block == block) spots)

  -- the text of a block, in parts
  block_parts : (block thread : ℕ) (rest : List ℕ) → block_text3 block thread (ended d starts ends) ++ rest
      ≡ codes "color" ++ (tail_of (decimal thread ∷ []) ++ (flat_map line_text (lines_of_block block d.lines)
      ++ (end_lines_text (codes "start") block starts ++ (end_lines_text (codes "end") block ends ++ rest))))
  block_parts block thread rest =
      let color : List ℕ = number_line_text (codes "color ") thread in
      let lines : List ℕ = flat_map line_text (lines_of_block block d.lines) in
      let first : List ℕ = end_lines_text (codes "start") block starts in
      let last : List ℕ = end_lines_text (codes "end") block ends in
      append_assoc (color ++ lines) (first ++ last) rest
      ∙ (append_assoc color lines ((first ++ last) ++ rest)
      ∙ ap (λ (more : List ℕ). color ++ (lines ++ more)) (append_assoc first last rest))

  -- printed blocks are read
  blocks_read : (left before : List ℕ) (block : ℕ) (found : List WalkEnd) → length before ≡ block → before ++ left ≡ d.threads
      → found ++ found_from block left starts ends ≡ found_from 0 d.threads starts ends
      → ReadsOn close version target (so_far d before block) found (blocks_text3 block left (ended d starts ends))
  blocks_read [] before block found count are all number opened named named_ends same =
      ap (λ (e : DrawingValue). close number (draft_of named_ends named opened e)) (whole before block count are)
      ∙ means number opened named named_ends (same ∙ (sym (append-nil found) ∙ all))
  blocks_read (thread ∷ left) before block found count are all number opened named named_ends same =
      let Threads : List ℕ → Type 0 = λ list. All (λ (t : ℕ). t < 256) list in
      let fits : thread < 256 =
      all_middle (λ (t : ℕ). t < 256) before thread left (subst Threads (sym are) keeps.threads) in
      let size = ap (λ (list : List ℕ). length list) are in
      let longer = length-append before (thread ∷ left) in
      let there : block < length d.threads = omega (arith, size, longer, count) in
      let filled = filled_before before block count there in
      let room : length before < 255 = omega (arith, count, there, keeps.blocks_to) in
      let next : List ℕ = before ++ thread ∷ [] in
      let one : DrawingValue = with_new_block (so_far d before block) thread in
      let done : DrawingValue = with_lines one (lines_of_block block d.lines) in
      let behind : List ℕ = blocks_text3 (block + 1) left (ended d starts ends) in
      let first : List WalkEnd = found ++ map (end_at true) (spots_of block starts) in
      let second : List WalkEnd = first ++ map (end_at false) (spots_of block ends) in
      let joined : second ≡ found ++ found_in block starts ends =
      append_assoc found (map (end_at true) (spots_of block starts)) (map (end_at false) (spots_of block ends)) in
      let after : ReadsOn close version target (so_far d next (block + 1)) second behind =
      blocks_read left next (block + 1) second (length-append before (thread ∷ []) ∙ omega (arith, count))
      (append_assoc before (thread ∷ []) left ∙ are)
      (ap (λ (list : List WalkEnd). list ++ found_from (block + 1) left starts ends) joined
      ∙ (append_assoc found (found_in block starts ends) (found_from (block + 1) left starts ends) ∙ all)) in
      let lines : so_far d next (block + 1) ≡ done =
      ap (λ (list : List LineValue). record (so_far d next block) { lines = list }) (next_lines d block keeps) in
      let Reads : DrawingValue → Type 0 = λ e. ReadsOn close version target e second behind in
      let some : 1 ≤ length done.threads = omega (arith, length-append before (thread ∷ [])) in
      let last_read : ReadsOn close version target done first (end_lines_text (codes "end") block ends ++ behind) =
      ends_read close version target done some false first (spots_of block ends) behind (spots_follow before block thread ends count)
      (All-filter (λ (s : Spot). s.block == block) (IsNamable version) ends end_may) (subst Reads lines after) in
      let both_read : ReadsOn close version target done found
      (end_lines_text (codes "start") block starts ++ (end_lines_text (codes "end") block ends ++ behind)) =
      ends_read close version target done some true found (spots_of block starts) (end_lines_text (codes "end") block ends ++ behind)
      (spots_follow before block thread starts count)
      (All-filter (λ (s : Spot). s.block == block) (IsNamable version) starts start_may) last_read in
      let inside = lines_read close version target one found (lines_of_block block d.lines)
      (end_lines_text (codes "start") block starts ++ (end_lines_text (codes "end") block ends ++ behind))
      (block_follows before block thread count) both_read in
      ap (λ (text : List ℕ). after_text close version number (draft_of named_ends named opened (so_far d before block))
      (words_by_line text))
      (block_parts block thread behind)
      ∙ (line_judged close version number (draft_of named_ends named opened (so_far d before block))
      (draft_of named_ends named number one) (codes "color")
      (decimal thread ∷ []) (flat_map line_text (lines_of_block block d.lines)
      ++ (end_lines_text (codes "start") block starts ++ (end_lines_text (codes "end") block ends ++ behind))) is_color
      (decimal_word thread (omega (arith, fits)), tt) (color_says version number opened named named_ends
      (so_far d before block) thread fits filled room)
      ∙ inside (number + 1) number named named_ends same)

  -- the step, and then the blocks
  abbrev step_text : List ℕ
  step_text = number_line_text (codes "step ") d.step ++ blocks_text3 0 d.threads (ended d starts ends)

  step_read : (number : ℕ) (named : Bool)
      → after_text close version number (record empty_draft { named = named; drawing = record default_drawing { label = d.label } })
      (words_by_line step_text)
      ≡ target
  step_read number named =
      let start : record default_drawing { label = d.label; step = d.step } ≡ so_far d [] 0 =
      ap (λ (list : List LineValue). record (so_far d [] 0) { lines = list }) (sym (none_first (λ (l : LineValue). l.block) d.lines)) in
      let Reads : DrawingValue → Type 0 = λ e. ReadsOn close version target e [] (blocks_text3 0 d.threads (ended d starts ends)) in
      let blocks = subst Reads (sym start) (blocks_read d.threads [] 0 [] refl refl refl) in
      let draft : DrawingDraft = record empty_draft { named = named; drawing = record default_drawing { label = d.label } } in
      line_judged close version number draft (draft_of [] named 0 (record default_drawing { label = d.label; step = d.step }))
      (codes "step")
      (decimal d.step ∷ []) (blocks_text3 0 d.threads (ended d starts ends)) is_step
      (decimal_word d.step (omega (arith, keeps.step_to)), tt) (step_says version number named d.label d.step keeps.step_from keeps.step_to)
      ∙ blocks (number + 1) 0 named [] refl

  -- the label, where there is one, and then the step
  label_read : (label : List ℕ) → label ≡ d.label
      → after_text close version 2 empty_draft (words_by_line (label_text label ++ step_text)) ≡ target
  label_read [] is =
      let Reads : List ℕ → Type 0 = λ list. after_text close version 2
      (record empty_draft { named = false; drawing = record default_drawing { label = list } }) (words_by_line step_text) ≡ target in
      subst Reads (sym is) (step_read 2 false)
  label_read (b ∷ label) is =
      let Label : List ℕ → Type 0 = λ list. IsLabel list in
      let OneWord : List ℕ → Type 0 = λ list. All (λ (byte : ℕ). byte ≢ 32) list in
      let allowed = subst Label (sym is) keeps.label in
      let one_word = subst OneWord (sym is) keeps.one_word in
      let some : (length (b ∷ label) == 0) ≡ false = grind (arith, nat_tests) in
      let text : label_text (b ∷ label) ++ step_text ≡ codes "name" ++ (tail_of ((b ∷ label) ∷ []) ++ step_text) =
      rw some refl in
      let Reads : List ℕ → Type 0 = λ list. after_text close version 3
      (record empty_draft { named = true; drawing = record default_drawing { label = list } }) (words_by_line step_text) ≡ target in
      ap (λ (all : List ℕ). after_text close version 2 empty_draft (words_by_line all)) text
      ∙ (line_judged close version 2 empty_draft
      (record empty_draft { named = true; drawing = record default_drawing { label = b ∷ label } })
      (codes "name") ((b ∷ label) ∷ []) step_text is_name (label_word (b ∷ label) allowed one_word (filled b label), tt)
      (name_says version (b ∷ label) allowed one_word)
      ∙ subst Reads (sym is) (step_read 3 true))

  -- the text after its header
  pub body_read : after_text close version 2 empty_draft (words_by_line (label_text d.label ++ step_text)) ≡ target
  body_read = label_read d.label refl
