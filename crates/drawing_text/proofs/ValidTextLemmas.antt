-- What a text defines is valid: each text line keeps the draft's drawing a growing one.
use Rattle.std.proofs.Common.{◌≡◌, ℕ, ◌+◌, ◌≤◌, ◌==◌, ◌&&◌, ◌||◌, Bool, true, false, not, nat_le, pos, negsuc, ℤ, List, [], ◌∷◌, Option, Some, None, Result, Ok, Err, IfOk, length, codes, bytes_eq, subst, refl, arith, if◌then◌else◌}
use Rattle.drawing_text.proofs.Names.{and_parts, or_parts, nat_tests, All-nil, parsed_whole, DrawKind, DrawingValue, and_then, block_added, finished_drawing, is_drawing_label, line_added, joined_drawing, IsValidDrawing, walk_end_added, after_both, unless, DrawingDraft, Version, WalkEnd, Body, at_line, body_of_text, drawing_after_lines, drawing_as2, drawing_of, drawing_of_draft, drawing_in_version, drawing_with_ends, joined_at, allows_ends, draft_after_words, empty_draft, is_before_blocks, parsed_count, parsed_point, parsed_points, with_color_line, with_name_line, with_points_line, with_step_line, with_walk_end_line, begins_comment, single_word, drawing_of_body_as2, count_in_range}
use Rattle.design_model.specs.declared.whole_number.Whole.{Whole}
use Rattle.design_model.specs.declared.whole_number.Whole.TheVariants as whole
use Rattle.line_graph.specs.declared.draw_kind.DrawKind.TheVariants as kind
use Rattle.line_graph.specs.GrowingLimits.{BlocksKeepGrowing, EmptyDrawingsGrow, FinishedDrawingsAreValid, IsGrowingDrawing, IsValidJoinedDrawing, JoinedDrawingsAreValid, LabelsKeepGrowing, LinesKeepGrowing, StepsKeepGrowing, WalkEndsKeepValid}
use Rattle.drawing_text.specs.declared.version.Version.TheVariants as version
use Rattle.drawing_text.specs.ValidTexts.{TextsAs2DefineValidDrawings, TextsDefineValidDrawings}

-- what holds where a test allows it holds after the test
pub where_true : {A : Type 0} (P : A → Type 0) (test : Bool) (r : Result A DrawKind) (why : DrawKind) → (test ≡ true → IfOk r P)
    → IfOk (if test then r else Err why) P
where_true P true r why next = next refl
where_true P false r why next = tt

-- what holds both ways holds after the test
pub either : {A : Type 0} (P : A → Type 0) (test : Bool) (r s : Result A DrawKind) → IfOk r P → IfOk s P → IfOk (if test then r else s) P
either P true r s one two = one
either P false r s one two = two

-- a step of which nothing is needed
pub any_ok : {A F : Type 0} (r : Result A F) → IfOk r (λ a. Unit {0})
any_ok (Ok a) = tt
any_ok (Err why) = tt

-- the number of the text line changes nothing
pub located : {A : Type 0} (P : A → Type 0) (number opened : ℕ) (r : Result A DrawKind) → IfOk r P → IfOk (at_line number opened r) P
located P number opened (Ok a) has = has
located P number opened (Err why) has = tt

pub value_of : {A F : Type 0} (P : A → Type 0) (r : Result A F) (a : A) → IfOk r P → r ≡ Ok a → P a
value_of P r a has is = subst (λ (result : Result _ _). IfOk result P) is has

-- a fact of a result implies a weaker one
pub weaker : {A F : Type 0} (P Q : A → Type 0) (r : Result A F) → ((a : A) → P a → Q a) → IfOk r P → IfOk r Q
weaker P Q (Ok a) each has = each a has
weaker P Q (Err why) each has = tt

-- a number in its range
record IsCount (low high n : ℕ) : Type 0 where
  from : low ≤ n
  to : n ≤ high

count_ranges : (low high : ℕ) (n : ℤ) → IfOk (count_in_range low high n) (IsCount low high)
count_ranges low high (pos n) =
    where_true (IsCount low high) (nat_le low n && nat_le n high) (Ok n) kind.OutOfRange (λ both.
    let parts = and_parts (nat_le low n) (nat_le n high) both in
    record { from = grind (arith, nat_tests, parts.0); to = grind (arith, nat_tests, parts.1) })
count_ranges low high (negsuc n) = tt

counts : (low high : ℕ) (word : Whole) → IfOk (parsed_count low high word) (IsCount low high)
counts low high whole.NotANumber = tt
counts low high whole.Outside = tt
counts low high (whole.Value n) = count_ranges low high n

-- a draft whose drawing grows
abbrev Grows : DrawingDraft → Type 0
Grows draft = IsGrowingDrawing draft.drawing

no_blocks : (n : ℕ) → not (n == 0) ≡ false → n ≡ 0
no_blocks n test = grind (arith, nat_tests, test)

module _ (empty_grows : EmptyDrawingsGrow) (label_grows : LabelsKeepGrowing) (step_grows : StepsKeepGrowing)
    (block_grows : BlocksKeepGrowing) (line_grows : LinesKeepGrowing) (finished_valid : FinishedDrawingsAreValid)
    (joined_valid : JoinedDrawingsAreValid) (walk_end_valid : WalkEndsKeepValid) where
  name_line : (draft : DrawingDraft) (word : Option (List ℕ)) → Grows draft → IfOk (with_name_line draft word) Grows
  name_line draft None grows = tt
  name_line draft (Some word) grows =
      where_true Grows (is_drawing_label word && (not draft.named && is_before_blocks draft)) _ kind.BadWord (λ test.
      label_grows draft.drawing word grows (and_parts (is_drawing_label word) (not draft.named && is_before_blocks draft) test).0)

  step_line : (draft : DrawingDraft) (word : Option (List ℕ)) → Grows draft → IfOk (with_step_line draft word) Grows
  step_line draft None grows = tt
  step_line draft (Some word) grows =
      unless Grows (draft.stepped || not (is_before_blocks draft)) _ kind.BadWord (λ test.
      after_both (IsCount 1 2047) Grows (parsed_count 1 2047 (parsed_whole word)) _ (counts 1 2047 (parsed_whole word)) (λ step is.
      step_grows draft.drawing step grows
      (no_blocks (length draft.drawing.threads) (or_parts draft.stepped (not (is_before_blocks draft)) test).1) is.from is.to))

  color_line : (number : ℕ) (draft : DrawingDraft) (word : Option (List ℕ)) → Grows draft
      → IfOk (with_color_line number draft word) Grows
  color_line number draft None grows = tt
  color_line number draft (Some word) grows =
      after_both (IsCount 0 255) Grows (parsed_count 0 255 (parsed_whole word)) _ (counts 0 255 (parsed_whole word)) (λ thread is.
      after_both IsGrowingDrawing Grows (block_added draft.drawing thread) _
      (block_grows draft.drawing thread grows (omega (arith, is.to))) (λ drawing has. has))

  points_line : (draft : DrawingDraft) (words : List (List ℕ)) → Grows draft → IfOk (with_points_line draft words) Grows
  points_line draft words grows =
      unless Grows (is_before_blocks draft) _ kind.NoBlock (λ some.
      after_both (λ points. Unit {0}) Grows (parsed_points words) _ (any_ok (parsed_points words)) (λ points any.
      after_both IsGrowingDrawing Grows (line_added draft.drawing points) _ (line_grows draft.drawing points grows)
      (λ drawing has. has)))

  walk_end_line : (number : ℕ) (is_start : Bool) (draft : DrawingDraft) (words : List (List ℕ)) → Grows draft
      → IfOk (with_walk_end_line number is_start draft words) Grows
  walk_end_line number is_start draft words grows =
      unless Grows (is_before_blocks draft) _ kind.NoBlock (λ some.
      after_both (λ point. Unit {0}) Grows (parsed_point words) _ (any_ok (parsed_point words)) (λ point any. grows))

  text_line : (version : Version) (number : ℕ) (draft : DrawingDraft) (words : List (List ℕ)) → Grows draft
      → IfOk (draft_after_words version number draft words) Grows
  text_line version number draft [] grows = grows
  text_line version number draft (word ∷ rest) grows =
      either Grows (begins_comment word) (Ok draft) _ grows
      (either Grows (bytes_eq word (codes "name")) _ _ (name_line draft (single_word rest) grows)
      (either Grows (bytes_eq word (codes "step")) _ _ (step_line draft (single_word rest) grows)
      (either Grows (bytes_eq word (codes "color")) _ _ (color_line number draft (single_word rest) grows)
      (either Grows (bytes_eq word (codes "line")) _ _ (points_line draft rest grows)
      (unless Grows (not (allows_ends version)) _ kind.BadWord (λ allowed.
      either Grows (bytes_eq word (codes "start")) _ _ (walk_end_line number true draft rest grows)
      (where_true Grows (bytes_eq word (codes "end")) _ kind.BadWord (λ is. walk_end_line number false draft rest grows))))))))

  joins : (number : ℕ) (draft : DrawingDraft) → Grows draft → IfOk (joined_at number draft) IsValidJoinedDrawing
  joins number draft grows =
      located IsValidJoinedDrawing number draft.opened (and_then (finished_drawing draft.drawing) joined_drawing)
      (after_both IsValidDrawing IsValidJoinedDrawing (finished_drawing draft.drawing) joined_drawing
      (finished_valid draft.drawing grows) joined_valid)

  ends_come : (d : DrawingValue) (ends : List WalkEnd) → IsValidJoinedDrawing d → IfOk (drawing_with_ends d ends) IsValidJoinedDrawing
  ends_come d [] is = is
  ends_come d (end ∷ rest) is =
      after_both IsValidJoinedDrawing IsValidJoinedDrawing (at_line end.number 0 (walk_end_added end.is_start d end.spot)) _
      (located IsValidJoinedDrawing end.number 0 (walk_end_added end.is_start d end.spot) (walk_end_valid end.is_start d end.spot is))
      (λ next valid. ends_come next rest valid)

  -- the drawing of a text of that version: joined, but in version 1
  abbrev IsValidIn : Version → DrawingValue → Type 0
  IsValidIn version.One d = IsValidDrawing d
  IsValidIn version.Two d = IsValidJoinedDrawing d
  IsValidIn version.Three d = IsValidJoinedDrawing d

  draft_valid : (version : Version) (number : ℕ) (draft : DrawingDraft) → Grows draft
      → IfOk (drawing_of_draft version number draft) (IsValidIn version)
  draft_valid version.One number draft grows =
      located IsValidDrawing number draft.opened (finished_drawing draft.drawing) (finished_valid draft.drawing grows)
  draft_valid version.Two number draft grows = joins number draft grows
  draft_valid version.Three number draft grows =
      after_both IsValidJoinedDrawing IsValidJoinedDrawing (joined_at number draft) _ (joins number draft grows)
      (λ d is. ends_come d draft.ends is)

  lines_valid : (version : Version) (number : ℕ) (draft : DrawingDraft) (lines : List (List (List ℕ))) → Grows draft
      → IfOk (drawing_after_lines version number draft lines) (IsValidIn version)
  lines_valid version number draft [] grows = draft_valid version number draft grows
  lines_valid version number draft (words ∷ rest) grows =
      after_both Grows (IsValidIn version) (at_line number draft.opened (draft_after_words version number draft words)) _
      (located Grows number draft.opened (draft_after_words version number draft words) (text_line version number draft words grows))
      (λ next has. lines_valid version (number + 1) next rest has)

  body_valid : (version : Version) (body : Body) → IfOk (drawing_in_version version body) (IsValidIn version)
  body_valid version body = lines_valid version (body.header + 1) empty_draft body.lines
      (empty_grows [] 25 (record {
        label_ok = record { short = omega arith; printable = All-nil _; trimmed = λ is. absurd cc };
        one_word = All-nil _;
        step_from = omega arith;
        step_to = omega arith;
      }))

  valid_in : (version : Version) (d : DrawingValue) → IsValidIn version d → IsValidDrawing d
  valid_in version.One d is = is
  valid_in version.Two d is = is.valid
  valid_in version.Three d is = is.valid

  pub texts_valid : TextsDefineValidDrawings
  texts_valid text d is =
      value_of IsValidDrawing (drawing_of text) d
      (after_both (λ body. Unit {0}) IsValidDrawing (body_of_text text) (λ body. drawing_in_version body.version body)
      (any_ok (body_of_text text))
      (λ body any. weaker (IsValidIn body.version) IsValidDrawing (drawing_in_version body.version body) (valid_in body.version)
      (body_valid body.version body))) is

  as2 : (version : Version) (body : Body) → IfOk (drawing_of_body_as2 version body) IsValidJoinedDrawing
  as2 version.One body = body_valid version.Two body
  as2 version.Two body = body_valid version.Two body
  as2 version.Three body = tt

  pub as2_valid : TextsAs2DefineValidDrawings
  as2_valid text d is =
      value_of IsValidJoinedDrawing (drawing_as2 text) d
      (after_both (λ body. Unit {0}) IsValidJoinedDrawing (body_of_text text) (λ body. drawing_of_body_as2 body.version body)
      (any_ok (body_of_text text)) (λ body any. as2 body.version body)) is
