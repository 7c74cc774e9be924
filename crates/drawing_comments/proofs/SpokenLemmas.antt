-- What a text describes depends on its lines but for comments and empty lines.
use Rattle.std.proofs.Common.{◌≡◌, ℕ, ◌+◌, ◌-◌, Bool, true, false, not, ◌&&◌, ◌||◌, cond, List, length, [], ◌∷◌, ◌++◌, Option, Some, None, Result, Ok, Err, filter, codes, bytes_eq, refl, ap, sym, subst, ◌∙◌}
use Rattle.design_model.specs.WholeNumbers.{parsed_whole}
use Rattle.drawing_comments.specs.CommentLaws.{SpokenLinesDecide, spoken_lines}
use Rattle.drawing_text.specs.declared.draft.DrawingDraft.{DrawingDraft}
use Rattle.drawing_text.specs.declared.draw_fault.DrawFault.{DrawFault}
use Rattle.drawing_text.specs.declared.drawn_lines.DrawnLines.{DrawnLines}
use Rattle.drawing_text.specs.declared.version.Version.{Version}
use Rattle.drawing_text.specs.declared.version.Version.TheVariants as version
use Rattle.drawing_text.specs.declared.walk_end.WalkEnd.{WalkEnd}
use Rattle.drawing_text.specs.DrawingText.{Body, at_line, body_after_header, body_from, drawing_after_lines, drawing_in_version, drawing_of, drawing_of_draft, drawing_with_ends, joined_at, parsed_header}
use Rattle.drawing_text.specs.DrawnTexts.{drawing_as_drawn, lines_after, lines_of_draft}
use Rattle.drawing_text.specs.TextLines.{allows_ends, draft_after_words, empty_draft, is_before_blocks, parsed_count, parsed_point, parsed_points, with_color_line, with_name_line, with_points_line, with_step_line, with_walk_end_line}
use Rattle.drawing_text.specs.Words.{begins_comment, is_ignored_line, single_word, words_by_line}
use Rattle.design_model.specs.declared.point.Point.{Point}
use Rattle.line_sections.specs.declared.spot.Spot.{Spot}
use Rattle.line_graph.specs.declared.draw_kind.DrawKind.{DrawKind}
use Rattle.line_graph.specs.declared.draw_kind.DrawKind.TheVariants as kind
use Rattle.line_graph.specs.Drawings.{DrawingValue}
use Rattle.line_graph.specs.GrowingDrawings.{and_then, block_added, finished_drawing, is_drawing_label, line_added}
use Rattle.line_graph.specs.JoinedDrawings.{joined_drawing}
use Rattle.line_graph.specs.WalkEnds.{walk_end_added}

-- Two results are alike: both have values that are alike, or neither has one.
abbrev Alike : {A B E F : Type 0} → (A → B → Type 0) → Result A E → Result B F → Type 0
Alike R (Ok a) (Ok b) = R a b
Alike R (Ok a) (Err why) = ⊥
Alike R (Err why) (Ok b) = ⊥
Alike R (Err why) (Err other) = Unit {0}

alike_same : {A E : Type 0} (r : Result A E) → Alike {A = A} {B = A} {E = E} {F = E} (λ a b. a ≡ b) r r
alike_same (Ok a) = refl
alike_same (Err why) = tt

alike_located : {A B : Type 0} (R : A → B → Type 0) (n o m p : ℕ) (r : Result A DrawKind) (s : Result B DrawKind)
    → Alike R r s → Alike R (at_line n o r) (at_line m p s)
alike_located R n o m p (Ok a) (Ok b) alike = alike
alike_located R n o m p (Ok a) (Err why) alike = absurd alike
alike_located R n o m p (Err why) (Ok b) alike = absurd alike
alike_located R n o m p (Err why) (Err other) alike = tt

alike_then : {A B C D E F : Type 0} (R : A → B → Type 0) (Q : C → D → Type 0) (r : Result A E) (s : Result B F)
    (f : A → Result C E) (g : B → Result D F) → Alike R r s → ((a : A) (b : B) → R a b → Alike Q (f a) (g b))
    → Alike Q (and_then r f) (and_then s g)
alike_then R Q (Ok a) (Ok b) f g alike next = next a b alike
alike_then R Q (Ok a) (Err why) f g alike next = absurd alike
alike_then R Q (Err why) (Ok b) f g alike next = absurd alike
alike_then R Q (Err why) (Err other) f g alike next = tt

-- after one result both go on alike
alike_after : {A C D E : Type 0} (Q : C → D → Type 0) (r : Result A E) (f : A → Result C E) (g : A → Result D E)
    → ((a : A) → Alike Q (f a) (g a)) → Alike Q (and_then r f) (and_then r g)
alike_after Q (Ok a) f g next = next a
alike_after Q (Err why) f g next = tt

alike_either : {A B E F : Type 0} (R : A → B → Type 0) (t : Bool) (r r' : Result A E) (s s' : Result B F) → Alike R r s → Alike R r' s'
    → Alike R (cond t r r') (cond t s s')
alike_either R true r r' s s' here there = here
alike_either R false r r' s s' here there = there

-- Starts and ends are alike but for the numbers of their lines.
abbrev AlikeEnds : List WalkEnd → List WalkEnd → Type 0
AlikeEnds [] [] = Unit {0}
AlikeEnds [] (e ∷ es) = ⊥
AlikeEnds (d ∷ ds) [] = ⊥
AlikeEnds (d ∷ ds) (e ∷ es) = (d.is_start ≡ e.is_start) × (d.spot ≡ e.spot) × AlikeEnds ds es

ends_more : (ds es : List WalkEnd) (d e : WalkEnd) → AlikeEnds ds es → d.is_start ≡ e.is_start → d.spot ≡ e.spot
    → AlikeEnds (ds ++ d ∷ []) (es ++ e ∷ [])
ends_more [] [] d e alike kind spot = (kind, spot, tt)
ends_more [] (y ∷ es) d e alike kind spot = absurd alike
ends_more (x ∷ ds) [] d e alike kind spot = absurd alike
ends_more (x ∷ ds) (y ∷ es) d e alike kind spot = (alike.0, alike.1, ends_more ds es d e alike.2 kind spot)

-- a draft by its parts
abbrev draft_of : DrawingValue → Bool → Bool → ℕ → List WalkEnd → DrawingDraft
draft_of d named stepped opened ends = record { drawing = d; named = named; stepped = stepped; opened = opened; ends = ends }

-- Drafts are alike but for the numbers of lines.
record AlikeDrafts (a b : DrawingDraft) : Type 0 where
  drawing : a.drawing ≡ b.drawing
  named : a.named ≡ b.named
  stepped : a.stepped ≡ b.stepped
  ends : AlikeEnds a.ends b.ends

-- The drafts after one more line, from drafts that are alike.
module _ (d : DrawingValue) (named stepped : Bool) (o p : ℕ) (es fs : List WalkEnd) (ends : AlikeEnds es fs) where
  abbrev left : DrawingDraft
  left = draft_of d named stepped o es

  abbrev right : DrawingDraft
  right = draft_of d named stepped p fs

  name_alike : (word : Option (List ℕ)) → Alike AlikeDrafts (with_name_line left word) (with_name_line right word)
  name_alike None = tt
  name_alike (Some word) = alike_either AlikeDrafts (is_drawing_label word && (not named && is_before_blocks left))
      (Ok (draft_of (record d { label = word }) true stepped o es)) (Err kind.BadWord)
      (Ok (draft_of (record d { label = word }) true stepped p fs)) (Err kind.BadWord)
      (record { drawing = refl; named = refl; stepped = refl; ends = ends }) tt

  step_alike : (word : Option (List ℕ)) → Alike AlikeDrafts (with_step_line left word) (with_step_line right word)
  step_alike None = tt
  step_alike (Some word) = alike_either AlikeDrafts (stepped || not (is_before_blocks left)) (Err kind.BadWord)
      (and_then (parsed_count 1 2047 (parsed_whole word)) (λ step. Ok (draft_of (record d { step = step }) named true o es)))
      (Err kind.BadWord)
      (and_then (parsed_count 1 2047 (parsed_whole word)) (λ step. Ok (draft_of (record d { step = step }) named true p fs))) tt
      (alike_after AlikeDrafts (parsed_count 1 2047 (parsed_whole word))
      (λ step. Ok (draft_of (record d { step = step }) named true o es))
      (λ step. Ok (draft_of (record d { step = step }) named true p fs))
      (λ step. record { drawing = refl; named = refl; stepped = refl; ends = ends }))

  color_alike : (n m : ℕ) (word : Option (List ℕ)) → Alike AlikeDrafts (with_color_line n left word) (with_color_line m right word)
  color_alike n m None = tt
  color_alike n m (Some word) = alike_after AlikeDrafts (parsed_count 0 255 (parsed_whole word))
      (λ thread. and_then (block_added d thread) (λ next. Ok (draft_of next named stepped n es)))
      (λ thread. and_then (block_added d thread) (λ next. Ok (draft_of next named stepped m fs)))
      (λ thread. alike_after AlikeDrafts (block_added d thread) (λ next. Ok (draft_of next named stepped n es))
      (λ next. Ok (draft_of next named stepped m fs)) (λ next. record { drawing = refl; named = refl; stepped = refl; ends = ends }))

  points_alike : (words : List (List ℕ)) → Alike AlikeDrafts (with_points_line left words) (with_points_line right words)
  points_alike words = alike_either AlikeDrafts (is_before_blocks left) (Err kind.NoBlock)
      (and_then (parsed_points words) (λ points. and_then (line_added d points) (λ next. Ok (draft_of next named stepped o es))))
      (Err kind.NoBlock)
      (and_then (parsed_points words) (λ points. and_then (line_added d points) (λ next. Ok (draft_of next named stepped p fs)))) tt
      (alike_after AlikeDrafts (parsed_points words)
      (λ points. and_then (line_added d points) (λ next. Ok (draft_of next named stepped o es)))
      (λ points. and_then (line_added d points) (λ next. Ok (draft_of next named stepped p fs)))
      (λ points. alike_after AlikeDrafts (line_added d points) (λ next. Ok (draft_of next named stepped o es))
      (λ next. Ok (draft_of next named stepped p fs)) (λ next. record { drawing = refl; named = refl; stepped = refl; ends = ends })))

  -- the start or end of a line
  abbrev end_of : ℕ → Bool → Point → WalkEnd
  end_of n is_start at = record {
    number = n;
    is_start = is_start;
    spot = record { block = length d.threads - 1; at = at };
  }

  end_alike : (n m : ℕ) (is_start : Bool) (words : List (List ℕ))
      → Alike AlikeDrafts (with_walk_end_line n is_start left words) (with_walk_end_line m is_start right words)
  end_alike n m is_start words = alike_either AlikeDrafts (is_before_blocks left) (Err kind.NoBlock)
      (and_then (parsed_point words) (λ at. Ok (draft_of d named stepped o (es ++ end_of n is_start at ∷ []))))
      (Err kind.NoBlock)
      (and_then (parsed_point words) (λ at. Ok (draft_of d named stepped p (fs ++ end_of m is_start at ∷ [])))) tt
      (alike_after AlikeDrafts (parsed_point words)
      (λ at. Ok (draft_of d named stepped o (es ++ end_of n is_start at ∷ [])))
      (λ at. Ok (draft_of d named stepped p (fs ++ end_of m is_start at ∷ [])))
      (λ at. record {
        drawing = refl;
        named = refl;
        stepped = refl;
        ends = ends_more es fs (end_of n is_start at) (end_of m is_start at) ends refl refl;
      }))

  words_alike : (v : Version) (n m : ℕ) (words : List (List ℕ))
      → Alike AlikeDrafts (draft_after_words v n left words) (draft_after_words v m right words)
  words_alike v n m [] = record { drawing = refl; named = refl; stepped = refl; ends = ends }
  words_alike v n m (word ∷ rest) =
      alike_either AlikeDrafts (begins_comment word) _ _ _ _ (record { drawing = refl; named = refl; stepped = refl; ends = ends })
      (alike_either AlikeDrafts (bytes_eq word (codes "name")) _ _ _ _ (name_alike (single_word rest))
      (alike_either AlikeDrafts (bytes_eq word (codes "step")) _ _ _ _ (step_alike (single_word rest))
      (alike_either AlikeDrafts (bytes_eq word (codes "color")) _ _ _ _ (color_alike n m (single_word rest))
      (alike_either AlikeDrafts (bytes_eq word (codes "line")) _ _ _ _ (points_alike rest)
      (alike_either AlikeDrafts (not (allows_ends v)) _ _ _ _ tt
      (alike_either AlikeDrafts (bytes_eq word (codes "start")) _ _ _ _ (end_alike n m true rest)
      (alike_either AlikeDrafts (bytes_eq word (codes "end")) _ _ _ _ (end_alike n m false rest) tt)))))))

drafts_alike : (v : Version) (n m : ℕ) (words : List (List ℕ)) (a b : DrawingDraft) → AlikeDrafts a b
    → Alike AlikeDrafts (draft_after_words v n a words) (draft_after_words v m b words)
drafts_alike v n m words a b alike =
    subst (λ (d : DrawingValue). Alike AlikeDrafts (draft_after_words v n a words)
    (draft_after_words v m (draft_of d b.named b.stepped b.opened b.ends) words)) alike.drawing
    (subst (λ (t : Bool). Alike AlikeDrafts (draft_after_words v n a words)
    (draft_after_words v m (draft_of a.drawing t b.stepped b.opened b.ends) words)) alike.named
    (subst (λ (t : Bool). Alike AlikeDrafts (draft_after_words v n a words)
    (draft_after_words v m (draft_of a.drawing a.named t b.opened b.ends) words)) alike.stepped
    (words_alike a.drawing a.named a.stepped a.opened b.opened a.ends b.ends alike.ends v n m words)))

-- an ignored line leaves the draft as it is
ignored_stays : (v : Version) (n : ℕ) (a : DrawingDraft) (words : List (List ℕ)) → is_ignored_line words ≡ true
    → draft_after_words v n a words ≡ Ok a
ignored_stays v n a [] is = refl
ignored_stays v n a (word ∷ rest) is = rw is refl

-- Starts and ends that are alike are taken alike.
taken_alike : (d : DrawingValue) (es fs : List WalkEnd) → AlikeEnds es fs
    → Alike {A = DrawingValue} {B = DrawingValue} (λ a b. a ≡ b) (drawing_with_ends d es) (drawing_with_ends d fs)
taken_alike d [] [] alike = refl
taken_alike d [] (f ∷ fs) alike = absurd alike
taken_alike d (e ∷ es) [] alike = absurd alike
taken_alike d (e ∷ es) (f ∷ fs) alike =
    alike_then (λ (a b : DrawingValue). a ≡ b) (λ (a b : DrawingValue). a ≡ b) (at_line e.number 0 (walk_end_added e.is_start d e.spot))
    (at_line f.number 0 (walk_end_added f.is_start d f.spot)) (λ next. drawing_with_ends next es) (λ next. drawing_with_ends next fs)
    (alike_located (λ (a b : DrawingValue). a ≡ b) e.number 0 f.number 0 (walk_end_added e.is_start d e.spot)
    (walk_end_added f.is_start d f.spot)
    (subst (λ (t : Bool). Alike (λ (a b : DrawingValue). a ≡ b) (walk_end_added e.is_start d e.spot) (walk_end_added t d f.spot)) alike.0
    (subst (λ (s : Spot). Alike (λ (a b : DrawingValue). a ≡ b) (walk_end_added e.is_start d e.spot) (walk_end_added e.is_start d s))
    alike.1 (alike_same (walk_end_added e.is_start d e.spot)))))
    (λ a b same. subst (λ (x : DrawingValue). Alike (λ (a b : DrawingValue). a ≡ b) (drawing_with_ends a es) (drawing_with_ends x fs)) same
    (taken_alike a es fs alike.2))

-- The lines that aren't ignored.
abbrev spoken : List (List (List ℕ)) → List (List (List ℕ))
spoken lines = filter (λ words. not (is_ignored_line words)) lines

-- What two ways to close a draft make of lines, with all lines and with the spoken ones.
module _ {A : Type 0} (close : ℕ → DrawingDraft → Result A DrawFault) (R : A → A → Type 0)
    (closes : (n m : ℕ) (a b : DrawingDraft) → AlikeDrafts a b → Alike R (close n a) (close m b)) (v : Version) where
  -- what is made of a draft and the lines after it
  abbrev closed : ℕ → DrawingDraft → List (List (List ℕ)) → Result A DrawFault
  closed n a [] = close n a
  closed n a (words ∷ rest) =
      and_then (at_line n a.opened (draft_after_words v n a words)) (λ next. closed (n + 1) next rest)

  closed_alike : (lines : List (List (List ℕ))) (n m : ℕ) (a b : DrawingDraft) → AlikeDrafts a b
      → Alike R (closed n a lines) (closed m b (spoken lines))
  closed_alike [] n m a b alike = closes n m a b alike
  closed_alike (words ∷ rest) n m a b alike = by_test (is_ignored_line words) refl (closed_alike rest)
    where
      ToCome : Type 0
      ToCome = (n m : ℕ) (a b : DrawingDraft) → AlikeDrafts a b → Alike R (closed n a rest) (closed m b (spoken rest))

      by_test : (t : Bool) → is_ignored_line words ≡ t → ToCome
          → Alike R (closed n a (words ∷ rest)) (closed m b (cond (not t) (words ∷ spoken rest) (spoken rest)))
      by_test true is later = rw (ignored_stays v n a words is) (later (n + 1) m a b alike)
      by_test false is later = alike_then AlikeDrafts R (at_line n a.opened (draft_after_words v n a words))
          (at_line m b.opened (draft_after_words v m b words)) (λ next. closed (n + 1) next rest)
          (λ next. closed (m + 1) next (spoken rest))
          (alike_located AlikeDrafts n a.opened m b.opened (draft_after_words v n a words) (draft_after_words v m b words)
          (drafts_alike v n m words a b alike)) (λ x y same. later (n + 1) (m + 1) x y same)

-- drawings are the same
abbrev SameDrawing : DrawingValue → DrawingValue → Type 0
SameDrawing a b = a ≡ b

-- finished drafts that are alike, and joined ones
finished_alike : (n m : ℕ) (a b : DrawingDraft) → AlikeDrafts a b
    → Alike SameDrawing (at_line n a.opened (finished_drawing a.drawing)) (at_line m b.opened (finished_drawing b.drawing))
finished_alike n m a b alike = alike_located SameDrawing n a.opened m b.opened (finished_drawing a.drawing) (finished_drawing b.drawing)
    (subst (λ (d : DrawingValue). Alike SameDrawing (finished_drawing a.drawing) (finished_drawing d)) alike.drawing
    (alike_same (finished_drawing a.drawing)))

joined_alike : (n m : ℕ) (a b : DrawingDraft) → AlikeDrafts a b → Alike SameDrawing (joined_at n a) (joined_at m b)
joined_alike n m a b alike = alike_located SameDrawing n a.opened m b.opened (and_then (finished_drawing a.drawing) joined_drawing)
    (and_then (finished_drawing b.drawing) joined_drawing)
    (subst (λ (d : DrawingValue). Alike SameDrawing (and_then (finished_drawing a.drawing) joined_drawing)
    (and_then (finished_drawing d) joined_drawing)) alike.drawing (alike_same (and_then (finished_drawing a.drawing) joined_drawing)))

-- the drawing of a draft, and its lines as they are drawn
drafts_close : (v : Version) (n m : ℕ) (a b : DrawingDraft) → AlikeDrafts a b
    → Alike SameDrawing (drawing_of_draft v n a) (drawing_of_draft v m b)
drafts_close version.One n m a b alike = finished_alike n m a b alike
drafts_close version.Two n m a b alike = joined_alike n m a b alike
drafts_close version.Three n m a b alike =
    alike_then SameDrawing SameDrawing (joined_at n a) (joined_at m b) (λ d. drawing_with_ends d a.ends) (λ d. drawing_with_ends d b.ends)
    (joined_alike n m a b alike)
    (λ x y same. subst (λ (z : DrawingValue). Alike SameDrawing (drawing_with_ends x a.ends) (drawing_with_ends z b.ends)) same
    (taken_alike x a.ends b.ends alike.ends))

-- lines are drawn the same
abbrev SameLines : DrawnLines → DrawnLines → Type 0
SameLines a b = a.drawing ≡ b.drawing

lines_close : (v : Version) (n m : ℕ) (a b : DrawingDraft) → AlikeDrafts a b → Alike SameLines (lines_of_draft v n a) (lines_of_draft v m b)
lines_close v n m a b alike =
    alike_then SameDrawing SameLines (at_line n a.opened (finished_drawing a.drawing)) (at_line m b.opened (finished_drawing b.drawing))
    (λ d. Ok (record { version = v; drawing = d; ends = a.ends })) (λ d. Ok (record { version = v; drawing = d; ends = b.ends }))
    (finished_alike n m a b alike) (λ x y same. same)

-- the two readers are closed drafts
drawing_closed : (v : Version) (n : ℕ) (a : DrawingDraft) (lines : List (List (List ℕ)))
    → closed (drawing_of_draft v) SameDrawing (drafts_close v) v n a lines ≡ drawing_after_lines v n a lines
drawing_closed v n a [] = refl
drawing_closed v n a (words ∷ rest) = on (at_line n a.opened (draft_after_words v n a words)) (λ next. drawing_closed v (n + 1) next rest)
  where
    on : (r : Result DrawingDraft DrawFault)
        → ((next : DrawingDraft) → closed (drawing_of_draft v) SameDrawing (drafts_close v) v (n + 1) next rest
        ≡ drawing_after_lines v (n + 1) next rest)
        → and_then r (λ next. closed (drawing_of_draft v) SameDrawing (drafts_close v) v (n + 1) next rest)
        ≡ and_then r (λ next. drawing_after_lines v (n + 1) next rest)
    on (Ok next) later = later next
    on (Err why) later = refl

lines_closed : (v : Version) (n : ℕ) (a : DrawingDraft) (lines : List (List (List ℕ)))
    → closed (lines_of_draft v) SameLines (lines_close v) v n a lines ≡ lines_after v n a lines
lines_closed v n a [] = refl
lines_closed v n a (words ∷ rest) = on (at_line n a.opened (draft_after_words v n a words)) (λ next. lines_closed v (n + 1) next rest)
  where
    on : (r : Result DrawingDraft DrawFault)
        → ((next : DrawingDraft) → closed (lines_of_draft v) SameLines (lines_close v) v (n + 1) next rest
        ≡ lines_after v (n + 1) next rest)
        → and_then r (λ next. closed (lines_of_draft v) SameLines (lines_close v) v (n + 1) next rest)
        ≡ and_then r (λ next. lines_after v (n + 1) next rest)
    on (Ok next) later = later next
    on (Err why) later = refl

-- a draft is like itself
alike_itself : (es : List WalkEnd) → AlikeEnds es es
alike_itself [] = tt
alike_itself (e ∷ es) = (refl, refl, alike_itself es)

draft_itself : (a : DrawingDraft) → AlikeDrafts a a
draft_itself a = record { drawing = refl; named = refl; stepped = refl; ends = alike_itself a.ends }

-- The texts after two headers are alike: the second one has the spoken lines of the first.
record AlikeBodies (a b : Body) : Type 0 where
  version : a.version ≡ b.version
  lines : spoken a.lines ≡ b.lines

bodies_alike : (lines : List (List (List ℕ))) (n m : ℕ) → Alike AlikeBodies (body_from n lines) (body_from m (spoken lines))
bodies_alike [] n m = tt
bodies_alike (words ∷ rest) n m = by_test (is_ignored_line words) refl (bodies_alike rest)
  where
    headed : (v : Option Version) → Alike AlikeBodies (body_after_header n v rest) (body_after_header m v (spoken rest))
    headed None = tt
    headed (Some v) = record { version = refl; lines = refl }

    by_test : (t : Bool) → is_ignored_line words ≡ t → ((n m : ℕ) → Alike AlikeBodies (body_from n rest) (body_from m (spoken rest)))
        → Alike AlikeBodies (cond t (body_from (n + 1) rest) (body_after_header n (parsed_header words) rest))
        (body_from m (cond (not t) (words ∷ spoken rest) (spoken rest)))
    by_test true is later = later (n + 1) m
    by_test false is later = rw is (headed (parsed_header words))

-- the drawing of lines of words, and its lines as they are drawn
abbrev drawing_in : List (List (List ℕ)) → Result DrawingValue DrawFault
drawing_in lines = and_then (body_from 1 lines) (λ body. drawing_in_version body.version body)

abbrev drawn_in : List (List (List ℕ)) → Result DrawingValue DrawFault
drawn_in lines = and_then (and_then (body_from 1 lines) (λ body. lines_after body.version (body.header + 1) empty_draft body.lines))
    (λ lines. Ok lines.drawing)

drawing_spoken : (lines : List (List (List ℕ))) → Alike SameDrawing (drawing_in lines) (drawing_in (spoken lines))
drawing_spoken lines = alike_then AlikeBodies SameDrawing (body_from 1 lines) (body_from 1 (spoken lines))
    (λ body. drawing_in_version body.version body) (λ body. drawing_in_version body.version body) (bodies_alike lines 1 1) each
  where
    each : (a b : Body) → AlikeBodies a b → Alike SameDrawing (drawing_in_version a.version a) (drawing_in_version b.version b)
    each a b alike =
        subst (λ (r : Result DrawingValue DrawFault). Alike SameDrawing (drawing_in_version a.version a) r)
        (ap (λ (ls : List (List (List ℕ))). drawing_after_lines a.version (b.header + 1) empty_draft ls) alike.lines
        ∙ ap (λ (v : Version). drawing_after_lines v (b.header + 1) empty_draft b.lines) alike.version)
        (subst (λ (r : Result DrawingValue DrawFault). Alike SameDrawing r
        (drawing_after_lines a.version (b.header + 1) empty_draft (spoken a.lines)))
        (drawing_closed a.version (a.header + 1) empty_draft a.lines)
        (subst (λ (r : Result DrawingValue DrawFault). Alike SameDrawing (closed (drawing_of_draft a.version) SameDrawing
        (drafts_close a.version) a.version (a.header + 1) empty_draft a.lines) r)
        (drawing_closed a.version (b.header + 1) empty_draft (spoken a.lines))
        (closed_alike (drawing_of_draft a.version) SameDrawing (drafts_close a.version) a.version a.lines (a.header + 1) (b.header + 1)
        empty_draft empty_draft (draft_itself empty_draft))))

drawn_spoken : (lines : List (List (List ℕ))) → Alike SameDrawing (drawn_in lines) (drawn_in (spoken lines))
drawn_spoken lines = alike_then SameLines SameDrawing
    (and_then (body_from 1 lines) (λ body. lines_after body.version (body.header + 1) empty_draft body.lines))
    (and_then (body_from 1 (spoken lines)) (λ body. lines_after body.version (body.header + 1) empty_draft body.lines))
    (λ lines. Ok lines.drawing) (λ lines. Ok lines.drawing)
    (alike_then AlikeBodies SameLines (body_from 1 lines) (body_from 1 (spoken lines))
    (λ body. lines_after body.version (body.header + 1) empty_draft body.lines)
    (λ body. lines_after body.version (body.header + 1) empty_draft body.lines) (bodies_alike lines 1 1) each) (λ x y same. same)
  where
    each : (a b : Body) → AlikeBodies a b → Alike SameLines (lines_after a.version (a.header + 1) empty_draft a.lines)
        (lines_after b.version (b.header + 1) empty_draft b.lines)
    each a b alike =
        subst (λ (r : Result DrawnLines DrawFault). Alike SameLines (lines_after a.version (a.header + 1) empty_draft a.lines) r)
        (ap (λ (ls : List (List (List ℕ))). lines_after a.version (b.header + 1) empty_draft ls) alike.lines
        ∙ ap (λ (v : Version). lines_after v (b.header + 1) empty_draft b.lines) alike.version)
        (subst (λ (r : Result DrawnLines DrawFault). Alike SameLines r (lines_after a.version (b.header + 1) empty_draft (spoken a.lines)))
        (lines_closed a.version (a.header + 1) empty_draft a.lines)
        (subst (λ (r : Result DrawnLines DrawFault). Alike SameLines (closed (lines_of_draft a.version) SameLines
        (lines_close a.version) a.version (a.header + 1) empty_draft a.lines) r)
        (lines_closed a.version (b.header + 1) empty_draft (spoken a.lines))
        (closed_alike (lines_of_draft a.version) SameLines (lines_close a.version) a.version a.lines (a.header + 1) (b.header + 1)
        empty_draft empty_draft (draft_itself empty_draft))))

-- results that are alike are the same where there is a value
value_there : (r s : Result DrawingValue DrawFault) (d : DrawingValue) → Alike SameDrawing r s → r ≡ Ok d → s ≡ Ok d
value_there (Ok a) (Ok b) d same is = ap (λ (x : DrawingValue). Ok x) (sym same) ∙ is
value_there (Ok a) (Err why) d same is = absurd same
value_there (Err why) (Ok b) d same is = absurd same
value_there (Err why) (Err other) d same is = absurd (let no : ⊥ = cc in no)

value_back : (r s : Result DrawingValue DrawFault) (d : DrawingValue) → Alike SameDrawing r s → s ≡ Ok d → r ≡ Ok d
value_back (Ok a) (Ok b) d same is = ap (λ (x : DrawingValue). Ok x) same ∙ is
value_back (Ok a) (Err why) d same is = absurd same
value_back (Err why) (Ok b) d same is = absurd same
value_back (Err why) (Err other) d same is = absurd (let no : ⊥ = cc in no)

-- Texts with the same spoken lines describe the same drawing, and the same lines as they are drawn.
pub spoken_lines_decide : SpokenLinesDecide
spoken_lines_decide = λ text other d same. (
  λ is. value_back (drawing_of other) (drawing_in (spoken_lines other)) d (drawing_spoken (words_by_line other))
      (subst (λ (ls : List (List (List ℕ))). drawing_in ls ≡ Ok d) same
      (value_there (drawing_of text) (drawing_in (spoken_lines text)) d (drawing_spoken (words_by_line text)) is)),
  λ is. value_back (drawing_as_drawn other) (drawn_in (spoken_lines other)) d (drawn_spoken (words_by_line other))
      (subst (λ (ls : List (List (List ℕ))). drawn_in ls ≡ Ok d) same
      (value_there (drawing_as_drawn text) (drawn_in (spoken_lines text)) d (drawn_spoken (words_by_line text)) is)),
)
