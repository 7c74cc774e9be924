-- Canonical texts are read as the drawings whose texts they are.
use Rattle.std.proofs.Common.{◌≡◌, ℕ, ◌+◌, ◌<◌, ◌==◌, ◌&&◌, Bool, true, false, List, [], ◌∷◌, ◌++◌, Result, Ok, Err, length, map, codes, All, ap, sym, subst, ◌∙◌, refl, append-nil, arith, if◌then◌else◌}
use Rattle.drawing_text.proofs.Names.{ap₂, and_parts, nat_tests, All-nil, All-weaker, Spot, DrawKind, DrawingValue, KeepsDrawingLimits, and_then, finished_drawing, joined_drawing, AreInDifferentPieces, HasNoEnds, is_junction, DrawingDraft, DrawFault, Version, WalkEnd, blocks_text, canonical_text2, header_text, label_text, number_line_text, Body, at_line, body_from, drawing_after_lines, drawing_in_version, drawing_of, drawing_of_draft, drawing_with_ends, drawing_as_drawn, lines_after, blocks_text3, canonical_text3, with_ends_of, IsJoinedFrom, draft_after_words, empty_draft, words_by_line, block_text, canonical_text_in, lines_of, lines_of_draft, CanonicalText2IsRead, CanonicalText2KeepsLines, CanonicalText3IsRead, CanonicalText3KeepsLines, CanonicalTextIsRead, DrawnTextIsRead, DrawnTextKeepsLines}
use Rattle.drawing_text.proofs.NamedEndLemmas.{IsSpotBelow, all_named, junction_below, named_added, named_in, named_numbers}
use Rattle.drawing_text.proofs.PrintedDrawings.{Means, body_read, ended, finished_whole, found_from}
use Rattle.drawing_text.proofs.PrintedEnds.{IsNamable, unnumbered}
use Rattle.drawing_text.proofs.PrintedLines.{after_text}
use Rattle.drawing_text.proofs.PrintedWords.{line_read}
use Rattle.drawing_text.specs.declared.drawn_lines.DrawnLines.{DrawnLines}
use Rattle.drawing_text.specs.declared.version.Version.TheVariants as version

-- steps that go on alike
then_same : {A B F : Type 0} (r : Result A F) (f g : A → Result B F) → ((a : A) → f a ≡ g a) → and_then r f ≡ and_then r g
then_same (Ok a) f g same = same a
then_same (Err why) f g same = refl

then_then : {A B C F : Type 0} (r : Result A F) (f : A → Result B F) (g : B → Result C F)
    → and_then (and_then r f) g ≡ and_then r (λ a. and_then (f a) g)
then_then (Ok a) f g = refl
then_then (Err why) f g = refl

-- the drawing of text lines
drawing_by : (version : Version) (number : ℕ) (draft : DrawingDraft) (lines : List (List (List ℕ)))
    → drawing_after_lines version number draft lines ≡ after_text (drawing_of_draft version) version number draft lines
drawing_by version number draft [] = refl
drawing_by version number draft (words ∷ rest) =
    then_same (at_line number draft.opened (draft_after_words version number draft words)) _ _
    (λ next. drawing_by version (number + 1) next rest)

-- the lines of text lines, and what is made of them
lines_by : {A : Type 0} (make : DrawnLines → Result A DrawFault) (version : Version) (number : ℕ) (draft : DrawingDraft)
    (lines : List (List (List ℕ)))
    → and_then (lines_after version number draft lines) make
    ≡ after_text (λ n d. and_then (lines_of_draft version n d) make) version number draft lines
lines_by make version number draft [] = refl
lines_by make version number draft (words ∷ rest) =
    then_then (at_line number draft.opened (draft_after_words version number draft words)) _ make
    ∙ then_same (at_line number draft.opened (draft_after_words version number draft words)) _ _
    (λ next. lines_by make version (number + 1) next rest)

-- what is made of text lines, the header among them
abbrev made_of : {A : Type 0} → (Body → Result A DrawFault) → List (List (List ℕ)) → Result A DrawFault
made_of make lines = and_then (body_from 1 lines) make

-- the header is read
header_read : {A : Type 0} (make : Body → Result A DrawFault) (version : Version) (rest : List ℕ)
    → made_of make (words_by_line (header_text version ++ (10 ∷ rest)))
    ≡ make (record { version = version; header = 1; lines = words_by_line rest })
header_read make version.One rest = grind (arith, nat_tests, line_read)
header_read make version.Two rest = grind (arith, nat_tests, line_read)
header_read make version.Three rest = grind (arith, nat_tests, line_read)

drawing_from : (version : Version) (rest : List ℕ)
    → drawing_of (header_text version ++ (10 ∷ rest)) ≡ after_text (drawing_of_draft version) version 2 empty_draft (words_by_line rest)
drawing_from version rest =
    header_read (λ body. drawing_in_version body.version body) version rest
    ∙ drawing_by version 2 empty_draft (words_by_line rest)

lines_from : {A : Type 0} (make : DrawnLines → Result A DrawFault) (version : Version) (rest : List ℕ)
    → and_then (lines_of (header_text version ++ (10 ∷ rest))) make
    ≡ after_text (λ n d. and_then (lines_of_draft version n d) make) version 2 empty_draft (words_by_line rest)
lines_from make version rest =
    ap (λ (r : Result DrawnLines DrawFault). and_then r make)
    (header_read (λ body. lines_after body.version (body.header + 1) empty_draft body.lines) version rest)
    ∙ lines_by make version 2 empty_draft (words_by_line rest)

-- the text of blocks without starts and ends
plain_blocks : (d : DrawingValue) (block : ℕ) (threads : List ℕ)
    → blocks_text block threads d.lines ≡ blocks_text3 block threads (ended d [] [])
plain_blocks d block [] = refl
plain_blocks d block (thread ∷ rest) =
    ap₂ (λ (one more : List ℕ). one ++ more) (sym (append-nil (block_text block thread d.lines))) (plain_blocks d (block + 1) rest)

-- the text after the header
abbrev after_header : DrawingValue → List ℕ → List ℕ
after_header d blocks = label_text d.label ++ (number_line_text (codes "step ") d.step ++ blocks)

plain_text : (version : Version) (d : DrawingValue) → canonical_text_in version d
    ≡ header_text version ++ (10 ∷ after_header d (blocks_text3 0 d.threads (ended d [] [])))
plain_text version d = grind (arith, nat_tests, plain_blocks d 0 d.threads)

ended_none : (d : DrawingValue) → HasNoEnds d → ended d [] [] ≡ d
ended_none d none = ap₂ (λ (s e : List Spot). ended d s e) (sym none.starts) (sym none.ends)

-- the results of the tests of a drawing that is joined
joined_parts : (a b : Bool) (x y : DrawKind) (whole bare joined : DrawingValue)
    → (if a then Err x else (if b then Err y else Ok whole)) ≡ Ok joined
    → ((if a then Err x else (if b then Err y else Ok bare)) ≡ Ok bare) × (whole ≡ joined)
joined_parts true b x y whole bare joined is = absurd (let no : ⊥ = cc in no)
joined_parts false true x y whole bare joined is = absurd (let no : ⊥ = cc in no)
joined_parts false false x y whole bare joined is = (refl, cc)

-- drawn lines without starts and ends, joined
bare_joined : (drawn joined : DrawingValue) → KeepsDrawingLimits drawn → IsJoinedFrom drawn joined
    → and_then (finished_drawing (ended drawn [] [])) joined_drawing ≡ Ok (ended joined [] [])
bare_joined drawn joined keeps is = grind (arith, nat_tests, joined_parts, finished_whole drawn keeps)

none_may : (version : Version) → All (IsNamable version) []
none_may version = All-nil (IsNamable version)

pub spelling_read : CanonicalTextIsRead
spelling_read d keeps none =
    ap drawing_of (plain_text version.One d)
    ∙ (drawing_from version.One (after_header d (blocks_text3 0 d.threads (ended d [] [])))
    ∙ body_read (drawing_of_draft version.One) version.One (Ok d) d [] [] keeps (none_may version.One) (none_may version.One) means)
  where
    means : Means (drawing_of_draft version.One) (Ok d) d (found_from 0 d.threads [] [])
    means number opened named ends same =
        ap (at_line number opened) (finished_whole d keeps) ∙ ap (λ (e : DrawingValue). Ok e) (ended_none d none)

pub spelling2_read : CanonicalText2IsRead
spelling2_read drawn joined keeps none is =
    ap drawing_of (plain_text version.Two drawn)
    ∙ (drawing_from version.Two (after_header drawn (blocks_text3 0 drawn.threads (ended drawn [] [])))
    ∙ body_read (drawing_of_draft version.Two) version.Two (Ok joined) drawn [] [] keeps (none_may version.Two) (none_may version.Two)
    means)
  where
    means : Means (drawing_of_draft version.Two) (Ok joined) drawn (found_from 0 drawn.threads [] [])
    means number opened named ends same =
        ap (at_line number opened) (bare_joined drawn joined keeps is) ∙ ap (λ (e : DrawingValue). Ok e) (ended_none joined none)

-- starts or ends of a valid drawing are those of a text
spots_below : (d : DrawingValue) (spots : List Spot) → KeepsDrawingLimits d → AreInDifferentPieces d.lines spots
    → All (IsSpotBelow (length d.threads)) spots
spots_below d spots keeps apart = All-weaker (λ (s : Spot). is_junction d.lines s ≡ true) (IsSpotBelow (length d.threads))
    (λ s is. junction_below d.lines (length d.threads) s keeps.lines keeps.there is) spots apart.there

spots_may : (d : DrawingValue) (spots : List Spot) → KeepsDrawingLimits d → AreInDifferentPieces d.lines spots
    → All (IsNamable version.Three) spots
spots_may d spots keeps apart = All-weaker (IsSpotBelow (length d.threads)) (IsNamable version.Three)
    (λ s is. record { allowed = refl; in_range = is.in_range }) spots (spots_below d spots keeps apart)

-- the threads of drawn lines are those of the joined drawing
same_threads : (drawn joined : DrawingValue) → IsJoinedFrom drawn joined → drawn.threads ≡ joined.threads
same_threads drawn joined is = grind (arith, nat_tests, joined_parts)

pub spelling3_read : CanonicalText3IsRead
spelling3_read drawn joined keeps ordered is valid =
    drawing_from version.Three (after_header drawn (blocks_text3 0 drawn.threads (with_ends_of drawn joined)))
    ∙ body_read (drawing_of_draft version.Three) version.Three (Ok joined) drawn joined.starts joined.ends keeps
    (spots_may joined joined.starts valid.limits valid.ends.starts) (spots_may joined joined.ends valid.limits valid.ends.ends) means
  where
    below : (spots : List Spot) → AreInDifferentPieces joined.lines spots → All (λ (s : Spot). s.block < length drawn.threads) spots
    below spots apart =
        let Below : List ℕ → Type 0 = λ threads. All (λ (s : Spot). s.block < length threads) spots in
        subst Below (sym (same_threads drawn joined is)) (All-weaker (IsSpotBelow (length joined.threads))
        (λ (s : Spot). s.block < length joined.threads) (λ s one. one.below) spots (spots_below joined spots valid.limits apart))

    means : Means (drawing_of_draft version.Three) (Ok joined) drawn (found_from 0 drawn.threads joined.starts joined.ends)
    means number opened named ends same =
        ap (λ (r : Result DrawingValue DrawKind). and_then (at_line number opened r) (λ (d : DrawingValue). drawing_with_ends d ends))
        (bare_joined drawn joined keeps is)
        ∙ named_added joined joined.starts joined.ends ends valid.ends.starts valid.ends.ends
        (sym (named_numbers true ends) ∙ (ap (named_in true) same
        ∙ all_named true drawn.threads joined.starts joined.ends ordered.starts (below joined.starts valid.ends.starts)))
        (sym (named_numbers false ends) ∙ (ap (named_in false) same
        ∙ all_named false drawn.threads joined.starts joined.ends ordered.ends (below joined.ends valid.ends.ends)))

-- no spots
none_at : (spots : List Spot) → (length spots == 0) ≡ true → spots ≡ []
none_at [] test = refl
none_at (spot ∷ rest) test = absurd (grind (arith, nat_tests, test))

pub drawn_read : DrawnTextIsRead
drawn_read drawn joined keeps ordered is valid =
    by_test (length joined.starts == 0 && length joined.ends == 0) refl
  where
    by_test : (none : Bool) → (length joined.starts == 0 && length joined.ends == 0) ≡ none
        → drawing_of (if none then canonical_text2 (with_ends_of drawn joined) else canonical_text3 (with_ends_of drawn joined)) ≡ Ok joined
    by_test true none =
        let parts = and_parts (length joined.starts == 0) (length joined.ends == 0) none in
        spelling2_read drawn joined keeps
        (record { starts = none_at joined.starts parts.0; ends = none_at joined.ends parts.1 }) is
    by_test false some = spelling3_read drawn joined keeps ordered is valid

-- a text without starts and ends names none
none_found : (block : ℕ) (threads : List ℕ) → found_from block threads [] [] ≡ []
none_found block [] = refl
none_found block (thread ∷ rest) = none_found (block + 1) rest

none_named : (ends : List WalkEnd) → map unnumbered ends ≡ [] → ends ≡ []
none_named [] is = refl
none_named (end ∷ rest) is = absurd (let no : ⊥ = cc in no)

-- a result as it is
kept : {A F : Type 0} (r : Result A F) → r ≡ and_then r (λ a. Ok a)
kept (Ok a) = refl
kept (Err why) = refl

pub lines2_kept : CanonicalText2KeepsLines
lines2_kept d keeps none =
    kept (lines_of (canonical_text2 d))
    ∙ (ap (λ (text : List ℕ). and_then (lines_of text) (λ (lines : DrawnLines). Ok lines)) (plain_text version.Two d)
    ∙ (lines_from (λ (lines : DrawnLines). Ok lines) version.Two (after_header d (blocks_text3 0 d.threads (ended d [] [])))
    ∙ body_read close version.Two (Ok target) d [] [] keeps (none_may version.Two) (none_may version.Two) means))
  where
    target : DrawnLines
    target = record { version = version.Two; drawing = d; ends = [] }

    close : ℕ → DrawingDraft → Result DrawnLines DrawFault
    close n draft = and_then (lines_of_draft version.Two n draft) (λ (lines : DrawnLines). Ok lines)

    means : Means close (Ok target) d (found_from 0 d.threads [] [])
    means number opened named ends same =
        ap (λ (r : Result DrawingValue DrawKind). and_then (and_then (at_line number opened r)
        (λ (e : DrawingValue). Ok (record { version = version.Two; drawing = e; ends = ends }))) (λ (lines : DrawnLines). Ok lines))
        (finished_whole d keeps)
        ∙ ap₂ (λ (e : DrawingValue) (named : List WalkEnd). Ok (record { version = version.Two; drawing = e; ends = named }))
        (ended_none d none) (none_named ends (same ∙ none_found 0 d.threads))

pub lines3_kept : CanonicalText3KeepsLines
lines3_kept drawn joined keeps is valid =
    lines_from drawing_alone version.Three (after_header drawn (blocks_text3 0 drawn.threads (with_ends_of drawn joined)))
    ∙ body_read close version.Three (Ok (ended drawn [] [])) drawn joined.starts joined.ends keeps
    (spots_may joined joined.starts valid.limits valid.ends.starts) (spots_may joined joined.ends valid.limits valid.ends.ends) means
  where
    drawing_alone : DrawnLines → Result DrawingValue DrawFault
    drawing_alone lines = Ok lines.drawing

    close : ℕ → DrawingDraft → Result DrawingValue DrawFault
    close n draft = and_then (lines_of_draft version.Three n draft) drawing_alone

    means : Means close (Ok (ended drawn [] [])) drawn (found_from 0 drawn.threads joined.starts joined.ends)
    means number opened named ends same =
        ap (λ (r : Result DrawingValue DrawKind). and_then (and_then (at_line number opened r)
        (λ (e : DrawingValue). Ok (record { version = version.Three; drawing = e; ends = ends }))) drawing_alone)
        (finished_whole drawn keeps)

pub drawn_kept : DrawnTextKeepsLines
drawn_kept drawn joined keeps none is valid =
    by_test (length joined.starts == 0 && length joined.ends == 0)
  where
    by_test : (no_ends : Bool)
        → drawing_as_drawn (if no_ends then canonical_text2 (with_ends_of drawn joined) else canonical_text3 (with_ends_of drawn joined))
        ≡ Ok drawn
    by_test true = ap (λ (r : Result DrawnLines DrawFault). and_then r (λ (lines : DrawnLines). Ok lines.drawing))
        (lines2_kept drawn keeps none)
    by_test false = lines3_kept drawn joined keeps is valid ∙ ap (λ (d : DrawingValue). Ok d) (ended_none drawn none)
