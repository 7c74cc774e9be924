-- Lemmas that this crate and those above cite.
use Rattle.std.proofs.Common.{All, AllPairs, Bool, Err, IfOk, List, Ok, Result, Some, [], ap, arith, false, get_or, if◌then◌else◌, length, not, refl, suc, true, ℕ, ◌++◌, ◌+◌, ◌-◌, ◌<◌, ◌∷◌, ◌≡◌, ◌≢◌, ◌≤◌}
use Rattle.std.proofs.lemmas.List.{length-append}
use Rattle.std.proofs.lemmas.List.FromFn.{length-map-range_with_len}
use Rattle.line_graph.proofs.DrawingNames.{nat_tests, All-cons, All-head, All-nil, All-tail, list_any_none, slice_get-get_or, list_any, is_same_point, Point, DrawingValue, HasNoRepeat, IsLine, KeepsDrawingLimits, last_point, optional_line_points, points_of, finished_drawing, has_repeated_point, is_last_empty, is_used, repeats_after, joined_drawing, needles_of_line, steps_of_line, needle_points, segment_points, segment_steps, AreInDifferentPieces, HasNoEnds, are_connected_spots, is_junction, spot_added, DrawKind, LineValue, Spot, HasNoRepeatAfter, AreCloseAfter, last_point_or, split_points, steps_of, false_from_ne_true, or_from, endpoints, and_then, point_on_segment}
use Rattle.design_model.proofs.CallerLemmas.{point_itself, same_is}

-- Equal points are found to be equal.
pub same_found : (p q : Point) → p ≡ q → is_same_point p q ≡ true
same_found p q same = rw same (point_itself q)

-- Points that differ are found to differ.
pub others_found : (p q : Point) → p ≢ q → is_same_point p q ≡ false
others_found p q other = false_from_ne_true (is_same_point p q) (λ found. other (same_is p q found))

pub none_after : (p : Point) (rest : List Point) → HasNoRepeatAfter p rest → repeats_after p rest ≡ false
none_after p [] moving = refl
none_after p (q ∷ rest) moving =
    or_from (is_same_point p q) (repeats_after q rest) (others_found p q moving.0) (none_after q rest moving.1)

pub none_repeats : (points : List Point) → HasNoRepeat points → has_repeated_point points ≡ false
none_repeats [] moving = refl
none_repeats (p ∷ rest) moving = none_after p rest moving

-- whether the last block is empty
pub last_by : (d : DrawingValue) (block : ℕ) (used : Bool) → length d.threads ≡ block + 1 → is_used d block ≡ used
    → is_last_empty d ≡ not used
last_by d block used count is = grind (arith, nat_tests)

-- What holds of all spots holds of one of them.
pub in_middle : (P : Spot → Type 0) (before : List Spot) (spot : Spot) (rest : List Spot) → All P (before ++ spot ∷ rest) → P spot
in_middle P [] spot rest all = All-head P spot rest all
in_middle P (one ∷ before) spot rest all = in_middle P before spot rest (All-tail P one (before ++ spot ∷ rest) all)

-- What holds of all pairs holds of each spot before another and that one.
pub before_it : (R : Spot → Spot → Type 0) (before : List Spot) (spot : Spot) (rest : List Spot) → AllPairs R (before ++ spot ∷ rest)
    → All (λ one. R one spot) before
before_it R [] spot rest pairs = All-nil (λ (one : Spot). R one spot)
before_it R (one ∷ before) spot rest pairs =
    let first : All (R one) (before ++ spot ∷ rest) =
    λ k e below. pairs 0 (suc k) e (omega arith) (omega (arith, below)) in
    let others : AllPairs R (before ++ spot ∷ rest) =
    λ i j e less there. pairs (suc i) (suc j) e (omega (arith, less)) (omega (arith, there)) in
    All-cons (λ (some : Spot). R some spot) one before (in_middle (R one) before spot rest first)
    (before_it R before spot rest others)

-- A junction in a piece of its own is added.
pub spot_comes : (lines : List LineValue) (before : List Spot) (spot : Spot) (rest : List Spot)
    → AreInDifferentPieces lines (before ++ spot ∷ rest) → spot_added lines before spot ≡ Ok (before ++ spot ∷ [])
spot_comes lines before spot rest apart =
    let there : is_junction lines spot ≡ true = in_middle (λ (s : Spot). is_junction lines s ≡ true) before spot rest apart.there in
    let alone : list_any (λ (one : Spot). are_connected_spots lines one spot) before ≡ false =
    list_any_none (λ (one : Spot). are_connected_spots lines one spot) before
    (before_it (λ (a b : Spot). are_connected_spots lines a b ≡ false) before spot rest apart.apart) in
    rw (there, alone) refl

-- What holds after the second of two steps.
pub after_both : {A B F : Type 0} (P : A → Type 0) (Q : B → Type 0) (r : Result A F) (next : A → Result B F) → IfOk r P
    → ((a : A) → P a → IfOk (next a) Q) → IfOk (and_then r next) Q
after_both P Q (Ok a) next has later = later a has
after_both P Q (Err why) next has later = tt

-- What holds where a test doesn't refuse holds after the test.
pub unless : {A : Type 0} (P : A → Type 0) (test : Bool) (r : Result A DrawKind) (why : DrawKind) → (test ≡ false → IfOk r P)
    → IfOk (if test then Err why else r) P
unless P true r why next = tt
unless P false r why next = next refl

-- A drawing without starts and ends has none when it is finished or joined.
pub finished_none : (d : DrawingValue) → HasNoEnds d → IfOk (finished_drawing d) HasNoEnds
finished_none d none = grind (arith, nat_tests)

pub joined_none : (d : DrawingValue) → HasNoEnds d → IfOk (joined_drawing d) HasNoEnds
joined_none d none = grind (arith, nat_tests)

pub close_on : (step : ℕ) (p : Point) (xs ys : List Point) → AreCloseAfter step p xs
    → AreCloseAfter step (last_point_or p xs) ys → AreCloseAfter step p (xs ++ ys)
close_on step p [] ys near more = more
close_on step p (x ∷ xs) ys near more = (near.0, close_on step x xs ys near.1 more)

-- the last point is that at the last place
last_point_or-get_or : (p : Point) (rest : List Point) (d : Point) → last_point_or p rest ≡ get_or (p ∷ rest) (length rest) d
last_point_or-get_or p [] d = refl
last_point_or-get_or p (q ∷ rest) d = last_point_or-get_or q rest d

-- the ends are the point at place 0 and that at the last place
pub ends_are : (points : List Point) (d : Point) → 1 ≤ length points
    → endpoints points ≡ get_or points 0 d ∷ get_or points (length points - 1) d ∷ []
ends_are [] d some = absurd (omega arith)
ends_are (p ∷ rest) d some = grind (arith, nat_tests, last_point_or-get_or p rest d)

-- the last point by its place
pub last_is : (points : List Point) (d : Point) → 1 ≤ length points → last_point points ≡ Some (get_or points (length points - 1) d)
last_is [] d some = absurd (omega arith)
last_is (p ∷ rest) d some = grind (arith, nat_tests, last_point_or-get_or p rest d)

-- the needle points of segments are as many as their steps
segment_count : (step : ℕ) (p : Point) (points : List Point) → length (segment_points step p points) ≡ segment_steps step p points
segment_count step p [] = refl
segment_count step p (q ∷ rest) =
    let n : ℕ = steps_of p q step in
    let one : length (split_points p q step) ≡ n = length-map-range_with_len (λ i. point_on_segment p q n i) 1 n in
    omega (
      arith,
      length-append (split_points p q step) (segment_points step q rest),
      one,
      segment_count step q rest,
    )

-- those of a line are one more
pub needle_count : (step : ℕ) (points : List Point) → 1 ≤ length points → length (needle_points step points) ≡ steps_of_line step points + 1
needle_count step [] some = omega arith
needle_count step (p ∷ rest) some = omega (arith, segment_count step p rest)

-- a line without points
abbrev pub no_line : LineValue
no_line = record { block = 0; points = [] }

-- a line of a drawing can be sewn, and has one needle point more than it costs
module _ (d : DrawingValue) (line : ℕ) (there : line < length d.lines) (keeps : KeepsDrawingLimits d) where
  pub points_are : points_of d line ≡ (get_or d.lines line no_line).points
  points_are = ap optional_line_points (slice_get-get_or d.lines line no_line there)

  pub line_there : IsLine (points_of d line)
  line_there = grind (arith, nat_tests, points_are)

  pub cost_is : length (needles_of_line d line) ≡ steps_of_line d.step (points_of d line) + 1
  cost_is = needle_count d.step (points_of d line) (omega (arith, line_there.long))
