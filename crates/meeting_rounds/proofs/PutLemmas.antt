-- What is put in a round is near the segment as drawn.
use Rattle.std.proofs.Common.{◌≡◌, ◌≤◌, ◌+◌, ◌*◌, ◌/◌, ◌%◌, ℕ, ℤ, pos, negsuc, ◌-ℤ◌, Bool, true, false, All, List, [], ◌∷◌, drop, Option, Some, None, refl, ap, ◌∙◌, sym, subst, arith}
use Rattle.std.proofs.Math.Path.{ap₂}
use Rattle.std.proofs.lemmas.Bool.Decides.{nat_tests}
use Rattle.std.proofs.lemmas.Int.{ints}
use Rattle.std.proofs.lemmas.List.Elements.{All-append, All-cons, All-head, All-nil, All-tail}
use Rattle.std.proofs.lemmas.Map.Views.{All-insert_key}
use Rattle.std.specs.BTreeSet.{insert_key}
use Rattle.std.specs.Ordering.{nat_cmp}
use Rattle.std.specs.Prelude.{if◌then◌else◌}
use Rattle.design_model.proofs.ListLemmas.{first_true, same_number, second_true, some_same}
use Rattle.design_model.specs.declared.point.Point.{Point}
use Rattle.design_model.specs.Points.{is_same_point}
use Rattle.drawing_review.specs.declared.grid_point.GridPoint.{GridPoint}
use Rattle.drawing_review.specs.Frames.{grid_coordinate, grid_point}
use Rattle.drawing_review.specs.Meetings.{is_near}
use Rattle.line_meetings.specs.declared.meeting.Meeting.{Meeting}
use Rattle.line_meetings.specs.declared.meeting.MeetingKind.{MeetingKind}
use Rattle.line_meetings.specs.declared.meeting.MeetingKind.TheVariants as meeting
use Rattle.meeting_rounds.specs.Acts.{PlacedLists, acts_next, acts_on, acts_on_beside, acts_on_kind, acts_with_put, can_move, moves_and_puts, moving, pinning, pins_and_puts, put_of_meeting, putting, putting_if, stays_so_far, meeting_spot}
use Rattle.meeting_rounds.specs.FilledLines.{is_same_segment, places_put, places_with, segment_of_put}
use Rattle.meeting_rounds.specs.PlaceNumbers.{distance_along, place_number_of, point_of_place}
use Rattle.meeting_rounds.specs.Puts.{may_be_put, put_between, put_in_first, put_of, segment_as_drawn}
use Rattle.meeting_rounds.specs.declared.acts.Acts.{Acts}
use Rattle.meeting_rounds.specs.declared.puts.Put.{Put}
use Rattle.meeting_rounds.specs.declared.tracked_lines.TrackedLine.{TrackedLine}
use Rattle.meeting_rounds.specs.declared.tracked_lines.TrackedPoint.{TrackedPoint}

-- the parts of a number
across : (along x y : ℕ) → x ≤ 60000 → y ≤ 60000 → (along * 4294967296 + (x * 65536 + y)) / 65536 % 65536 ≡ x
across along x y low high = omega (arith, low, high)

down : (along x y : ℕ) → x ≤ 60000 → y ≤ 60000 → (along * 4294967296 + (x * 65536 + y)) % 65536 ≡ y
down along x y low high = omega (arith, low, high)

coordinate_back : (n : ℕ) → n ≤ 60000 → grid_coordinate (pos n -ℤ pos 30000) ≡ n
coordinate_back n low = grind (arith, nat_tests, ints)

-- a point has its number's coordinates
place_back : (a g : GridPoint) → g.x ≤ 60000 → g.y ≤ 60000 → grid_point (point_of_place (place_number_of a g)) ≡ g
place_back a g wide high =
    ap₂ (λ (x y : ℕ). record { x = x; y = y })
    (ap (λ (n : ℕ). grid_coordinate (pos n -ℤ pos 30000)) (across (distance_along a g) g.x g.y wide high) ∙ coordinate_back g.x wide)
    (ap (λ (n : ℕ). grid_coordinate (pos n -ℤ pos 30000)) (down (distance_along a g) g.x g.y wide high) ∙ coordinate_back g.y high)

-- The first of some points has a number near its segment as drawn.
abbrev pub NearFirst : ℕ → ℕ → List TrackedPoint → Type 0
NearFirst gap n [] = Unit
NearFirst gap n (p ∷ rest) = is_near (gap + 1) (grid_point (point_of_place n)) (segment_as_drawn p) ≡ true

-- A segment of the first of some lines has a number near it as drawn.
abbrev pub NearIn : ℕ → (segment n : ℕ) → List TrackedLine → Type 0
NearIn gap segment n [] = Unit
NearIn gap segment n (line ∷ rest) = NearFirst gap n (drop segment line.points)

-- A put is one that may be.
abbrev pub MayBePut : ℕ → List TrackedLine → Put → Type 0
MayBePut gap lines put = (line segment : ℕ) × (p : Point) × (put_of gap lines line segment (grid_point p) ≡ Some put)

none_some : (put : Put) → None ≡ Some put → ⊥
none_some put is = cc

-- where a put goes, and near what
record IsNearPut (gap i j : ℕ) (points : List TrackedPoint) (put : Put) : Type 0 where
  line : put.line ≡ i
  segment : put.segment ≡ j
  near : NearFirst gap put.place points

coordinate_low : (p : Point) → ((grid_point p).x ≤ 60000) × ((grid_point p).y ≤ 60000)
coordinate_low p = (low p.x, low p.y)
  where
    low : (n : ℤ) → grid_coordinate n ≤ 60000
    low (pos n) = omega arith
    low (negsuc n) = omega arith

between_near : (gap line segment : ℕ) (p : Point) (points : List TrackedPoint) (put : Put)
    → put_between gap line segment (grid_point p) points ≡ Some put → IsNearPut gap line segment points put
between_near gap line segment p [] put is = absurd (none_some put is)
between_near gap line segment p (a ∷ []) put is = absurd (none_some put is)
between_near gap line segment p (a ∷ b ∷ rest) put is = by_test (may_be_put gap a b (grid_point p)) refl is
  where
    made : Put
    made = record { line = line; segment = segment; place = place_number_of (grid_point a.at) (grid_point p) }

    by_test : (may : Bool) → may_be_put gap a b (grid_point p) ≡ may → (if may then Some made else None) ≡ Some put
        → IsNearPut gap line segment (a ∷ b ∷ rest) put
    by_test false test same = absurd (none_some put same)
    by_test true test same =
        subst (IsNearPut gap line segment (a ∷ b ∷ rest)) (some_same made put same) (record {
          line = refl;
          segment = refl;
          near = subst (λ (g : GridPoint). is_near (gap + 1) g (segment_as_drawn a) ≡ true)
              (sym (place_back (grid_point a.at) (grid_point p) (coordinate_low p).0 (coordinate_low p).1))
              (first_true _ _ test);
        })

first_near : (gap line segment : ℕ) (p : Point) (lines : List TrackedLine) (put : Put)
    → put_in_first gap line segment (grid_point p) lines ≡ Some put
    → (put.line ≡ line) × (put.segment ≡ segment) × NearIn gap segment put.place lines
first_near gap line segment p [] put is = absurd (none_some put is)
first_near gap line segment p (first ∷ rest) put is =
    let near : IsNearPut gap line segment (drop segment first.points) put =
    between_near gap line segment p (drop segment first.points) put is in
    (near.line, near.segment, near.near)

-- A put that may be is near its segment.
near_put : (gap : ℕ) (lines : List TrackedLine) (put : Put) (m k : ℕ) → MayBePut gap lines put
    → is_same_segment (segment_of_put put) (record { line = m; segment = k }) ≡ true → NearIn gap k put.place (drop m lines)
near_put gap lines put m k (line, segment, p, is) same =
    let near : (put.line ≡ line) × (put.segment ≡ segment) × NearIn gap segment put.place (drop line lines) =
    first_near gap line segment p (drop line lines) put is in
    subst (λ (j : ℕ). NearIn gap j put.place (drop m lines)) (sym near.1 ∙ same_number put.segment k (second_true _ _ same))
    (subst (λ (i : ℕ). NearIn gap segment put.place (drop i lines)) (sym near.0 ∙ same_number put.line m (first_true _ _ same)) near.2)

-- All numbers put into a segment are near it.
near_places : (gap : ℕ) (lines : List TrackedLine) (m k : ℕ) (puts : List Put) (places : List ℕ) → All (MayBePut gap lines) puts
    → All (λ n. NearIn gap k n (drop m lines)) places
    → All (λ n. NearIn gap k n (drop m lines)) (places_with (record { line = m; segment = k }) places puts)
near_places gap lines m k [] places may near = near
near_places gap lines m k (put ∷ rest) places may near =
    near_places gap lines m k rest _ (All-tail (MayBePut gap lines) put rest may)
    (by_test (is_same_segment (segment_of_put put) (record { line = m; segment = k })) refl)
  where
    Near : ℕ → Type 0
    Near n = NearIn gap k n (drop m lines)

    by_test : (b : Bool) → is_same_segment (segment_of_put put) (record { line = m; segment = k }) ≡ b
        → All Near (if b then insert_key nat_cmp places put.place else places)
    by_test true same = All-insert_key nat_cmp put.place Near places near
        (near_put gap lines put m k (All-head (MayBePut gap lines) put rest may) same)
    by_test false other = near

pub puts_near : (gap : ℕ) (lines : List TrackedLine) (puts : List Put) → All (MayBePut gap lines) puts → (m k : ℕ)
    → All (λ n. NearIn gap k n (drop m lines)) (places_put puts (record { line = m; segment = k }))
puts_near gap lines puts may m k = near_places gap lines m k puts [] may (All-nil (λ n. NearIn gap k n (drop m lines)))

-- The puts of acts are ones that may be.
abbrev pub HasPuts : ℕ → List TrackedLine → Acts → Type 0
HasPuts gap lines acts = All (MayBePut gap lines) acts.puts

put_more : (gap : ℕ) (lines : List TrackedLine) (acts : Acts) (put : Put) → HasPuts gap lines acts → MayBePut gap lines put
    → HasPuts gap lines (putting acts put)
put_more gap lines acts put has may =
    All-append (MayBePut gap lines) acts.puts (put ∷ []) has (All-cons (MayBePut gap lines) put [] may (All-nil (MayBePut gap lines)))

put_if : (gap : ℕ) (lines : List TrackedLine) (acts : Acts) (line segment : ℕ) (p : Point) → HasPuts gap lines acts
    → HasPuts gap lines (putting_if acts (put_of gap lines line segment (grid_point p)))
put_if gap lines acts line segment p has = by_put (put_of gap lines line segment (grid_point p)) refl
  where
    by_put : (put : Option Put) → put_of gap lines line segment (grid_point p) ≡ put → HasPuts gap lines (putting_if acts put)
    by_put None is = has
    by_put (Some put) is = put_more gap lines acts put has (line, segment, p, is)

either_act : (gap : ℕ) (lines : List TrackedLine) (b : Bool) (acts others : Acts) → HasPuts gap lines acts
    → HasPuts gap lines others → HasPuts gap lines (if b then acts else others)
either_act gap lines true acts others has have = has
either_act gap lines false acts others has have = have

put_beside : (gap : ℕ) (placed : PlacedLists) (lines : List TrackedLine) (acts : Acts) (m : Meeting) → HasPuts gap lines acts
    → HasPuts gap lines (acts_on_beside gap placed lines acts m)
put_beside gap placed lines acts m has = by_put (put_of_meeting gap lines m) refl
  where
    by_put : (put : Option Put) → put_of_meeting gap lines m ≡ put → HasPuts gap lines (acts_with_put gap placed acts m put)
    by_put None is = has
    by_put (Some put) is =
        either_act gap lines (is_same_point m.from m.to) (pins_and_puts acts m put)
        (moves_and_puts (can_move gap placed acts m) acts m put)
        (either_act gap lines (stays_so_far acts (meeting_spot m)) (putting (pinning acts (meeting_spot m)) put) acts
        (put_more gap lines (pinning acts (meeting_spot m)) put has (m.other, m.other_index, m.to, is)) has)
        (either_act gap lines (can_move gap placed acts m) (putting (moving acts (meeting_spot m) m.to) put) acts
        (put_more gap lines (moving acts (meeting_spot m) m.to) put has (m.other, m.other_index, m.to, is)) has)

put_kind : (lists : Bool) (gap : ℕ) (placed : PlacedLists) (lines : List TrackedLine) (acts : Acts) (m : Meeting) (kind : MeetingKind)
    → HasPuts gap lines acts → HasPuts gap lines (acts_on_kind lists gap placed lines acts m kind)
put_kind lists gap placed lines acts m meeting.ClosePoints has =
    either_act gap lines (can_move gap placed acts m) (moving acts (meeting_spot m) m.to) acts has has
put_kind lists gap placed lines acts m meeting.BesideSegment has = put_beside gap placed lines acts m has
put_kind lists gap placed lines acts m meeting.OnSegment has = put_beside gap placed lines acts m has
put_kind lists gap placed lines acts m meeting.Crossing has =
    let one : Acts = putting_if acts (put_of gap lines m.line m.index (grid_point m.to)) in
    either_act gap lines lists (putting_if one (put_of_meeting gap lines m)) acts
    (put_if gap lines one m.other m.other_index m.to (put_if gap lines acts m.line m.index m.to has)) has
put_kind lists gap placed lines acts m meeting.Overlap has = has
put_kind lists gap placed lines acts m meeting.Repeat has = has

-- The puts of a round are ones that may be.
pub puts_may_be : (lists : Bool) (gap : ℕ) (placed : PlacedLists) (lines : List TrackedLine) (acts : Acts) (ms : List Meeting)
    → HasPuts gap lines acts → HasPuts gap lines (acts_next lists gap placed lines acts ms)
puts_may_be lists gap placed lines acts [] has = has
puts_may_be lists gap placed lines acts (m ∷ rest) has =
    puts_may_be lists gap placed lines (acts_on lists gap placed lines acts m) rest
    (put_kind lists gap placed lines acts m m.kind has)
