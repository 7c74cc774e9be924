-- What is left of a line that is worked on keeps near itself as drawn, whatever is done in a round.
use Rattle.std.proofs.Common.{◌≡◌, ◌≤◌, ◌+◌, ◌*◌, ℕ, suc, Bool, true, false, ◌&&◌, ◌⊎◌, inl, inr, All, List, [], ◌∷◌, ◌++◌, map, drop, Option, Some, None, refl, ap, ◌∙◌, sym, subst, arith}
use Rattle.std.proofs.Math.Path.{ap₂}
use Rattle.std.proofs.lemmas.Bool.Decides.{nat_tests}
use Rattle.std.proofs.lemmas.List.{append_assoc}
use Rattle.std.proofs.lemmas.List.Elements.{All-append, All-head, All-tail, All-weaker}
use Rattle.std.specs.Prelude.{if◌then◌else◌}
use Rattle.design_model.proofs.CallerLemmas.{same_is}
use Rattle.design_model.proofs.ListLemmas.{some_same}
use Rattle.design_model.specs.Points.{is_same_point}
use Rattle.design_model.specs.declared.point.Point.{Point}
use Rattle.drawing_review.specs.declared.grid_point.GridPoint.{GridPoint}
use Rattle.drawing_review.specs.Frames.{grid_point}
use Rattle.drawing_review.specs.Meetings.{is_near}
use Rattle.line_meetings.specs.Touches.{are_close}
use Rattle.line_sections.specs.ListedPoints.{spot_at}
use Rattle.meeting_rounds.proofs.PutLemmas.{NearFirst}
use Rattle.meeting_rounds.specs.FilledLines.{filled_from, points_put}
use Rattle.meeting_rounds.specs.MovedPoints.{lets_move, may_move, merged, merged_from, point_at, points_moved, target_in}
use Rattle.meeting_rounds.specs.NearLines.{IsAlong, StaysNear, are_within, last_of}
use Rattle.meeting_rounds.specs.PlaceNumbers.{point_of_place}
use Rattle.meeting_rounds.specs.PointBounds.{joined_bounds, reaches_bounds, united_drawn}
use Rattle.meeting_rounds.specs.Puts.{drawn_between, segment_as_drawn}
use Rattle.meeting_rounds.specs.declared.point_bounds.PointBounds.{PointBounds}
use Rattle.meeting_rounds.specs.declared.segment_places.SegmentKey.{SegmentKey}
use Rattle.meeting_rounds.specs.declared.spot_moves.SpotMove.{SpotMove}
use Rattle.meeting_rounds.specs.declared.tracked_lines.TrackedPoint.{TrackedPoint}

-- bounds have a point
pub record IsIn (bounds : PointBounds) (g : GridPoint) : Type 0 where
  pub left : bounds.least.x ≤ g.x
  pub right : g.x ≤ bounds.greatest.x
  pub top : bounds.least.y ≤ g.y
  pub bottom : g.y ≤ bounds.greatest.y

abbrev pub Has : PointBounds → Point → Type 0
Has bounds p = IsIn bounds (grid_point p)

-- the segment as drawn that leads on ends in p, if one does, and where one must
abbrev pub Leads : List Point → Point → Type 0
Leads [] p = Unit
Leads (q ∷ coming) p = p ≡ q

abbrev pub LeadsOn : List Point → Point → Type 0
LeadsOn [] p = ⊥
LeadsOn (q ∷ coming) p = p ≡ q

leads : (coming : List Point) (p : Point) → LeadsOn coming p → Leads coming p
leads [] p never = absurd never
leads (q ∷ coming) p is = is

-- a point was put into the segment as drawn that leads on
pub record IsPut (gap : ℕ) (from : Option Point) (coming : List Point) (p : TrackedPoint) : Type 0 where
  pub drawn : p.drawn ≡ None
  pub begins : Some p.from ≡ from
  pub ends : LeadsOn coming p.to
  pub near : is_near (gap + 1) (grid_point p.at) (segment_as_drawn p) ≡ true

-- a point stands for q and a run of points as drawn after it, which come next
pub record Stands (gap : ℕ) (coming : List Point) (q : Point) (run rest : List Point) (bounds : PointBounds)
    (p : TrackedPoint) : Type 0 where
  pub drawn : p.drawn ≡ Some bounds
  pub next : coming ≡ q ∷ (run ++ rest)
  pub has : All (Has bounds) (q ∷ run)
  pub near : reaches_bounds (2 * gap + 1) bounds (grid_point p.at) ≡ true
  pub begins : p.from ≡ last_of q run
  pub ends : Leads rest p.to

-- what is left of a line that is worked on keeps near itself as drawn
abbrev pub Tracks : (gap : ℕ) → (from : Option Point) → (coming : List Point) → List TrackedPoint → Type 0
Tracks gap from coming [] = coming ≡ []
Tracks gap from coming (p ∷ points) =
    (IsPut gap from coming p × Tracks gap from coming points)
    ⊎ ((q : Point) × (run rest : List Point) × (bounds : PointBounds) × Stands gap coming q run rest bounds p
    × Tracks gap (Some (last_of q run)) rest points)

-- a point near bounds is near what they have
reached : (reach : ℕ) (bounds : PointBounds) (g h : GridPoint) → reaches_bounds reach bounds g ≡ true → IsIn bounds h
    → are_close reach g h ≡ true
reached reach bounds g h near has = grind (arith, nat_tests, has.left, has.right, has.top, has.bottom)

all_reached : (reach : ℕ) (bounds : PointBounds) (p : Point) (points : List Point) → reaches_bounds reach bounds (grid_point p) ≡ true
    → All (Has bounds) points → are_within reach p points ≡ true
all_reached reach bounds p [] near has = refl
all_reached reach bounds p (q ∷ points) near has =
    ap₂ (λ (a b : Bool). a && b) (reached reach bounds (grid_point p) (grid_point q) near (All-head (Has bounds) q points has))
    (all_reached reach bounds p points near (All-tail (Has bounds) q points has))

along : (room : ℕ) (from : Option Point) (coming : List Point) (p begin to : Point) → Some begin ≡ from → LeadsOn coming to
    → is_near room (grid_point p) (drawn_between begin to) ≡ true → IsAlong room from coming p
along room from [] p begin to begins never near = absurd never
along room from (q ∷ coming) p begin to begins is near =
    subst (λ (x : Option Point). IsAlong room x (q ∷ coming) p) begins
    (subst (λ (x : Point). is_near room (grid_point p) (drawn_between begin x) ≡ true) is near)

-- Such a line stays near.
pub tracks_near : (gap : ℕ) (from : Option Point) (coming : List Point) (points : List TrackedPoint) → Tracks gap from coming points
    → StaysNear (2 * gap + 1) (gap + 1) from coming (map (λ p. p.at) points)
tracks_near gap from coming [] none = none
tracks_near gap from coming (p ∷ points) (inl (put, after)) =
    inl (along (gap + 1) from coming p.at p.from p.to put.begins put.ends put.near, tracks_near gap from coming points after)
tracks_near gap from coming (p ∷ points) (inr (q, run, rest, bounds, stands, after)) =
    inr (
      q,
      run,
      rest,
      stands.next,
      all_reached (2 * gap + 1) bounds p.at (q ∷ run) stands.near stands.has,
      tracks_near gap (Some (last_of q run)) rest points after,
    )

-- what is put joins the next point
joins_next : (p q : TrackedPoint) → p.drawn ≡ None → merged p q ≡ q
joins_next p q none = ap (λ (d : Option PointBounds). record q { drawn = united_drawn d q.drawn }) none

last_over : (a b : Point) (run more : List Point) → last_of a (run ++ b ∷ more) ≡ last_of b more
last_over a b [] more = refl
last_over a b (c ∷ run) more = last_over c b run more

first_in : (a b : PointBounds) (g : GridPoint) → IsIn a g → IsIn (joined_bounds a b) g
first_in a b g in_a = record {
  left = omega (arith, in_a.left);
  right = omega (arith, in_a.right);
  top = omega (arith, in_a.top);
  bottom = omega (arith, in_a.bottom);
}

second_in : (a b : PointBounds) (g : GridPoint) → IsIn b g → IsIn (joined_bounds a b) g
second_in a b g in_b = record {
  left = omega (arith, in_b.left);
  right = omega (arith, in_b.right);
  top = omega (arith, in_b.top);
  bottom = omega (arith, in_b.bottom);
}

both_reach : (reach : ℕ) (a b : PointBounds) (g : GridPoint) → reaches_bounds reach a g ≡ true → reaches_bounds reach b g ≡ true
    → reaches_bounds reach (joined_bounds a b) g ≡ true
both_reach reach a b g near_a near_b = grind (arith, nat_tests)

all_in : (a b : PointBounds) (q r : Point) (run more : List Point) → All (Has a) (q ∷ run) → All (Has b) (r ∷ more)
    → All (Has (joined_bounds a b)) (q ∷ (run ++ r ∷ more))
all_in a b q r run more has_a has_b =
    All-append (Has (joined_bounds a b)) (q ∷ run) (r ∷ more)
    (All-weaker (Has a) (Has (joined_bounds a b)) (λ x. first_in a b (grid_point x)) (q ∷ run) has_a)
    (All-weaker (Has b) (Has (joined_bounds a b)) (λ x. second_in a b (grid_point x)) (r ∷ more) has_b)

-- Two points at one place become one.
joined_tracks : (gap : ℕ) (from : Option Point) (coming : List Point) (p q : TrackedPoint) (points : List TrackedPoint)
    → is_same_point p.at q.at ≡ true → Tracks gap from coming (p ∷ q ∷ points) → Tracks gap from coming (merged p q ∷ points)
joined_tracks gap from coming p q points same (inl (put, after)) =
    subst (λ (r : TrackedPoint). Tracks gap from coming (r ∷ points)) (sym (joins_next p q put.drawn)) after
joined_tracks gap from coming p q points same (inr (a, run, rest, bounds, stands, inl (put, after))) =
    inr (
      a,
      run,
      rest,
      bounds,
      record {
        drawn = ap₂ united_drawn stands.drawn put.drawn;
        next = stands.next;
        has = stands.has;
        near = subst (λ (x : Point). reaches_bounds (2 * gap + 1) bounds (grid_point x) ≡ true) (same_is p.at q.at same) stands.near;
        begins = some_same q.from (last_of a run) put.begins;
        ends = leads rest q.to put.ends;
      },
      after,
    )
joined_tracks gap from coming p q points same (inr (a, run, rest, bounds, stands, inr (b, more, last, others, stands', after))) =
    inr (
      a,
      run ++ b ∷ more,
      last,
      joined_bounds bounds others,
      record {
        drawn = ap₂ united_drawn stands.drawn stands'.drawn;
        next = stands.next ∙ (ap (λ (ps : List Point). a ∷ (run ++ ps)) stands'.next
            ∙ ap (λ (ps : List Point). a ∷ ps) (sym (append_assoc run (b ∷ more) last)));
        has = all_in bounds others a b run more stands.has stands'.has;
        near = both_reach (2 * gap + 1) bounds others (grid_point q.at)
            (subst (λ (x : Point). reaches_bounds (2 * gap + 1) bounds (grid_point x) ≡ true) (same_is p.at q.at same) stands.near)
            stands'.near;
        begins = stands'.begins ∙ sym (last_over a b run more);
        ends = stands'.ends;
      },
      subst (λ (x : Point). Tracks gap (Some x) last points) (sym (last_over a b run more)) after,
    )

-- what comes after a first point may change
after_first : (gap : ℕ) (from : Option Point) (coming : List Point) (p : TrackedPoint) (points others : List TrackedPoint)
    → ((x : Option Point) (xs : List Point) → Some p.from ≡ x → Leads xs p.to → Tracks gap x xs points → Tracks gap x xs others)
    → Tracks gap from coming (p ∷ points) → Tracks gap from coming (p ∷ others)
after_first gap from coming p points others change (inl (put, after)) =
    inl (put, change from coming put.begins (leads coming p.to put.ends) after)
after_first gap from coming p points others change (inr (q, run, rest, bounds, stands, after)) =
    inr (q, run, rest, bounds, stands, change (Some (last_of q run)) rest (ap Some stands.begins) stands.ends after)

pub merged_tracks : (gap : ℕ) (from : Option Point) (coming : List Point) (p : TrackedPoint) (points : List TrackedPoint)
    → Tracks gap from coming (p ∷ points) → Tracks gap from coming (merged_from p points)
merged_tracks gap from coming p [] tracks = tracks
merged_tracks gap from coming p (q ∷ points) tracks =
    by_test (is_same_point p.at q.at) refl (λ same. merged_tracks gap from coming (merged p q) points
    (joined_tracks gap from coming p q points same tracks))
    (after_first gap from coming p (q ∷ points) (merged_from q points)
    (λ x xs begins ends after. merged_tracks gap x xs q points after) tracks)
  where
    by_test : (b : Bool) → is_same_point p.at q.at ≡ b
        → (is_same_point p.at q.at ≡ true → Tracks gap from coming (merged_from (merged p q) points))
        → Tracks gap from coming (p ∷ merged_from q points)
        → Tracks gap from coming (if b then merged_from (merged p q) points else p ∷ merged_from q points)
    by_test true same one two = one same
    by_test false other one two = two

-- A point that may move to a place keeps near.
put_moved : (gap : ℕ) (from : Option Point) (coming : List Point) (o : Option Point) (p : TrackedPoint) → IsPut gap from coming p
    → IsPut gap from coming (point_at gap o p)
put_moved gap from coming None p put = put
put_moved gap from coming (Some to) p put = by_test (may_move gap to p) refl
  where
    by_test : (b : Bool) → may_move gap to p ≡ b → IsPut gap from coming (if b then record p { at = to } else p)
    by_test false stays = put
    by_test true moves = record {
      drawn = put.drawn;
      begins = put.begins;
      ends = put.ends;
      near = subst (λ (d : Option PointBounds). lets_move gap to p d ≡ true) put.drawn moves;
    }

stands_moved : (gap : ℕ) (coming : List Point) (q : Point) (run rest : List Point) (bounds : PointBounds) (o : Option Point)
    (p : TrackedPoint) → Stands gap coming q run rest bounds p → Stands gap coming q run rest bounds (point_at gap o p)
stands_moved gap coming q run rest bounds None p stands = stands
stands_moved gap coming q run rest bounds (Some to) p stands = by_test (may_move gap to p) refl
  where
    by_test : (b : Bool) → may_move gap to p ≡ b
        → Stands gap coming q run rest bounds (if b then record p { at = to } else p)
    by_test false stays = stands
    by_test true moves = record {
      drawn = stands.drawn;
      next = stands.next;
      has = stands.has;
      near = subst (λ (d : Option PointBounds). lets_move gap to p d ≡ true) stands.drawn moves;
      begins = stands.begins;
      ends = stands.ends;
    }

pub moved_tracks : (gap : ℕ) (moves : List SpotMove) (block : ℕ) (from : Option Point) (coming : List Point) (points : List TrackedPoint)
    → Tracks gap from coming points → Tracks gap from coming (points_moved gap moves block points)
moved_tracks gap moves block from coming [] none = none
moved_tracks gap moves block from coming (p ∷ points) (inl (put, after)) =
    inl (put_moved gap from coming (target_in moves (spot_at block p.at)) p put, moved_tracks gap moves block from coming points after)
moved_tracks gap moves block from coming (p ∷ points) (inr (q, run, rest, bounds, stands, after)) =
    inr (
      q,
      run,
      rest,
      bounds,
      stands_moved gap coming q run rest bounds (target_in moves (spot_at block p.at)) p stands,
      moved_tracks gap moves block (Some (last_of q run)) rest points after,
    )

-- Points put into a segment keep near it.
put_tracks : (gap : ℕ) (from : Option Point) (coming : List Point) (p : TrackedPoint) (points : List TrackedPoint) (places : List ℕ)
    → Some p.from ≡ from → LeadsOn coming p.to
    → All (λ n. is_near (gap + 1) (grid_point (point_of_place n)) (segment_as_drawn p) ≡ true) places
    → Tracks gap from coming points → Tracks gap from coming (points_put p places ++ points)
put_tracks gap from coming p points [] begins ends near tracks = tracks
put_tracks gap from coming p points (n ∷ places) begins ends near tracks =
    inl (
      record { drawn = refl; begins = begins; ends = ends; near = All-head Near n places near },
      put_tracks gap from coming p points places begins ends (All-tail Near n places near) tracks,
    )
  where
    Near : ℕ → Type 0
    Near n = is_near (gap + 1) (grid_point (point_of_place n)) (segment_as_drawn p) ≡ true

leads_more : (gap : ℕ) (from : Option Point) (coming : List Point) (to : Point) (q : TrackedPoint) (points : List TrackedPoint)
    → Leads coming to → Tracks gap from coming (q ∷ points) → LeadsOn coming to
leads_more gap from [] to q points ends (inl (put, after)) = put.ends
leads_more gap from [] to q points ends (inr (a, run, rest, bounds, stands, after)) = absurd (nothing a (run ++ rest) stands.next)
  where
    nothing : (a : Point) (ps : List Point) → [] ≡ a ∷ ps → ⊥
    nothing a ps is = cc
leads_more gap from (c ∷ coming) to q points ends tracks = ends

-- The numbers put into each segment of a line, from a segment on, are near it.
abbrev pub AreNear : (gap : ℕ) → (SegmentKey → List ℕ) → (line segment : ℕ) → List TrackedPoint → Type 0
AreNear gap places line segment points = (k j : ℕ) → j ≡ segment + k
    → All (λ n. NearFirst gap n (drop k points)) (places (record { line = line; segment = j }))

pub filled_tracks : (gap : ℕ) (places : SegmentKey → List ℕ) (line segment : ℕ) (from : Option Point) (coming : List Point)
    (p : TrackedPoint)
    (points : List TrackedPoint) → AreNear gap places line segment (p ∷ points) → Tracks gap from coming (p ∷ points)
    → Tracks gap from coming (filled_from places line segment p points)
filled_tracks gap places line segment from coming p [] near tracks = tracks
filled_tracks gap places line segment from coming p (q ∷ points) near tracks =
    after_first gap from coming p (q ∷ points) (points_put p here ++ filled_from places line (segment + 1) q points)
    (λ x xs begins ends after.
    put_tracks gap x xs p (filled_from places line (segment + 1) q points) here begins
    (leads_more gap x xs p.to q points ends after) (near 0 segment (let is : segment ≡ segment + 0 = omega arith in is))
    (filled_tracks gap places line (segment + 1) x xs q points
    (λ k j is. near (suc k) j (omega (arith, is))) after))
    tracks
  where
    here : List ℕ
    here = places (record { line = line; segment = segment })
