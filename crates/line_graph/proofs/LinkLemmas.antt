-- Lines that touch are linked with one line.
use Rattle.std.proofs.Common.{◌≡◌, ◌<◌, ◌≤◌, ◌⊎◌, inl, inr, ℕ, zero, suc, ◌+◌, ◌==◌, Bool, true, false, cond, List, [], ◌∷◌, length, get_or, slice_get, Option, Some, None, All, Contains, arith, refl, sym, ◌∙◌, ap, subst}
use Rattle.std.proofs.Math.Path.{ap₂}
use Rattle.line_graph.proofs.Names.{and_parts, or_cases, or_left, or_right, nat_tests, All-contains, All-push, All-weaker, slice_get-get_or, list_any, Point, is_same_point, last_point_or, Spot, LineValue, is_same_spot, LineLink, DrawingValue, optional_line_block, block_of, first_point, last_point, optional_line_points, points_of, endpoints, AreLinks, IsLineEnd, AreLinkedBelow, LabelsAgree, AreConnected, LinesTouch, shares_point, same_found, same_is, same_spot, spot_found, same_number, some_same, Contains-append_left, Contains-push, AddsLink, IsLinkedAt, SharesEnd, RecordsFirstLine}

-- a new one takes the line
pub takes_new : (spot : Spot) (line : ℕ) (old new : Spot → Option ℕ) → old spot ≡ None
    → ((other : Spot) → new other ≡ cond (is_same_spot spot other) (Some line) (old other)) → RecordsFirstLine spot line old new line
takes_new spot line old new none updates = grind (arith, nat_tests, spot_found spot, same_spot spot, some_same line)

-- what is linked stays linked, and the line is
linked_more : (spot other : Spot) (line i : ℕ) (old new : Spot → Option ℕ) (before after : List LineLink)
    → AddsLink spot line old new before after → IsLinkedAt old before i other → IsLinkedAt new after i other
linked_more spot other line i old new before after adds at = record {
  first = at.first;
  is = adds.takes.keeps other at.first at.is;
  linked = let there = Contains-append_left before (record { line = line; first = adds.first } ∷ [])
      (record { line = i; first = at.first }) at.linked in
      subst (λ (links : List LineLink). Contains links (record { line = i; first = at.first })) (sym adds.added) there;
}

-- and the line is linked
linked_here : (spot : Spot) (line : ℕ) (old new : Spot → Option ℕ) (before after : List LineLink) → AddsLink spot line old new before after
    → IsLinkedAt new after line spot
linked_here spot line old new before after adds = record {
  first = adds.first;
  is = adds.takes.is;
  linked = subst (λ (links : List LineLink). Contains links (record { line = line; first = adds.first })) (sym adds.added)
      (Contains-push before (record { line = line; first = adds.first }));
}

-- first lines stay lines with an end there
sound_more : (d : DrawingValue) (spot : Spot) (line first : ℕ) (old new : Spot → Option ℕ) → RecordsFirstLine spot line old new first
    → IsLineEnd d line spot → ((other : Spot) (n : ℕ) → old other ≡ Some n → IsLineEnd d n other) → (other : Spot) (n : ℕ)
    → new other ≡ Some n → IsLineEnd d n other
sound_more d spot line first old new takes here sound other n is = elim (takes.only other n is) [
  | inl before ↦ sound other n before
  | inr now ↦ subst (λ (s : Spot). IsLineEnd d n s) (sym now.0) (subst (λ (k : ℕ). IsLineEnd d k spot) (sym now.1) here)
]

-- one link more
one_linked : (d : DrawingValue) (count : ℕ) (spot : Spot) (line : ℕ) (old new : Spot → Option ℕ) (before after : List LineLink)
    → IsLineEnd d line spot → AddsLink spot line old new before after → AreLinkedBelow d count old before → AreLinkedBelow d count new after
one_linked d count spot line old new before after here adds linking =
    let sound = sound_more d spot line adds.first old new adds.takes here linking.sound in
    record {
      sound = sound;
      met = λ i. λ other. λ below. λ ends. linked_more spot other line i old new before after adds (linking.met i other below ends);
      shared = subst (λ (links : List LineLink). All (λ (link : LineLink). SharesEnd d link.line link.first) links) (sym adds.added)
          (All-push (λ (link : LineLink). SharesEnd d link.line link.first) before (record { line = line; first = adds.first })
          linking.shared
          (record { spot = spot; one = here; two = sound spot adds.first adds.takes.is }));
    }

-- a line is linked at both ends
pub line_linked : (d : DrawingValue) (line block : ℕ) (p q : Point) (f0 f1 f2 : Spot → Option ℕ) (l0 l1 l2 : List LineLink)
    → line < length d.lines → block ≡ block_of d line → first_point (points_of d line) ≡ Some p → last_point (points_of d line) ≡ Some q
    → AreLinkedBelow d line f0 l0 → AddsLink (record { block = block; at = p }) line f0 f1 l0 l1
    → AddsLink (record { block = block; at = q }) line f1 f2 l1 l2 → AreLinkedBelow d (line + 1) f2 l2
line_linked d line block p q f0 f1 f2 l0 l1 l2 there block_is first last linking one two =
    let here_p : IsLineEnd d line (record { block = block; at = p }) = record { there = there; block = sym block_is; at_end = inl first } in
    let here_q : IsLineEnd d line (record { block = block; at = q }) = record { there = there; block = sym block_is; at_end = inr last } in
    let more = one_linked d line (record { block = block; at = q }) line f1 f2 l1 l2 here_q two
    (one_linked d line (record { block = block; at = p }) line f0 f1 l0 l1 here_p one linking) in
    let at_p = linked_more (record { block = block; at = q }) (record { block = block; at = p }) line line f1 f2 l1 l2 two
    (linked_here (record { block = block; at = p }) line f0 f1 l0 l1 one) in
    let at_q = linked_here (record { block = block; at = q }) line f1 f2 l1 l2 two in
    record {
      sound = more.sound;
      met = λ i. λ spot. λ below. λ ends. met_by i spot below ends more at_p at_q (i == line) refl;
      shared = more.shared;
    }
  where
    spot_is : (spot : Spot) (r : Point) → block_of d line ≡ spot.block → r ≡ spot.at → record { block = block; at = r } ≡ spot
    spot_is spot r in_block at = grind (arith, nat_tests, ap₂)

    earlier : (i line : ℕ) → (i == line) ≡ false → i < line + 1 → i < line
    earlier i line test below = grind (arith, nat_tests)

    met_by : (i : ℕ) (spot : Spot) → i < line + 1 → IsLineEnd d i spot → AreLinkedBelow d line f2 l2
        → IsLinkedAt f2 l2 line (record { block = block; at = p })
        → IsLinkedAt f2 l2 line (record { block = block; at = q }) → (t : Bool) → (i == line) ≡ t → IsLinkedAt f2 l2 i spot
    met_by i spot below ends more at_p at_q false test = more.met i spot (earlier i line test below) ends
    met_by i spot below ends more at_p at_q true test =
        grind (arith, nat_tests, same_number i line test, spot_is spot p, some_same p spot.at, spot_is spot q, some_same q spot.at)

-- an end is found among the ends
in_ends : (ps : List Point) (x : Point) (test : Point → Bool) → (first_point ps ≡ Some x) ⊎ (last_point ps ≡ Some x) → test x ≡ true
    → list_any test (endpoints ps) ≡ true
in_ends [] x test (inl is) holds = absurd (cc)
in_ends [] x test (inr is) holds = absurd (cc)
in_ends (p ∷ rest) x test (inl is) holds =
    or_left (test p) (list_any test (last_point_or p rest ∷ [])) (subst (λ (y : Point). test y ≡ true) (sym (some_same p x is)) holds)
in_ends (p ∷ rest) x test (inr is) holds =
    or_right (test p) (list_any test (last_point_or p rest ∷ []))
    (or_left (test (last_point_or p rest)) false (subst (λ (y : Point). test y ≡ true) (sym (some_same (last_point_or p rest) x is)) holds))

-- and what is found there is an end
pub record FoundEnd (ps : List Point) (test : Point → Bool) : Type 0 where
  pub point : Point
  pub at_end : (first_point ps ≡ Some point) ⊎ (last_point ps ≡ Some point)
  pub holds : test point ≡ true

-- an end that passes a test that one passes
pub from_ends : (ps : List Point) (test : Point → Bool) → list_any test (endpoints ps) ≡ true → FoundEnd ps test
from_ends [] test found = absurd (cc)
from_ends (p ∷ rest) test found = elim (or_cases (test p) (list_any test (last_point_or p rest ∷ [])) found) [
  | inl here ↦ record { point = p; at_end = inl refl; holds = here }
  | inr later ↦ elim (or_cases (test (last_point_or p rest)) false later) [
    | inl here ↦ record { point = last_point_or p rest; at_end = inr refl; holds = here }
    | inr none ↦ absurd (cc)
  ]
]

-- a line that is there has an index below their number
pub below_get : (lines : List LineValue) (i : ℕ) (line : LineValue) → slice_get lines i ≡ Some line → i < length lines
below_get [] i line is = absurd (cc)
below_get (x ∷ lines) zero line is = omega arith
below_get (x ∷ lines) (suc i) line is = omega (arith, below_get lines i line is)

-- lines that share an end touch
pub touch_of : (d : DrawingValue) (i j : ℕ) → SharesEnd d i j → LinesTouch d i j
touch_of d i j share =
    let none : LineValue = record { block = 0; points = [] } in
    let a : LineValue = get_or d.lines i none in
    let b : LineValue = get_or d.lines j none in
    let one_is : slice_get d.lines i ≡ Some a = slice_get-get_or d.lines i none share.one.there in
    let other_is : slice_get d.lines j ≡ Some b = slice_get-get_or d.lines j none share.two.there in
    let in_a = subst (λ (ps : List Point). (first_point ps ≡ Some share.spot.at) ⊎ (last_point ps ≡ Some share.spot.at))
    (ap optional_line_points one_is) share.one.at_end in
    let in_b = subst (λ (ps : List Point). (first_point ps ≡ Some share.spot.at) ⊎ (last_point ps ≡ Some share.spot.at))
    (ap optional_line_points other_is) share.two.at_end in
    let blocks : (a.block == b.block) ≡ true =
    alike a.block b.block (sym (ap optional_line_block one_is) ∙ share.one.block ∙ sym share.two.block ∙ ap optional_line_block other_is) in
    let points : shares_point (endpoints a.points) (endpoints b.points) ≡ true = in_ends a.points share.spot.at
    (λ p. list_any (is_same_point p) (endpoints b.points)) in_a
    (in_ends b.points share.spot.at (is_same_point share.spot.at) in_b (same_found share.spot.at share.spot.at refl)) in
    record { one = a; other = b; one_is = one_is; other_is = other_is; touch = rw (blocks, points) refl }
  where
    alike : (m n : ℕ) → m ≡ n → (m == n) ≡ true
    alike m n is = grind (arith, nat_tests)

-- lines that touch share an end
pub share_of : (d : DrawingValue) (i j : ℕ) → LinesTouch d i j → SharesEnd d i j
share_of d i j t =
    let both = and_parts (t.one.block == t.other.block) (shares_point (endpoints t.one.points) (endpoints t.other.points)) t.touch in
    let x = from_ends t.one.points (λ p. list_any (is_same_point p) (endpoints t.other.points)) both.1 in
    let y = from_ends t.other.points (is_same_point x.point) x.holds in
    let is : y.point ≡ x.point = sym (same_is x.point y.point y.holds) in
    record {
      spot = record { block = t.one.block; at = x.point };
      one = record {
        there = below_get d.lines i t.one t.one_is;
        block = ap optional_line_block t.one_is;
        at_end = subst (λ (ps : List Point). (first_point ps ≡ Some x.point) ⊎ (last_point ps ≡ Some x.point))
            (sym (ap optional_line_points t.one_is)) x.at_end;
      };
      two = record {
        there = below_get d.lines j t.other t.other_is;
        block = ap optional_line_block t.other_is ∙ sym (same_number t.one.block t.other.block both.0);
        at_end = subst (λ (ps : List Point). (first_point ps ≡ Some x.point)
            ⊎ (last_point ps ≡ Some x.point)) (sym (ap optional_line_points t.other_is))
            (subst (λ (p : Point). (first_point t.other.points ≡ Some p) ⊎ (last_point t.other.points ≡ Some p)) is y.at_end);
      };
    }

-- lines that touch are connected
pub touch_joins : (d : DrawingValue) (i j : ℕ) → LinesTouch d i j → AreConnected d i j
touch_joins d i j touch = (j ∷ [], (touch, refl))

-- with all lines linked, those that touch agree wherever linked lines do
pub all_linked : (d : DrawingValue) (count : ℕ) (firsts : Spot → Option ℕ) (links : List LineLink) → length d.lines ≤ count
    → AreLinkedBelow d count firsts links → AreLinks d links
all_linked d count firsts links all linking = record {
  within = All-weaker (λ (link : LineLink). SharesEnd d link.line link.first) (λ (link : LineLink). (link.line < length d.lines)
      × (link.first < length d.lines))
      (λ link. λ share. (share.one.there, share.two.there)) links linking.shared;
  joined = All-weaker (λ (link : LineLink). SharesEnd d link.line link.first) (λ (link : LineLink). AreConnected d link.line link.first)
      (λ link. λ share. touch_joins d link.line link.first (touch_of d link.line link.first share)) links linking.shared;
  met = λ labels. λ agree. λ i. λ j. λ touch. agreed labels agree i j (share_of d i j touch);
}
  where
    agreed : (labels : List ℕ) → LabelsAgree labels links → (i j : ℕ) → SharesEnd d i j → get_or labels i 0 ≡ get_or labels j 0
    agreed labels agree i j share =
        let Agreed : LineLink → Type 0 = λ (link : LineLink). get_or labels link.line 0 ≡ get_or labels link.first 0 in
        let one = linking.met i share.spot (omega (arith, share.one.there, all)) share.one in
        let two = linking.met j share.spot (omega (arith, share.two.there, all)) share.two in
        let is : one.first ≡ two.first = some_same one.first two.first (sym one.is ∙ two.is) in
        All-contains Agreed links (record { line = i; first = one.first }) agree one.linked ∙ ap (λ (k : ℕ). get_or labels k 0) is
        ∙ sym (All-contains Agreed links (record { line = j; first = two.first }) agree two.linked)
