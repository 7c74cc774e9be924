-- Two spots are connected by lines exactly where lines at them are connected.
use Rattle.std.proofs.Common.{arith, ◌≡◌, ◌⊎◌, inl, inr, ℕ, zero, suc, Bool, true, false, cond, List, [], ◌∷◌, map, slice_get, Some, All, refl, sym, ◌∙◌, ap, subst}
use Rattle.line_graph.proofs.Names.{nat_tests, All-head, All-tail, slice_get-get_or, Point, last_point_or, Spot, LineValue, is_same_spot, DrawingValue, optional_line_block, first_point, last_point, optional_line_points, endpoints, IsLineEnd, AreConnected, IsPathOfLines, are_connected_spots, SpotsAreConnected, same_spot, spot_found, some_same, end_spots, representative, merged_representative}
use Rattle.line_graph.proofs.LabelLemmas.{joined_back, joined_on}
use Rattle.line_graph.proofs.LinkLemmas.{below_get, share_of, touch_joins, touch_of}

-- lines at the two spots are connected
record Linked (d : DrawingValue) (a b : Spot) : Type 0 where
  i : ℕ
  j : ℕ
  one : IsLineEnd d i a
  two : IsLineEnd d j b
  chain : AreConnected d i j

-- the spots are equal, or lines at them are connected
abbrev Same : DrawingValue → Spot → Spot → Type 0
Same d a b = (a ≡ b) ⊎ Linked d a b

-- lines with an end at one spot are connected
meeting : (d : DrawingValue) (a : Spot) (i j : ℕ) → IsLineEnd d i a → IsLineEnd d j a → AreConnected d i j
meeting d a i j one two = touch_joins d i j (touch_of d i j (record { spot = a; one = one; two = two }))

-- the other way round
same_back : (d : DrawingValue) (a b : Spot) → Same d a b → Same d b a
same_back d a b (inl is) = inl (sym is)
same_back d a b (inr l) = inr (record { i = l.j; j = l.i; one = l.two; two = l.one; chain = joined_back d l.i l.j l.chain })

-- and on
same_on : (d : DrawingValue) (a b c : Spot) → Same d a b → Same d b c → Same d a c
same_on d a b c (inl is) then = subst (λ (s : Spot). Same d s c) (sym is) then
same_on d a b c (inr l) (inl is) = subst (λ (s : Spot). Same d a s) is (inr l)
same_on d a b c (inr l) (inr m) = inr (record {
  i = l.i;
  j = m.j;
  one = l.one;
  two = m.two;
  chain = joined_on d l.i l.j m.j l.chain (joined_on d l.j m.i m.j (meeting d b l.j m.i l.two m.one) m.chain);
})

-- the line is in the drawing
abbrev IsIn : DrawingValue → LineValue → Type 0
IsIn d line = (i : ℕ) × (slice_get d.lines i ≡ Some line)

-- a spot in the block of a line
abbrev spot_on : LineValue → Point → Spot
spot_on line p = record { block = line.block; at = p }

-- the two ends of a line are linked
ends_linked : (d : DrawingValue) (line : LineValue) (p : Point) (more : List Point) → IsIn d line → line.points ≡ p ∷ more
    → Same d (spot_on line p) (spot_on line (last_point_or p more))
ends_linked d line p more (i, is) points =
    let there = below_get d.lines i line is in
    let at : optional_line_points (slice_get d.lines i) ≡ p ∷ more = ap optional_line_points is ∙ points in
    inr (record {
      i = i;
      j = i;
      one = record { there = there; block = ap optional_line_block is; at_end = inl (ap first_point at) };
      two = record { there = there; block = ap optional_line_block is; at_end = inr (ap last_point at) };
      chain = ([], refl);
    })

-- the representative of a spot is linked with it
stands_linked : (d : DrawingValue) (lines : List LineValue) → All (IsIn d) lines → (s : Spot) → Same d s (representative lines s)
stands_linked d [] all s = inl refl
stands_linked d (line ∷ rest) all s = by_points (λ k. stands_linked d rest (All-tail (IsIn d) line rest all) k) line.points refl
  where
    Before : Type 0
    Before = (k : Spot) → Same d k (representative rest k)

    by_test : Before → (p : Point) (more : List Point) → line.points ≡ p ∷ more → (t : Bool)
        → is_same_spot (representative rest s) (representative rest (spot_on line p)) ≡ t
        → Same d s (cond t (representative rest (spot_on line (last_point_or p more))) (representative rest s))
    by_test before p more is false test = before s
    by_test before p more is true test =
        let first : Spot = spot_on line p in
        let last : Spot = spot_on line (last_point_or p more) in
        let here : Same d s (representative rest first) =
        subst (λ (k : Spot). Same d s k) (same_spot (representative rest s) (representative rest first) test) (before s) in
        let to_first = same_on d s (representative rest first) first here (same_back d first (representative rest first) (before first)) in
        let to_last = same_on d s first last to_first (ends_linked d line p more (All-head (IsIn d) line rest all) is) in
        same_on d s last (representative rest last) to_last (before last)

    by_points : Before → (ps : List Point) → line.points ≡ ps
        → Same d s (merged_representative (map (spot_on line) (endpoints ps)) (representative rest) s)
    by_points before [] is = before s
    by_points before (p ∷ more) is = by_test before p more is _ refl

-- spots with the same representative are linked
led : (d : DrawingValue) (a b : Spot) (i j : ℕ) → IsLineEnd d i a → IsLineEnd d j b → are_connected_spots d.lines a b ≡ true
    → AreConnected d i j
led d a b i j one two found = by_same (same_on d a (representative d.lines a) b (before a)
    (subst (λ (k : Spot). Same d k b) (sym (same_spot (representative d.lines a) (representative d.lines b) found))
    (same_back d b (representative d.lines b) (before b))))
  where
    none : LineValue
    none = record { block = 0; points = [] }

    before : (s : Spot) → Same d s (representative d.lines s)
    before = stands_linked d d.lines (λ k. λ x. λ below. (k, slice_get-get_or d.lines k x below))

    by_same : Same d a b → AreConnected d i j
    by_same (inl is) = meeting d b i j (subst (λ (s : Spot). IsLineEnd d i s) is one) two
    by_same (inr l) = joined_on d i l.i j (meeting d a i l.i one l.one)
        (joined_on d l.i l.j j l.chain (meeting d b l.j j l.two two))

-- two spots with the same representative keep the same one
stands_kept : (ends : List Spot) (stands : Spot → Spot) (a b : Spot) → stands a ≡ stands b
    → merged_representative ends stands a ≡ merged_representative ends stands b
stands_kept [] stands a b is = is
stands_kept (p ∷ []) stands a b is = is
stands_kept (p ∷ q ∷ rest) stands a b is = ap (λ (s : Spot). cond (is_same_spot s (stands p)) (stands q) s) is

-- the spot is at an end of the line
abbrev AtEnd : LineValue → Spot → Type 0
AtEnd line s = (line.block ≡ s.block) × ((first_point line.points ≡ Some s.at) ⊎ (last_point line.points ≡ Some s.at))

-- both ends of a line have the same representative
at_one : (line : LineValue) (stands : Spot → Spot) (a b : Spot) → AtEnd line a → AtEnd line b
    → merged_representative (end_spots line) stands a ≡ merged_representative (end_spots line) stands b
at_one line stands a b one two = by_points line.points refl one two
  where
    make : ℕ → Point → Spot
    make block at = record { block = block; at = at }

    both : List Point → Spot → Spot
    both ps = merged_representative (map (spot_on line) (endpoints ps)) stands

    first_stands : (p : Point) (more : List Point) → both (p ∷ more) (spot_on line p) ≡ stands (spot_on line (last_point_or p more))
    first_stands p more = grind (arith, nat_tests, spot_found (stands (spot_on line p)))

    last_stands : (p : Point) (more : List Point)
        → both (p ∷ more) (spot_on line (last_point_or p more)) ≡ stands (spot_on line (last_point_or p more))
    last_stands p more = either _
      where
        either : (t : Bool) → cond t (stands (spot_on line (last_point_or p more))) (stands (spot_on line (last_point_or p more)))
            ≡ stands (spot_on line (last_point_or p more))
        either true = refl
        either false = refl

    end_stands : (p : Point) (more : List Point) (s : Spot) → line.block ≡ s.block
        → (first_point (p ∷ more) ≡ Some s.at) ⊎ (last_point (p ∷ more) ≡ Some s.at)
        → both (p ∷ more) s ≡ stands (spot_on line (last_point_or p more))
    end_stands p more s block (inl is) =
        ap (both (p ∷ more)) (sym (ap (λ (n : ℕ). make n p) block ∙ ap (make s.block) (some_same p s.at is))) ∙ first_stands p more
    end_stands p more s block (inr is) =
        ap (both (p ∷ more)) (sym (ap (λ (n : ℕ). make n (last_point_or p more)) block
        ∙ ap (make s.block) (some_same (last_point_or p more) s.at is))) ∙ last_stands p more

    no_first : (p : Point) → first_point [] ≡ Some p → ⊥
    no_first p is = cc

    no_last : (p : Point) → last_point [] ≡ Some p → ⊥
    no_last p is = cc

    by_points : (ps : List Point) → line.points ≡ ps → AtEnd line a → AtEnd line b → both ps a ≡ both ps b
    by_points [] is (block, inl at) other = absurd (no_first a.at (ap first_point (sym is) ∙ at))
    by_points [] is (block, inr at) other = absurd (no_last a.at (ap last_point (sym is) ∙ at))
    by_points (p ∷ more) is one two = grind (arith, nat_tests, end_stands p more a one.0, one, end_stands p more b two.0, two)

-- and for both ends of each of the lines
line_stands : (lines : List LineValue) (i : ℕ) (line : LineValue) → slice_get lines i ≡ Some line → (a b : Spot) → AtEnd line a
    → AtEnd line b → representative lines a ≡ representative lines b
line_stands [] i line is a b one two = absurd (cc)
line_stands (x ∷ rest) zero line is a b one two = grind (arith, nat_tests, at_one x (representative rest) a b)
line_stands (x ∷ rest) (suc i) line is a b one two =
    stands_kept (end_spots x) (representative rest) a b (line_stands rest i line is a b one two)

-- the same of the lines of a drawing
index_stands : (d : DrawingValue) (i : ℕ) (a b : Spot) → IsLineEnd d i a → IsLineEnd d i b
    → representative d.lines a ≡ representative d.lines b
index_stands d i a b one two = grind (arith, nat_tests, slice_get-get_or d.lines i, line_stands d.lines i)

-- the ends of all lines of a chain have the same representative
chain_stands : (d : DrawingValue) (i j : ℕ) (chain : List ℕ) → IsPathOfLines d i chain j → (a b : Spot) → IsLineEnd d i a → IsLineEnd d j b
    → representative d.lines a ≡ representative d.lines b
chain_stands d i j [] leads a b one two = index_stands d i a b one (subst (λ (k : ℕ). IsLineEnd d k b) (sym leads) two)
chain_stands d i j (k ∷ chain) leads a b one two =
    let share = share_of d i k leads.0 in
    index_stands d i a share.spot one share.one ∙ chain_stands d k j chain leads.1 share.spot b share.two two

pub spots_are_joined : SpotsAreConnected
spots_are_joined d a b i j one two = record {
  led = led d a b i j one two;
  found = λ chain. ap (λ (s : Spot). is_same_spot s (representative d.lines b)) (chain_stands d i j chain.0 chain.1 a b one two)
      ∙ spot_found (representative d.lines b);
}
