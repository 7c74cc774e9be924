-- What lowering labels keeps.
use Rattle.std.proofs.Common.{◌≡◌, ◌≤◌, ◌<◌, ◌⊎◌, inl, inr, ℕ, suc, ◌+◌, ◌==◌, Bool, true, false, ◌||◌, List, [], ◌∷◌, ◌++◌, length, get_or, set, take, min, All, sum_by, arith, refl, sym, ◌∙◌, ap, subst}
use Rattle.line_graph.proofs.Names.{eqb-false, or_parts, nat_tests, get_or-set_other, get_or-set_same, length-set, take_more, All-append, All-cons, All-head, All-nil, LineLink, DrawingValue, LabelsAgree, AreAtMostIndex, AreOwnIndexes, LowersLabels, one_if, AreConnected, same_number, sum_by-set, LinkedAreConnected, AreConnectedToLabels, LowersOneLabel}
use Rattle.line_graph.proofs.PieceLimits.{leads_back, leads_on}

-- labels that were lowered along links, so far
pub record IsLowered (links : List LineLink) (old new : List ℕ) : Type 0 where
  pub sized : length new ≡ length old
  pub low : AreAtMostIndex new
  pub reached : (d : DrawingValue) → LinkedAreConnected d links → AreConnectedToLabels d old → AreConnectedToLabels d new

-- connection of lines is symmetric and transitive
pub joined_back : (d : DrawingValue) (i j : ℕ) → AreConnected d i j → AreConnected d j i
joined_back d i j one = leads_back d i j one.0 one.1

-- and on
pub joined_on : (d : DrawingValue) (i j k : ℕ) → AreConnected d i j → AreConnected d j k → AreConnected d i k
joined_on d i j k one two = (one.0 ++ two.0, leads_on d i j k one.0 two.0 one.1 two.1)

-- one label lowered keeps what holds of each label, if it holds of the new one
lowered_each : (P : ℕ → ℕ → Type 0) (line label : ℕ) (old new : List ℕ) (changed : Bool) → LowersOneLabel line label old new changed
    → P line label → ((i : ℕ) → i < length old → P i (get_or old i 0)) → (i : ℕ) → i < length new → P i (get_or new i 0)
lowered_each P line label old new false is new_one each i below = grind (arith, nat_tests)
lowered_each P line label old new true is new_one each i below =
    subst (λ (ls : List ℕ). P i (get_or ls i 0)) (sym is.1) (by_test (i == line) refl)
  where
    within : i < length old
    within = omega (arith, subst (λ (ls : List ℕ). i < length ls) is.1 below, length-set old line label)

    by_test : (t : Bool) → (i == line) ≡ t → P i (get_or (set old line label) i 0)
    by_test true test =
        let one : i ≡ line = same_number i line test in
        subst (λ (k : ℕ). P k (get_or (set old line label) k 0)) (sym one)
        (subst (λ (k : ℕ). P line k) (sym (get_or-set_same old line label 0 (subst (λ (k : ℕ). k < length old) one within))) new_one)
    by_test false test = subst (λ (k : ℕ). P i k) (sym (get_or-set_other old line i label 0 (eqb-false i line test))) (each i within)

-- lowering keeps the number of labels
lowered_sized : (line label : ℕ) (old new : List ℕ) (changed : Bool) → LowersOneLabel line label old new changed → length new ≡ length old
lowered_sized line label old new true is = ap length is.1 ∙ length-set old line label
lowered_sized line label old new false is = ap length is.1

-- and makes their sum less, if it changes any
lowered_less : (line label : ℕ) (old new : List ℕ) (changed : Bool) → line < length old → LowersOneLabel line label old new changed
    → sum_by (λ n. n) new + one_if changed ≤ sum_by (λ n. n) old
lowered_less line label old new true below is = grind (arith, nat_tests, sum_by-set (λ (n : ℕ). n) old line label 0 below)
lowered_less line label old new false below is = omega (arith, ap (sum_by (λ (n : ℕ). n)) is.1)

-- no change means that the label is as low already
lowered_not : (line label : ℕ) (old new : List ℕ) (changed : Bool) → changed ≡ false → LowersOneLabel line label old new changed
    → (new ≡ old) × (get_or old line 0 ≤ label)
lowered_not line label old new true none is = absurd (cc)
lowered_not line label old new false none is = (is.1, is.0)

-- sums that grow less in two steps
either_less : (a b : Bool) (x y z : ℕ) → y + one_if a ≤ x → z + one_if b ≤ y → z + one_if (b || a) ≤ x
either_less true true x y z one two = omega (arith, one, two)
either_less true false x y z one two = omega (arith, one, two)
either_less false true x y z one two = omega (arith, one, two)
either_less false false x y z one two = omega (arith, one, two)

-- lowering along links and then along one more
pub one_more_lowered : (links : List LineLink) (link : LineLink) (old mid new : List ℕ) (a b : Bool) → LowersLabels links old mid a
    → LowersLabels (link ∷ []) mid new b → LowersLabels (links ++ link ∷ []) old new (b || a)
one_more_lowered links link old mid new a b one two = record {
  sized = two.sized ∙ one.sized;
  low = λ low. two.low (one.low low);
  reached = λ d. λ linked. λ reached.
      two.reached d (All-behind links (link ∷ []) (λ (l : LineLink). AreConnected d l.line l.first) linked)
      (one.reached d (All-before links (link ∷ []) (λ (l : LineLink). AreConnected d l.line l.first) linked) reached);
  less = either_less a b (sum_by (λ (n : ℕ). n) old) (sum_by (λ (n : ℕ). n) mid) (sum_by (λ (n : ℕ). n) new) one.less two.less;
  settled = λ none.
      let none_of = or_parts b a none in
      let first = one.settled none_of.1 in
      let then = two.settled none_of.0 in (
        then.0 ∙ first.0,
        All-append (λ (l : LineLink). get_or new l.line 0 ≡ get_or new l.first 0) links (link ∷ [])
            (subst (λ (ls : List ℕ). LabelsAgree ls links) (sym then.0) first.1) then.1,
      );
}
  where
    All-behind : (xs ys : List LineLink) (P : LineLink → Type 0) → All P (xs ++ ys) → All P ys
    All-behind [] ys P all = all
    All-behind (x ∷ xs) ys P all = All-behind xs ys P (λ k. λ d. λ below. all (suc k) d (omega (arith, below)))

    All-before : (xs ys : List LineLink) (P : LineLink → Type 0) → All P (xs ++ ys) → All P xs
    All-before [] ys P all = All-nil P
    All-before (x ∷ xs) ys P all =
        All-cons P x xs (All-head P x (xs ++ ys) all) (All-before xs ys P (λ k. λ d. λ below. all (suc k) d (omega (arith, below))))

-- each line is connected to its own label
pub own_reached : (d : DrawingValue) (count : ℕ) (labels : List ℕ) → AreOwnIndexes count labels → AreConnectedToLabels d labels
own_reached d count labels own line below = ([], own.own line (omega (arith, below, own.sized)))

-- four labels lowered: those of two lines, and those of the lines that are their labels
module _ (link : LineLink) (l0 l1 l2 l3 l4 : List ℕ) (b1 b2 b3 b4 : Bool) (line first least : ℕ)
    (below_line : link.line < length l0) (below_first : link.first < length l0) (is_low : AreAtMostIndex l0)
    (line_is : line ≡ get_or l0 link.line 0) (first_is : first ≡ get_or l0 link.first 0) (one other : ℕ) (one_is : one ≡ get_or l0 line 0)
    (other_is : other ≡ get_or l0 first 0) (least_is : least ≡ min one other)
    (s1 : LowersOneLabel line least l0 l1 b1) (s2 : LowersOneLabel first least l1 l2 b2) (s3 : LowersOneLabel link.line least l2 l3 b3)
    (s4 : LowersOneLabel link.first least l3 l4 b4) where
  line_low : line ≤ link.line
  line_low = omega (arith, line_is, is_low link.line below_line)

  first_low : first ≤ link.first
  first_low = omega (arith, first_is, is_low link.first below_first)

  least_low : (least ≤ line) × (least ≤ first)
  least_low = (
    omega (arith, least_is, one_is, is_low line (omega (arith, line_low, below_line))),
    omega (arith, least_is, other_is, is_low first (omega (arith, first_low, below_first))),
  )

  four_sized : length l4 ≡ length l0
  four_sized = lowered_sized link.first least l3 l4 b4 s4 ∙ lowered_sized link.line least l2 l3 b3 s3
      ∙ lowered_sized first least l1 l2 b2 s2
      ∙ lowered_sized line least l0 l1 b1 s1

  four_each : (P : ℕ → ℕ → Type 0) → P line least → P first least → P link.line least → P link.first least
      → ((i : ℕ) → i < length l0 → P i (get_or l0 i 0)) → (i : ℕ) → i < length l4 → P i (get_or l4 i 0)
  four_each P p1 p2 p3 p4 each =
      lowered_each P link.first least l3 l4 b4 s4 p4 (lowered_each P link.line least l2 l3 b3 s3 p3
      (lowered_each P first least l1 l2 b2 s2 p2 (lowered_each P line least l0 l1 b1 s1 p1 each)))

  four_low : AreAtMostIndex l0 → AreAtMostIndex l4
  four_low low = four_each (λ i. λ label. label ≤ i) least_low.0 least_low.1 (omega (arith, least_low.0, line_low))
      (omega (arith, least_low.1, first_low)) low

  four_reached : (d : DrawingValue) → LinkedAreConnected d (link ∷ []) → AreConnectedToLabels d l0 → AreConnectedToLabels d l4
  four_reached d linked reached =
      let Reach : ℕ → ℕ → Type 0 = λ i. λ label. AreConnected d label i in
      let across : AreConnected d link.line link.first = All-head (λ (l : LineLink). AreConnected d l.line l.first) link [] linked in
      let to_line : AreConnected d line link.line = subst (λ (k : ℕ). AreConnected d k link.line) (sym line_is)
      (reached link.line below_line) in
      let to_first : AreConnected d first link.first = subst (λ (k : ℕ). AreConnected d k link.first) (sym first_is)
      (reached link.first below_first) in
      let beside : AreConnected d line first = joined_on d line link.line first to_line
      (joined_on d link.line link.first first across (joined_back d first link.first to_first)) in
      let least_line : AreConnected d least line = by_min d one other least line first beside
      (subst (λ (k : ℕ). AreConnected d k line) (sym one_is) (reached line (omega (arith, line_low, below_line))))
      (subst (λ (k : ℕ). AreConnected d k first) (sym other_is) (reached first (omega (arith, first_low, below_first)))) least_is in
      let least_first : AreConnected d least first = joined_on d least line first least_line beside in
      four_each Reach least_line least_first (joined_on d least line link.line least_line to_line)
      (joined_on d least first link.first least_first to_first) reached
    where
      is_either : (x y z : ℕ) → z ≡ min x y → (z ≡ x) ⊎ (z ≡ y)
      is_either x y z is = grind (arith, nat_tests)

      by_min : (d : DrawingValue) (x y z i j : ℕ) → AreConnected d i j → AreConnected d x i → AreConnected d y j → z ≡ min x y
          → AreConnected d z i
      by_min d x y z i j across to_i to_j is = elim (is_either x y z is) [
        | inl one ↦ subst (λ (k : ℕ). AreConnected d k i) (sym one) to_i
        | inr one ↦ subst (λ (k : ℕ). AreConnected d k i) (sym one) (joined_on d y j i to_j (joined_back d i j across))
      ]

  four_less : sum_by (λ n. n) l4 + one_if ((b4 || b3) || (b2 || b1)) ≤ sum_by (λ n. n) l0
  four_less =
      let n1 = lowered_sized line least l0 l1 b1 s1 in
      let n2 = lowered_sized first least l1 l2 b2 s2 in
      let n3 = lowered_sized link.line least l2 l3 b3 s3 in
      let two = either_less b1 b2 _ _ _ (lowered_less line least l0 l1 b1 (omega (arith, line_low, below_line)) s1)
      (lowered_less first least l1 l2 b2 (omega (arith, first_low, below_first, n1)) s2) in
      let more = either_less b3 b4 _ _ _ (lowered_less link.line least l2 l3 b3 (omega (arith, below_line, n1, n2)) s3)
      (lowered_less link.first least l3 l4 b4 (omega (arith, below_first, n1, n2, n3)) s4) in
      either_less (b2 || b1) (b4 || b3) _ _ _ two more

  four_settled : ((b4 || b3) || (b2 || b1)) ≡ false → (l4 ≡ l0) × LabelsAgree l4 (link ∷ [])
  four_settled none =
      let all = or_parts (b4 || b3) (b2 || b1) none in
      let upper = or_parts b4 b3 all.0 in
      let lower = or_parts b2 b1 all.1 in
      let one = lowered_not line least l0 l1 b1 lower.1 s1 in
      let two = lowered_not first least l1 l2 b2 lower.0 s2 in
      let three = lowered_not link.line least l2 l3 b3 upper.1 s3 in
      let four = lowered_not link.first least l3 l4 b4 upper.0 s4 in
      let to_two : l2 ≡ l0 = two.0 ∙ one.0 in
      let to_three : l3 ≡ l0 = three.0 ∙ to_two in
      let at_line : get_or l0 link.line 0 ≤ least = subst (λ (ls : List ℕ). get_or ls link.line 0 ≤ least) to_two three.1 in
      let at_first : get_or l0 link.first 0 ≤ least = subst (λ (ls : List ℕ). get_or ls link.first 0 ≤ least) to_three four.1 in
      let whole : l4 ≡ l0 = four.0 ∙ to_three in
      let agree : get_or l0 link.line 0 ≡ get_or l0 link.first 0 = omega
      (arith, at_line, at_first, least_low.0, least_low.1, line_is, first_is) in (
        whole,
        subst (λ (ls : List ℕ). LabelsAgree ls (link ∷ [])) (sym whole)
            (All-cons (λ (l : LineLink). get_or l0 l.line 0 ≡ get_or l0 l.first 0) link [] agree
            (All-nil (λ (l : LineLink). get_or l0 l.line 0 ≡ get_or l0 l.first 0))),
      )

  pub four_lowered : LowersLabels (link ∷ []) l0 l4 ((b4 || b3) || (b2 || b1))
  four_lowered = record { sized = four_sized; low = four_low; reached = four_reached; less = four_less; settled = four_settled }

  -- and by what was answered
  pub all_lowered : (upper lower all : Bool) → upper ≡ (b4 || b3) → lower ≡ (b2 || b1) → all ≡ (upper || lower)
      → LowersLabels (link ∷ []) l0 l4 all
  all_lowered upper lower all is_upper is_lower is_all = rw (is_all, is_upper, is_lower) four_lowered

-- lowering along the links of a list, one more
pub next_lowered : (links : List LineLink) (at : ℕ) (d : LineLink) (old mid new : List ℕ) (a b r : Bool) → at < length links
    → r ≡ (b || a) → LowersLabels (take at links) old mid a → LowersLabels (get_or links at d ∷ []) mid new b
    → LowersLabels (take (at + 1) links) old new r
next_lowered links at d old mid new a b r below is_r one two =
    rw (is_r, take_more links at d below) (one_more_lowered (take at links) (get_or links at d) old mid new a b one two)
