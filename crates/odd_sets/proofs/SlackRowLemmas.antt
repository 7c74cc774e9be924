-- The slacks from sets to the vertices outside them.
use Rattle.std.proofs.Common.{◌≡◌, ◌≢◌, ℕ, ◌+◌, ◌-◌, ◌*◌, ◌≤◌, ◌<◌, ◌⊎◌, inl, inr, List, [], ◌∷◌, ◌++◌, length, take, get_or, set, map, min, Bool, true, false, cond, eqb, arith, refl, ap, ◌∙◌, get_or-set_other, get_or-set_same}
use Rattle.odd_sets.proofs.Names.{nat_tests, cases_lt, eqb-false, eqb-true, ltb-true, range_with_len, Each, OddSetValue, count, height, one_if_equal, lowered_slack, vertex_slack, vertex_slacks, IsSlackRow, dual_sets_in, members_in, least_part_slack, blossom_slacks, IsSoundPart, IsSoundSet, TableValue, entry, IsTable, MAX_DISTANCE, PartValue, ltb-false, same_number_lists, get_or-map-range_with_len, length-map-range_with_len, MergesSlacks, blossom_slack, blossom_slacks_of, FAR}
use Rattle.odd_sets.proofs.ListLemmas.{number_here, take_here}
use Rattle.odd_sets.proofs.SumLemmas.{by_count, count-append, hit_is, hit_same}

pub far_is : FAR ≡ 2 * MAX_DISTANCE + 1
far_is = refl

pub not_hit : (x y : ℕ) → (x ≡ y → ⊥) → one_if_equal x y ≤ 0
not_hit x y h1 = grind (arith, nat_tests, eqb-true)

pub counts_next : (members : List ℕ) (i x : ℕ) → i < length members
    → count x (take (i + 1) members) ≡ count x (take i members) + one_if_equal x (get_or members i 0)
counts_next members i x h1 = grind (arith, nat_tests, number_here, count-append)

put_case : (p : Bool) (x m v : ℕ) (cells : List ℕ) → eqb x m ≡ p → m < length cells → (x ≢ m → get_or cells x 0 ≡ v)
    → get_or (set cells m v) x 0 ≡ v
put_case true x m v cells is low here =
    grind (arith, nat_tests, eqb-true, get_or, set, get_or-set_same, low)
put_case false x m v cells is low here =
    grind (arith, nat_tests, eqb-false, get_or-set_other)

-- the cell of one place more has the value
pub put_next : (members cells : List ℕ) (i v : ℕ) → i < length members → get_or members i 0 < length cells
    → ((x : ℕ) → 1 ≤ count x (take i members) → get_or cells x 0 ≡ v) → (x : ℕ) → 1 ≤ count x (take (i + 1) members)
    → get_or (set cells (get_or members i 0) v) x 0 ≡ v
put_next members cells i v low within on x here =
    put_case (eqb x (get_or members i 0)) x (get_or members i 0) v cells refl within
    (λ ne. on x (omega (arith, here, counts_next members i x low, not_hit x (get_or members i 0) ne)))

-- and no other
pub put_others : (members cells first : List ℕ) (i v : ℕ) → i < length members
    → ((x : ℕ) → count x (take i members) ≡ 0 → get_or cells x 0 ≡ get_or first x 0) → (x : ℕ)
    → count x (take (i + 1) members) ≡ 0 → get_or (set cells (get_or members i 0) v) x 0 ≡ get_or first x 0
put_others members cells first i v low others x none =
    let m = get_or members i 0 in
    let ne : x ≢ m = λ e. omega (arith, none, counts_next members i x low, hit_same x, ap (λ (y : ℕ). one_if_equal x y) e) in
    rw get_or-set_other (others x (omega (arith, none, counts_next members i x low)))

pub lowered_near : (by left : ℕ) → left < FAR → lowered_slack by left ≡ left - by
lowered_near by left h1 = grind (arith, nat_tests, ltb-false)

pub lowered_far : (by left : ℕ) → left ≡ FAR → lowered_slack by left ≡ FAR
lowered_far by left h1 = grind (arith, nat_tests, ltb-true)

pub lowered_less : (by left : ℕ) → lowered_slack by left ≤ left
lowered_less by left = grind (arith, nat_tests)

-- a cell of a row that is made cell by cell
at_row : (f : ℕ → ℕ) (n x : ℕ) → x < n → get_or (map f (range_with_len 0 n)) x 0 ≡ f x
at_row f n x lx = get_or-map-range_with_len f 0 n x x 0 lx (omega arith)

own_case : (b : Bool) (v : ℕ) → 1 ≤ cond b 1 0 + 0 → cond b FAR v ≡ FAR
own_case true v here = refl
own_case false v here = absurd (omega arith)

other_case : (b : Bool) (v : ℕ) → cond b 1 0 + 0 ≡ 0 → cond b FAR v ≡ v
other_case true v none = absurd (omega arith)
other_case false v none = refl

-- the row of a single place
pub single_near : (t : TableValue) (place : ℕ) → IsTable t → place < t.places
    → IsSlackRow t (record { members = place ∷ []; below = []; cells = vertex_slacks t place })
single_near t place is low =
    let at = at_row (vertex_slack t place) t.places in
    let other = λ (x : ℕ) (none : count x (place ∷ []) ≡ 0) (lx : x < t.places). at x lx
    ∙ other_case (eqb x place) (2 * entry t place x) none in
    record {
      size = length-map-range_with_len (vertex_slack t place) 0 t.places;
      own = λ x here lx. at x lx ∙ own_case (eqb x place) (2 * entry t place x) here;
      short = λ x none lx. omega (arith, other x none lx, is.short place x low lx, far_is);
      least = λ a x ha none lx.
          omega (arith, other x none lx, ap (λ (y : ℕ). entry t y x) (hit_is a place (omega (arith, ha))));
      is = λ x none lx. record { a = place; here = omega (arith, hit_same place); exact = omega (arith, other x none lx) };
    }

-- a value is the slack to x from one of the vertices, less the height of that vertex
pub record IsLeftAt (t : TableValue) (h : ℕ → ℕ) (xs : List ℕ) (x left : ℕ) : Type 0 where
  pub a : ℕ
  pub here : 1 ≤ count a xs
  pub exact : left ≡ 2 * entry t a x - h a

-- the height of a member is the dual and the heights inside
over : (t : TableValue) (h : ℕ → ℕ) (s : OddSetValue) (a : ℕ) → IsSoundSet t h s → count a s.members ≡ 1 → s.dual + height a s.below ≡ h a
over t h s a h1 h2 = grind (arith, nat_tests)

-- the slack from a set to x, less its dual, is at most that from each member
pub near_least : (t : TableValue) (h : ℕ → ℕ) (s : OddSetValue) (a x : ℕ) → IsSoundSet t h s → count a s.members ≡ 1
    → count x s.members ≡ 0 → x < t.places → lowered_slack s.dual (get_or s.near x 0) ≤ 2 * entry t a x - h a
near_least t h s a x h1 h2 h3 h4 = grind (arith, nat_tests, lowered_near, over)

-- some member has that slack
pub near_is : (t : TableValue) (h : ℕ → ℕ) (s : OddSetValue) (x : ℕ) → IsSoundSet t h s → ((y : ℕ) → count y s.members ≤ 1)
    → count x s.members ≡ 0 → x < t.places → IsLeftAt t h s.members x (lowered_slack s.dual (get_or s.near x 0))
near_is t h s x h1 h2 h3 h4 = grind (arith, nat_tests, lowered_near, over)

least_case : (n : ℕ) (t : TableValue) (h : ℕ → ℕ) (p : PartValue) (rest a x : ℕ) → count a p.odd_set.members ≡ n → n ≤ 1
    → IsSoundSet t h p.odd_set → count x p.odd_set.members ≡ 0 → x < t.places → (n ≡ 0 → rest ≤ 2 * entry t a x - h a)
    → min (lowered_slack p.odd_set.dual (get_or p.odd_set.near x 0)) rest ≤ 2 * entry t a x - h a
least_case n t h p rest a x h1 h2 h3 h4 h5 h6 = grind (arith, nat_tests, near_least)

-- no member of the parts has a lesser slack
least_low : (t : TableValue) (h : ℕ → ℕ) (ps : List PartValue) (a x : ℕ) → Each (IsSoundPart t h) ps → count a (members_in ps) ≤ 1
    → 1 ≤ count a (members_in ps) → count x (members_in ps) ≡ 0 → x < t.places → least_part_slack ps x ≤ 2 * entry t a x - h a
least_low t h [] a x f once here none lx = absurd (omega (arith, here))
least_low t h (p ∷ ps) a x f once here none lx =
    let ca = count-append a p.odd_set.members (members_in ps) in
    let cx = count-append x p.odd_set.members (members_in ps) in
    least_case (count a p.odd_set.members) t h p (least_part_slack ps x) a x refl (omega (arith, once, ca)) f.0.odd_set
    (omega (arith, none, cx)) lx
    (λ e. least_low t h ps a x f.1 (omega (arith, once, ca)) (omega (arith, here, ca, e)) (omega (arith, none, cx)) lx)

min_case : (t : TableValue) (h : ℕ → ℕ) (xs ys : List ℕ) (x one rest : ℕ) → IsLeftAt t h xs x one
    → (rest ≡ FAR) ⊎ IsLeftAt t h ys x rest → one < FAR → (one < rest) ⊎ (rest ≤ one) → IsLeftAt t h (xs ++ ys) x (min one rest)
min_case t h xs ys x one rest h1 h2 h3 h4 = grind (arith, nat_tests, count-append)

least_with : (t : TableValue) (h : ℕ → ℕ) (p : PartValue) (ps : List PartValue) (x : ℕ) → IsSoundSet t h p.odd_set
    → ((y : ℕ) → count y (members_in (p ∷ ps)) ≤ 1) → count x (members_in (p ∷ ps)) ≡ 0 → x < t.places
    → (least_part_slack ps x ≡ FAR) ⊎ IsLeftAt t h (members_in ps) x (least_part_slack ps x)
    → IsLeftAt t h (members_in (p ∷ ps)) x (least_part_slack (p ∷ ps) x)
least_with t h p ps x k once none lx later =
    let c = λ (y : ℕ). count-append y p.odd_set.members (members_in ps) in
    let out : count x p.odd_set.members ≡ 0 = omega (arith, none, c x) in
    let one = lowered_slack p.odd_set.dual (get_or p.odd_set.near x 0) in
    min_case t h p.odd_set.members (members_in ps) x one (least_part_slack ps x)
    (near_is t h p.odd_set x k (λ y. omega (arith, once y, c y)) out lx) later
    (omega (arith, lowered_less p.odd_set.dual (get_or p.odd_set.near x 0), k.near.0.short x out lx)) (cases_lt one (least_part_slack ps x))

least_rest : (t : TableValue) (h : ℕ → ℕ) (ps : List PartValue) (x : ℕ) → Each (IsSoundPart t h) ps
    → ((y : ℕ) → count y (members_in ps) ≤ 1) → count x (members_in ps) ≡ 0 → x < t.places
    → (least_part_slack ps x ≡ FAR) ⊎ IsLeftAt t h (members_in ps) x (least_part_slack ps x)
least_rest t h [] x f once none lx = inl refl
least_rest t h (p ∷ ps) x f once none lx =
    let c = λ (y : ℕ). count-append y p.odd_set.members (members_in ps) in
    inr (least_with t h p ps x f.0.odd_set once none lx
    (least_rest t h ps x f.1 (λ y. omega (arith, once y, c y)) (omega (arith, none, c x)) lx))

-- some member has that slack
least_is : (t : TableValue) (h : ℕ → ℕ) (p : PartValue) (ps : List PartValue) (x : ℕ) → Each (IsSoundPart t h) (p ∷ ps)
    → ((y : ℕ) → count y (members_in (p ∷ ps)) ≤ 1) → count x (members_in (p ∷ ps)) ≡ 0 → x < t.places
    → IsLeftAt t h (members_in (p ∷ ps)) x (least_part_slack (p ∷ ps) x)
least_is t h p ps x f once none lx =
    let c = λ (y : ℕ). count-append y p.odd_set.members (members_in ps) in
    least_with t h p ps x f.0.odd_set once none lx
    (least_rest t h ps x f.1 (λ y. omega (arith, once y, c y)) (omega (arith, none, c x)) lx)

-- a blossom's cell at a member, and at any other place
blossom_own : (ps : List PartValue) (x : ℕ) → 1 ≤ count x (members_in ps) → blossom_slack ps x ≡ FAR
blossom_own ps x h1 = grind (arith, nat_tests, ltb-false)

blossom_other : (ps : List PartValue) (x : ℕ) → count x (members_in ps) ≡ 0 → blossom_slack ps x ≡ least_part_slack ps x
blossom_other ps x h1 = grind (arith, nat_tests, ltb-true)

least_short : (p : PartValue) (ps : List PartValue) (x : ℕ) → get_or p.odd_set.near x 0 < FAR → least_part_slack (p ∷ ps) x < FAR
least_short p ps x near = omega (arith, lowered_less p.odd_set.dual (get_or p.odd_set.near x 0), near)

-- the row of a blossom of firm parts
pub blossom_near : (t : TableValue) (h : ℕ → ℕ) (p : PartValue) (ps : List PartValue) → Each (IsSoundPart t h) (p ∷ ps)
    → ((x : ℕ) → count x (members_in (p ∷ ps)) ≤ 1) → ((x : ℕ) → 1 ≤ count x (members_in (p ∷ ps)) → height x (dual_sets_in (p ∷ ps)) ≡ h x)
    → IsSlackRow t (record { members = members_in (p ∷ ps); below = dual_sets_in (p ∷ ps); cells = blossom_slacks (p ∷ ps) })
blossom_near t h p ps f once local =
    let n = length p.odd_set.near in
    let size : n ≡ t.places = f.0.odd_set.near.0.size in
    let at = λ (x : ℕ) (lx : x < t.places). at_row (blossom_slack (p ∷ ps)) n x (omega (arith, lx, size)) in
    let other = λ (x : ℕ) (none : count x (members_in (p ∷ ps)) ≡ 0) (lx : x < t.places). at x lx ∙ blossom_other (p ∷ ps) x none in
    record {
      size = length-map-range_with_len (blossom_slack (p ∷ ps)) 0 n ∙ size;
      own = λ x here lx. at x lx ∙ blossom_own (p ∷ ps) x here;
      short = λ x none lx. omega (
        arith,
        other x none lx,
        least_short p ps x
            (f.0.odd_set.near.0.short x (omega (arith, none, count-append)) lx),
      );
      least = λ a x ha none lx. omega (arith, other x none lx, local a ha, least_low t h (p ∷ ps) a x f (once a) ha none lx);
      is = λ x none lx.
          let r = least_is t h p ps x f once none lx in
          record { a = r.a; here = r.here; exact = omega (arith, other x none lx, local r.a r.here, r.exact) };
    }

-- the parts so far and the next one
pub least_push : (ps : List PartValue) (p : PartValue) (x : ℕ)
    → least_part_slack (ps ++ p ∷ []) x ≡ min (lowered_slack p.odd_set.dual (get_or p.odd_set.near x 0)) (least_part_slack ps x)
least_push [] p x = refl
least_push (q ∷ ps) p x = omega (arith, least_push ps p x)

-- so it is with the merged cells
pub merge_next : (n : ℕ) (parts : List PartValue) (i : ℕ) (p : PartValue) (near : List ℕ) (dual : ℕ) (cells new : List ℕ) → i < length parts
    → p ≡ get_or parts i p → near ≡ p.odd_set.near → dual ≡ p.odd_set.dual → MergesSlacks near dual cells new → length near ≡ n
    → ((x : ℕ) → x < n → get_or cells x 0 ≡ least_part_slack (take i parts) x) → (x : ℕ) → x < n
    → get_or new x 0 ≡ least_part_slack (take (i + 1) parts) x
merge_next n parts i p near dual cells new low is e f merged size so_far x lx =
    omega (
      arith,
      ap (λ (k : List ℕ). lowered_slack dual (get_or k x 0)) e,
      ap (λ (w : ℕ). lowered_slack w (get_or p.odd_set.near x 0)) f,
      least_push (take i parts) p x,
      ap (λ (ks : List PartValue). least_part_slack ks x) (take_here parts i p low is),
    )

-- merged cells that are cleared at the members are the row
pub row_is : (n : ℕ) (ps : List PartValue) (members mid new : List ℕ) → members ≡ members_in ps → length new ≡ n
    → ((x : ℕ) → x < n → get_or mid x 0 ≡ least_part_slack ps x) → ((x : ℕ) → 1 ≤ count x members → get_or new x 0 ≡ FAR)
    → ((x : ℕ) → count x members ≡ 0 → get_or new x 0 ≡ get_or mid x 0) → new ≡ blossom_slacks_of n ps
row_is n ps members mid new h1 h2 h3 h4 h5 =
    grind (arith, nat_tests, length-map-range_with_len, same_number_lists, by_count, blossom_other, blossom_own, at_row)
