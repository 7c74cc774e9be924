-- The distances from the terminals of the next moat, and a list that is lowered to them.
use Rattle.std.proofs.Common.{◌≡◌, ℕ, ◌+◌, ◌-◌, ◌<◌, ◌≤◌, min, List, ◌++◌, Option, Some, Vec, Global, length, All, drop, get_or, max, replicate, slice_get, take, arith, sym, ◌∙◌, ap, subst}
use Rattle.cut_certificate.proofs.Names.{nat_tests, length-replicate, All-weaker, slice_get_read, slice_get_within, slice_index, Moat, IsOddMoat, RowsValue, length_in, TerminalState, LiftInput, lift_input, HasRowsForMoats, HasDistance, IsNextMoat, AreDistancesFrom, lesser_of, lowered_distance, distance_from, get_or-replicate, take_all, All-more, MAX_COST, cost_in, front_written}
use Rattle.cut_certificate.specs.declared.single_moat.TheConstants.{MAX_REACH}
use Rattle.cut_certificate.specs.declared.terminal_state.TerminalState.TheVariants as stand
use Rattle.cut_certificate.proofs.ProgressLemmas.{finds}
use Rattle.cut_certificate.proofs.LaminarLemmas.{of_all}
use Rattle.cut_certificate.proofs.MoatDistanceLemmas.{reach_found}
use Rattle.cut_certificate.proofs.TerminalStateLemmas.{is_of}

-- no number of a row is above the greatest cost
pub row_low : (rows : RowsValue) (size : ℕ) (moats : List Moat) (t : ℕ) (row : List ℕ) (j : ℕ) → HasRowsForMoats rows size moats
    → t < length rows.terminals → slice_get rows.table t ≡ Some row → j < length row → slice_index row j ≤ MAX_COST
row_low rows size moats t row j can in_t at lt =
    let long : length row ≡ size = ap length_in (sym at) ∙ can.wide t in_t in
    subst (λ (o : Option (List ℕ)). cost_in o j ≤ MAX_COST) at (can.low t j in_t (omega arith))

-- the distances from a processed moat are as many as a row has
pub reach_wide : (rows : RowsValue) (size : ℕ) (moats : List Moat) (stands : List TerminalState) (reaches : List (Vec ℕ Global))
    (t c : ℕ) (place : TerminalState) (v : Vec ℕ Global) (seen : List ℕ) → HasDistance rows size moats stands reaches t
    → slice_get stands t ≡ Some place → place ≡ stand.First c → c < length reaches → v ≡ get_or reaches c v → seen ≡ v.items
    → length seen ≡ size
reach_wide rows size moats stands reaches t c place v seen has at is lt read are = grind (arith, nat_tests, slice_get_read)

-- lowered to the distances from the outermost moat whose first member is the terminal
pub first_way : (g : LiftInput) (stands : List TerminalState) (reaches : List (Vec ℕ Global)) (t j c : ℕ) (place : TerminalState) (m : Moat)
    (v : Vec ℕ Global)
    (seen : List ℕ) (old new : ℕ) → slice_get stands t ≡ Some place → place ≡ stand.First c → c < length g.moats → m ≡ get_or g.moats c m
    → c < length reaches → v ≡ get_or reaches c v → seen ≡ v.items → new ≡ min (slice_index seen j - (get_or g.moats c m).width) old
    → new ≡ lesser_of (distance_from g reaches t j (slice_get stands t)) old
first_way g stands reaches t j c place m v seen old new at is in_moats at_m in_reaches at_v are value =
    grind (arith, nat_tests, slice_get_read)

-- each terminal of the next moat has a distance
pub have_ways : (rows : RowsValue) (size : ℕ) (moats : List Moat) (s : Moat) (stands : List TerminalState) (reaches : List (Vec ℕ Global))
    → HasRowsForMoats rows size moats → IsNextMoat (lift_input rows size moats) s stands reaches
    → All (HasDistance rows size moats stands reaches) s.members
have_ways rows size moats s stands reaches can next =
    All-weaker (λ t. t < length rows.terminals) (HasDistance rows size moats stands reaches) has s.members
    (of_all (IsOddMoat (length rows.terminals)) moats s can.odd (is_of moats next.index s next.at)).below
  where
    has : (t : ℕ) → t < length rows.terminals → HasDistance rows size moats stands reaches t
    has t lt = record {
      place = lt;
      stands_there = omega (arith, next.progress.standing.sized);
      moat = λ c at. (let o = next.progress.standing.first t c at in slice_get_within moats c o.moat o.at);
      beside = λ c at. (let o = next.progress.standing.first t c at in let lt = slice_get_within moats c o.moat o.at in omega
          (arith, next.progress.beside));
      wide = λ c v at there. (let o = next.progress.standing.first t c at in (next.progress.made c o.moat v o.at o.done there).sized);
    }

-- a list of MAX_REACH that is lowered to all distances has those from the next moat
pub reach_made : (rows : RowsValue) (size : ℕ) (moats : List Moat) (s : Moat) (stands : List TerminalState) (reaches : List (Vec ℕ Global))
    (len : ℕ) (far now new members : List ℕ) → HasRowsForMoats rows size moats → IsNextMoat (lift_input rows size moats) s stands reaches
    → far ≡ replicate size MAX_REACH → now ≡ far → len ≡ size → length new ≡ length now → members ≡ s.members
    → ((j : ℕ) → j < length now → slice_index new j
    ≡ lowered_distance (lift_input rows (length now) moats) stands reaches j (slice_index now j) members)
    → AreDistancesFrom (lift_input rows size moats) s (take len (new ++ drop (length new) far))
reach_made rows size moats s stands reaches len far now new members can next is are sized long same value =
    let wide : length now ≡ size = ap (λ (l : List ℕ). length l) (are ∙ is) ∙ length-replicate size MAX_REACH in subst
    (AreDistancesFrom (lift_input rows size moats) s) (sym (front_written len new far (long ∙ wide ∙ sym sized))) (reach_found
    (lift_input rows size moats) s next.index stands reaches new MAX_REACH
    (finds rows size moats s next.index stands reaches can next.at next.progress)
    (long ∙ wide) (λ t j in_t in_j. let low = can.low t j in_t in_j in
    (omega (arith, low))) (λ j in_j. value j (omega arith) ∙ ap
    (λ (x : ℕ). lowered_distance (lift_input rows size moats) stands reaches j x members)
    (ap (λ (l : List ℕ). slice_index l j) (are ∙ is) ∙ get_or-replicate size j MAX_REACH 0 in_j) ∙ ap
    (lowered_distance (lift_input rows size moats) stands reaches j MAX_REACH) same))

-- the most members so far
pub most_more : (ms : List Moat) (i old new : ℕ) (m : Moat) → i < length ms → m ≡ get_or ms i m
    → All (λ (x : Moat). length x.members ≤ old) (take i ms) → new ≡ max (length m.members) old
    → All (λ (x : Moat). length x.members ≤ new) (take (i + 1) ms)
most_more ms i old new m lt is all value =
    All-more (λ (x : Moat). length x.members ≤ new) ms i m lt (All-weaker (λ (x : Moat). length x.members ≤ old)
    (λ (x : Moat). length x.members ≤ new) (λ x le. (omega (arith, le, value))) (take i ms) all)
    (subst (λ (x : Moat). length x.members ≤ new) is (omega arith))

-- none of all moats has more
pub most_all : (ms : List Moat) (i most : ℕ) → length ms ≤ i → All (λ (x : Moat). length x.members ≤ most) (take i ms)
    → All (λ (x : Moat). length x.members ≤ most) ms
most_all ms i most le all = subst (λ (l : List Moat). All (λ (x : Moat). length x.members ≤ most) l) (take_all i ms le) all

-- each terminal of the next moat has a distance, as the code reads terminals and numbers
pub all_ways : (rows : RowsValue) (size : ℕ) (moats : List Moat) (s : Moat) (stands : List TerminalState) (reaches : List (Vec ℕ Global))
    (far now members : List ℕ) → HasRowsForMoats rows size moats → IsNextMoat (lift_input rows size moats) s stands reaches
    → far ≡ replicate size MAX_REACH → now ≡ far → members ≡ s.members → All (HasDistance rows (length now) moats stands reaches) members
all_ways rows size moats s stands reaches far now members can next is are same =
    subst (λ (n : ℕ). All (HasDistance rows n moats stands reaches) members)
    (sym (ap (λ (l : List ℕ). length l) (are ∙ is) ∙ length-replicate size MAX_REACH))
    (subst (λ (ts : List ℕ). All (HasDistance rows size moats stands reaches) ts) (sym same)
    (have_ways rows size moats s stands reaches can next))
