-- Columns of tables of lanes.
use Rattle.std.proofs.Common.{◌≡◌, Vec, Global, ◌≢◌, ℕ, zero, suc, ◌+◌, ◌<◌, ◌≤◌, List, [], ◌∷◌, All, length, min, replicate, map, get_or, inl, inr, refl, ap, ◌∙◌, subst, arith}
use Rattle.std.proofs.Math.Seq.{map-set_same}
use Rattle.odd_paths.proofs.Names.{nat_tests, cases_Bool, cases_eq, ltb-true, get_or-replicate, length-replicate, map-set, slice_index, slice_set, LANES, NO_WALK, Edge, AddsRows, IsCapped, KeepsCosts, lane_column, terminal_columns, AreLeastRows, IsGraph, IsLeastRow, IsFullyRelaxed, AreWalkCosts, is_lower, lowered_row, ltb-false, length-map, AddsColumns, AreLeastColumns, HaveStarts}
use Rattle.odd_paths.proofs.RowLemmas.{is_row}
use Rattle.odd_paths.proofs.SoundLemmas.{at_other, at_same, begun, get_replicate, most_set}

-- the number of a column
pub column_at : (i j : ℕ) (table : List (List ℕ)) → slice_index (lane_column i table) j ≡ slice_index (get_or table j []) i
column_at i j [] = refl
column_at i zero (lane ∷ table) = refl
column_at i (suc j) (lane ∷ table) = column_at i j table

-- no lowered number is greater
pub lowered_low : (row : List ℕ) (a b c j : ℕ) → b < length row → slice_index (lowered_row row a b c) j ≤ slice_index row j
lowered_low row a b c j there = elim (cases_Bool (is_lower row a b c)) [
  | inl is ↦ rw is (set_low row b (slice_index row a + c) j there (ltb-true _ _ is))
  | inr isnt ↦ rw isnt (omega arith)
]
  where
    set_low : (row : List ℕ) (b v j : ℕ) → b < length row → v < slice_index row b → slice_index (slice_set row b v) j ≤ slice_index row j
    set_low row b v j there less = elim (cases_eq j b) [
      | inl same ↦ let e = ap (λ (x : ℕ). slice_index row x) same in omega (arith, at_same row b v j same there)
      | inr other ↦ omega (arith, at_other row b v j other)
    ]

-- a lane that is lowered lowers each column
pub lane_lowered : (i a b cost : ℕ) (lane : List ℕ) (table : List (List ℕ))
    → slice_index lane i ≡ min (slice_index (get_or table a []) i + cost) (slice_index (get_or table b []) i)
    → lane_column i (slice_set table b lane) ≡ lowered_row (lane_column i table) a b cost
lane_lowered i a b cost lane table is =
    let at_a = column_at i a table in
    let at_b = column_at i b table in
    elim (cases_Bool (is_lower (lane_column i table) a b cost)) [
      | inl lower ↦
          let less = ltb-true _ _ lower in
          let value : slice_index lane i ≡ slice_index (lane_column i table) a + cost = omega arith in
          rw lower (map-set (λ (l : List ℕ). slice_index l i) table b lane ∙ ap (λ (v : ℕ). slice_set (lane_column i table) b v) value)
      | inr high ↦
          let more = ltb-false _ _ high in
          let value : slice_index lane i ≡ slice_index (get_or table b []) i = omega arith in
          rw high (map-set_same (λ (l : List ℕ). slice_index l i) table b lane [] value)
    ]

pub capped_lane : (table : List (List ℕ)) (a i : ℕ) → IsCapped table → i < LANES → slice_index (get_or table a []) i ≤ NO_WALK
capped_lane table a i capped there = omega (arith, capped i there a, column_at i a table)

-- so no number comes above NO_WALK
pub capped_lowered : (table new : List (List ℕ)) (a b cost : ℕ) → b < length table → IsCapped table
    → ((i : ℕ) → i < LANES → lane_column i new ≡ lowered_row (lane_column i table) a b cost) → IsCapped new
capped_lowered table new a b cost there capped value i in_i j = grind (arith, nat_tests, length-map, lowered_low)

pub lane_kept : (k t : ℕ) (lane : List ℕ) (table : List (List ℕ)) → slice_index lane k ≡ slice_index (get_or table t []) k
    → lane_column k (slice_set table t lane) ≡ lane_column k table
lane_kept k t lane table same = map-set_same (λ (l : List ℕ). slice_index l k) table t lane [] same

pub capped_begun : (table new : List (List ℕ)) (t i : ℕ) → t < length table → IsCapped table
    → lane_column i new ≡ slice_set (lane_column i table) t 0 → ((k : ℕ) → k ≢ i → lane_column k new ≡ lane_column k table) → IsCapped new
capped_begun table new t i there capped here others k in_k j = grind (arith, nat_tests, cases_eq, length-map, begun, most_set)

-- a table without walks
map_replicate : (f : List ℕ → ℕ) (n : ℕ) (lane : List ℕ) → map f (replicate n lane) ≡ replicate n (f lane)
map_replicate f zero lane = refl
map_replicate f (suc n) lane = ap (λ (rest : List ℕ). f lane ∷ rest) (map_replicate f n lane)

column_blank : (n i : ℕ) → i < LANES → lane_column i (replicate n (replicate LANES NO_WALK)) ≡ replicate n NO_WALK
column_blank n i there = grind (arith, nat_tests, map_replicate, get_or-replicate)

pub capped_blank : (n : ℕ) (table : List (List ℕ)) → table ≡ replicate n (replicate LANES NO_WALK) → IsCapped table
capped_blank n table blank i there j =
    let column_is = ap (λ (t : List (List ℕ)). lane_column i t) blank ∙ column_blank n i there in
    rw column_is (get_replicate n j NO_WALK)

-- a table that has begun and then settled has the rows of the terminals as its columns
pub columns_settled : (es : List Edge) (n : ℕ) (ts : List ℕ) (old between new : List (List ℕ)) → old ≡ replicate n (replicate LANES NO_WALK)
    → IsGraph es n → length ts ≤ LANES → All (λ t. t < n) ts → length between ≡ length old → HaveStarts ts old between
    → KeepsCosts es between new → ((i : ℕ) → i < LANES → IsFullyRelaxed (lane_column i new) es) → AreLeastColumns es n ts new
columns_settled es n ts old between new blank graph few there size started keeps flat i in_i =
    let in_lanes : i < LANES = omega (arith, few, in_i) in
    let from : ℕ = slice_index ts i in
    let column_is = ap (λ (t : List (List ℕ)). lane_column i t) blank ∙ column_blank n i in_lanes in
    let count : length between ≡ n = size ∙ (ap (λ (t : List (List ℕ)). length t) blank ∙ length-replicate n (replicate LANES NO_WALK)) in
    let is : lane_column i between ≡ slice_set (replicate n NO_WALK) from 0 =
    started i in_i ∙ ap (λ (row : List ℕ). slice_set row from 0) column_is in
    let first : AreWalkCosts es (length between) from (lane_column i between) = rw (is, count) (begun es n from (there i 0 in_i)) in
    let last : AreWalkCosts es n from (lane_column i new) =
    subst (λ m. AreWalkCosts es m from (lane_column i new)) count (keeps.sound i from in_lanes first) in
    is_row es n from (lane_column i new) last (flat i in_lanes) graph (there i 0 in_i)

-- these columns are rows
rows_from : (es : List Edge) (n at : ℕ) (ts : List ℕ) (table : List (List ℕ))
    → ((i k : ℕ) → k ≡ at + i → i < length ts → IsLeastRow es n (slice_index ts i) (lane_column k table)) → AreLeastRows es n ts
    (terminal_columns table at ts)
rows_from es n at [] table each = tt
rows_from es n at (t ∷ ts) table each = (
  each 0 at (omega arith) (omega arith),
  rows_from es n (at + 1) ts table (λ i k is there. each (suc i) k (omega (arith, is)) (omega (arith, there))),
)

pub are_added : (es : List Edge) (n : ℕ) (ts : List ℕ) (table : List (List ℕ)) (old new : List (Vec ℕ Global))
    → AreLeastColumns es n ts table → AddsColumns table ts old new → AddsRows es n ts old new
are_added es n ts table old new each is = grind (arith, nat_tests, rows_from)
