-- Lemmas that this crate and those above cite.
use Rattle.std.proofs.Common.{List, Some, [], ap, arith, get_or, length, slice_get, subst, sym, ℕ, ◌<◌, ◌∙◌, ◌≡◌, ◌≢◌}
use Rattle.std.proofs.lemmas.List.Kept.{AllPairs-filter}
use Rattle.odd_paths.proofs.Names.{length-range_with_len, slice_get_within, range_with_len, PieceValue, odd_junctions, AreRows, AreTerminals, RowsValue, All-filter, All-from_get_or, get_or-range_with_len, slice_get-get_or, is_odd_junction, length_in}

-- a row has a number for each junction
pub is_wide : (p : PieceValue) (rows : RowsValue) (a : ℕ) (row : List ℕ) → AreRows p rows → slice_get rows.table a ≡ Some row
    → length row ≡ length p.junctions
is_wide p rows a row are is =
    let within = slice_get_within rows.table a row is in
    ap length_in (sym is ∙ slice_get-get_or rows.table a [] within) ∙ are.wide a [] within

-- the odd junctions are different junctions
pub odds_are_terminals : (p : PieceValue) → AreTerminals p (odd_junctions p)
odds_are_terminals p = record {
  different = AllPairs-filter (λ (t u : ℕ). t ≢ u) (is_odd_junction p) (range_with_len 0 (length p.junctions)) (λ i j d less below.
      differ (length p.junctions) i j d less (subst (λ (n : ℕ). j < n) (length-range_with_len 0 (length p.junctions)) below));
  there = All-filter (is_odd_junction p) (λ (t : ℕ). t < length p.junctions) (range_with_len 0 (length p.junctions))
      (All-from_get_or (λ (t : ℕ). t < length p.junctions) (range_with_len 0 (length p.junctions)) 0 (λ i below.
      let within = subst (λ (n : ℕ). i < n) (length-range_with_len 0 (length p.junctions)) below in
      omega (arith, get_or-range_with_len 0 (length p.junctions) i 0 within, within)));
}
  where
    differ : (n i j d : ℕ) → i < j → j < n → get_or (range_with_len 0 n) i d ≢ get_or (range_with_len 0 n) j d
    differ n i j d less below same =
        omega (arith, less, get_or-range_with_len 0 n i d (omega (arith, less, below)), get_or-range_with_len 0 n j d below, same)
