-- The indexes of lines, as their table is computed.
use Rattle.std.proofs.Common.{◌≡◌, ◌≤◌, ◌<◌, ℕ, ◌+◌, ◌==◌, Bool, true, false, cond, nat_lt, List, [], ◌∷◌, Option, Some, None, length, drop, get_or, replicate, slice_get, set, arith, refl}
use Rattle.odd_cuts.proofs.Names.{and_parts, nat_tests, get_or-set_other, get_or-set_same, Edge, MAX_LINES, all_greater, edge_of, is_strictly_increasing, slice_get-get_or, slice_get_past}
use Rattle.odd_cuts.proofs.TableLemmas.{at_place, blank}

-- the first of two edges, if there is one
abbrev pub earlier : Option Edge → Option Edge → Option Edge
earlier (Some e) other = Some e
earlier None other = other

earlier_none : (found : Option Edge) → earlier found None ≡ found
earlier_none (Some e) = refl
earlier_none None = refl

-- before the first line the table has nothing
pub places_blank : (lines : List ℕ) (edges : List Edge) → length edges ≤ MAX_LINES → (line : ℕ)
    → earlier (edge_of lines edges line) (slice_get edges (get_or (replicate MAX_LINES MAX_LINES) line MAX_LINES))
    ≡ edge_of lines edges line
places_blank lines edges few line = search (arith, blank, slice_get_past, earlier_none)

-- a line is none of greater ones
pub none_above : (line : ℕ) (lines : List ℕ) (edges : List Edge) → all_greater line lines ≡ true → edge_of lines edges line ≡ None
none_above line [] edges greater = refl
none_above line (n ∷ lines) [] greater = refl
none_above line (n ∷ lines) (e ∷ edges) greater =
    let parts = and_parts (nat_lt line n) (all_greater line lines) greater in
    let other : (line == n) ≡ false = grind (arith, nat_tests) in
    rw (other, none_above line lines edges parts.1) refl

-- the table with one line more
place_next : (n : ℕ) (rest : List ℕ) (e : Edge) (es edges : List Edge) (places : List ℕ) (at line : ℕ) (told : Option Edge)
    → all_greater n rest ≡ true → slice_get edges at ≡ Some e → n < length places
    → earlier (edge_of (n ∷ rest) (e ∷ es) line) (slice_get edges (get_or places line MAX_LINES)) ≡ told
    → earlier (edge_of rest es line) (slice_get edges (get_or (set places n at) line MAX_LINES)) ≡ told
place_next n rest e es edges places at line told greater found there is = by_test (line == n) refl is
  where
    same : (k m : ℕ) → (k == m) ≡ true → k ≡ m
    same k m h = grind (arith, nat_tests)

    apart : (k m : ℕ) → (k == m) ≡ false → k ≡ m → ⊥
    apart k m h e = grind (arith, nat_tests)

    by_test : (t : Bool) → (line == n) ≡ t
        → earlier (cond t (Some e) (edge_of rest es line)) (slice_get edges (get_or places line MAX_LINES)) ≡ told
        → earlier (edge_of rest es line) (slice_get edges (get_or (set places n at) line MAX_LINES)) ≡ told
    by_test true here is =
        rw (same line n here, none_above n rest es greater, get_or-set_same places n at MAX_LINES there, found) is
    by_test false other is = rw (get_or-set_other places n line at MAX_LINES (apart line n other)) is

-- the remaining lines rise, and with them the table is complete
pub places_next : (lines : List ℕ) (edges : List Edge) (places : List ℕ) (at : ℕ)
    → at < length lines → length lines ≡ length edges → get_or lines at 0 < length places → is_strictly_increasing (drop at lines) ≡ true
    → ((line : ℕ) → earlier (edge_of (drop at lines) (drop at edges) line) (slice_get edges (get_or places line MAX_LINES))
    ≡ edge_of lines edges line)
    → (is_strictly_increasing (drop (at + 1) lines) ≡ true)
    × ((line : ℕ) → earlier (edge_of (drop (at + 1) lines) (drop (at + 1) edges) line)
    (slice_get edges (get_or (set places (get_or lines at 0) at) line MAX_LINES)) ≡ edge_of lines edges line)
places_next lines edges places at less beside there rising told =
    let no_edge : Edge = record { a = 0; b = 0; cost = 0 } in
    let first = at_place lines at 0 less in
    let n = get_or lines at 0 in
    let e = get_or edges at no_edge in
    let rest = drop (at + 1) lines in
    let es = drop (at + 1) edges in
    let second = at_place edges at no_edge (omega (arith, less, beside)) in
    let parts = and_parts (all_greater n rest) (is_strictly_increasing rest) (rw first at rising) in (
      parts.1,
      λ line. place_next n rest e es edges places at line (edge_of lines edges line) parts.0
          (slice_get-get_or edges at no_edge (omega (arith, less, beside))) there (rw (first, second) at (told line)),
    )
