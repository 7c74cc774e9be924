-- Where a sweep changes nothing, no walk costs less than the number in the row.
use Rattle.std.proofs.Common.{◌≡◌, ℕ, ◌+◌, ◌≤◌, List, [], ◌∷◌, false, Some, refl, ap, arith, inl, inr, subst, zero, suc}
use Rattle.std.specs.Prelude.{slice_get}
use Rattle.odd_paths.proofs.Names.{nat_tests, slice_index, Edge, Connects, IsEdgeWalk, edge_walk_cost, IsFullyRelaxed, changes, swept, some_same, or_parts, IsRelaxedAt}
use Rattle.odd_paths.proofs.PlaceLemmas.{none_is}

pub settled : (row : List ℕ) (es : List Edge) → changes row es ≡ false → (swept row es ≡ row) × IsFullyRelaxed row es
settled row [] h = (refl, tt)
settled row (e ∷ es) h = grind (arith, nat_tests, settled row es, or_parts)

pub flat_at : (row : List ℕ) (es : List Edge) (k : ℕ) (e : Edge) → IsFullyRelaxed row es → slice_get es k ≡ Some e → IsRelaxedAt row e
flat_at row [] k e s got = absurd (none_is e got)
flat_at row (x ∷ xs) zero e s got = subst (λ (z : Edge). IsRelaxedAt row z) (some_same x e got) s.0
flat_at row (x ∷ xs) (suc k) e s got = flat_at row xs k e s.1 got

pub flat_join : (row : List ℕ) (e : Edge) (i m : ℕ) → IsRelaxedAt row e → Connects e i m → slice_index row m ≤ slice_index row i + e.cost
flat_join row e i m f (inl p) = rw (← p.0, ← p.1) f.forth
flat_join row e i m f (inr p) = rw (← p.0, ← p.1) f.back

pub no_less : (row : List ℕ) (es : List Edge) (i j : ℕ) (ks : List ℕ) → IsFullyRelaxed row es → IsEdgeWalk es i j ks
    → slice_index row j ≤ slice_index row i + edge_walk_cost es ks
no_less row es i j [] s w = omega (arith, ap (λ (x : ℕ). slice_index row x) w)
no_less row es i j (k ∷ ks) s w = grind (arith, nat_tests, flat_join row w.0 i, flat_at row es k w.0 s, no_less row es w.1 j ks s)
