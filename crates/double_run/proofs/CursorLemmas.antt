-- Which lines are passed, and the cursors of a traversal.
use Rattle.std.proofs.Common.{◌≡◌, ◌<◌, ℕ, zero, suc, ◌+◌, ◌/◌, ◌==◌, ◌||◌, Bool, true, false, not, List, [], ◌∷◌, length, get_or, set, slice_get, Some, arith, refl, sym, ap}
use Rattle.double_run.proofs.Names.{nat_tests, Edge, AreCursors, IsLegFrom, WasPassed, is_exhausted, has_end_at, cursors_stay, and_from, is_odd, all_done, one_of}

-- ---- which lines are passed

-- what is marked is marked, and what was marked stays
pub marked_at : (passed : List Bool) (m : ℕ) → slice_get passed m ≡ Some false → get_or (set passed m true) m false ≡ true
marked_at [] m left = absurd (cc)
marked_at (p ∷ passed) zero left = refl
marked_at (p ∷ passed) (suc m) left = marked_at passed m left

pub marked_stays : (passed : List Bool) (m k : ℕ) → get_or passed k false ≡ true → get_or (set passed m true) k false ≡ true
marked_stays [] m k is = is
marked_stays (p ∷ passed) zero zero is = refl
marked_stays (p ∷ passed) zero (suc k) is = is
marked_stays (p ∷ passed) (suc m) zero is = is
marked_stays (p ∷ passed) (suc m) (suc k) is = marked_stays passed m k is

-- whether a line is passed, as the code reads it
pub read_passed : (passed : List Bool) (k : ℕ) (b : Bool) → b ≡ get_or passed k b → k < length passed → slice_get passed k ≡ Some b
read_passed [] k b is below = absurd (omega arith)
read_passed (p ∷ passed) zero b is below = ap (λ (x : Bool). Some x) (sym is)
read_passed (p ∷ passed) (suc k) b is below = read_passed passed k b is (omega (arith, below))

pub is_passed : (passed : List Bool) (k : ℕ) → slice_get passed k ≡ Some true → get_or passed k false ≡ true
is_passed [] k is = absurd (cc)
is_passed (p ∷ passed) zero is = cc
is_passed (p ∷ passed) (suc k) is = is_passed passed k is

-- a junction is exhausted where each line that ends there was passed
all_spent : (passed : List Bool) (edges : List Edge) (j : ℕ)
    → ((k : ℕ) (e : Edge) → slice_get edges k ≡ Some e → has_end_at e j ≡ true → get_or passed k false ≡ true)
    → is_exhausted passed edges j ≡ true
all_spent [] edges j each = refl
all_spent (p ∷ passed) [] j each = refl
all_spent (p ∷ passed) (e ∷ edges) j each =
    and_from (p || not (has_end_at e j)) (is_exhausted passed edges j) (here p (has_end_at e j) (each 0 e refl))
    (all_spent passed edges j (λ k. λ x. λ is. λ at. each (suc k) x is at))
  where
    here : (p t : Bool) → (t ≡ true → p ≡ true) → (p || not t) ≡ true
    here true t is = refl
    here false true is = is refl
    here false false is = refl

-- ---- cursors

-- a junction whose cursor is 0 is exhausted
pub spent_at : (edges : List Edge) (count : ℕ) (passed : List Bool) (last before : List ℕ) (at : ℕ)
    → AreCursors edges count (WasPassed passed) last before at → get_or last at 0 ≡ 0 → is_exhausted passed edges at ≡ true
spent_at edges count passed last before at ready none = all_spent passed edges at (λ k e is here.
    all_done edges count (WasPassed passed) last before at ready none k e is (one_of (e.a == at) (e.b == at) here))

-- the cursors after a line is passed
pub out_ready : (edges : List Edge) (count : ℕ) (passed : List Bool) (last before : List ℕ) (at m next : ℕ) → next < count
    → AreCursors edges count (WasPassed passed) last before at → AreCursors edges count (WasPassed (set passed m true)) last before next
out_ready edges count passed last before at m next = cursors_stay edges count (WasPassed passed) last before at
    (WasPassed (set passed m true)) next (marked_stays passed m)

-- a cursor that is no end leads along a line that wasn't passed
pub cursor_leads : (edges : List Edge) (count : ℕ) (passed : List Bool) (last before : List ℕ) (at end : ℕ)
    → get_or last at 0 ≡ end + 1 → slice_get passed (end / 2) ≡ Some false → AreCursors edges count (WasPassed passed) last before at
    → IsLegFrom edges passed at (record { place = end / 2; back = is_odd end })
cursor_leads edges count passed last before at end here left ready = grind (arith, nat_tests)
