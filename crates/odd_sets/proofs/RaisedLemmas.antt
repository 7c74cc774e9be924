-- Heights raised place by place.
use Rattle.std.proofs.Common.{◌≡◌, ℕ, ◌+◌, ◌-◌, ◌*◌, ◌<◌, ◌≤◌, Bool, true, false, cond, eqb, zero, suc, List, [], ◌∷◌, length, drop, get_or, set, drop-cons, add-one, arith, refl, sym, ap, ◌∙◌, get_or-set_other, get_or-set_same}
use Rattle.odd_sets.proofs.Names.{nat_tests, eqb-true, eqb-false, eq-eqb, count, inner_members, outer_members, BranchValue, branch_in, branches_in, Slots, Branch}
use Rattle.odd_sets.proofs.ListLemmas.{drop_here, mapped_item, mapped_low}
use Rattle.odd_sets.proofs.SumLemmas.{count-append}
use Rattle.odd_sets.proofs.HandleLemmas.{no_branch}

pub at_drop : (x i m : ℕ) (ms : List ℕ) → i < length ms → m ≡ get_or ms i 0 → count x (drop i ms)
    ≡ cond (eqb x m) 1 0 + count x (drop (i + 1) ms)
at_drop x i m ms h1 h2 = grind (arith, nat_tests, drop-cons, add-one)

raised_by : (b : Bool) (x m w c : ℕ) (hs : List ℕ) → eqb x m ≡ b → m < length hs →
    get_or (set hs m (get_or hs m 0 + w)) x 0 + w * c ≡ get_or hs x 0 + w * (cond b 1 0 + c)
raised_by true x m w c hs is lt =
    grind (arith, nat_tests, eqb-true, get_or, set, get_or-set_same)
raised_by false x m w c hs is lt =
    grind (arith, nat_tests, eqb-false, get_or-set_other)

pub raised : (x i m w : ℕ) (ms hs : List ℕ) (top : ℕ) → i < length ms → m ≡ get_or ms i 0 → m < length hs →
    get_or hs x 0 + w * count x (drop i ms) ≡ top → get_or (set hs m (get_or hs m 0 + w)) x 0 + w * count x (drop (i + 1) ms) ≡ top
raised x i m w ms hs top lt is low e =
    raised_by (eqb x m) x m w (count x (drop (i + 1) ms)) hs refl low ∙ ap (λ (k : ℕ). get_or hs x 0 + w * k) (sym (at_drop x i m ms lt is))
    ∙ e

pub count_at : (ms : List ℕ) (i : ℕ) → i < length ms → 1 ≤ count (get_or ms i 0) ms
count_at [] i lt = absurd (omega arith)
count_at (m ∷ ms) zero lt = rw (eq-eqb m m refl) (omega arith)
count_at (m ∷ ms) (suc i) lt = omega (arith, count_at ms i (omega arith))

lowered_by : (b : Bool) (x m w c rest top : ℕ) (hs : List ℕ) → eqb x m ≡ b → m < length hs → w ≤ get_or hs m 0
    → get_or hs x 0 + rest ≡ top + w * (cond b 1 0 + c) → get_or (set hs m (get_or hs m 0 - w)) x 0 + rest ≡ top + w * c
lowered_by true x m w c rest top hs is lt low e =
    grind (arith, nat_tests, eqb-true, get_or, set, get_or-set_same, low)
lowered_by false x m w c rest top hs is lt low e =
    grind (arith, nat_tests, eqb-false, get_or-set_other)

pub lowered : (x i m w : ℕ) (ms hs : List ℕ) (rest top : ℕ) → i < length ms → m ≡ get_or ms i 0 → m < length hs → w ≤ get_or hs m 0 →
    get_or hs x 0 + rest ≡ top + w * count x (drop i ms) → get_or (set hs m (get_or hs m 0 - w)) x 0 + rest
    ≡ top + w * count x (drop (i + 1) ms)
lowered x i m w ms hs rest top lt is there low e =
    lowered_by (eqb x m) x m w (count x (drop (i + 1) ms)) rest top hs refl there low
    (e ∙ ap (λ (k : ℕ). top + w * k) (at_drop x i m ms lt is))

-- the places of the branches from one on
pub outer_places : (x : ℕ) (tree : List BranchValue) (i : ℕ) (b : BranchValue) → i < length tree → b ≡ get_or tree i b →
    count x (outer_members [] (drop i tree)) ≡ count x b.outer.members + count x (outer_members [] (drop (i + 1) tree))
outer_places x tree i b h1 h2 = grind (arith, nat_tests, drop_here, count-append)

-- the vertices of the outer set at an index of the branches in slots, and those after it
pub outers_at : (x : ℕ) (sets : Slots) (bs : List Branch) (i : ℕ) → i < length bs
    → count x (outer_members [] (drop i (branches_in sets bs)))
    ≡ count x (branch_in sets (get_or bs i no_branch)).outer.members + count x (outer_members [] (drop (i + 1) (branches_in sets bs)))
outers_at x sets bs i low = outer_places x (branches_in sets bs) i (branch_in sets (get_or bs i no_branch))
    (mapped_low (branch_in sets) bs i low) (mapped_item (branch_in sets) bs i no_branch)

pub inners_at : (x : ℕ) (sets : Slots) (bs : List Branch) (i : ℕ) → i < length bs → count x (inner_members (drop i (branches_in sets bs)))
    ≡ count x (branch_in sets (get_or bs i no_branch)).inner.members + count x (inner_members (drop (i + 1) (branches_in sets bs)))
inners_at x sets bs i low =
    grind (arith, nat_tests, drop_here, count-append, (mapped_low (branch_in sets) bs i low), (mapped_item (branch_in sets) bs i no_branch))

pub more_by : (by all here rest : ℕ) → all ≡ here + rest → by * all ≡ by * here + by * rest
more_by by all here rest e = let f = ap (λ (k : ℕ). by * k) e in omega (arith, f)
