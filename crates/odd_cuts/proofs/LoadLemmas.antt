-- Loads and totals, as they are added up.
use Rattle.std.proofs.Common.{◌≡◌, ◌≤◌, ◌<◌, ℕ, suc, ◌+◌, ◌*◌, ◌^◌, All, true, nat_le, List, [], ◌∷◌, Option, Some, None, Result, Ok, Err, length, get_or, replicate, set, slice_get, arith, refl, sym, ap, subst, ◌∙◌}
use Rattle.std.specs.Result.{IsErrAnd}
use Rattle.odd_cuts.proofs.Names.{nat_tests, get_or-set_other, get_or-set_same, All-head, All-tail, Cut, share_of, table_load_faults, ReportsFault, HaveNumberedMembers, cut_fault, cut_faults, cuts_fault, load_faults, total_fault, CutFault, load_on, total_weight, PieceValue, Edge, MAX_LINES, cases_eq, get_or_from_slice_get, fold, AddsShares, AreLoads}
use Rattle.odd_cuts.proofs.TableLemmas.{blank}

-- each member of the cut has a number
abbrev Numbered : Cut → Type 0
Numbered cut = All (λ j. j + 1 < 2 ^ 32) cut.members

-- a load, and what the edge carries of further cuts
abbrev pub load_with : ℕ → List Cut → Edge → ℕ
load_with load cuts e = fold (λ sum cut. sum + share_of cut e) load cuts

-- a sum, and the weights of further cuts
abbrev pub total_with : ℕ → List Cut → ℕ
total_with sum cuts = fold (λ sum (cut : Cut). sum + cut.weight) sum cuts

-- before the first cut no edge carries anything
pub loads_blank : (cuts : List Cut) (count i : ℕ) (e : Edge) → load_with (get_or (replicate count 0) i 0) cuts e ≡ load_on cuts e
loads_blank cuts count i e = rw (blank {X = ℕ} 0 count i) refl

-- nor more than the greatest weight
pub no_load : (i : ℕ) → get_or (replicate MAX_LINES 0) i 0 ≤ 4294967295
no_load i = rw (blank {X = ℕ} 0 MAX_LINES i) (omega arith)

-- the members of the next cut, and of those after it
pub next_numbered : (cuts : List Cut) (cut : Cut) (rest : List Cut) → cuts ≡ cut ∷ rest → HaveNumberedMembers cuts
    → All (λ j. j + 1 < 2 ^ 32) cut.members × HaveNumberedMembers rest
next_numbered cuts cut rest is are =
    let these : HaveNumberedMembers (cut ∷ rest) = subst (λ cuts. HaveNumberedMembers cuts) is are in
    (All-head Numbered cut rest these, All-tail Numbered cut rest these)

-- the loads with one cut more
pub loads_next : (cuts : List Cut) (cut : Cut) (rest : List Cut) (edges : List Edge) (old new : List ℕ) (whole : Edge → ℕ)
    → cuts ≡ cut ∷ rest → AddsShares cut edges old new
    → ((i : ℕ) (e : Edge) → slice_get edges i ≡ Some e → load_with (get_or old i 0) cuts e ≡ whole e) → (i : ℕ) (e : Edge)
    → slice_get edges i ≡ Some e → load_with (get_or new i 0) rest e ≡ whole e
loads_next cuts cut rest edges old new whole is adds told i e found = rw (adds i e found) (rw is at (told i e found))

-- after a cut without a fault the first fault is that of the cuts after it
pub faults_next : (p : PieceValue) (cuts rest : List Cut) (cut : Cut) (number : ℕ) (whole : Option CutFault) → cuts ≡ cut ∷ rest
    → cut_faults p number cuts ≡ whole → cut_fault p number cut ≡ None → cut_faults p (number + 1) rest ≡ whole
faults_next p cuts rest cut number whole is told none = rw (is, none) at told

-- when no cut remains, none has a fault, and the loads are complete
pub cuts_end : (p : PieceValue) (cuts : List Cut) (number : ℕ) (whole : Option CutFault) → cuts ≡ []
    → cut_faults p number cuts ≡ whole → whole ≡ None
cuts_end p cuts number whole is told = sym (rw is at told)

pub load_end : (cuts : List Cut) (load whole : ℕ) (e : Edge) → cuts ≡ [] → load_with load cuts e ≡ whole → load ≡ whole
load_end cuts load whole e is told = rw is at told

-- the shares of the edges before the next index
pub before_next : (cut : Cut) (edges : List Edge) (old now : List ℕ) (at share : ℕ) (d : Edge) → at < length edges → at < length now
    → share ≡ share_of cut (get_or edges at d)
    → ((i : ℕ) (e : Edge) → i < at → slice_get edges i ≡ Some e → get_or now i 0 ≡ get_or old i 0 + share_of cut e)
    → ((i : ℕ) → at ≤ i → get_or now i 0 ≡ get_or old i 0) → (i : ℕ) (e : Edge) → i < at + 1 → slice_get edges i ≡ Some e
    → get_or (set now at (get_or now at 0 + share)) i 0 ≡ get_or old i 0 + share_of cut e
before_next cut edges old now at share d there sized is before behind i e less found =
    grind (arith, nat_tests, cases_eq, get_or-set_same, get_or_from_slice_get, get_or-set_other)

-- the others are as they were
pub behind_next : (old now : List ℕ) (at load : ℕ) → ((i : ℕ) → at ≤ i → get_or now i 0 ≡ get_or old i 0)
    → (i : ℕ) → at + 1 ≤ i → get_or (set now at load) i 0 ≡ get_or old i 0
behind_next old now at load behind i less = grind (arith, nat_tests, get_or-set_other now at i load 0 (λ same. omega (arith, less, same)))

-- none grew by more than the greatest weight
pub most_next : (old now : List ℕ) (at share more : ℕ) → at < length now → share ≤ more
    → ((i : ℕ) → at ≤ i → get_or now i 0 ≡ get_or old i 0) → ((i : ℕ) → get_or now i 0 ≤ get_or old i 0 + more)
    → (i : ℕ) → get_or (set now at (get_or now at 0 + share)) i 0 ≤ get_or old i 0 + more
most_next old now at share more sized little behind most i = grind (arith, nat_tests, cases_eq, get_or-set_same, get_or-set_other)

-- with the loads by index, the first line with too high a load is the first one
pub sums_told : (cuts : List Cut) (lines : List ℕ) (edges : List Edge) (loads : List ℕ)
    → AreLoads cuts edges loads → table_load_faults lines edges loads ≡ load_faults cuts lines edges
sums_told cuts [] edges loads are = refl
sums_told cuts (n ∷ lines) [] loads are = refl
sums_told cuts (n ∷ lines) (e ∷ edges) [] are =
    let first : 0 ≡ load_on cuts e = are 0 e refl in
    rw (← first, no_more (2 * e.cost), sums_told cuts lines edges [] (λ i. λ e. λ found. are (suc i) e found)) refl
  where
    no_more : (n : ℕ) → nat_le 0 n ≡ true
    no_more n = grind (arith, nat_tests)
sums_told cuts (n ∷ lines) (e ∷ edges) (load ∷ loads) are =
    let first : load ≡ load_on cuts e = are 0 e refl in
    rw (first, sums_told cuts lines edges loads (λ i. λ e. λ found. are (suc i) e found)) refl

-- the first line that carries too much is the first fault of cuts that have none themselves
pub loads_found : (p : PieceValue) (retraced : ℕ) (cuts : List Cut) (loads : List ℕ) (found : CutFault)
    → (cut_faults p 1 cuts ≡ None) × AreLoads cuts p.edges loads → table_load_faults p.lines p.edges loads ≡ Some found
    → cuts_fault p retraced cuts ≡ Some found
loads_found p retraced cuts loads found are is = rw (are.0, ← sums_told cuts p.lines p.edges loads are.1, is) refl

-- where there is none, the total is compared
pub total_found : (p : PieceValue) (retraced : ℕ) (cuts : List Cut) (loads : List ℕ)
    → (cut_faults p 1 cuts ≡ None) × AreLoads cuts p.edges loads → table_load_faults p.lines p.edges loads ≡ None
    → total_fault (total_weight cuts) (2 * retraced) ≡ cuts_fault p retraced cuts
total_found p retraced cuts loads are is = rw (are.0, ← sums_told cuts p.lines p.edges loads are.1, is) refl

-- a result with that fault reports it
pub told_on : {T F : Type 0} (found : Option F) (fault : F) (result : Result T F) → IsErrAnd result (λ (f : F). f ≡ fault)
    → found ≡ Some fault → ReportsFault found result
told_on found fault (Ok x) is told = absurd is
told_on found fault (Err f) is told = told ∙ ap (λ (g : _). Some g) (sym is)
