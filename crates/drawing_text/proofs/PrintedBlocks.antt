-- Items of blocks, such as the lines, the starts and the ends of a drawing, block by block.
use Rattle.std.proofs.Common.{◌≡◌, ℕ, suc, ◌+◌, ◌<◌, ◌≤◌, ◌==◌, Bool, true, false, nat_lt, List, [], ◌∷◌, ◌++◌, length, map, get_or, filter, All, Contains, inl, inr, ap, sym, ◌∙◌, refl, arith}
use Rattle.std.proofs.lemmas.Map.Views.{any-filter_same}
use Rattle.drawing_text.proofs.Names.{nat_tests, All-head, All-tail, All-weaker, list_any, IsNonDecreasing, LineValue, DrawingValue, KeepsDrawingLimits, lines_of_block, cases_order, or_right, get_or-map, length-map, list_any-append, list_any_at}

-- the items of the blocks before that one
abbrev pub items_below : {A : Type 0} → (A → ℕ) → ℕ → List A → List A
items_below of block items = filter (λ item. nat_lt (of item) block) items

-- the items of a block
abbrev pub items_in : {A : Type 0} → (A → ℕ) → ℕ → List A → List A
items_in of block items = filter (λ item. of item == block) items

-- the blocks of the items do not fall
abbrev pub Rises : {A : Type 0} → (A → ℕ) → List A → Type 0
Rises of [] = Unit {0}
Rises of (item ∷ rest) = All (λ other. of item ≤ of other) rest × Rises of rest

pub rises_of : {A : Type 0} (of : A → ℕ) (items : List A) → IsNonDecreasing (map of items) → Rises of items
rises_of of [] ordered = tt
rises_of of (item ∷ rest) ordered = (
  λ k e there. let more = ordered 0 (suc k) 0 (omega arith) (omega (arith, length-map rest of)) in
      omega (arith, more, get_or-map of rest k e 0 there),
  rises_of of rest (λ i j e less there. ordered (suc i) (suc j) e (omega (arith, less)) (omega (arith, there))),
)

-- no item is below a block that all of them reach
none_below : {A : Type 0} (of : A → ℕ) (block : ℕ) (items : List A) → All (λ item. block ≤ of item) items → items_below of block items ≡ []
none_below of block [] reach = refl
none_below {A} of block (item ∷ rest) reach =
    let here : block ≤ of item = All-head (λ (a : A). block ≤ of a) item rest reach in
    let test : nat_lt (of item) block ≡ false = grind (arith, nat_tests, here) in
    rw test (none_below of block rest (All-tail (λ (a : A). block ≤ of a) item rest reach))

-- the items before the next block are those before the block, and then those in it
pub more_below : {A : Type 0} (of : A → ℕ) (block : ℕ) (items : List A) → Rises of items
    → items_below of (block + 1) items ≡ items_below of block items ++ items_in of block items
more_below of block [] rises = refl
more_below {A} of block (item ∷ rest) rises = elim (cases_order (of item) block) [
  | inl same ↦
      let next : nat_lt (of item) (block + 1) ≡ true = grind (arith, nat_tests, same) in
      let before : nat_lt (of item) block ≡ false = grind (arith, nat_tests, same) in
      let equal : (of item == block) ≡ true = grind (arith, nat_tests, same) in
      let none : items_below of block rest ≡ [] = none_below of block rest
      (All-weaker (λ (a : A). of item ≤ of a) (λ (a : A). block ≤ of a)
      (λ a reach. omega (arith, reach, same)) rest rises.0) in
      rw (next, before, equal, more_below of block rest rises.1, none) refl
  | inr (inl less) ↦
      let next : nat_lt (of item) (block + 1) ≡ true = grind (arith, nat_tests, less) in
      let before : nat_lt (of item) block ≡ true = grind (arith, nat_tests, less) in
      let equal : (of item == block) ≡ false = grind (arith, nat_tests, less) in
      rw (next, before, equal) (ap (λ more. item ∷ more) (more_below of block rest rises.1))
  | inr (inr more) ↦
      let next : nat_lt (of item) (block + 1) ≡ false = grind (arith, nat_tests, more) in
      let before : nat_lt (of item) block ≡ false = grind (arith, nat_tests, more) in
      let equal : (of item == block) ≡ false = grind (arith, nat_tests, more) in
      rw (next, before, equal) (more_below of block rest rises.1)
]

-- and before the end they are all items
pub all_below : {A : Type 0} (of : A → ℕ) (block : ℕ) (items : List A) → All (λ item. of item < block) items
    → items_below of block items ≡ items
all_below of block [] below = refl
all_below {A} of block (item ∷ rest) below =
    let here : of item < block = All-head (λ (a : A). of a < block) item rest below in
    let test : nat_lt (of item) block ≡ true = grind (arith, nat_tests, here) in
    rw test (ap (λ more. item ∷ more) (all_below of block rest (All-tail (λ (a : A). of a < block) item rest below)))

-- before the first block there is none
pub none_first : {A : Type 0} (of : A → ℕ) (items : List A) → items_below of 0 items ≡ []
none_first of items = none_below of 0 items (λ k e there. omega arith)

-- the lines of the blocks before that one
abbrev pub lines_below : ℕ → List LineValue → List LineValue
lines_below block lines = items_below (λ line. line.block) block lines

-- a test finds among those that pass what it finds among all
found_among : (test : LineValue → Bool) (lines : List LineValue) → list_any test lines ≡ true → list_any test (filter test lines) ≡ true
found_among test lines some = any-filter_same test test true (λ line passes. passes) lines ∙ some

-- a block with a line is found to have one
pub found_used : (lines : List LineValue) (block : ℕ) → Contains (map (λ line. line.block) lines) block
    → list_any (λ line. line.block == block) lines ≡ true
found_used lines block has =
    let none : LineValue = record { block = 0; points = [] } in
    let there : has.0 < length lines = omega (arith, has.1, length-map lines (λ (l : LineValue). l.block)) in
    let same : (get_or lines has.0 none).block ≡ block =
    sym (get_or-map (λ (l : LineValue). l.block) lines has.0 none block there) ∙ has.2 in
    list_any_at (λ (l : LineValue). l.block == block) lines has.0 none there (grind (arith, nat_tests, same))

pub next_lines : (d : DrawingValue) (block : ℕ) → KeepsDrawingLimits d
    → lines_below (block + 1) d.lines ≡ lines_below block d.lines ++ lines_of_block block d.lines
next_lines d block keeps =
    more_below (λ (l : LineValue). l.block) block d.lines (rises_of (λ (l : LineValue). l.block) d.lines keeps.ordered)

-- of the lines before a block some are in the block before it, since each block has a line
pub last_found : (d : DrawingValue) (block : ℕ) → KeepsDrawingLimits d → block < length d.threads
    → list_any (λ line. line.block == block) (lines_below (block + 1) d.lines) ≡ true
last_found d block keeps there =
    let test : LineValue → Bool = λ line. line.block == block in
    let some = found_among test d.lines (found_used d.lines block (keeps.used block there)) in
    ap (list_any test) (next_lines d block keeps)
    ∙ (list_any-append test (lines_below block d.lines) (lines_of_block block d.lines)
    ∙ or_right (list_any test (lines_below block d.lines)) _ some)
