-- Lists that are made column by column and row by row.
use Rattle.std.proofs.Common.{◌≡◌, ℕ, ◌+◌, ◌*◌, ◌<◌, ◌≤◌, zero, suc, List, [], ◌∷◌, ◌++◌, length, flat_map, All, ap, sym, ◌∙◌, arith, length-append}
use Rattle.std.proofs.lemmas.List.{flat_map_more}
use Rattle.sample_drawings.proofs.Names.{suc-mul, All-append, All-nil, mul-le, range_with_len, row_by_row}

-- one number more
range_more : (from n last : ℕ) → from + n ≡ last → range_with_len from (n + 1) ≡ range_with_len from n ++ last ∷ []
range_more from zero last is = let same : from ≡ last = omega (arith, is) in ap (λ m. m ∷ []) same
range_more from (suc n) last is =
    let one : suc n + 1 ≡ suc (n + 1) = omega arith in
    rw one (ap (λ ms. from ∷ ms) (range_more (from + 1) n last (omega (arith, is))))

-- the item for one number more is at the end
pub made_more : {T : Type 0} (make : ℕ → List T) (n : ℕ) (before so_far after : List T)
    → so_far ≡ before ++ flat_map make (range_with_len 0 n) → after ≡ so_far ++ make n
    → after ≡ before ++ flat_map make (range_with_len 0 (n + 1))
made_more make n before so_far after made put =
    put
    ∙ (ap (λ xs. xs ++ make n) made
    ∙ (flat_map_more make before (range_with_len 0 n) n
    ∙ ap (λ ms. before ++ flat_map make ms) (sym (range_more 0 n n (omega arith)))))

-- what holds of the items of each number holds of the concatenation
all_made : {T : Type 0} (P : T → Type 0) (make : ℕ → List T) (from n : ℕ)
    → ((k : ℕ) → k < from + n → All P (make k)) → All P (flat_map make (range_with_len from n))
all_made P make from zero each = All-nil P
all_made P make from (suc n) each =
    All-append P (make from) (flat_map make (range_with_len (from + 1) n)) (each from (omega arith))
    (all_made P make (from + 1) n (λ k below. each k (omega (arith, below))))

-- so with what is made of each column of each row
pub all_rows : {T : Type 0} (P : T → Type 0) (columns rows : ℕ) (make : ℕ → ℕ → List T)
    → ((i j : ℕ) → i < columns → j < rows → All P (make i j)) → All P (row_by_row columns rows make)
all_rows P columns rows make each =
    all_made P (λ j. flat_map (λ i. make i j) (range_with_len 0 columns)) 0 rows
    (λ j row. all_made P (λ i. make i j) 0 columns
    (λ i column. each i j (omega (arith, column)) (omega (arith, row))))

-- where each number has at most n items, all have at most n for each
few_made : {T : Type 0} (make : ℕ → List T) (most from n : ℕ) → ((k : ℕ) → length (make k) ≤ most)
    → length (flat_map make (range_with_len from n)) ≤ n * most
few_made make most from zero each = omega arith
few_made make most from (suc n) each =
    let more = length-append (make from) (flat_map make (range_with_len (from + 1) n)) in
    omega (arith, more, each from, few_made make most (from + 1) n each, suc-mul n most)

-- so with columns and rows
pub few_rows : {T : Type 0} (columns rows most wide high : ℕ) (make : ℕ → ℕ → List T) → ((i j : ℕ) → length (make i j) ≤ most)
    → columns ≤ wide → rows ≤ high → length (row_by_row columns rows make) ≤ high * (wide * most)
few_rows columns rows most wide high make each narrow low =
    let made = few_made (λ j. flat_map (λ i. make i j) (range_with_len 0 columns)) (columns * most) 0 rows
    (λ j. few_made (λ i. make i j) most 0 columns (λ i. each i j)) in
    let row = mul-le columns most wide most narrow (omega arith) in
    omega (arith, made, mul-le rows (columns * most) high (wide * most) low row)
