-- Lines in the order of their blocks are the lines of one block after another.
use Rattle.std.proofs.Common.{◌≡◌, ℕ, suc, ◌+◌, ◌<◌, ◌≤◌, ◌==◌, Bool, true, false, List, [], ◌∷◌, ◌++◌, length, map, filter, if◌then◌else◌, refl, ap, sym, ◌∙◌, arith}
use Rattle.std.specs.List.{All}
use Rattle.drawing_edits.proofs.Names.{Decides-eqb, nat_tests, IsNonDecreasing, LineValue, differs}

abbrev pub in_block : ℕ → List LineValue → List LineValue
in_block block lines = filter (λ line. line.block == block) lines

-- the lines of the blocks of the given threads, block by block, from the given block on
abbrev pub grouped : ℕ → List ℕ → List LineValue → List LineValue
grouped block [] lines = []
grouped block (thread ∷ rest) lines = in_block block lines ++ grouped (block + 1) rest lines

-- blocks that don't fall, from the given one on, below a bound
abbrev pub Rise : (from bound : ℕ) → List ℕ → Type 0
Rise from bound [] = Unit {0}
Rise from bound (block ∷ rest) = (from ≤ block) × (block < bound) × Rise block bound rest

abbrev pub blocks_of : List LineValue → List ℕ
blocks_of lines = map (λ line. line.block) lines

other_block_above : (m n : ℕ) → n < m → (m == n) ≡ false
other_block_above m n less = grind (arith, nat_tests)

-- a line of an earlier block is in none of the groups
skipped : (block : ℕ) (threads : List ℕ) (line : LineValue) (rest : List LineValue) → line.block < block
    → grouped block threads (line ∷ rest) ≡ grouped block threads rest
skipped block [] line rest less = refl
skipped block (thread ∷ more) line rest less =
    ap (λ (is : Bool). (if is then line ∷ in_block block rest else in_block block rest) ++ grouped (block + 1) more (line ∷ rest))
    (differs line.block block less)
    ∙ ap (λ (later : List LineValue). in_block block rest ++ later) (skipped (block + 1) more line rest (omega (arith, less)))

none_in : (block from bound : ℕ) (lines : List LineValue) → block < from → Rise from bound (blocks_of lines) → in_block block lines ≡ []
none_in block from bound [] less rise = refl
none_in block from bound (line ∷ rest) less rise =
    ap (λ (is : Bool). if is then line ∷ in_block block rest else in_block block rest)
    (other_block_above line.block block (omega (arith, less, rise.0)))
    ∙ none_in block line.block bound rest (omega (arith, less, rise.0)) rise.2

front_if : (block : ℕ) (more : List ℕ) (line : LineValue) (rest : List LineValue) (is : Bool) → (is ≡ true → line.block < block + 1)
    → (is ≡ false → (in_block block rest ≡ []) × (grouped (block + 1) more (line ∷ rest) ≡ line ∷ grouped (block + 1) more rest))
    → (if is then line ∷ in_block block rest else in_block block rest) ++ grouped (block + 1) more (line ∷ rest) ≡ line
    ∷ in_block block rest ++ grouped (block + 1) more rest
front_if block more line rest true here later =
    ap (λ (lines : List LineValue). line ∷ in_block block rest ++ lines) (skipped (block + 1) more line rest (here refl))
front_if block more line rest false here later =
    let both = later refl in
    ap (λ (some : List LineValue). some ++ grouped (block + 1) more (line ∷ rest)) both.0 ∙ both.1
    ∙ ap (λ (some : List LineValue). line ∷ some ++ grouped (block + 1) more rest) (sym both.0)

above : (m n : ℕ) → n ≤ m → (m == n) ≡ false → n < m
above m n least other = grind (arith, nat_tests)

front : (block : ℕ) (threads : List ℕ) (bound : ℕ) (line : LineValue) (rest : List LineValue) → block ≤ line.block
    → line.block < block + length threads → Rise line.block bound (blocks_of rest)
    → grouped block threads (line ∷ rest) ≡ line ∷ grouped block threads rest
front block [] bound line rest least less rise = absurd (omega (arith, least, less))
front block (thread ∷ more) bound line rest least less rise =
    front_if block more line rest (line.block == block)
    (λ is. let same = (Decides-eqb line.block block).0 is in omega (arith, same))
    (λ other. (
      none_in block line.block bound rest (above line.block block least other) rise,
      front (block + 1) more bound line rest (omega (arith, above line.block block least other)) (omega (arith, less)) rise,
    ))

no_lines : (block : ℕ) (threads : List ℕ) → grouped block threads [] ≡ []
no_lines block [] = refl
no_lines block (thread ∷ more) = no_lines (block + 1) more

-- lines in the order of their blocks are their groups
pub in_order : (threads : List ℕ) (from : ℕ) (lines : List LineValue) → Rise from (length threads) (blocks_of lines)
    → grouped 0 threads lines ≡ lines
in_order threads from [] rise = no_lines 0 threads
in_order threads from (line ∷ rest) rise =
    front 0 threads (length threads) line rest (omega arith) (omega (arith, rise.1)) rise.2
    ∙ ap (λ (later : List LineValue). line ∷ later) (in_order threads line.block rest rise.2)

rise_after : (bound : ℕ) (line : LineValue) (rest : List LineValue) → IsNonDecreasing (blocks_of (line ∷ rest))
    → All (λ line. line.block < bound) rest → Rise line.block bound (blocks_of rest)
rise_after bound line [] ordered below = tt
rise_after bound line (next ∷ rest) ordered below = (
  ordered 0 1 0 (omega arith) (omega arith),
  below 0 next (omega arith),
  rise_after bound next rest (λ i j e less there. ordered (suc i) (suc j) e (omega (arith, less)) (omega (arith, there)))
      (λ i e low. below (suc i) e (omega (arith, low))),
)

-- the blocks of a valid drawing's lines rise
pub rise_all : (bound : ℕ) (lines : List LineValue) → IsNonDecreasing (blocks_of lines) → All (λ line. line.block < bound) lines
    → Rise 0 bound (blocks_of lines)
rise_all bound [] ordered below = tt
rise_all bound (line ∷ rest) ordered below = (
  omega arith,
  below 0 line (omega arith),
  rise_after bound line rest ordered (λ i e low. below (suc i) e (omega (arith, low))),
)
