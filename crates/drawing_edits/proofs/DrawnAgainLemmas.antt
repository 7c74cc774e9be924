-- Lines that can be drawn again block by block, in the order of their blocks, are the same lines.
use Rattle.std.proofs.Common.{◌≡◌, ℕ, ◌+◌, ◌-◌, ◌==◌, Bool, true, false, List, [], ◌∷◌, ◌++◌, length, Result, Ok, Err, if◌then◌else◌, refl, ap, sym, subst, ◌∙◌, arith, append_assoc, append-nil}
use Rattle.drawing_edits.proofs.Names.{Decides-eqb, nat_tests, length-append, line_added_if, with_blocks, with_lines_of, DrawKind, DrawingValue, and_then, empty_drawing, finished_drawing, is_last_empty, with_new_block, with_new_line, MAX_BLOCKS, LineValue, LinesInOrderAreDrawn, steps_with_line}
use Rattle.drawing_edits.proofs.BlockGroupLemmas.{grouped, in_block, in_order, rise_all}

line_put : (a b : Bool) (x y : DrawKind) (steps : Result ℕ DrawKind) (new : DrawingValue)
    (more : DrawingValue → Result DrawingValue DrawKind) (e : DrawingValue)
    → and_then (if a then Err x else (if b then Err y else and_then steps (λ s. Ok new))) more ≡ Ok e → more new ≡ Ok e
line_put a b x y steps new more e h1 = grind (arith, nat_tests)

lines_if : (block : ℕ) (d : DrawingValue) (line : LineValue) (rest : List LineValue) (e : DrawingValue) → length d.threads ≡ block + 1
    → (b : Bool) → (line.block == block) ≡ b → and_then (line_added_if b d line.points) (λ next. with_lines_of block next rest) ≡ Ok e
    → ((next : DrawingValue) → length next.threads ≡ block + 1 → with_lines_of block next rest ≡ Ok e → e
    ≡ record next { lines = next.lines ++ in_block block rest })
    → e ≡ record d { lines = d.lines ++ (if b then line ∷ in_block block rest else in_block block rest) }
lines_if block d line rest e last true same is later =
    later (with_new_line d line.points) last
    (line_put (length d.threads == 0) _ _ _ (steps_with_line d line.points) (with_new_line d line.points)
    (λ (next : DrawingValue). with_lines_of block next rest) e is)
    ∙ ap (λ (lines : List LineValue). record d { lines = lines })
    (append_assoc d.lines (record { block = length d.threads - 1; points = line.points } ∷ []) (in_block block rest))
    ∙ ap (λ (own : ℕ). record d { lines = d.lines ++ record { block = own; points = line.points } ∷ in_block block rest })
    (let is_own = (Decides-eqb line.block block).0 same in omega (arith, last, is_own))
lines_if block d line rest e last false same is later = later d last is

lines_put : (block : ℕ) (d : DrawingValue) (lines : List LineValue) (e : DrawingValue) → length d.threads ≡ block + 1
    → with_lines_of block d lines ≡ Ok e → e ≡ record d { lines = d.lines ++ in_block block lines }
lines_put block d [] e last is =
    let same : d ≡ e = cc in
    sym same ∙ ap (λ (lines : List LineValue). record d { lines = lines }) (sym (append-nil d.lines))
lines_put block d (line ∷ rest) e last is =
    lines_if block d line rest e last (line.block == block) refl is (λ next own more. lines_put block next rest e own more)

block_put : (a b : Bool) (x y : DrawKind) (new : DrawingValue) (more after : DrawingValue → Result DrawingValue DrawKind) (e : DrawingValue)
    → and_then (and_then (if a then Err x else (if b then Err y else Ok new)) more) after ≡ Ok e → and_then (more new) after ≡ Ok e
block_put a b x y new more after e h1 = grind (arith, nat_tests)

blocks_after : (r : Result DrawingValue DrawKind) (block : ℕ) (d : DrawingValue) (thread : ℕ) (rest : List ℕ) (lines : List LineValue)
    (e : DrawingValue) → length d.threads ≡ block → with_lines_of block (with_new_block d thread) lines ≡ r
    → and_then r (λ next. with_blocks next (block + 1) rest lines) ≡ Ok e
    → ((next : DrawingValue) → length next.threads ≡ block + 1 → with_blocks next (block + 1) rest lines ≡ Ok e
    → e ≡ record next { threads = next.threads ++ rest; lines = next.lines ++ grouped (block + 1) rest lines })
    → e ≡ record d { threads = d.threads ++ thread ∷ rest; lines = d.lines ++ (in_block block lines ++ grouped (block + 1) rest lines) }
blocks_after (Err why) block d thread rest lines e last first is later = absurd (let no : ⊥ = cc in no)
blocks_after (Ok next) block d thread rest lines e last first is later =
    let own : length (d.threads ++ thread ∷ []) ≡ block + 1 = omega (arith, last, length-append d.threads (thread ∷ [])) in
    let filled = lines_put block (with_new_block d thread) lines next own first in
    later (record (with_new_block d thread) { lines = d.lines ++ in_block block lines }) own
    (subst (λ (some : DrawingValue). with_blocks some (block + 1) rest lines ≡ Ok e) filled is)
    ∙ ap (λ (threads : List ℕ). record d { threads = threads; lines = (d.lines ++ in_block block lines) ++ grouped (block + 1) rest lines })
    (append_assoc d.threads (thread ∷ []) rest)
    ∙ ap (λ (some : List LineValue). record d { threads = d.threads ++ thread ∷ rest; lines = some })
    (append_assoc d.lines (in_block block lines) (grouped (block + 1) rest lines))

blocks_put : (threads : List ℕ) (block : ℕ) (d : DrawingValue) (lines : List LineValue) (e : DrawingValue) → length d.threads ≡ block
    → with_blocks d block threads lines ≡ Ok e
    → e ≡ record d { threads = d.threads ++ threads; lines = d.lines ++ grouped block threads lines }
blocks_put [] block d lines e last is =
    let same : d ≡ e = cc in
    sym same ∙ ap (λ (threads : List ℕ). record d { threads = threads }) (sym (append-nil d.threads))
    ∙ ap (λ (some : List LineValue). record d { threads = d.threads ++ []; lines = some }) (sym (append-nil d.lines))
blocks_put (thread ∷ rest) block d lines e last is =
    blocks_after (with_lines_of block (with_new_block d thread) lines) block d thread rest lines e last refl
    (block_put (is_last_empty d) (length d.threads == MAX_BLOCKS) _ _ (with_new_block d thread)
    (λ (opened : DrawingValue). with_lines_of block opened lines) (λ (next : DrawingValue). with_blocks next (block + 1) rest lines) e is)
    (λ next own more. blocks_put rest (block + 1) next lines e own more)

finished_is : (a b : Bool) (x y : DrawKind) (d e : DrawingValue) → (if a then Err x else (if b then Err y else Ok d)) ≡ Ok e → e ≡ d
finished_is a b x y d e h1 = grind (arith, nat_tests)

drawn_by : (r : Result DrawingValue DrawKind) (v e : DrawingValue) → with_blocks (empty_drawing v.label v.step) 0 v.threads v.lines ≡ r
    → and_then r finished_drawing ≡ Ok e → e ≡ record v { lines = grouped 0 v.threads v.lines; starts = []; ends = [] }
drawn_by (Err why) v e first is = absurd (let no : ⊥ = cc in no)
drawn_by (Ok made) v e first is =
    finished_is (length made.threads == 0) (is_last_empty made) _ _ made e is
    ∙ blocks_put v.threads 0 (empty_drawing v.label v.step) v.lines made refl first

-- Lines in the order of their blocks that can be drawn are drawn as they are.
pub drawn_as_they_are : LinesInOrderAreDrawn
drawn_as_they_are d drawn ordered there is =
    drawn_by (with_blocks (empty_drawing d.label d.step) 0 d.threads d.lines) d drawn refl is
    ∙ ap (λ (lines : List LineValue). record d { lines = lines; starts = []; ends = [] })
    (in_order d.threads 0 d.lines (rise_all (length d.threads) d.lines ordered there))
