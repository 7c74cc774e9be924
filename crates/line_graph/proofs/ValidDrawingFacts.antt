-- Drawings beyond each limit, and starts and ends that aren't valid, each for one reason.
use Rattle.std.proofs.Common.{◌≡◌, ℕ, zero, suc, ◌<◌, ◌≤◌, List, [], ◌∷◌, length, sum_by, get_or, codes, refl, arith, ap, sym, true≢false, ⊎_elim}
use Rattle.line_graph.proofs.DrawingNames.{Point, Spot, LineValue, DrawingValue, IsLine, KeepsDrawingLimits, steps_of_line, HasNoEnds, HasValidEnds}
use Rattle.line_graph.proofs.NeedleFacts.{at}

abbrev line : ℕ → List Point → LineValue
line block points = record { block = block; points = points }

abbrev stroke : LineValue
stroke = line 0 (at 0 0 ∷ at 10 0 ∷ [])

abbrev drawn : List ℕ → List ℕ → List LineValue → DrawingValue
drawn label threads lines =
    record { label = label; step = 10; threads = threads; lines = lines; starts = []; ends = [] }

-- the limits of numbers: one more is too much, and nothing is too little
pub known_step : (d : DrawingValue) → KeepsDrawingLimits d → (d.step ≡ 0 → ⊥) × (d.step ≡ 2048 → ⊥)
known_step d keeps = (λ is. omega (arith, is, keeps.step_from), λ is. omega (arith, is, keeps.step_to))

pub known_blocks : (d : DrawingValue) → KeepsDrawingLimits d → (length d.threads ≡ 0 → ⊥) × (length d.threads ≡ 256 → ⊥)
known_blocks d keeps = (λ is. omega (arith, is, keeps.blocks_from), λ is. omega (arith, is, keeps.blocks_to))

pub known_lines : (d : DrawingValue) → KeepsDrawingLimits d → length d.lines ≡ 1025 → ⊥
known_lines d keeps is = omega (arith, is, keeps.line_count)

pub known_points : (d : DrawingValue) → KeepsDrawingLimits d → sum_by (λ (l : LineValue). length l.points) d.lines ≡ 65537 → ⊥
known_points d keeps is = omega (arith, is, keeps.point_count)

pub known_cost : (d : DrawingValue) → KeepsDrawingLimits d
    → sum_by (λ (l : LineValue). steps_of_line d.step l.points) d.lines ≡ 200001
    → ⊥
known_cost d keeps is = omega (arith, is, keeps.cost)

-- a label is short and one word, and a thread a byte
pub known_label : KeepsDrawingLimits (drawn (codes "Roses-of-Damascus") (1 ∷ []) (stroke ∷ [])) → ⊥
known_label keeps = long keeps.label.short
  where
    long : 17 ≤ 16 → ⊥
    long is = omega (arith, is)

pub known_word : KeepsDrawingLimits (drawn (codes "a b") (1 ∷ []) (stroke ∷ [])) → ⊥
known_word keeps = keeps.one_word 1 0 (omega arith) refl

pub known_thread : KeepsDrawingLimits (drawn [] (256 ∷ []) (stroke ∷ [])) → ⊥
known_thread keeps = far (keeps.threads 0 0 (omega arith))
  where
    far : 256 < 256 → ⊥
    far is = omega (arith, is)

-- each block has a line, each line a block, and the blocks of the lines never fall
pub known_unused : KeepsDrawingLimits (drawn [] (1 ∷ 2 ∷ []) (stroke ∷ [])) → ⊥
known_unused keeps = let used = keeps.used 1 (omega arith) in nowhere used.0 used.1 used.2
  where
    nowhere : (k : ℕ) → k < 1 → ◌≡◌ {A = ℕ} (get_or (0 ∷ []) k 1) 1 → ⊥
    nowhere zero below is = omega (arith, is)
    nowhere (suc k) below is = omega (arith, below)

pub known_no_block : KeepsDrawingLimits (drawn [] (1 ∷ []) (stroke ∷ line 1 (at 0 0 ∷ at 10 0 ∷ []) ∷ [])) → ⊥
known_no_block keeps = far (keeps.there 1 stroke (omega arith))
  where
    far : 1 < 1 → ⊥
    far is = omega (arith, is)

pub known_falling : KeepsDrawingLimits (drawn [] (1 ∷ 2 ∷ []) (line 1 (at 0 0 ∷ at 10 0 ∷ []) ∷ stroke ∷ [])) → ⊥
known_falling keeps = falls (keeps.ordered 0 1 0 (omega arith) (omega arith))
  where
    falls : 1 ≤ 0 → ⊥
    falls is = omega (arith, is)

-- a line has a segment, repeats no point at once, and is within the needle's reach
pub known_short : KeepsDrawingLimits (drawn [] (1 ∷ []) (line 0 (at 0 0 ∷ []) ∷ [])) → ⊥
known_short keeps = short (keeps.lines 0 stroke (omega arith)).long
  where
    short : 2 ≤ 1 → ⊥
    short is = omega (arith, is)

pub known_repeated : IsLine (at 0 0 ∷ at 7 0 ∷ at 7 0 ∷ []) → ⊥
known_repeated is = is.moving.1.0 refl

pub known_far : IsLine (at 0 0 ∷ at 30001 0 ∷ []) → ⊥
known_far is = true≢false (sym (is.in_range 1 (at 0 0) (omega arith)))

-- an angle of two lines, and a stroke elsewhere
abbrev spot : ℕ → Spot
spot x = record { block = 0; at = at x 0 }

abbrev ended : List Spot → List Spot → DrawingValue
ended starts ends = record {
  label = [];
  step = 10;
  threads = 1 ∷ [];
  lines = line 0 (at 0 0 ∷ at 10 0 ∷ []) ∷ line 0 (at 10 0 ∷ at 20 0 ∷ []) ∷ line 0 (at 50 0 ∷ at 55 0 ∷ at 60 0 ∷ []) ∷ [];
  starts = starts;
  ends = ends;
}

-- a piece has one start and one end
pub known_two_starts : HasValidEnds (ended (spot 60 ∷ spot 0 ∷ spot 20 ∷ []) []) → ⊥
known_two_starts valid = true≢false (valid.starts.apart 1 2 (spot 0) (omega arith) (omega arith))

pub known_two_ends : HasValidEnds (ended [] (spot 20 ∷ spot 60 ∷ spot 20 ∷ [])) → ⊥
known_two_ends valid = true≢false (valid.ends.apart 0 2 (spot 0) (omega arith) (omega arith))

-- they are at junctions
pub known_inside : HasValidEnds (ended (spot 0 ∷ spot 55 ∷ []) []) → ⊥
known_inside valid = true≢false (sym (valid.starts.there 1 (spot 0) (omega arith)))

pub known_end_inside : HasValidEnds (ended [] (spot 55 ∷ [])) → ⊥
known_end_inside valid = true≢false (sym (valid.ends.there 0 (spot 0) (omega arith)))

-- two lines with a point in common inside: no start and no end before they are joined
abbrev crossing : List Spot → List Spot → DrawingValue
crossing starts ends = record (ended starts ends) {
  lines = line 0 (at 0 0 ∷ at 10 0 ∷ at 20 0 ∷ []) ∷ line 0 (at 10 10 ∷ at 10 0 ∷ []) ∷ [];
}

-- a list of a spot isn't empty
some : (s : Spot) → ◌≡◌ {A = List Spot} (s ∷ []) [] → ⊥
some s is = one (ap (λ (spots : List Spot). length spots) is)
  where
    one : ◌≡◌ {A = ℕ} 1 0 → ⊥
    one is = omega (arith, is)

pub known_start_unjoined : HasValidEnds (crossing (spot 0 ∷ []) []) → ⊥
known_start_unjoined valid = ⊎_elim (λ (none : HasNoEnds (crossing (spot 0 ∷ []) [])). some (spot 0) none.starts)
    (λ joined. true≢false (sym joined)) valid.joined

pub known_end_unjoined : HasValidEnds (crossing [] (spot 0 ∷ [])) → ⊥
known_end_unjoined valid = ⊎_elim (λ (none : HasNoEnds (crossing [] (spot 0 ∷ []))). some (spot 0) none.ends)
    (λ joined. true≢false (sym joined)) valid.joined
