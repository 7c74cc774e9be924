-- A growing drawing takes short lines as long as it has room.
use Rattle.std.proofs.Common.{◌≡◌, ℕ, zero, suc, ◌+◌, ◌≤◌, ◌==◌, Bool, true, false, nat_lt, List, [], ◌∷◌, ◌++◌, length, map, Result, Ok, Err, ap, ◌∙◌, refl, arith}
use Rattle.sample_drawings.proofs.Names.{nat_tests, list_any, Point, DrawingValue, finished_drawing, line_added, point_count, step_count, draw_is_out_of_memory, steps_of_line, Segment, line_across, cells_per_side, diagonals, line_down, line_along, row_by_row, sample_segments, HasRoom, IsShortSegment, first_block, with_segments}
use Rattle.design_model.specs.OutOfMemory.{IsSpecified}
use Rattle.line_graph.specs.declared.draw_kind.DrawKind.{DrawKind}
use Rattle.line_graph.specs.declared.draw_kind.DrawKind.TheVariants as kind

-- the drawing takes the two ends of a short line
taken_so : (d : DrawingValue) (s : Segment) → HasRoom d 1 → IsShortSegment s
    → line_added d (s.from ∷ s.to ∷ []) ≡ Ok (with_segments d (s ∷ []))
taken_so d s room short =
    let some : (length d.threads == 0) ≡ false = rw room.threads refl in
    let lines : (length d.lines == 1024) ≡ false = grind (arith, nat_tests, room.lines) in
    let points : nat_lt 65536 (point_count d.lines + 2) ≡ false = grind (arith, nat_tests, room.points, room.lines) in
    let cost : nat_lt 200000 (step_count 25 d.lines + steps_of_line 25 (s.from ∷ s.to ∷ [])) ≡ false =
    grind (arith, nat_tests, room.steps, room.lines, short.cost) in
    rw (some, short.from, short.to, short.apart, lines, points, room.step, cost, room.threads) refl

-- so it takes a list of points that is those two
pub line_taken : (d : DrawingValue) (s : Segment) (points : List Point) → points ≡ s.from ∷ s.to ∷ [] → HasRoom d 1
    → IsShortSegment s → line_added d points ≡ Ok (with_segments d (s ∷ []))
line_taken d s points are room short = ap (line_added d) are ∙ taken_so d s room short

-- a call that may want memory alone refuses for want of memory
pub memory_wanted : {A : Type 0} (said : Result A DrawKind) (a : A) (why : DrawKind) → said ≡ Ok a
    → IsSpecified draw_is_out_of_memory said (Err why) → why ≡ kind.Memory
memory_wanted said a kind.Memory is refused = refl
memory_wanted said a kind.BadHeader is refused = absurd cc
memory_wanted said a kind.BadWord is refused = absurd cc
memory_wanted said a kind.BadNumber is refused = absurd cc
memory_wanted said a kind.OutOfRange is refused = absurd cc
memory_wanted said a kind.FewPoints is refused = absurd cc
memory_wanted said a kind.RepeatedPoint is refused = absurd cc
memory_wanted said a kind.EmptyBlock is refused = absurd cc
memory_wanted said a kind.NoBlock is refused = absurd cc
memory_wanted said a kind.TooManyLines is refused = absurd cc
memory_wanted said a kind.TooManyPoints is refused = absurd cc
memory_wanted said a kind.TooManyBlocks is refused = absurd cc
memory_wanted said a kind.TooMuchCost is refused = absurd cc
memory_wanted said a kind.NoJunction is refused = absurd cc
memory_wanted said a kind.EndRepeated is refused = absurd cc

-- a drawing of one block without a line has room for n lines
pub first_room : (count : ℕ) → count ≤ 930 → HasRoom first_block count
first_room count few = record {
  threads = refl;
  step = refl;
  lines = omega (arith, few);
  points = omega arith;
  steps = omega arith;
}

-- a sample has a line of its block
some_across : (number columns rows : ℕ) (more yet : List Segment) → 1 ≤ columns → 1 ≤ rows
    → list_any (λ line. line.block == 0) (map line_along ((row_by_row columns rows (line_across number) ++ more) ++ yet)) ≡ true
some_across number zero rows more yet some others = absurd (omega (arith, some))
some_across number (suc columns) zero more yet some others = absurd (omega (arith, others))
some_across number (suc columns) (suc rows) more yet some others = refl

-- so the drawing that took its lines may end
ends_where : (d : DrawingValue) → d.threads ≡ 1 ∷ [] → (t : Bool) → list_any (λ line. line.block == 0) d.lines ≡ t → t ≡ true
    → finished_drawing d ≡ Ok d
ends_where d threads true used is = rw (threads, used) refl
ends_where d threads false used is = absurd cc

pub sample_ends : (number : ℕ) → finished_drawing (with_segments first_block (sample_segments number))
    ≡ Ok (with_segments first_block (sample_segments number))
sample_ends number =
    let cells = cells_per_side number in
    ends_where (with_segments first_block (sample_segments number)) refl _ refl
    (some_across number cells (cells + 1) (row_by_row (cells + 1) cells (line_down number)) (row_by_row cells cells (diagonals number))
    (omega arith) (omega arith))

-- what ends isn't refused
pub never : (why : DrawKind) (d : DrawingValue) → Err why ≡ Ok d → ⊥
never why d is = cc
