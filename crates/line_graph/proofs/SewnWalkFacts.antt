-- Acts that sew no walk, walks that can't be sewn, and what the theorems on sewing exclude.
use Rattle.std.proofs.Common.{◌≡◌, ◌≢◌, ℕ, ◌+◌, ◌<◌, ◌≤◌, true, false, List, [], ◌∷◌, All, Contains, length, sum_by, Result, Ok, Err, refl, arith, ap, sym, true≢false}
use Rattle.line_graph.proofs.Names.{AllZip, Act, acts_without_numbers, Pass, DrawingValue, KeepsDrawingLimits, ArePieces, piece_graph, is_fitting_walk, piece_cost, walk_cost, AreNear, HasNeedle, Run, runs_of, stops_after, FittingWalksAreSewable, GoesAlong, IsSewable, PiecesKeepLimits, PiecesAreUnique, IsValidPiece, needles_of_walk, acts_of, AreWritable, RunsAreSewn, Sews, design_of_runs, sewn_acts}
use Rattle.design_model.specs.declared.act.Act.TheVariants as act
use Rattle.design_model.specs.declared.act.NumberedAct.{NumberedAct}
use Rattle.line_graph.specs.declared.draw_kind.DrawKind.{DrawKind}
use Rattle.line_graph.specs.declared.draw_kind.DrawKind.TheVariants as kind
use Rattle.line_graph.specs.GrowingDrawings.{ChangesAsSpecified}
use Rattle.line_graph.proofs.WalkFacts.{at, back, drawn, forth}

-- a stroke of one step, sewn forth and back
abbrev stroke : DrawingValue
stroke = drawn 10 (at 0 0 ∷ at 10 0 ∷ [])

abbrev walks : List (List Pass)
walks = (forth ∷ back ∷ []) ∷ []

abbrev numbered : Act → NumberedAct
numbered a = record { act = a; number = 7 }

abbrev needle : ℕ → NumberedAct
needle x = numbered (act.Needle (at x 0) false)

-- its three needle points and a trim sew it, under any numbers
pub known_sewn : Sews stroke walks (needle 0 ∷ needle 10 ∷ needle 0 ∷ numbered act.Trim ∷ [])
known_sewn = refl

-- the number of items of equal lists is equal
lengths : (xs ys : List Act) → xs ≡ ys → length xs ≡ length ys
lengths xs ys is = ap (λ (acts : List Act). length acts) is

-- without the trim they don't, with a further act they don't, and with a float they don't
pub known_no_trim : Sews stroke walks (needle 0 ∷ needle 10 ∷ needle 0 ∷ []) → ⊥
known_no_trim sews = fewer (lengths _ _ sews)
  where
    fewer : ◌≡◌ {A = ℕ} 3 4 → ⊥
    fewer is = omega (arith, is)

pub known_further : Sews stroke walks (needle 0 ∷ needle 10 ∷ needle 0 ∷ numbered act.Trim ∷ numbered act.Stop ∷ []) → ⊥
known_further sews = more (lengths _ _ sews)
  where
    more : ◌≡◌ {A = ℕ} 5 4 → ⊥
    more is = omega (arith, is)

-- the test whether the second act is a float
abbrev second_floats : List Act → Act
second_floats (a ∷ act.Needle p float ∷ rest) = act.Needle p float
second_floats other = act.Stop

pub known_float : Sews stroke walks
    (needle 0 ∷ numbered (act.Needle (at 10 0) true) ∷ needle 0 ∷ numbered act.Trim ∷ []) → ⊥
known_float sews = floats (ap second_floats sews)
  where
    floats : act.Needle (at 10 0) true ≡ act.Needle (at 10 0) false → ⊥
    floats is = cc

-- points more than the step apart, out of reach, or none, are not near each other
pub known_apart : AreNear 10 (at 0 0 ∷ at 5 0 ∷ at 16 0 ∷ []) → ⊥
known_apart near = true≢false (sym near.close.1.0)

pub known_reach : AreNear 10 (at 30001 0 ∷ []) → ⊥
known_reach near = true≢false (sym (near.in_range 0 (at 0 0) (omega arith)))

pub known_none : AreNear 10 [] → ⊥
known_none near = near.some refl

-- runs that every format can write are few, near, and have few points and stops
pub known_writable : (step : ℕ) (runs : List Run) → AreWritable step runs
    → All (λ (run : Run). AreNear step run.needles) runs × (length runs ≡ 1025 → ⊥)
    × (sum_by (λ (run : Run). length run.needles) runs ≡ 401025 → ⊥) × (stops_after 0 runs ≡ 255 → ⊥)
known_writable step runs can = (
  can.near,
  λ is. omega (arith, is, can.runs_to),
  λ is. omega (arith, is, can.needles_to),
  λ is. omega (arith, is, can.stops_to),
)

-- a walk that can be sewn has one needle point more than it costs, along the lines of its piece
pub known_sewable : (d : DrawingValue) (lines : List ℕ) (walk : List Pass) → IsSewable d lines walk
    → All (λ (pass : Pass). Contains lines pass.line) walk
    × (length (needles_of_walk d walk) ≡ 1 + walk_cost (piece_graph d lines) walk) × AreNear d.step (needles_of_walk d walk)
known_sewable d lines walk can = (can.there, omega (arith, can.penetrations), can.near)

-- what the theorems say of one drawing
pub known_fitting : FittingWalksAreSewable → (d : DrawingValue) (lines : List ℕ) (walk : List Pass) → KeepsDrawingLimits d
    → All (λ line. line < length d.lines) lines → IsValidPiece (piece_graph d lines)
    → is_fitting_walk (piece_graph d lines) walk ≡ true
    → length (needles_of_walk d walk) ≡ 1 + walk_cost (piece_graph d lines) walk
known_fitting law d lines walk limits there valid fits = omega (arith, (law d lines walk limits there valid fits).penetrations)

pub known_runs : RunsAreSewn → (d : DrawingValue) (run : Run) (rest : List Run) → All HasNeedle (run ∷ rest)
    → acts_without_numbers (acts_of (design_of_runs d (run ∷ rest))) ≡ sewn_acts (run ∷ rest)
known_runs law d run rest some = law d (run ∷ rest) some

pub known_unique : PiecesAreUnique → (d : DrawingValue) (a b : List (List ℕ)) → ArePieces d a → ArePieces d b → a ≢ b → ⊥
known_unique law d a b one other differ = differ (law d a b one other)

pub known_limits : PiecesKeepLimits → (d : DrawingValue) (pieces : List (List ℕ)) → KeepsDrawingLimits d → ArePieces d pieces
    → (sum_by (λ lines. piece_cost (piece_graph d lines)) pieces ≡ 200001 → ⊥) × (length pieces ≡ 1025 → ⊥)
    × ((walks : List (List Pass)) → AllZip GoesAlong pieces walks → stops_after 0 (runs_of d walks) ≡ length d.threads → ⊥)
known_limits law d pieces limits are = let within = law d pieces limits are in (
  λ is. omega (arith, is, within.cost),
  λ is. omega (arith, is, within.count),
  λ walks along is. omega (arith, is, within.stops walks along),
)

-- such a walk has a pass, and each pass is of a line of its piece
pub known_no_pass : GoesAlong (4 ∷ 7 ∷ []) [] → ⊥
known_no_pass along = none along.some
  where
    none : 1 ≤ 0 → ⊥
    none less = omega (arith, less)

pub known_along : (pass : Pass) → GoesAlong (4 ∷ 7 ∷ []) (pass ∷ []) → Contains (4 ∷ 7 ∷ []) pass.line
known_along pass along = along.there 0 pass (omega arith)

-- a refusal leaves a value as it was, is the specified one or out of memory, and stands in for no success
pub known_refused : (said : Result ℕ DrawKind) (old new : ℕ) (why : DrawKind)
    → ChangesAsSpecified {T = ℕ} said old (Err why) new → new ≡ old
known_refused said old new why changes = changes.1

pub known_kind : (said : Result ℕ DrawKind) (old new : ℕ) → ChangesAsSpecified {T = ℕ} said old (Err kind.NoBlock) new
    → said ≡ Err kind.NoBlock
known_kind said old new changes = changes.0

pub known_changed : (said : Result ℕ DrawKind) (old new n : ℕ) → ChangesAsSpecified {T = ℕ} said old (Ok n) new → said ≡ Ok new
known_changed said old new n changes = changes
