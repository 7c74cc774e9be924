-- The design of runs, as a design that every format can write.
use Rattle.std.proofs.Common.{◌≡◌, ℕ, zero, suc, ◌+◌, ◌-◌, ◌*◌, ◌/◌, ◌<◌, ◌≤◌, Bool, true, false, List, [], ◌∷◌, ◌++◌, length, map, replicate, All, IsTrue, Result, Ok, Err, IsOkAnd, nat_le, refl, ap, ◌∙◌, arith, if◌then◌else◌}
use Rattle.std.proofs.Math.Nat.{div-lt_iff_lt-mul}
use Rattle.design_model.specs.declared.command.Command.TheVariants.{Stitch, Stop, Trim}
use Rattle.design_model.specs.declared.command.Command.{Command}
use Rattle.design_model.specs.Points.{move_between, origin, move_size}
use Rattle.format_traits.specs.declared.fault.ReadFault.{ReadFault}
use Rattle.format_traits.specs.Laws.{HasSameActs}
use Rattle.format_traits.specs.MoveHops.{hops_of}
use Rattle.format_traits.specs.Refusals.{stops_of}
use Rattle.format_traits.specs.Rooms.{room_of_loose, room_from}
use Rattle.line_graph.specs.declared.pass.Pass.{Pass}
use Rattle.step_splitter.specs.Chains.{IsNeedlePoint, AreCloseAfter}
use Rattle.design_model.proofs.CallerLemmas.{within_more}
use Rattle.std.proofs.lemmas.Bool.{and_from}
use Rattle.stitch_cli.proofs.Names.{All-head, All-tail, sum_by-cons, sum_by, Point, acts_of, acts_without_numbers, DesignValue, Loaded, IsPlain, DrawingValue, Run, Sews, runs_of, acts_from, are_plain_from, AreNear, AreWritable, RunsAreSewn, commands_after, design_of_runs, sewn_design, stops_after}
use Rattle.step_splitter.proofs.CallerLemmas.{size_few}

-- At most 496 moves lead from one needle point to another, in any format.
quotient_few : (limit size : ℕ) → 121 ≤ limit → size ≤ 60000 → (size + (limit - 1)) / limit ≤ 496
quotient_few limit size least few =
    let some : 0 < limit = omega (arith, least) in
    let less : size + (limit - 1) < 497 * limit = omega (arith, least, few) in
    let is : (size + (limit - 1)) / limit < 497 = (div-lt_iff_lt-mul some).1 less in
    omega (arith, is)

hops_few : (limit : ℕ) (p q : Point) → 121 ≤ limit → IsNeedlePoint p → IsNeedlePoint q → hops_of limit (move_between p q) ≤ 496
hops_few limit p q least one other = quotient_few limit (move_size (move_between p q)) least (size_few p q one other)

by_test : (b : Bool) (jumps : ℕ) → (if b then jumps + 1 else jumps + 2) ≤ jumps + 2
by_test true jumps = omega arith
by_test false jumps = omega arith

loose_few : (jumps : ℕ) → room_of_loose jumps ≤ jumps + 2
loose_few jumps = by_test (nat_le jumps 2) jumps

-- The acts of commands are plain whatever their first number: with n stops, and within that room.
pub record Goes (limit : ℕ) (loose : Bool) (place : Point) (commands : List Command) (stops room : ℕ) : Type 0 where
  pub needles : (n : ℕ) → IsTrue (are_plain_from limit loose place (acts_from n loose false commands))
  pub stops_are : (n : ℕ) → stops_of (acts_from n loose false commands) ≡ stops
  pub room_to : (n : ℕ) → room_from limit loose place (acts_from n loose false commands) ≤ room

-- Acts are plain from each point of a needle, once the thread is loose.
abbrev pub GoesOn : ℕ → List Command → ℕ → ℕ → Type 0
GoesOn limit commands stops room = (place : Point) → IsNeedlePoint place → Goes limit true place commands stops room

-- A stop takes one command.
stops_go : (limit k : ℕ) (place : Point) (rest : List Command) (stops room : ℕ) → Goes limit true place rest stops room
    → Goes limit true place (replicate k Stop ++ rest) (k + stops) (k + room)
stops_go limit zero place rest stops room goes = record {
  needles = goes.needles;
  stops_are = λ n. omega (arith, goes.stops_are n);
  room_to = λ n. omega (arith, goes.room_to n);
}
stops_go limit (suc k) place rest stops room goes =
    let more = stops_go limit k place rest stops room goes in
    record {
      needles = λ n. more.needles (n + 1);
      stops_are = λ n. omega (arith, more.stops_are (n + 1));
      room_to = λ n. omega (arith, more.room_to (n + 1));
    }

-- A trim takes four commands.
trim_goes : (limit : ℕ) (place : Point) (rest : List Command) (stops room : ℕ) → Goes limit true place rest stops room
    → Goes limit false place (Trim ∷ rest) stops (4 + room)
trim_goes limit place rest stops room goes = record {
  needles = λ n. goes.needles (n + 1);
  stops_are = λ n. omega (arith, goes.stops_are (n + 1));
  room_to = λ n. omega (arith, goes.room_to (n + 1));
}

-- Each stitch within the limit of the one before takes one command.
stitches_go : (step limit : ℕ) (place : Point) (points : List Point) (rest : List Command) (stops room : ℕ) → step ≤ limit
    → All IsNeedlePoint (place ∷ points) → AreCloseAfter step place points → GoesOn limit rest stops room
    → Goes limit false place (map (λ q. Stitch q) points ++ Trim ∷ rest) stops (length points + (4 + room))
stitches_go step limit place [] rest stops room more in_range close on =
    let later = trim_goes limit place rest stops room (on place (All-head IsNeedlePoint place [] in_range)) in
    record {
      needles = later.needles;
      stops_are = later.stops_are;
      room_to = λ n. omega (arith, later.room_to n);
    }
stitches_go step limit place (p ∷ points) rest stops room more in_range close on =
    let behind = All-tail IsNeedlePoint place (p ∷ points) in_range in
    let later = stitches_go step limit p points rest stops room more behind close.1 on in
    record {
      needles = λ n. and_from _ _ (within_more step limit (move_between place p) more close.0) (later.needles (n + 1));
      stops_are = λ n. omega (arith, later.stops_are (n + 1));
      room_to = λ n. omega (arith, later.room_to (n + 1));
    }

-- The first stitch of a walk takes at most 498 commands, since the thread is loose.
walk_goes : (step limit : ℕ) (points : List Point) (rest : List Command) (stops room : ℕ) → 121 ≤ limit → step ≤ limit → AreNear step points
    → GoesOn limit rest stops room → GoesOn limit (map (λ q. Stitch q) points ++ Trim ∷ rest) stops (length points + (501 + room))
walk_goes step limit [] rest stops room least more near on place in_range = absurd (near.some refl)
walk_goes step limit (p ∷ points) rest stops room least more near on place in_range =
    let later = stitches_go step limit p points rest stops room more near.in_range near.close on in
    let far = hops_few limit place p least in_range (All-head IsNeedlePoint p points near.in_range) in
    let few = loose_few (hops_of limit (move_between place p)) in
    record {
      needles = λ n. later.needles (n + 1);
      stops_are = λ n. omega (arith, later.stops_are (n + 1));
      room_to = λ n. omega (arith, later.room_to (n + 1), far, few);
    }

-- the needles of runs, counted
abbrev needle_sum : List Run → ℕ
needle_sum runs = sum_by (λ (run : Run). length run.needles) runs

module _ (step limit : ℕ) (least : 121 ≤ limit) (more : step ≤ limit) where
  runs_go : (block : ℕ) (runs : List Run) → All (λ (run : Run). AreNear step run.needles) runs
      → GoesOn limit (commands_after block runs) (stops_after block runs)
      (stops_after block runs + (needle_sum runs + 501 * length runs))
  runs_go block [] near place in_range = record {
    needles = λ n. refl;
    stops_are = λ n. refl;
    room_to = λ n. omega arith;
  }
  runs_go block (run ∷ rest) near place in_range =
      let later = runs_go run.block rest (All-tail (λ (one : Run). AreNear step one.needles) run rest near) in
      let here = walk_goes step limit run.needles (commands_after run.block rest) _ _ least more
      (All-head (λ (one : Run). AreNear step one.needles) run rest near) later place in_range in
      let all = stops_go limit (run.block - block) place _ _ _ here in
      let sum = sum_by-cons (λ (one : Run). length one.needles) run rest in
      record {
        needles = all.needles;
        stops_are = all.stops_are;
        room_to = λ n. omega (arith, all.room_to n, sum);
      }

-- the design of runs that can be written is plain
pub runs_are_plain : (d : DrawingValue) (runs : List Run) (step limit : ℕ) → AreWritable step runs → 121 ≤ limit
    → step ≤ limit → IsPlain limit (design_of_runs d runs)
runs_are_plain d runs step limit able least more =
    let goes = runs_go step limit least more 0 runs able.near origin refl in
    record {
      needles = goes.needles 1;
      stops = omega (arith, goes.stops_are 1, able.stops_to);
      room = omega (arith, goes.room_to 1, able.stops_to, able.needles_to, able.runs_to);
    }

-- what reads again as a design sews what the design sews
pub sews_again : (d : DrawingValue) (walks : List (List Pass)) (design : DesignValue) (read : Result Loaded ReadFault)
    → Sews d walks (acts_of design) → IsOkAnd read (λ loaded. HasSameActs design loaded)
    → IsOkAnd read (λ loaded. (loaded.ended ≡ true) × Sews d walks (acts_of loaded.design))
sews_again d walks design (Ok loaded) sews again = (again.ended, again.acts ∙ sews)
sews_again d walks design (Err f) sews again = absurd again

-- the sewn design of walks that can be written sews the drawing by them
pub sewn_sews : RunsAreSewn → (d : DrawingValue) (walks : List (List Pass)) (design : DesignValue) (step : ℕ)
    → design ≡ sewn_design d walks → AreWritable step (runs_of d walks) → Sews d walks (acts_of design)
sewn_sews law d walks design step is able =
    ap (λ (one : DesignValue). acts_without_numbers (acts_of one)) is ∙ law d (runs_of d walks) (λ k run less. (able.near k run less).some)
