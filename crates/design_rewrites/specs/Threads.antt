-- Threads. A thread is the needle acts between two trims, stops or ends of a design.
use Rattle.std.specs.Prelude.{Bool, true, false, List, [], ◌∷◌, Option, Some, None}
use Rattle.design_model.specs.declared.act.Act.{Act}
use Rattle.design_model.specs.declared.act.Act.TheVariants as act
use Rattle.design_model.specs.declared.point.Point.{Point}
use Rattle.design_model.specs.declared.point.TheConstants.{NEEDLE_LIMIT}
use Rattle.design_model.specs.Points.{is_point_within}

-- The needle point that follows, if the next act is a needle act; else p.
abbrev pub next_needle : Point → List Act → Point
next_needle p [] = p
next_needle p (act.Needle q float ∷ rest) = q
next_needle p (act.Trim ∷ rest) = p
next_needle p (act.Stop ∷ rest) = p

-- The test whether the thread ends before the remaining acts.
abbrev pub is_thread_end : List Act → Bool
is_thread_end [] = true
is_thread_end (act.Needle q float ∷ rest) = false
is_thread_end (act.Trim ∷ rest) = true
is_thread_end (act.Stop ∷ rest) = true

-- The test whether the needle before, if there is one, is in range.
abbrev pub is_before_in_range : Option Point → Bool
is_before_in_range None = true
is_before_in_range (Some p) = is_point_within NEEDLE_LIMIT p
