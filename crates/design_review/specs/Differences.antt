-- The first difference of two designs: of their acts, numbered from 1, or of the threads of their
-- blocks, numbered from 1.
use Rattle.std.specs.Prelude.{ℕ, zero, suc, ◌+◌, ◌==◌, Bool, true, false, not, ◌&&◌, List, [], ◌∷◌, Option, Some, None, if◌then◌else◌}
use Rattle.design_model.specs.declared.act.Act.{Act}
use Rattle.design_model.specs.declared.act.Act.TheVariants as act
use Rattle.design_model.specs.Acts.{acts_of, acts_without_numbers}
use Rattle.design_model.specs.Counts.{counts_of}
use Rattle.design_model.specs.Designs.{DesignValue, thread_of}
use Rattle.design_model.specs.Points.{is_same_point}
use Rattle.design_review.specs.declared.difference.ActDifference.{ActDifference}
use Rattle.design_review.specs.declared.difference.ThreadDifference.{ThreadDifference}

-- The test whether two truth values are the same.
abbrev pub is_same_truth : Bool → Bool → Bool
is_same_truth true other = other
is_same_truth false other = not other

-- The test whether two acts are the same: of one kind, and needles at one point that are both
-- floats or neither.
abbrev pub is_same_act : Act → Act → Bool
is_same_act (act.Needle p float) (act.Needle q carried) =
    is_same_point p q && is_same_truth float carried
is_same_act act.Trim act.Trim = true
is_same_act act.Stop act.Stop = true
is_same_act (act.Needle p float) act.Trim = false
is_same_act (act.Needle p float) act.Stop = false
is_same_act act.Trim (act.Needle q carried) = false
is_same_act act.Trim act.Stop = false
is_same_act act.Stop (act.Needle q carried) = false
is_same_act act.Stop act.Trim = false

-- The difference at an act.
abbrev pub act_difference_at : ℕ → Option Act → Option Act → Option ActDifference
act_difference_at number first second =
    Some (record { number = number; first = first; second = second })

-- The first difference of acts, of which the first ones have that number.
abbrev pub act_difference_from : ℕ → List Act → List Act → Option ActDifference
act_difference_from number [] [] = None
act_difference_from number (a ∷ rest) [] = act_difference_at number (Some a) None
act_difference_from number [] (b ∷ others) = act_difference_at number None (Some b)
act_difference_from number (a ∷ rest) (b ∷ others) =
    if is_same_act a b then act_difference_from (number + 1) rest others
    else act_difference_at number (Some a) (Some b)

-- The first difference of the acts of two designs.
abbrev pub act_difference_of : DesignValue → DesignValue → Option ActDifference
act_difference_of first second = act_difference_from 1 (acts_without_numbers (acts_of first))
    (acts_without_numbers (acts_of second))

-- The first difference of the threads of some blocks, of which the first has that index.
abbrev pub thread_difference_from : DesignValue → DesignValue → (block blocks : ℕ)
    → Option ThreadDifference
thread_difference_from first second block zero = None
thread_difference_from first second block (suc more) =
    if thread_of first block == thread_of second block
    then thread_difference_from first second (block + 1) more
    else Some (record {
      block = block + 1;
      first = thread_of first block;
      second = thread_of second block;
    })

-- The first difference of the threads of the blocks of two designs, as many as the first has.
abbrev pub thread_difference_of : DesignValue → DesignValue → Option ThreadDifference
thread_difference_of first second =
    thread_difference_from first second 0 ((counts_of first).stops + 1)
