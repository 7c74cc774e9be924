-- The stitch list of a design, as bytes of ASCII. Own format: a label, a thread for each block, and
-- a line for each act. Each line ends with the byte 10, words are separated by one space (32), and
-- numbers have no leading zeros. Points are in tenths of a millimetre, y downwards.
use Rattle.std.specs.Prelude.{ℕ, ◌+◌, ◌%◌, Bool, true, false, List, [], ◌∷◌, ◌++◌, Some, None, Result, codes}
use Rattle.std.specs.Fmt.{decimal, signed_decimal}
use Rattle.design_model.specs.declared.act.Act.{Act}
use Rattle.design_model.specs.declared.act.Act.TheVariants.{Needle, Trim, Stop}
use Rattle.design_model.specs.declared.act.NumberedAct.{NumberedAct}
use Rattle.design_model.specs.declared.point.Point.{Point}
use Rattle.design_model.specs.Acts.{acts_of}
use Rattle.design_model.specs.Designs.{DesignValue, thread_of}
use Rattle.format_traits.specs.declared.fault.WriteFault.{WriteFault}
use Rattle.format_traits.specs.declared.encoder_state.WriteLimits.{WriteLimits}
use Rattle.format_traits.specs.Refusals.{first_refusal, stops_in, unless_refused}
use Rattle.stitch_text.specs.declared.stitch_list.TheConstants.{LIMIT, MAX_STOPS}

-- The limits of what a list can contain: stitches within the limit, any floats, and a maximum of
-- stops.
abbrev pub list_write_limits : WriteLimits
list_write_limits = record { limit = LIMIT; float_hops = None; stops = Some MAX_STOPS }

-- The first line, which is the signature of the format.
abbrev pub signature_line : List ℕ
signature_line = codes "stitch-list 1"

-- The second line: the label, in brackets.
abbrev pub label_line : List ℕ → List ℕ
label_line label = codes "label [" ++ (label ++ codes "]")

-- The line that begins a block, with the thread of the block, which is a byte.
abbrev pub list_block_line : ℕ → List ℕ
list_block_line thread = codes "block " ++ decimal (thread % 256)

-- A line of a word and a point.
abbrev pub point_line : List ℕ → Point → List ℕ
point_line word p = word ++ (32 ∷ (signed_decimal p.x ++ (32 ∷ signed_decimal p.y)))

-- The line of a needle act, by whether it is a float.
abbrev pub needle_line : Bool → Point → List ℕ
needle_line true p = point_line (codes "float") p
needle_line false p = point_line (codes "needle") p

-- The line of an act after n stops, by the threads of the blocks.
abbrev pub act_line : (ℕ → ℕ) → ℕ → Act → List ℕ
act_line thread stops (Needle p float) = needle_line float p
act_line thread stops Trim = codes "trim"
act_line thread stops Stop = list_block_line (thread (stops + 1))

-- The last line.
abbrev pub list_end_line : List ℕ
list_end_line = codes "end"

-- The lines of acts in order, and the last line.
abbrev pub act_lines : (ℕ → ℕ) → ℕ → List NumberedAct → List ℕ
act_lines thread stops [] = list_end_line ++ 10 ∷ []
act_lines thread stops (a ∷ rest) = act_line thread stops a.act
    ++ 10 ∷ act_lines thread (stops + stops_in a.act) rest

-- A text of the first three lines, and of the lines that follow.
abbrev pub with_head_lines : List ℕ → ℕ → List ℕ → List ℕ
with_head_lines label thread rest = signature_line
    ++ 10 ∷ (label_line label ++ 10 ∷ (list_block_line thread ++ 10 ∷ rest))

-- The stitch list of a design, which is its canonical text.
abbrev pub list_of : DesignValue → List ℕ
list_of d = with_head_lines d.label (thread_of d 0) (act_lines (thread_of d) 0 (acts_of d))

-- The result of writing a design: the list, or the first refusal of its acts.
abbrev pub list_writes : DesignValue → Result (List ℕ) WriteFault
list_writes d = unless_refused (first_refusal list_write_limits (acts_of d)) (list_of d)
