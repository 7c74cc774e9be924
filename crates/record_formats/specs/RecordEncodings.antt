-- The encoding of acts in any format: the records of each act, in order. Which records an act takes
-- is the same in all formats; a format defines only the bytes of its records.
use Rattle.std.specs.Prelude.{◌≡◌, ℕ, ◌-◌, max, Bool, true, false, List, [], ◌∷◌, ◌++◌, map, Option, Some, None, Result, Ok, Err, ◌==◌, if◌then◌else◌}
use Rattle.std.specs.List.{concat}
use Rattle.design_model.specs.declared.act.Act.{Act}
use Rattle.design_model.specs.declared.act.Act.TheVariants.{Needle, Trim, Stop}
use Rattle.design_model.specs.declared.act.NumberedAct.{NumberedAct}
use Rattle.design_model.specs.declared.point.Point.{Point}
use Rattle.design_model.specs.Points.{origin, move_between}
use Rattle.format_traits.specs.declared.fault.WriteFault.{WriteFault}
use Rattle.format_traits.specs.declared.encoder_state.WriteLimits.{WriteLimits}
use Rattle.format_traits.specs.declared.encoder_state.EncoderState.{EncoderState}
use Rattle.format_traits.specs.MoveHops.{hops_of}
use Rattle.record_formats.specs.MoveParts.{part_end, part_moves, part_moves_from}
use Rattle.format_traits.specs.ActWriting.{encoder_state_after_acts}
use Rattle.format_traits.specs.Refusals.{initial_encoder_state, encoder_state_after, first_refusal, IsSpecifiedRefusal}

-- The bytes of a format's records. A stitch and a jump depend on their moves, and a stop on the
-- number of stops before it. A trim may take several records.
pub record RecordEncoding : Type 0 where
  pub stitch : Point → List ℕ
  pub jump : Point → List ℕ
  pub trim : List (List ℕ)
  pub stop : ℕ → List ℕ

-- The records of a move in `count` jumps and a stitch without a move.
abbrev pub hop_records : RecordEncoding → ℕ → Point → List (List ℕ)
hop_records encoding count m = map encoding.jump (part_moves m count) ++ encoding.stitch origin ∷ []

-- The records of a move in `count` hops, of which the last is a stitch.
abbrev pub stitched_hop_records : RecordEncoding → ℕ → Point → List (List ℕ)
stitched_hop_records encoding count m = map encoding.jump (part_moves_from m count 0 (count - 1))
    ++ encoding.stitch (move_between (part_end m count (count - 1)) m) ∷ []

-- True where a number is the maximum, if there is one.
abbrev pub is_at_max : Option ℕ → ℕ → Bool
is_at_max None n = false
is_at_max (Some most) n = n == most

-- The records of a float of `count` hops. A float of the most hops that the format allows ends with
-- a stitch in place of the last jump.
abbrev pub float_records : RecordEncoding → WriteLimits → ℕ → Point → List (List ℕ)
float_records encoding write_limits count m =
    if is_at_max write_limits.float_hops count then stitched_hop_records encoding count m
    else hop_records encoding count m

-- The records of a needle by its move: of a loose one, of a float, of any other.
abbrev pub needle_records : RecordEncoding → WriteLimits → Bool → Bool → Point → List (List ℕ)
needle_records encoding write_limits true float m = hop_records encoding
    (hops_of write_limits.limit m) m
needle_records encoding write_limits false true m = float_records encoding write_limits
    (max 1 (hops_of write_limits.limit m)) m
needle_records encoding write_limits false false m = encoding.stitch m ∷ []

-- The records of an act.
abbrev pub records_of_act : RecordEncoding → WriteLimits → EncoderState → Act → List (List ℕ)
records_of_act encoding write_limits before (Needle p float) =
    needle_records encoding write_limits before.loose float (move_between before.place p)
records_of_act encoding write_limits before Trim = encoding.trim
records_of_act encoding write_limits before Stop = encoding.stop before.stops ∷ []

-- The records of acts in order, from a state of the encoder on.
abbrev pub records_of_acts_from : RecordEncoding → WriteLimits → EncoderState → List NumberedAct
    → List (List ℕ)
records_of_acts_from encoding write_limits before [] = []
records_of_acts_from encoding write_limits before (a ∷ rest) = records_of_act encoding write_limits
    before a.act
    ++ records_of_acts_from encoding write_limits
    (encoder_state_after write_limits.limit before a.act) rest

-- The records of a design's acts.
abbrev pub records_of_acts : RecordEncoding → WriteLimits → List NumberedAct → List (List ℕ)
records_of_acts encoding write_limits acts = records_of_acts_from encoding write_limits
    initial_encoder_state acts

-- Meaning of each answer of appending the records of all acts to bytes.
abbrev pub AppendsRecords : RecordEncoding → WriteLimits → List NumberedAct → List ℕ
    → Result EncoderState WriteFault
    → List ℕ → Type 0
AppendsRecords encoding write_limits acts old (Ok state) new = (first_refusal write_limits acts
    ≡ None)
    × (new ≡ old ++ concat (records_of_acts encoding write_limits acts))
    × (state ≡ encoder_state_after_acts write_limits.limit initial_encoder_state acts)
AppendsRecords encoding write_limits acts old (Err f) new = IsSpecifiedRefusal
    (first_refusal write_limits acts) f
