-- The result of writing a design as an EXP file: the units of its acts in order. A number is
-- one byte in two's complement. The greatest move is 127, and therefore no stitch begins with 80.
use Rattle.std.specs.Prelude.{ℕ, neg_ℤ, List, [], ◌∷◌, None, Result}
use Rattle.std.specs.List.{concat}
use Rattle.design_model.specs.declared.point.Point.{Point}
use Rattle.design_model.specs.Acts.{acts_of}
use Rattle.design_model.specs.Designs.{DesignValue}
use Rattle.format_traits.specs.declared.fault.WriteFault.{WriteFault}
use Rattle.format_traits.specs.declared.encoder_state.WriteLimits.{WriteLimits}
use Rattle.format_traits.specs.Refusals.{first_refusal, unless_refused}
use Rattle.record_formats.specs.RecordEncodings.{RecordEncoding, records_of_acts}
use Rattle.record_formats.specs.TwosComplement.{to_twos_complement}
use Rattle.exp_codec.specs.declared.exp.TheConstants.{LIMIT}

-- The two bytes of a move.
abbrev pub bytes_of_move : Point → List ℕ
bytes_of_move m = to_twos_complement 128 m.x ∷ to_twos_complement 128 (neg_ℤ m.y) ∷ []

-- The bytes of the units of an EXP file.
abbrev pub exp_encoding : RecordEncoding
exp_encoding = record {
  stitch = bytes_of_move;
  jump = λ m. 0x80 ∷ 0x04 ∷ bytes_of_move m;
  trim = (0x80 ∷ 0x80 ∷ 0x07 ∷ 0x00 ∷ []) ∷ [];
  stop = λ before. 0x80 ∷ 0x01 ∷ 0x00 ∷ 0x00 ∷ [];
}

-- The limits of what an EXP file can contain: stitches within the limit, and any floats and stops.
abbrev pub exp_write_limits : WriteLimits
exp_write_limits = record { limit = LIMIT; float_hops = None; stops = None }

-- The EXP file of a design.
abbrev pub exp_file_of : DesignValue → List ℕ
exp_file_of d = concat (records_of_acts exp_encoding exp_write_limits (acts_of d))

-- The result of writing a design: the EXP file, or the first refusal of its acts.
abbrev pub exp_writes : DesignValue → Result (List ℕ) WriteFault
exp_writes d = unless_refused (first_refusal exp_write_limits (acts_of d)) (exp_file_of d)
