-- The laws of format objects: a written file reads as the same acts, its moves are within the
-- limit, and a plain design is written.
use Rattle.std.specs.Prelude.{◌≡◌, ℕ, ◌<◌, ◌≤◌, ◌&&◌, Bool, true, false, List, length, nat_le, ◌||◌, None, Result, IsTrue, IsOk, IsOkAnd, IfOk}
use Rattle.std.specs.List.{list_all}
use Rattle.design_model.specs.Acts.{acts_of, acts_without_numbers}
use Rattle.design_model.specs.Designs.{DesignValue, KeepsLimits}
use Rattle.design_model.specs.Points.{is_point_within}
use Rattle.design_model.specs.OutOfMemory.{IsSpecified}
use Rattle.format_traits.specs.declared.fault.ReadFault.{ReadFault}
use Rattle.format_traits.specs.declared.fault.WriteFault.{WriteFault}
use Rattle.format_traits.specs.declared.loaded.Loaded.{Loaded}
use Rattle.format_traits.specs.declared.encoder_state.WriteLimits.{WriteLimits}
use Rattle.format_traits.specs.Faults.{read_is_out_of_memory, write_is_out_of_memory}
use Rattle.format_traits.specs.Meanings.{Meaning}
use Rattle.format_traits.specs.PlainDesigns.{IsPlain}
use Rattle.format_traits.specs.Refusals.{is_above_max, first_refusal, unless_refused}

-- True for a byte that the ending of a file name may contain: a small letter or a digit of ASCII.
abbrev pub is_ending_byte : ℕ → Bool
is_ending_byte byte = (nat_le 97 byte && nat_le byte 122) || (nat_le 48 byte && nat_le byte 57)

-- A non-empty ending of a format's file names, of small letters and digits.
pub record IsFileEnding (ending : List ℕ) : Type 0 where
  pub some : 0 < length ending
  pub letters : IsTrue (list_all is_ending_byte ending)

-- Meaning of an answer of `encode`: the result equals the specified one, or is out of memory.
abbrev pub EncodesTo : Result (List ℕ) WriteFault → Result (List ℕ) WriteFault → Type 0
EncodesTo model result = IsSpecified write_is_out_of_memory model result

-- Meaning of an answer of `decode`: the result equals the specified one, or is out of memory.
abbrev pub DecodesTo : Result Loaded ReadFault → Result Loaded ReadFault → Type 0
DecodesTo model result = IsSpecified read_is_out_of_memory model result

-- A loaded design with the acts of the design d, from a file that has an end.
pub record HasSameActs (d : DesignValue) (loaded : Loaded) : Type 0 where
  pub acts : acts_without_numbers (acts_of loaded.design) ≡ acts_without_numbers (acts_of d)
  pub ended : loaded.ended ≡ true

-- Round trip: the bytes read as a design with the acts of d.
abbrev pub RoundTrips : Meaning → DesignValue → List ℕ → Type 0
RoundTrips m d bytes = IsOkAnd (m.reads bytes) (λ loaded. HasSameActs d loaded)

-- Each move of the records in the bytes is within the format's limit on both axes.
abbrev pub MovesWithin : Meaning → List ℕ → Type 0
MovesWithin m bytes = IsTrue (list_all (λ move. is_point_within m.limit move) (m.moves bytes))

-- The three laws for one design: what is written reads back, what is written moves within the
-- limit, and a plain design is written.
pub record KeepsLaws (m : Meaning) (d : DesignValue) : Type 0 where
  pub again : IfOk (m.writes d) (λ bytes. RoundTrips m d bytes)
  pub within : IfOk (m.writes d) (λ bytes. MovesWithin m bytes)
  pub plain : IsPlain m.limit d → IsOk (m.writes d)

-- The three laws for every design within its limits.
abbrev pub KeepsAllLaws : Meaning → Type 0
KeepsAllLaws m = (d : DesignValue) → KeepsLimits d → KeepsLaws m d

-- A codec: it writes the file of each design that is not refused. The file reads back, and moves
-- within the limit. The format allows at least 254 stops.
pub record IsCodec (m : Meaning) (write_limits : WriteLimits) (file : DesignValue
    → List ℕ) : Type 0 where
  pub limit : m.limit ≡ write_limits.limit
  pub stops : (count : ℕ) → count ≤ 254 → is_above_max write_limits.stops count ≡ false
  pub writes : (d : DesignValue) → m.writes d
      ≡ unless_refused (first_refusal write_limits (acts_of d)) (file d)
  pub again : (d : DesignValue) → KeepsLimits d → first_refusal write_limits (acts_of d) ≡ None
      → RoundTrips m d (file d)
  pub within : (d : DesignValue) → KeepsLimits d → first_refusal write_limits (acts_of d) ≡ None
      → MovesWithin m (file d)

-- Theorem: every codec keeps the laws for all designs within their limits.
abbrev pub CodecsKeepLaws : Type 0
CodecsKeepLaws = (m : Meaning) (write_limits : WriteLimits) (file : DesignValue → List ℕ)
    → IsCodec m write_limits file
    → KeepsAllLaws m
