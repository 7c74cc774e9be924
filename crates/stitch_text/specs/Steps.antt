-- The meaning of appending the lines of acts to a text.
use Rattle.std.specs.Prelude.{◌≡◌, ℕ, List, ◌++◌, None, Result, Ok, Err}
use Rattle.design_model.specs.declared.act.NumberedAct.{NumberedAct}
use Rattle.format_traits.specs.declared.fault.WriteFault.{WriteFault}
use Rattle.format_traits.specs.Refusals.{first_refusal, IsSpecifiedRefusal}
use Rattle.stitch_text.specs.StitchLists.{act_lines, list_write_limits}

-- Meaning of each answer of appending the lines of all acts, and the end line.
abbrev pub PutsLines : {T : Type 0} → (ℕ → ℕ) → List NumberedAct → List ℕ → Result T WriteFault
    → List ℕ → Type 0
PutsLines thread acts old (Ok _) new = (first_refusal list_write_limits acts ≡ None)
    × (new ≡ old ++ act_lines thread 0 acts)
PutsLines thread acts old (Err f) new = IsSpecifiedRefusal (first_refusal list_write_limits acts) f
