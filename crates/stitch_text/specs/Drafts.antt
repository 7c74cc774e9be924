-- The invariant of a draft, and the meaning of adding an act to one.
use Rattle.std.specs.Prelude.{◌≡◌, ℕ, ◌+◌, ◌≤◌, length, Option, None, Some, Err, IsTrue}
use Rattle.design_model.specs.declared.act.Act.{Act}
use Rattle.design_model.specs.declared.design.TheConstants.{MAX_COMMANDS}
use Rattle.design_model.specs.declared.point.TheConstants.{NEEDLE_LIMIT}
use Rattle.design_model.specs.Points.{is_point_within}
use Rattle.format_traits.specs.declared.fault.ReadFault.{ReadFault}
use Rattle.format_traits.specs.Refusals.{stops_in}
use Rattle.stitch_text.specs.declared.list_draft.ListDraft.{ListDraft}
use Rattle.stitch_text.specs.declared.stitch_list.TheConstants.{MAX_STOPS}
use Rattle.stitch_text.specs.Judging.{fault_of_act, draft_with_checked_act, with_act}

-- A draft within its limits, in which the last `bare` blocks have no thread yet.
pub record IsSoundDraftLacking (bare : ℕ) (draft : ListDraft) : Type 0 where
  pub place : IsTrue (is_point_within NEEDLE_LIMIT draft.state.place)
  pub room : draft.state.room ≤ MAX_COMMANDS
  pub count : length draft.design.commands ≤ draft.state.room
  pub stops : draft.state.stops ≤ MAX_STOPS
  pub threads : length draft.design.threads + bare ≡ draft.state.stops + 1

-- A draft within its limits, in which each block has a thread.
abbrev pub IsSoundDraft : ListDraft → Type 0
IsSoundDraft draft = IsSoundDraftLacking 0 draft

-- The number of blocks without a thread after an act that was refused or added.
abbrev pub missing_threads_after : Act → Option ReadFault → ℕ
missing_threads_after a None = stops_in a
missing_threads_after a (Some f) = 0

-- Meaning of each answer of judging an act: the act is added, or refused and the draft unchanged.
abbrev pub JudgesAct : ℕ → ListDraft → Act → Option ReadFault → ListDraft → Type 0
JudgesAct at old a None new = (fault_of_act at old.state a ≡ None) × (new ≡ with_act old a)
JudgesAct at old a (Some f) new = (draft_with_checked_act at old a ≡ Err f) × (new ≡ old)
