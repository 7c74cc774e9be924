-- What the results of a refit exclude, and points that don't lead along a segment.
use Rattle.std.proofs.Common.{◌≡◌, ℕ, pos, true, false, List, [], ◌∷◌, ◌++◌, Ok, Err, length, refl, arith, ap, sym, true≢false, ◌≢◌, ◌≤◌, ◌+◌, Bool}
use Rattle.step_splitter.proofs.Names.{NumberedAct, Point, DesignValue, RefitMode, LeadsBySteps, IsFirstOverLimit, MeetsRefitGoal, refitted_commands, acts_of, Refits, refitted_design, Command, origin, acts_without_numbers, last_point_or, refitted_acts, refitted_from, split_points, AddsRefitCommands, IsRefitState}
use Rattle.design_model.specs.declared.act.Act.TheVariants as act
use Rattle.step_splitter.specs.declared.refitting.RefitFault.TheVariants as fault
use Rattle.step_splitter.specs.declared.refitting.RefitMode.TheVariants as mode
use Rattle.step_splitter.specs.Chains.{SplitPointsLead}
use Rattle.step_splitter.specs.RefitSteps.{RefitsAll}

abbrev at : ℕ → Point
at x = record { x = pos x; y = pos 0 }

-- a design of up to a million commands is refitted, and only one of more is refused
pub known_refitted : (m : RefitMode) (limit : ℕ) (d new : DesignValue) → Refits m limit d (Ok new)
    → (length (refitted_commands m limit (acts_of d)) ≡ 1000001 → ⊥) × (new ≡ refitted_design m limit d)
known_refitted m limit d new refits = (λ more. omega (arith, more, refits.0), refits.1)

pub known_fitting : (m : RefitMode) (limit number : ℕ) (d : DesignValue) → Refits m limit d (Err (fault.TooMany number))
    → length (refitted_commands m limit (acts_of d)) ≡ 1000000
    → ⊥
known_fitting m limit number d refits fits = omega (arith, fits, refits.0)

-- the number is that of an act: all acts before it fit, and with it they don't
pub known_number : (m : RefitMode) (limit number : ℕ) (acts : List NumberedAct) → IsFirstOverLimit m limit acts number
    → (before : List NumberedAct) × (a : NumberedAct) × (after : List NumberedAct) × (acts ≡ before ++ a ∷ after) × (a.number ≡ number)
    × (length (refitted_commands m limit before) ≡ 1000001 → ⊥)
    × (length (refitted_commands m limit (before ++ a ∷ [])) ≡ 1000000 → ⊥)
known_number m limit number acts is = (
  is.before,
  is.act,
  is.after,
  is.parts,
  is.numbered,
  λ more. omega (arith, more, is.fits),
  λ fits. omega (arith, fits, is.passes),
)

-- a stitch of 122 is left by no split to 121, and a float by no cut
pub known_long : MeetsRefitGoal mode.Split 121 (act.Needle (at 0) false ∷ act.Needle (at 122) false ∷ []) → ⊥
known_long near = true≢false (sym near.1.0)

pub known_float : MeetsRefitGoal mode.Cut 121 (act.Needle (at 0) false ∷ act.Needle (at 1) true ∷ []) → ⊥
known_float none = true≢false (sym none)

-- points that lead along a segment: as few as the limit allows, close, different, and to its end
pub known_count : LeadsBySteps (at 0) (at 20) 10 (at 5 ∷ at 10 ∷ at 20 ∷ []) → ⊥
known_count leads = more leads.count
  where
    more : ◌≡◌ {A = ℕ} 3 2 → ⊥
    more is = omega (arith, is)

pub known_far : LeadsBySteps (at 0) (at 20) 10 (at 9 ∷ at 20 ∷ []) → ⊥
known_far leads = true≢false (sym leads.close.1.0)

pub known_repeated : LeadsBySteps (at 0) (at 20) 10 (at 0 ∷ at 20 ∷ []) → ⊥
known_repeated leads = leads.moving.0 refl

pub known_elsewhere : LeadsBySteps (at 0) (at 20) 10 (at 10 ∷ at 19 ∷ []) → ⊥
known_elsewhere leads = elsewhere (ap (λ (p : Point). p.x) leads.last)
  where
    elsewhere : pos 19 ≡ pos 20 → ⊥
    elsewhere is = cc

pub known_out_of_reach : LeadsBySteps (at 29999) (at 30001) 1 (at 30000 ∷ at 30001 ∷ []) → ⊥
known_out_of_reach leads = true≢false (sym (leads.in_range 1 (at 0) (omega arith)))

-- whatever the step, the points at which the way from 0 to 25 is split are different ones, and end at 25
pub known_split_points : SplitPointsLead → (step : ℕ) → 1 ≤ step
    → (1 ≤ length (split_points (at 0) (at 25) step)) × (last_point_or (at 0) (split_points (at 0) (at 25) step) ≡ at 25)
known_split_points law step least =
    let leads = law (at 0) (at 25) step apart refl refl least in (leads.some, leads.last)
  where
    apart : at 0 ≢ at 25
    apart same = other (ap (λ (p : Point). p.x) same)
      where
        other : pos 0 ≡ pos 25 → ⊥
        other is = cc

-- the commands of one act are added at the end, up to a million in all, and a refusal has the act's number
pub known_added : (commands : List Command) (old new : DesignValue) (n : ℕ) → AddsRefitCommands {T = ℕ} 7 commands old (Ok n) new
    → (length old.commands + length commands ≡ 1000001 → ⊥) × (new ≡ record old { commands = old.commands ++ commands })
known_added commands old new n adds = (λ more. omega (arith, more, adds.0), adds.1)

pub known_added_too_many : (commands : List Command) (old new : DesignValue) (number : ℕ)
    → AddsRefitCommands {T = ℕ} 7 commands old (Err (fault.TooMany number)) new
    → (number ≡ 7) × (length old.commands + length commands ≡ 1000000 → ⊥)
known_added_too_many commands old new number adds = (adds.0, λ fits. omega (arith, fits, adds.1))

-- all acts are refitted into a design of a million commands at most, whose label and threads stay
pub known_all : (m : RefitMode) (limit : ℕ) (acts : List NumberedAct) (old new : DesignValue) (n : ℕ)
    → RefitsAll {T = ℕ} m limit acts old (Ok n) new
    → (length (refitted_commands m limit acts) ≡ 1000001 → ⊥)
    × (new ≡ record { label = old.label; threads = old.threads; commands = refitted_commands m limit acts })
known_all m limit acts old new n refits = (λ more. omega (arith, more, refits.0), refits.1)

pub known_all_refused : (m : RefitMode) (limit number : ℕ) (acts : List NumberedAct) (old new : DesignValue)
    → RefitsAll {T = ℕ} m limit acts old (Err (fault.TooMany number)) new
    → (length (refitted_commands m limit acts) ≡ 1000000 → ⊥) × IsFirstOverLimit m limit acts number
known_all_refused m limit number acts old new refits = (λ fits. omega (arith, fits, refits.0), refits.1)

-- a refit begins at the origin with a loose thread, no command and all acts left
pub known_begun : (m : RefitMode) (limit : ℕ) (acts : List NumberedAct) → IsRefitState m limit acts [] true origin acts
known_begun m limit acts = record { before = []; parts = refl; commands = refl; more = λ rest. refl }

-- the commands so far are those of the acts before, after which the rest is refitted from thread and place
pub known_state : (m : RefitMode) (limit : ℕ) (acts left rest : List NumberedAct) (out : List Command) (loose : Bool) (place : Point)
    → (is : IsRefitState m limit acts out loose place left)
    → (acts ≡ is.before ++ left) × (out ≡ refitted_commands m limit is.before)
    × (refitted_acts m limit (acts_without_numbers (is.before ++ rest))
    ≡ refitted_acts m limit (acts_without_numbers is.before) ++ refitted_from m limit loose place (acts_without_numbers rest))
known_state m limit acts left rest out loose place is = (is.parts, is.commands, is.more rest)
