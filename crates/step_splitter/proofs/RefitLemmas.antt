-- Refitted acts and their commands, one act after the other.
use Rattle.std.proofs.Common.{drop, get_or, add-one, Option, Some, Result, Ok, Err, IfErr, option_to_list, subst, ◌≡◌, ℕ, ◌+◌, ◌<◌, ◌≤◌, Bool, true, List, [], ◌∷◌, ◌++◌, length, map, refl, sym, ap, ◌∙◌, arith, append_assoc, append-nil}
use Rattle.design_model.specs.declared.command.Command.TheVariants as command
use Rattle.design_model.specs.ActPositions.{leaves_thread_loose, needle_position_after}
use Rattle.design_model.specs.declared.act_scanner.ActScanner.{ActScanner}
use Rattle.std.proofs.Math.Seq.{drop-cons}
use Rattle.step_splitter.proofs.Names.{nat_tests, Act, NumberedAct, Command, MAX_COMMANDS, Point, acts_after, acts_without_numbers, origin, RefitMode, commands_of_acts, needles_at, refitted_acts, refitted_commands, refitted_from, IsFirstOverLimit, DesignValue, IsRefitState, length-append, commands_of_act, refitted_act, AddsRefitCommands, RefuseActs}
use Rattle.step_splitter.specs.declared.refitting.RefitFault.{RefitFault}
use Rattle.step_splitter.specs.declared.refitting.RefitFault.TheVariants as fault

-- the commands of some acts, and then of others
pub commands_of_acts-append : (xs ys : List Act) → commands_of_acts (xs ++ ys) ≡ commands_of_acts xs ++ commands_of_acts ys
commands_of_acts-append [] ys = refl
commands_of_acts-append (x ∷ xs) ys =
    grind (arith, nat_tests, commands_of_acts-append xs ys, append_assoc (commands_of_act x) (commands_of_acts xs) (commands_of_acts ys))

-- needles that are no floats are stitches
pub stitches_at : (points : List Point) → commands_of_acts (needles_at points) ≡ map command.Stitch points
stitches_at [] = refl
stitches_at (p ∷ rest) = ap (λ cs. command.Stitch p ∷ cs) (stitches_at rest)

-- at the beginning
pub begins : (m : RefitMode) (limit : ℕ) (acts : List NumberedAct) → IsRefitState m limit acts [] true origin acts
begins m limit acts = record { before = []; parts = refl; commands = refl; more = λ rest. refl }

module _ (m : RefitMode) (limit : ℕ) (acts left : List NumberedAct) (out : List Command) (loose : Bool)
    (place : Point) (a : NumberedAct) (g : IsRefitState m limit acts out loose place (a ∷ left)) where
  abbrev pub instead : List Act
  instead = refitted_act m limit loose place a.act

  abbrev pub so_far : List Act
  so_far = refitted_acts m limit (acts_without_numbers g.before)

  -- with the act, its own acts follow those so far
  with_act : refitted_acts m limit (acts_without_numbers (g.before ++ a ∷ [])) ≡ so_far ++ instead
  with_act = g.more (a ∷ []) ∙ ap (λ xs. so_far ++ xs) (append-nil instead)

  commands_with_act : refitted_commands m limit (g.before ++ a ∷ []) ≡ out ++ commands_of_acts instead
  commands_with_act = ap commands_of_acts with_act ∙ commands_of_acts-append so_far instead
      ∙ ap (λ cs. cs ++ commands_of_acts instead) (sym g.commands)

  pub goes_on : (out_new : List Command) → out_new ≡ out ++ commands_of_acts instead
      → IsRefitState m limit acts out_new (leaves_thread_loose a.act) (needle_position_after place a.act) left
  goes_on out_new is =
      let later : Bool = leaves_thread_loose a.act in
      let there : Point = needle_position_after place a.act in
      record {
        before = g.before ++ a ∷ [];
        parts = g.parts ∙ sym (append_assoc g.before (a ∷ []) left);
        commands = is ∙ sym commands_with_act;
        more = λ rest. ap (λ xs. refitted_acts m limit (acts_without_numbers xs)) (append_assoc g.before (a ∷ []) rest)
            ∙ g.more (a ∷ rest)
            ∙ sym (append_assoc so_far instead (refitted_from m limit later there (acts_without_numbers rest)))
            ∙ ap (λ xs. xs ++ refitted_from m limit later there (acts_without_numbers rest)) (sym with_act);
      }

  pub passes_at : length out ≤ MAX_COMMANDS → MAX_COMMANDS < length out + length (commands_of_acts instead)
      → (MAX_COMMANDS < length (refitted_commands m limit acts)) × IsFirstOverLimit m limit acts a.number
  passes_at fits past =
      let later : List Act =
      refitted_from m limit (leaves_thread_loose a.act) (needle_position_after place a.act) (acts_without_numbers left) in
      let whole : refitted_commands m limit acts
      ≡ commands_of_acts so_far ++ (commands_of_acts instead ++ commands_of_acts later) =
      ap (refitted_commands m limit) g.parts ∙ ap commands_of_acts (g.more (a ∷ left))
      ∙ commands_of_acts-append so_far (instead ++ later)
      ∙ ap (λ cs. commands_of_acts so_far ++ cs) (commands_of_acts-append instead later) in
      let here : length out ≡ length (commands_of_acts so_far) = ap length g.commands in
      let with : length (refitted_commands m limit (g.before ++ a ∷ [])) ≡ length out + length (commands_of_acts instead) =
      ap length commands_with_act ∙ length-append out (commands_of_acts instead) in (
        omega (
          arith,
          past,
          ap length whole,
          here,
          length-append (commands_of_acts so_far)
              (commands_of_acts instead ++ commands_of_acts later),
          length-append (commands_of_acts instead) (commands_of_acts later),
        ),
        record {
          before = g.before;
          act = a;
          after = left;
          parts = g.parts;
          numbered = refl;
          fits = omega (arith, fits, here);
          passes = omega (arith, past, with);
        },
      )

-- where the commands of the next act are refused, so are those of all acts
pub refused : {T : Type 0} (m : RefitMode) (limit : ℕ) (a : NumberedAct) (next : Option NumberedAct)
    (old new : DesignValue) (loose : Bool) (place : Point) (r : Result T RefitFault) → next ≡ Some a
    → length old.commands ≤ MAX_COMMANDS
    → AddsRefitCommands a.number (commands_of_acts (refitted_act m limit loose place a.act)) old r new
    → IfErr r (λ fault. (acts left : List NumberedAct)
    → IsRefitState m limit acts old.commands loose place (option_to_list next ++ left) → RefuseActs m limit acts fault)
refused m limit a next old new loose place (Ok _) is fits adds = tt
refused m limit a next old new loose place (Err (fault.TooMany number)) is fits adds =
    λ acts left g. subst (λ n. RefuseActs m limit acts (fault.TooMany n)) (sym adds.0)
    (passes_at m limit acts left old.commands loose place a
    (subst (λ o. IsRefitState m limit acts old.commands loose place (option_to_list o ++ left)) is g) fits adds.1)
refused m limit a next old new loose place (Err fault.Memory) is fits adds = λ acts left g. tt

-- the acts of the commands that are left begin with that of the next command, if it is one
pub next_split : (m : RefitMode) (limit : ℕ) (acts : List NumberedAct) (out : List Command) (loose : Bool) (place : Point)
    (commands : List Command) (i : ℕ) (walk walk_new : ActScanner) (next : Option NumberedAct) → i < length commands
    → ((rest : List Command) → acts_after walk (get_or commands i (command.Stitch origin) ∷ rest) ≡ option_to_list next
    ++ acts_after walk_new rest) → IsRefitState m limit acts out loose place (acts_after walk (drop i commands))
    → IsRefitState m limit acts out loose place (option_to_list next ++ acts_after walk_new (drop (i + 1) commands))
next_split m limit acts out loose place commands i walk walk_new next there gives g =
    grind (arith, nat_tests, add-one i, drop-cons commands i (command.Stitch origin) there)

-- at the end all commands are there
pub ends : (m : RefitMode) (limit : ℕ) (acts : List NumberedAct) (out : List Command) (loose : Bool) (place : Point)
    → IsRefitState m limit acts out loose place [] → out ≡ refitted_commands m limit acts
ends m limit acts out loose place g = grind (arith, nat_tests, append-nil g.before)
