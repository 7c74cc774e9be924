-- How reading goes on over one record, whatever comes after it.
use Rattle.std.proofs.Common.{◌≡◌, ℕ, ◌+◌, ◌<◌, ◌≤◌, Bool, true, false, not, ◌&&◌, IsTrue, List, [], ◌∷◌, length, Ok, Result, refl, ap, sym, ◌∙◌, subst, arith}
use Rattle.record_formats.proofs.Names.{nat_tests, ints, list_all, Act, Stitch, Jump, MAX_COMMANDS, Point, NEEDLE_LIMIT, JUMP_LIMIT, acts_without_numbers, is_point_within, origin, Event, position_after_move, Records, file_commands_from, moves_of_records_from, over, next, is_stop_in_place, within_from, and_from, lt-leb, acts_from, commands_of_event, position_after_event, moves_of_event}
use Rattle.design_model.specs.declared.act.Act.TheVariants as act
use Rattle.design_model.specs.declared.command.Command.{Command}
use Rattle.design_model.specs.declared.command.Command.TheVariants.{Trim, Stop}
use Rattle.design_model.specs.Commands.{is_command_in_range}
use Rattle.record_formats.specs.declared.event.Event.TheVariants as event
use Rattle.format_traits.specs.declared.fault.ReadFault.{ReadFault}
use Rattle.record_formats.specs.Readings.{FileCommands, with_commands_before, checked_command, checked_commands}
use Rattle.record_formats.proofs.PointLemmas.{position_after_move-none}

-- from that place on the records are read to an end as those acts, each move within the limit
pub record GoesOn (limit count : ℕ) (place : Point) (records : Records) (loose jumped : Bool) (acts : List Act) : Type 0 where
  pub commands : List Command
  pub read : file_commands_from count place records ≡ Ok (record { commands = commands; ended = true })
  pub told : (n : ℕ) → acts_without_numbers (acts_from n loose jumped commands) ≡ acts
  pub within : IsTrue (list_all (λ move. is_point_within limit move) (moves_of_records_from count place records))

-- a command in range, with fewer commands before than a design may have, is kept
tried-kept : (at count : ℕ) (command : Command) (rest : Result FileCommands ReadFault) → IsTrue (is_command_in_range command)
    → count < MAX_COMMANDS → checked_command at count command rest ≡ with_commands_before (command ∷ []) rest
tried-kept at count command rest here few = rw (here, lt-leb MAX_COMMANDS count few) refl

pub goes_end : (limit count : ℕ) (place : Point) (loose jumped : Bool) → GoesOn limit count place (over true) loose jumped []
goes_end limit count place loose jumped = record { commands = []; read = refl; told = λ n. refl; within = refl }

-- an event whose commands are kept, and what goes on after it
event_within : (limit at count : ℕ) (place : Point) (e : Event) (rest : Records)
    → IsTrue (list_all is_command_in_range (commands_of_event e place)) → count + length (commands_of_event e place) ≤ MAX_COMMANDS
    → IsTrue (list_all (λ move. is_point_within limit move) (moves_of_event e))
    → IsTrue (list_all (λ move. is_point_within limit move)
    (moves_of_records_from (count + length (commands_of_event e place)) (position_after_event e place) rest))
    → IsTrue (list_all (λ move. is_point_within limit move) (moves_of_records_from count place (next at e rest)))
event_within limit at count place e rest h1 h2 h3 h4 = grind (arith, nat_tests, ints)

-- a stitch
pub goes_stitch : (limit at count : ℕ) (place m there : Point) (rest : Records) (loose jumped : Bool) (acts : List Act)
    → IsTrue (is_point_within limit m) → position_after_move place m ≡ there → IsTrue (is_point_within NEEDLE_LIMIT there)
    → count < MAX_COMMANDS → GoesOn limit (count + 1) there rest false false acts
    → GoesOn limit count place (next at (event.Stitch m) rest) loose jumped (act.Needle there (jumped && not loose) ∷ acts)
goes_stitch limit at count place m there rest loose jumped acts near to here few goes =
    subst (λ q. GoesOn limit count place (next at (event.Stitch m) rest) loose jumped (act.Needle q (jumped && not loose) ∷ acts)) to
    (one (subst (λ q. IsTrue (is_point_within NEEDLE_LIMIT q)) (sym to) here)
    (subst (λ q. GoesOn limit (count + 1) q rest false false acts) (sym to) goes))
  where
    one : IsTrue (is_point_within NEEDLE_LIMIT (position_after_move place m))
        → GoesOn limit (count + 1) (position_after_move place m) rest false false acts
        → GoesOn limit count place (next at (event.Stitch m) rest) loose jumped
        (act.Needle (position_after_move place m) (jumped && not loose) ∷ acts)
    one here goes = record {
      commands = Stitch (position_after_move place m) ∷ goes.commands;
      read = tried-kept at count (Stitch (position_after_move place m)) (file_commands_from (count + 1) (position_after_move place m) rest)
          here few
          ∙ ap (with_commands_before (Stitch (position_after_move place m) ∷ [])) goes.read;
      told = λ n. ap (λ more. act.Needle (position_after_move place m) (jumped && not loose) ∷ more) (goes.told (n + 1));
      within = event_within limit at count place (event.Stitch m) rest (and_from _ _ here refl) (omega (arith, few))
          (and_from _ _ near refl) goes.within;
    }

-- a jump
pub goes_jump : (limit at count : ℕ) (place m there : Point) (rest : Records) (loose jumped : Bool) (acts : List Act)
    → IsTrue (is_point_within limit m) → position_after_move place m ≡ there → IsTrue (is_point_within JUMP_LIMIT there)
    → count < MAX_COMMANDS → GoesOn limit (count + 1) there rest loose true acts
    → GoesOn limit count place (next at (event.Jump m) rest) loose jumped acts
goes_jump limit at count place m there rest loose jumped acts near to here few goes =
    one (subst (λ q. IsTrue (is_point_within JUMP_LIMIT q)) (sym to) here)
    (subst (λ q. GoesOn limit (count + 1) q rest loose true acts) (sym to) goes)
  where
    one : IsTrue (is_point_within JUMP_LIMIT (position_after_move place m))
        → GoesOn limit (count + 1) (position_after_move place m) rest loose true acts
        → GoesOn limit count place (next at (event.Jump m) rest) loose jumped acts
    one here goes = record {
      commands = Jump (position_after_move place m) ∷ goes.commands;
      read = tried-kept at count (Jump (position_after_move place m)) (file_commands_from (count + 1) (position_after_move place m) rest)
          here few
          ∙ ap (with_commands_before (Jump (position_after_move place m) ∷ [])) goes.read;
      told = λ n. goes.told (n + 1);
      within = event_within limit at count place (event.Jump m) rest (and_from _ _ here refl) (omega (arith, few))
          (and_from _ _ near refl) goes.within;
    }

-- a trim and a jump: the acts of a thread that was loose stay, of another they begin with a trim
abbrev pub trimmed : Bool → List Act → List Act
trimmed true acts = acts
trimmed false acts = act.Trim ∷ acts

pub goes_trimmed_jump : (limit at count : ℕ) (place m there : Point) (rest : Records) (loose jumped : Bool) (acts : List Act)
    → IsTrue (is_point_within limit m) → position_after_move place m ≡ there → IsTrue (is_point_within JUMP_LIMIT there)
    → count + 1 < MAX_COMMANDS → GoesOn limit (count + 2) there rest true true acts
    → GoesOn limit count place (next at (event.TrimmedJump m) rest) loose jumped (trimmed loose acts)
goes_trimmed_jump limit at count place m there rest loose jumped acts near to here few goes =
    one loose (subst (λ q. IsTrue (is_point_within JUMP_LIMIT q)) (sym to) here)
    (subst (λ q. GoesOn limit (count + 2) q rest true true acts) (sym to) goes)
  where
    told : (loose jumped : Bool) (commands : List Command) → ((n : ℕ) → acts_without_numbers (acts_from n true true commands) ≡ acts)
        → (n : ℕ) → acts_without_numbers (acts_from n loose jumped (Trim ∷ Jump (position_after_move place m) ∷ commands))
        ≡ trimmed loose acts
    told true jumped commands more n = more (n + 1 + 1)
    told false jumped commands more n = ap (λ acts. act.Trim ∷ acts) (more (n + 1 + 1))

    one : (loose : Bool) → IsTrue (is_point_within JUMP_LIMIT (position_after_move place m))
        → GoesOn limit (count + 2) (position_after_move place m) rest true true acts
        → GoesOn limit count place (next at (event.TrimmedJump m) rest) loose jumped (trimmed loose acts)
    one loose here goes = record {
      commands = Trim ∷ Jump (position_after_move place m) ∷ goes.commands;
      read = tried-kept at count Trim (checked_commands at (count + 1) (Jump (position_after_move place m) ∷ [])
          (file_commands_from (count + 2) (position_after_move place m) rest))
          refl (omega (arith, few))
          ∙ ap (with_commands_before (Trim ∷ []))
          (tried-kept at (count + 1) (Jump (position_after_move place m))
          (file_commands_from (count + 2) (position_after_move place m) rest) here few)
          ∙ ap (λ read. with_commands_before (Trim ∷ []) (with_commands_before (Jump (position_after_move place m) ∷ []) read)) goes.read;
      told = told loose jumped goes.commands goes.told;
      within = event_within limit at count place (event.TrimmedJump m) rest (and_from _ _ here refl) (omega (arith, few))
          (and_from _ _ near refl) goes.within;
    }

-- a trim of a thread that was not loose
pub goes_trim : (limit at count : ℕ) (place : Point) (rest : Records) (jumped : Bool) (acts : List Act)
    → count < MAX_COMMANDS → GoesOn limit (count + 1) place rest true false acts
    → GoesOn limit count place (next at event.Trim rest) false jumped (act.Trim ∷ acts)
goes_trim limit at count place rest jumped acts few goes = record {
  commands = Trim ∷ goes.commands;
  read = tried-kept at count Trim (file_commands_from (count + 1) place rest) refl few ∙ ap (with_commands_before (Trim ∷ [])) goes.read;
  told = λ n. ap (λ more. act.Trim ∷ more) (goes.told (n + 1));
  within = event_within limit at count place event.Trim rest refl (omega (arith, few)) refl goes.within;
}

-- a stop without a move
pub goes_stop : (limit at count : ℕ) (place : Point) (e : Event) (rest : Records) (loose jumped : Bool) (acts : List Act)
    → IsTrue (is_stop_in_place e) → count < MAX_COMMANDS → GoesOn limit (count + 1) place rest true false acts
    → GoesOn limit count place (next at e rest) loose jumped (act.Stop ∷ acts)
goes_stop limit at count place (event.Stitch m) rest loose jumped acts is few goes = cc
goes_stop limit at count place (event.Jump m) rest loose jumped acts is few goes = cc
goes_stop limit at count place (event.TrimmedJump m) rest loose jumped acts is few goes = cc
goes_stop limit at count place event.Trim rest loose jumped acts is few goes = cc
goes_stop limit at count place event.Stop rest loose jumped acts is few goes = record {
  commands = Stop ∷ goes.commands;
  read = tried-kept at count Stop (file_commands_from (count + 1) place rest) refl few ∙ ap (with_commands_before (Stop ∷ [])) goes.read;
  told = λ n. ap (λ more. act.Stop ∷ more) (goes.told (n + 1));
  within = event_within limit at count place event.Stop rest refl (omega (arith, few)) refl goes.within;
}
goes_stop limit at count place (event.StopBy m) rest loose jumped acts is few goes =
    subst (λ m. GoesOn limit count place (next at (event.StopBy m) rest) loose jumped (act.Stop ∷ acts))
    (sym (grind (arith, nat_tests)))
    (still (subst (λ q. GoesOn limit (count + 1) q rest true false acts) (sym (position_after_move-none place)) goes))
  where
    still : GoesOn limit (count + 1) (position_after_move place origin) rest true false acts
        → GoesOn limit count place (next at (event.StopBy origin) rest) loose jumped (act.Stop ∷ acts)
    still goes = record {
      commands = Stop ∷ goes.commands;
      read = tried-kept at count Stop (file_commands_from (count + 1) (position_after_move place origin) rest) refl few
          ∙ ap (with_commands_before (Stop ∷ [])) goes.read;
      told = λ n. ap (λ more. act.Stop ∷ more) (goes.told (n + 1));
      within = event_within limit at count place (event.StopBy origin) rest refl (omega (arith, few))
          (and_from _ _ (within_from limit origin (omega arith) (omega arith)) refl) goes.within;
    }
