-- How reading goes on over the records of a trim.
use Rattle.std.proofs.Common.{◌≡◌, ℕ, ◌+◌, ◌<◌, ◌≤◌, ℤ, ◌+ℤ◌, Bool, true, false, IsTrue, List, [], ◌∷◌, length, refl, ap, sym, ◌∙◌, subst, arith}
use Rattle.record_formats.proofs.Names.{and_parts, ints, list_all, Act, MAX_COMMANDS, Point, NEEDLE_LIMIT, JUMP_LIMIT, is_point_within, origin, move_size, Event, position_after_move, Records, trims_once, position_after_moves, moves_of_events, length_of_moves, point_of_parts, nat_tests, BeginWithEvents, IsTrimSequence, are_jumps}
use Rattle.design_model.specs.declared.act.Act.TheVariants as act
use Rattle.record_formats.specs.declared.event.Event.TheVariants as event
use Rattle.record_formats.proofs.PointLemmas.{position_after_move-none}
use Rattle.record_formats.proofs.rereading.Runs.{goes_as}
use Rattle.record_formats.proofs.rereading.Steps.{GoesOn, goes_jump, goes_trimmed_jump, goes_trim}

moved-moved : (p q m : Point) → position_after_move (position_after_move p q) m ≡ position_after_move p (position_after_move q m)
moved-moved p q m = point_of_parts (turned p.x q.x m.x) (turned p.y q.y m.y)
  where
    turned : (a b c : ℤ) → (a +ℤ b) +ℤ c ≡ a +ℤ (b +ℤ c)
    turned a b c = omega (arith, ints)

moved_along-moved : (p q : Point) (ms : List Point)
    → position_after_moves (position_after_move p q) ms ≡ position_after_move p (position_after_moves q ms)
moved_along-moved p q [] = refl
moved_along-moved p q (m ∷ ms) = ap (λ r. position_after_moves r ms) (moved-moved p q m) ∙ moved_along-moved p (position_after_move q m) ms

-- moves that lead back to the origin lead back to any place
back_to : (place : Point) (ms : List Point) → position_after_moves origin ms ≡ origin → position_after_moves place ms ≡ place
back_to place ms back = ap (λ r. position_after_moves r ms) (sym (position_after_move-none place)) ∙ moved_along-moved place origin ms
    ∙ ap (position_after_move place) back ∙ position_after_move-none place

-- a place after a move is at most so much farther
farther : (far : ℕ) (place m : Point) → IsTrue (is_point_within far place)
    → IsTrue (is_point_within (far + move_size m) (position_after_move place m))
farther far place m h1 = grind (arith, nat_tests, ints)

in_jump_range : (far : ℕ) (place m : Point) (more : ℕ) → IsTrue (is_point_within far place) → far + (move_size m + more) ≤ JUMP_LIMIT
    → IsTrue (is_point_within JUMP_LIMIT (position_after_move place m))
in_jump_range far place m more h1 h2 = grind (arith, nat_tests, ints)

-- jumps of a loose thread
goes_jumps : (events : List Event) (limit far count most : ℕ) (place : Point) (records rest : Records) (jumped : Bool)
    (acts : List Act) → IsTrue (are_jumps events) → BeginWithEvents events records rest
    → IsTrue (list_all (λ move. is_point_within limit move) (moves_of_events events)) → IsTrue (is_point_within far place)
    → far + length_of_moves (moves_of_events events) ≤ JUMP_LIMIT → count + length events ≤ most → most ≤ MAX_COMMANDS
    → ((count' : ℕ) (jumped' : Bool) → count' ≤ most
    → GoesOn limit count' (position_after_moves place (moves_of_events events)) rest true jumped' acts)
    → GoesOn limit count place records true jumped acts
goes_jumps [] limit far count most place records rest jumped acts are asks near here room few small on =
    goes_as asks (on count jumped (omega (arith, few)))
goes_jumps (event.Jump m ∷ more) limit far count most place records rest jumped acts are asks near here room few small on =
    let within = and_parts (is_point_within limit m) (list_all (λ move. is_point_within limit move) (moves_of_events more)) near in
    goes_as asks.2
    (goes_jump limit asks.0 count place m (position_after_move place m) asks.1 true jumped acts within.0 refl
    (in_jump_range far place m (length_of_moves (moves_of_events more)) here room) (omega (arith, few, small))
    (goes_jumps more limit (far + move_size m) (count + 1) most (position_after_move place m) asks.1 rest true acts are asks.3 within.1
    (farther far place m here) (omega (arith, room)) (omega (arith, few)) small on))
goes_jumps (event.Stitch m ∷ more) limit far count most place records rest jumped acts are asks near here room few small on = cc
goes_jumps (event.TrimmedJump m ∷ more) limit far count most place records rest jumped acts are asks near here room few small on = cc
goes_jumps (event.Trim ∷ more) limit far count most place records rest jumped acts are asks near here room few small on = cc
goes_jumps (event.Stop ∷ more) limit far count most place records rest jumped acts are asks near here room few small on = cc
goes_jumps (event.StopBy m ∷ more) limit far count most place records rest jumped acts are asks near here room few small on = cc

-- a cut among jumps
goes_cut : (events : List Event) (limit far count most : ℕ) (place : Point) (records rest : Records) (jumped : Bool)
    (acts : List Act) → IsTrue (trims_once events) → BeginWithEvents events records rest
    → IsTrue (list_all (λ move. is_point_within limit move) (moves_of_events events)) → IsTrue (is_point_within far place)
    → far + length_of_moves (moves_of_events events) ≤ JUMP_LIMIT → count + length events < most → most ≤ MAX_COMMANDS
    → ((count' : ℕ) (jumped' : Bool) → count' ≤ most
    → GoesOn limit count' (position_after_moves place (moves_of_events events)) rest true jumped' acts)
    → GoesOn limit count place records false jumped (act.Trim ∷ acts)
goes_cut [] limit far count most place records rest jumped acts cuts asks near here room few small on = cc
goes_cut (event.Jump m ∷ more) limit far count most place records rest jumped acts cuts asks near here room few small on =
    let within = and_parts (is_point_within limit m) (list_all (λ move. is_point_within limit move) (moves_of_events more)) near in
    goes_as asks.2
    (goes_jump limit asks.0 count place m (position_after_move place m) asks.1 false jumped (act.Trim ∷ acts) within.0 refl
    (in_jump_range far place m (length_of_moves (moves_of_events more)) here room) (omega (arith, few, small))
    (goes_cut more limit (far + move_size m) (count + 1) most (position_after_move place m) asks.1 rest true acts cuts asks.3 within.1
    (farther far place m here) (omega (arith, room)) (omega (arith, few)) small on))
goes_cut (event.TrimmedJump m ∷ more) limit far count most place records rest jumped acts cuts asks near here room few small on =
    let within = and_parts (is_point_within limit m) (list_all (λ move. is_point_within limit move) (moves_of_events more)) near in
    goes_as asks.2
    (goes_trimmed_jump limit asks.0 count place m (position_after_move place m) asks.1 false jumped acts within.0 refl
    (in_jump_range far place m (length_of_moves (moves_of_events more)) here room) (omega (arith, few, small))
    (goes_jumps more limit (far + move_size m) (count + 2) most (position_after_move place m) asks.1 rest true acts cuts asks.3 within.1
    (farther far place m here) (omega (arith, room)) (omega (arith, few)) small on))
goes_cut (event.Trim ∷ more) limit far count most place records rest jumped acts cuts asks near here room few small on =
    goes_as asks.2
    (goes_trim limit asks.0 count place asks.1 jumped acts (omega (arith, few, small))
    (goes_jumps more limit far (count + 1) most place asks.1 rest false acts cuts asks.3 near here room
    (omega (arith, few)) small on))
goes_cut (event.Stitch m ∷ more) limit far count most place records rest jumped acts cuts asks near here room few small on = cc
goes_cut (event.Stop ∷ more) limit far count most place records rest jumped acts cuts asks near here room few small on = cc
goes_cut (event.StopBy m ∷ more) limit far count most place records rest jumped acts cuts asks near here room few small on = cc

-- the records of a trim
pub goes_trimmed : (events : List Event) (limit count room : ℕ) (place : Point) (records rest : Records) (jumped : Bool) (acts : List Act)
    → IsTrimSequence limit events → BeginWithEvents events records rest → IsTrue (is_point_within NEEDLE_LIMIT place) → count ≤ room
    → room + 4 ≤ MAX_COMMANDS → ((count' : ℕ) (jumped' : Bool) → count' ≤ room + 4 → GoesOn limit count' place rest true jumped' acts)
    → GoesOn limit count place records false jumped (act.Trim ∷ acts)
goes_trimmed events limit count room place records rest jumped acts trim asks here few small on =
    goes_cut events limit NEEDLE_LIMIT count (room + 4) place records rest jumped acts trim.cuts asks trim.within here
    (omega (arith, trim.short)) (omega (arith, few, trim.few)) small
    (λ count' jumped' counted. subst (λ q. GoesOn limit count' q rest true jumped' acts)
    (sym (back_to place (moves_of_events events) trim.back)) (on count' jumped' counted))
