-- Acts of designs, and acts that a list can have.
use Rattle.std.proofs.Common.{◌≡◌, ℕ, ◌+◌, ◌≤◌, Bool, true, false, ◌&&◌, IsTrue, List, [], ◌∷◌, ◌++◌, None, nat_le, nat_lt, unsigned_abs, refl, ap, arith}
use Rattle.stitch_text.proofs.Names.{ints, and_from, nat_tests, list_all, Act, NumberedAct, Command, MAX_COMMANDS, Point, leaves_thread_loose, needle_position_after, acts_from, acts_without_numbers, numbered, is_point_within, WriteFault, EncoderState, refusal_before_room, refusal_of_act, first_refusal_from, refusal_if, encoder_state_after, LIMIT, fault_of_act, list_commands_of, stitch_moves_of, list_write_limits, are_told, is_told, not_refused, or_else_none, move_between, move_size, refusal_of_needle, stitch_move_of}
use Rattle.design_model.specs.declared.act.Act.TheVariants as act
use Rattle.format_traits.specs.declared.fault.WriteFault.TheVariants as fault

-- the commands of acts
abbrev pub commands_along : List NumberedAct → List Command
commands_along [] = []
commands_along (a ∷ rest) = list_commands_of a.act ++ commands_along rest

-- the commands that are written for acts have the same acts
pub acts_again : (acts : List NumberedAct) (n : ℕ) (loose : Bool) → IsTrue (are_told loose acts)
    → acts_without_numbers (acts_from n loose false (commands_along acts)) ≡ acts_without_numbers acts
acts_again [] n loose told = refl
acts_again (a ∷ rest) n loose told = by_act (λ n loose told. acts_again rest n loose told) a.act loose told where
  by_act : ((n : ℕ) (loose : Bool) → IsTrue (are_told loose rest)
      → acts_without_numbers (acts_from n loose false (commands_along rest)) ≡ acts_without_numbers rest) → (b : Act) (loose : Bool)
      → IsTrue (is_told loose b && are_told (leaves_thread_loose b) rest)
      → acts_without_numbers (acts_from n loose false (list_commands_of b ++ commands_along rest)) ≡ b ∷ acts_without_numbers rest
  by_act again (act.Needle p false) true told = ap (λ acts. act.Needle p false ∷ acts) (again (n + 1) false told)
  by_act again (act.Needle p false) false told = ap (λ acts. act.Needle p false ∷ acts) (again (n + 1) false told)
  by_act again (act.Needle p true) true told = cc
  by_act again (act.Needle p true) false told = ap (λ acts. act.Needle p true ∷ acts) (again (n + 1 + 1) false told)
  by_act again act.Trim true told = cc
  by_act again act.Trim false told = ap (λ acts. act.Trim ∷ acts) (again (n + 1) true told)
  by_act again act.Stop true told = ap (λ acts. act.Stop ∷ acts) (again (n + 1) true told)
  by_act again act.Stop false told = ap (λ acts. act.Stop ∷ acts) (again (n + 1) true told)

-- and the other way round
pub no_refusal : (at n : ℕ) (s : EncoderState) (a : Act) → fault_of_act at s a ≡ None
    → IsTrue (is_told s.loose a) × (refusal_of_act list_write_limits s (numbered n a) ≡ None)
no_refusal at n s a h1 = grind (arith, nat_tests, ints)

-- the moves of acts that aren't refused are within the limit
pub moves_within : (acts : List NumberedAct) (s : EncoderState) → first_refusal_from list_write_limits s acts ≡ None
    → IsTrue (list_all (λ move. is_point_within LIMIT move) (stitch_moves_of s.loose s.place (acts_without_numbers acts)))
moves_within [] s none = refl
moves_within (a ∷ rest) s none =
    let after = encoder_state_after LIMIT s a.act in
    let first = or_else_none (refusal_of_act list_write_limits s a) (first_refusal_from list_write_limits after rest) none in
    let own = or_else_none (refusal_before_room list_write_limits s a.act a.number)
    (refusal_if (nat_lt MAX_COMMANDS after.room) (fault.TooLong a.number)) first.0 in
    by_act a.act own.0 (moves_within rest after first.1) where
      far : (m : Point) (f : WriteFault) → refusal_if (nat_lt LIMIT (move_size m)) f ≡ None → IsTrue (is_point_within LIMIT m)
      far m f none =
          let test = not_refused (nat_lt LIMIT (move_size m)) f none in
          let small : move_size m ≤ 2047 = grind (arith, nat_tests, test) in
          and_from (nat_le (unsigned_abs m.x) LIMIT) (nat_le (unsigned_abs m.y) LIMIT)
          (grind (arith, nat_tests, small)) (grind (arith, nat_tests, small))

      by_act : (b : Act) → refusal_before_room list_write_limits s b a.number ≡ None
          → IsTrue (list_all (λ move. is_point_within LIMIT move)
          (stitch_moves_of (leaves_thread_loose b) (needle_position_after s.place b) (acts_without_numbers rest)))
          → IsTrue (list_all (λ move. is_point_within LIMIT move) (stitch_move_of s.loose s.place b
          ++ stitch_moves_of (leaves_thread_loose b) (needle_position_after s.place b) (acts_without_numbers rest)))
      by_act (act.Needle p true) none rest_within = by_loose s.loose where
        by_loose : (loose : Bool) → IsTrue (list_all (λ move. is_point_within LIMIT move) (stitch_move_of loose s.place (act.Needle p true)
            ++ stitch_moves_of false p (acts_without_numbers rest)))
        by_loose true = rest_within
        by_loose false = rest_within
      by_act (act.Needle p false) none rest_within = by_loose s.loose none where
        by_loose : (loose : Bool) → refusal_of_needle list_write_limits loose false (move_between s.place p) a.number ≡ None
            → IsTrue (list_all (λ move. is_point_within LIMIT move) (stitch_move_of loose s.place (act.Needle p false)
            ++ stitch_moves_of false p (acts_without_numbers rest)))
        by_loose true none = rest_within
        by_loose false none =
            and_from (is_point_within LIMIT (move_between s.place p))
            (list_all (λ move. is_point_within LIMIT move) (stitch_moves_of false p (acts_without_numbers rest)))
            (far (move_between s.place p) (fault.StitchTooLong a.number) none) rest_within
      by_act act.Trim none rest_within = by_loose s.loose where
        by_loose : (loose : Bool) → IsTrue (list_all (λ move. is_point_within LIMIT move) (stitch_move_of loose s.place act.Trim
            ++ stitch_moves_of true s.place (acts_without_numbers rest)))
        by_loose true = rest_within
        by_loose false = rest_within
      by_act act.Stop none rest_within = by_loose s.loose where
        by_loose : (loose : Bool) → IsTrue (list_all (λ move. is_point_within LIMIT move) (stitch_move_of loose s.place act.Stop
            ++ stitch_moves_of true s.place (acts_without_numbers rest)))
        by_loose true = rest_within
        by_loose false = rest_within
