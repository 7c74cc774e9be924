-- Lemmas that this crate and those above cite.
use Rattle.std.proofs.Common.{Bool, IsTrue, List, [], ◌∷◌, None, Option, Some, ap, arith, false, true, not, refl, ◌&&◌, if◌then◌else◌, length, length-append, replicate, slice_get, ℕ, ◌+◌, ◌-◌, ◌∙◌, ◌≡◌, ◌≤◌}
use Rattle.format_traits.proofs.Names.{nat_tests, ints, length-replicate, Act, NumberedAct, Command, Stitch, leaves_thread_loose, encoder_state_after_acts, Meaning, encoder_state_after, refusal_if, stops_of, EncoderState, WriteFault, Jump, acts_from, padded_right, or_else}
use Rattle.design_model.specs.declared.act.Act.TheVariants as act
use Rattle.design_model.specs.declared.command.Command.TheVariants.{Trim, Stop}

pub not_refused : (b : Bool) (f : WriteFault) → refusal_if b f ≡ None → b ≡ false
not_refused b f h1 = grind (arith, nat_tests, ints)

pub refused_not : (b : Bool) (f : WriteFault) → b ≡ false → refusal_if b f ≡ None
refused_not b f h1 = grind (arith, nat_tests, ints)

pub loose_room : (few : Bool) (count : ℕ) → count + 1 ≤ (if few then count + 1 else count + 2)
loose_room few count = grind (arith, nat_tests, ints)

pub length-padded_right : (places : ℕ) (text : List ℕ) → length text ≤ places → length (padded_right places text) ≡ places
length-padded_right places text fits =
    omega (arith, length-replicate {A = ℕ} (places - length text) 32, length-append text (replicate (places - length text) 32), fits)

-- The format at an index is the requested one, also in another list of the same formats.
pub same_format : (formats formats' : List Meaning) (place : ℕ) (here m : Meaning) → formats' ≡ formats
    → slice_get formats' place ≡ Some here → slice_get formats place ≡ Some m → here ≡ m
same_format formats formats' place here m h1 h2 h3 = grind (arith, nat_tests, ints)

pub or_else_none : (one other : Option WriteFault) → or_else one other ≡ None → (one ≡ None) × (other ≡ None)
or_else_none one other h1 = grind (arith, nat_tests, ints)

pub or_else_both : (one other : Option WriteFault) → one ≡ None → other ≡ None → or_else one other ≡ None
or_else_both one other first second = ap (λ r. or_else r other) first ∙ second

-- the stops after all acts
pub stops_along : (limit : ℕ) (before : EncoderState) (acts : List NumberedAct)
    → (encoder_state_after_acts limit before acts).stops ≡ before.stops + stops_of acts
stops_along limit before [] = omega arith
stops_along limit before (a ∷ rest) = stops_along limit (encoder_state_after limit before a.act) rest ∙ omega arith

-- an act that the fold over commands can give: no float of a loose thread, and no trim of one
abbrev pub is_told : Bool → Act → Bool
is_told loose (act.Needle p float) = not (loose && float)
is_told loose act.Trim = not loose
is_told loose act.Stop = true

-- all acts are so
abbrev pub are_told : Bool → List NumberedAct → Bool
are_told loose [] = true
are_told loose (a ∷ rest) = is_told loose a.act && are_told (leaves_thread_loose a.act) rest

-- the fold over commands gives no other acts
pub told : (n : ℕ) (loose jumped : Bool) (commands : List Command) → IsTrue (are_told loose (acts_from n loose jumped commands))
told n loose jumped [] = refl
told n true true (Stitch p ∷ rest) = told (n + 1) false false rest
told n true false (Stitch p ∷ rest) = told (n + 1) false false rest
told n false jumped (Stitch p ∷ rest) = told (n + 1) false false rest
told n loose jumped (Jump p ∷ rest) = told (n + 1) loose true rest
told n true jumped (Trim ∷ rest) = told (n + 1) true jumped rest
told n false jumped (Trim ∷ rest) = told (n + 1) true false rest
told n loose jumped (Stop ∷ rest) = told (n + 1) true false rest
