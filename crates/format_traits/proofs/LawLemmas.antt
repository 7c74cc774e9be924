-- The laws of all formats.
use Rattle.std.proofs.Common.{◌≡◌, ℕ, List, true, false, Option, None, IfOk, IsOk, refl, sym, subst, arith}
use Rattle.format_traits.proofs.Names.{nat_tests, ints, acts_of, DesignValue, WriteLimits, WriteFault, AcceptedIsWithinLimits, RoundTrips, MovesWithin, CodecsKeepLaws, IsPlain, initial_encoder_state, first_refusal, unless_refused}
use Rattle.format_traits.proofs.AcceptedLemmas.{plain_passes, few_stops, small_room}
use Rattle.design_model.proofs.CallerLemmas.{acts_in_range}

-- what holds of the file of a design that is not refused, holds of what is written
of_written : (write_limits : WriteLimits) (d : DesignValue) (file : List ℕ) (P : List ℕ → Type 0) → (r : Option WriteFault)
    → first_refusal write_limits (acts_of d) ≡ r → (first_refusal write_limits (acts_of d) ≡ None → P file) → IfOk (unless_refused r file) P
of_written write_limits d file P r h1 h2 = grind (arith, nat_tests, ints)

-- a format whose files read back and move within the limit keeps the laws
pub codecs_keep_laws : CodecsKeepLaws
codecs_keep_laws m write_limits file codec d limits = record {
  again = subst (λ result. IfOk result (λ bytes. RoundTrips m d bytes)) (sym (codec.writes d))
      (of_written write_limits d (file d) (λ bytes. RoundTrips m d bytes) (first_refusal write_limits (acts_of d)) refl
      (codec.again d limits));
  within = subst (λ result. IfOk result (λ bytes. MovesWithin m bytes)) (sym (codec.writes d))
      (of_written write_limits d (file d) (λ bytes. MovesWithin m bytes) (first_refusal write_limits (acts_of d)) refl
      (codec.within d limits));
  plain = λ plain.
      let of_reach = subst (λ limit. IsPlain limit d) codec.limit plain in
      let passed = plain_passes write_limits 254 codec.stops (acts_of d) initial_encoder_state of_reach.needles
      (omega (arith, of_reach.stops)) (omega (arith, of_reach.room)) in
      subst (λ result. IsOk result) (sym (codec.writes d))
      (subst (λ r. IsOk (unless_refused r (file d))) (sym passed) refl);
}

-- acts that are not refused have little room and few stops
pub accepted_is_small : AcceptedIsWithinLimits
accepted_is_small write_limits d limits passed = record {
  in_range = acts_in_range 1 true false d.commands limits.in_range;
  room = let small = small_room write_limits (acts_of d) initial_encoder_state passed (omega arith) in omega (arith, small);
  stops = λ most is. let few = few_stops write_limits most is (acts_of d) initial_encoder_state passed (omega arith) in omega (arith, few);
}
