-- What is written reads back.
use Rattle.std.proofs.Common.{◌≡◌, ℕ, ◌+◌, ◌≤◌, ◌≢◌, ℤ, pos, negsuc, neg_ℤ, unsigned_abs, true, IsTrue, IsOkAnd, List, [], ◌∷◌, ◌++◌, None, refl, ap, sym, ◌∙◌, subst, arith}
use Rattle.exp_codec.proofs.Names.{nat_tests, ints, Point, DesignValue, is_point_within, origin, Loaded, loaded_with, next, LIMIT, exp_meaning, exp_move_of, units_from, exp_write_limits, exp_file_of, append-nil, acts_of, KeepsLimits, first_refusal, from_twos_complement, to_twos_complement, bytes_of_move, exp_encoding}
use Rattle.record_formats.specs.declared.event.Event.TheVariants as event
use Rattle.format_traits.specs.Laws.{HasSameActs, IsCodec}
use Rattle.record_formats.specs.RoundTrip.{EncodedEvents, DecodesEncoding, DecodeToActs, EncodedActsRoundTrip}
use Rattle.exp_codec.proofs.UnitLemmas.{reads_units, two_at}
use Rattle.design_model.proofs.CallerLemmas.{point_of_parts}
use Rattle.design_model.proofs.ListLemmas.{neg-neg}

-- a number is decoded as it was encoded, and no encoded number is 80
number_reads : (z : ℤ) → unsigned_abs z ≤ LIMIT
    → (from_twos_complement 128 (to_twos_complement 128 z) ≡ z) × (to_twos_complement 128 z ≢ 0x80)
number_reads z small = grind (arith, nat_tests, ints)

-- the bytes of a move have it, and the first of them is not 80
exp_move_of-step : (m : Point) → IsTrue (is_point_within LIMIT m)
    → (exp_move_of (to_twos_complement 128 m.x) (to_twos_complement 128 (neg_ℤ m.y)) ≡ m) × (to_twos_complement 128 m.x ≢ 0x80)
exp_move_of-step m near =
    let x = number_reads m.x in
    let y = number_reads (neg_ℤ m.y) in
    (point_of_parts (grind (arith, nat_tests, x)) (grind (arith, nat_tests, y, neg-neg)), grind (arith, nat_tests, x))

-- a stitch and what stands after it
stitch_reads : (at : ℕ) (m : Point) (rest : List ℕ) → IsTrue (is_point_within LIMIT m)
    → units_from at (bytes_of_move m ++ rest) ≡ next at (event.Stitch m) (units_from (at + 2) rest)
stitch_reads at m rest near =
    let step = exp_move_of-step m near in
    two_at at (to_twos_complement 128 m.x) (to_twos_complement 128 (neg_ℤ m.y)) rest step.1
    ∙ ap (λ m. next at (event.Stitch m) (units_from (at + 2) rest)) step.0

-- what the units are taken for
abbrev taken : EncodedEvents
taken = record { max_jumps = None; trim = event.Trim ∷ []; run = 0; stop = event.StopBy origin }

rereads : DecodesEncoding (λ run. units_from) exp_encoding exp_write_limits taken
rereads = record {
  stitch = λ run at m rest near. stitch_reads at m rest near;
  jump = λ run at m rest near. ap (λ m. next at (event.Jump m) (units_from (at + 4) rest)) (exp_move_of-step m near).0;
  trim = λ at rest. (at, units_from (at + 4) rest, refl, refl);
  stop = λ run at before rest. refl;
  is_trim = record { cuts = refl; few = omega arith; back = refl; short = omega arith; within = refl };
  is_stop = refl;
  late = tt;
  past = tt;
  hops = refl;
  limit = omega arith;
}

-- the file of a design decodes to its acts
tells : EncodedActsRoundTrip → (d : DesignValue) → KeepsLimits d → first_refusal exp_write_limits (acts_of d) ≡ None
    → DecodeToActs (units_from 0 (exp_file_of d)) (acts_of d) LIMIT
tells law d limits passed = subst (λ bytes. DecodeToActs (units_from 0 bytes) (acts_of d) LIMIT) (append-nil (exp_file_of d))
    (law (λ run. units_from) exp_encoding exp_write_limits taken rereads d limits passed 0 [] (λ run at. refl))

-- EXP is a codec
pub exp_is_codec : EncodedActsRoundTrip → IsCodec exp_meaning exp_write_limits exp_file_of
exp_is_codec law = record {
  limit = refl;
  stops = λ count few. refl;
  writes = λ d. refl;
  again = λ d limits passed.
      let t = tells law d limits passed in
      let loaded : Loaded = record {
        design = record { label = []; threads = []; commands = t.commands };
        ended = true;
      } in
      let again : HasSameActs d loaded = record { acts = t.again; ended = refl } in
      subst (λ result. IsOkAnd result (λ loaded. HasSameActs d loaded)) (sym (reads_units (exp_file_of d)))
      (subst (λ result. IsOkAnd (loaded_with [] [] result) (λ loaded. HasSameActs d loaded)) (sym t.course) again);
  within = λ d limits passed. (tells law d limits passed).within;
}
