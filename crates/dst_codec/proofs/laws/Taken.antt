-- The events that written records are decoded as.
use Rattle.std.proofs.Common.{◌≡◌, ℕ, ◌+◌, min, pos, negsuc, true, IsTrue, List, [], ◌∷◌, ◌++◌, Some, inr, ◌==◌, if◌then◌else◌, refl, ap, ◌∙◌, arith}
use Rattle.dst_codec.proofs.Names.{nat_tests, Point, is_point_within, origin, Records, next, LIMIT, dst_records_from, dst_stitch_record, dst_jump_record, dst_end_record, dst_encoding, dst_write_limits, over, EncodedEvents, DecodesEncoding}
use Rattle.record_formats.specs.declared.event.Event.TheVariants as event
use Rattle.dst_codec.specs.declared.record_kind.RecordKind.TheVariants as kind
use Rattle.dst_codec.proofs.RunLemmas.{record_reads}
use Rattle.dst_codec.proofs.MoveEncodingLemmas.{byte_of, third_of, dst_move_of-record}

-- the records of a reader after n jump records
abbrev pub read_after : ℕ → ℕ → List ℕ → Records
read_after run = dst_records_from (min run 3)

stitch_reads : (run at : ℕ) (m : Point) (rest : List ℕ) → IsTrue (is_point_within LIMIT m)
    → dst_records_from run at (dst_stitch_record m ++ rest) ≡ next at (event.Stitch m) (dst_records_from 0 (at + 3) rest)
stitch_reads run at m rest near = record_reads run at (byte_of 1 9 m) (byte_of 3 27 m) (third_of 0 m) rest kind.Stitch m
    (grind (arith, nat_tests)) (dst_move_of-record 0 0 m refl near)

jump_reads : (run at : ℕ) (m : Point) (rest : List ℕ) → IsTrue (is_point_within LIMIT m)
    → read_after run at (dst_jump_record m ++ rest)
    ≡ next at (if run == 2 then event.TrimmedJump m else event.Jump m) (read_after (run + 1) (at + 3) rest)
jump_reads run at m rest near =
    let longer : min (min run 3 + 1) 3 ≡ min (run + 1) 3 = omega arith in
    record_reads (min run 3) at (byte_of 1 9 m) (byte_of 3 27 m) (third_of 128 m) rest kind.Jump m
    (grind (arith, nat_tests)) (dst_move_of-record 128 2 m refl near)
    ∙ ap (λ b. next at (if b then event.TrimmedJump m else event.Jump m) (dst_records_from (min (min run 3 + 1) 3) (at + 3) rest))
    (grind (arith, nat_tests))
    ∙ ap (λ n. next at (if run == 2 then event.TrimmedJump m else event.Jump m) (dst_records_from n (at + 3) rest)) longer

-- the first two jumps of a trim, and the third
abbrev forth : Point
forth = record { x = pos 2; y = pos 2 }

abbrev back : Point
back = record { x = negsuc 3; y = negsuc 3 }

-- the third jump record of a run is decoded as a trim too, and a written trim is such a run
abbrev pub taken : EncodedEvents
taken = record {
  max_jumps = Some 2;
  trim = event.Jump forth ∷ event.Jump back ∷ event.TrimmedJump forth ∷ [];
  run = 3;
  stop = event.StopBy origin;
}

pub rereads : DecodesEncoding read_after dst_encoding dst_write_limits taken
rereads = record {
  stitch = λ run at m rest near. stitch_reads (min run 3) at m rest near;
  jump = λ run at m rest near. jump_reads run at m rest near;
  trim = λ at rest. (
    at,
    _,
    refl,
    (
      at + 3,
      _,
      refl,
      (
        at + 3 + 3,
        _,
        refl,
        ap (λ n. dst_records_from 3 n rest) (let nine : at + 3 + 3 + 3 ≡ at + 9 = omega arith in nine),
      ),
    ),
  );
  stop = λ run at before rest. refl;
  is_trim = record { cuts = refl; few = omega arith; back = refl; short = omega arith; within = refl };
  is_stop = refl;
  late = omega arith;
  past = inr (omega arith);
  hops = refl;
  limit = omega arith;
}

-- the end is one after any run
pub ends : (run at : ℕ) → read_after run at dst_end_record ≡ over true
ends run at = refl
