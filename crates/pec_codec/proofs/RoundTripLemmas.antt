-- Each record is decoded as it was encoded, whatever bytes follow.
use Rattle.std.proofs.Common.{◌≡◌, ℕ, ◌+◌, ◌*◌, ◌/◌, ◌%◌, ◌<◌, ◌≤◌, ℤ, unsigned_abs, Bool, true, false, ◌&&◌, IsTrue, List, [], ◌∷◌, ◌++◌, length, drop, Some, None, ◌==◌, if◌then◌else◌, refl, sym, arith}
use Rattle.pec_codec.proofs.Names.{nat_tests, ints, and_parts, Point, is_point_within, origin, next, LIMIT, Coordinate, leading_coordinate, is_short_number, short_bytes, to_twos_complement, next_record_in, pec_records, long_record, pec_stop_record, pec_write_limits, pec_encoding, DecodesEncoding, EncodedEvents, event_of_pair}
use Rattle.record_formats.specs.declared.event.Event.TheVariants as event
use Rattle.record_formats.specs.declared.record_reader.NextRecord.TheVariants as cut
use Rattle.pec_codec.proofs.RecordLemmas.{record_first}
use Rattle.pec_codec.proofs.RecordByteLemmas.{coordinate_at, leading_coordinate-long, leading_coordinate-short, unsigned_long, unsigned_short}

-- two coordinates of which the first is neither the end nor a stop
next_record_in-pair : (first second : ℕ) (rest : List ℕ) (x y : Coordinate) → first < 254
    → leading_coordinate (first ∷ second ∷ rest) ≡ Some x → leading_coordinate (drop x.size (first ∷ second ∷ rest)) ≡ Some y
    → next_record_in (first ∷ second ∷ rest) ≡ cut.Record (event_of_pair x y) (x.size + y.size)
next_record_in-pair first second rest x y h1 h2 h3 = grind (arith, nat_tests, ints)

within_parts : (m : Point) → IsTrue (is_point_within LIMIT m) → (unsigned_abs m.x ≤ LIMIT) × (unsigned_abs m.y ≤ LIMIT)
within_parts m h1 = grind (arith, nat_tests, ints)

-- a move of short numbers
short_reads : (at : ℕ) (m : Point) (rest : List ℕ) → IsTrue (is_short_number m.x && is_short_number m.y)
    → pec_records at (to_twos_complement 64 m.x ∷ to_twos_complement 64 m.y ∷ rest) ≡ next at (event.Stitch m) (pec_records (at + 2) rest)
short_reads at m rest short =
    let both = and_parts (is_short_number m.x) (is_short_number m.y) short in
    record_first at 2 (event.Stitch m) (to_twos_complement 64 m.x ∷ to_twos_complement 64 m.y ∷ rest)
    (sym (next_record_in-pair (to_twos_complement 64 m.x) (to_twos_complement 64 m.y) rest (coordinate_at 1 m.x false false)
    (coordinate_at 1 m.y false false) (omega (arith, unsigned_short m.x))
    (leading_coordinate-short m.x (to_twos_complement 64 m.y ∷ rest) both.0) (leading_coordinate-short m.y rest both.1)))
    (omega arith) (omega arith)

-- the first of two bytes with marks
abbrev high : ℕ → ℤ → ℕ
high k z = 128 + 16 * k + to_twos_complement 2048 z / 256

abbrev low : ℤ → ℕ
low z = to_twos_complement 2048 z % 256

-- a move of two bytes a number, with marks
long_reads : (k at : ℕ) (m : Point) (rest : List ℕ) → k < 4 → IsTrue (is_point_within LIMIT m)
    → pec_records at (high k m.x ∷ low m.x ∷ high k m.y ∷ low m.y ∷ rest)
    ≡ next at (event_of_pair (coordinate_at 2 m.x (k / 2 == 1) (k % 2 == 1)) (coordinate_at 2 m.y (k / 2 == 1) (k % 2 == 1)))
    (pec_records (at + 4) rest)
long_reads k at m rest few within =
    let small = within_parts m within in
    let x = coordinate_at 2 m.x (k / 2 == 1) (k % 2 == 1) in
    let y = coordinate_at 2 m.y (k / 2 == 1) (k % 2 == 1) in
    record_first at 4 (event_of_pair x y) (high k m.x ∷ low m.x ∷ high k m.y ∷ low m.y ∷ rest)
    (sym (next_record_in-pair (high k m.x) (low m.x) (high k m.y ∷ low m.y ∷ rest) x y
    (omega (arith, few, unsigned_long m.x))
    (leading_coordinate-long k m.x (high k m.y ∷ low m.y ∷ rest) few small.0)
    (leading_coordinate-long k m.y rest few small.1)))
    (omega arith) (omega arith)

-- a stitch, whether its numbers are short or not
stitch_reads : (short : Bool) (at : ℕ) (m : Point) (rest : List ℕ) → (is_short_number m.x && is_short_number m.y) ≡ short
    → IsTrue (is_point_within LIMIT m)
    → let spelled = if short then short_bytes m.x ++ short_bytes m.y else long_record 0 m in
    pec_records at (spelled ++ rest) ≡ next at (event.Stitch m) (pec_records (at + length spelled) rest)
stitch_reads true at m rest is within = short_reads at m rest is
stitch_reads false at m rest is within = long_reads 0 at m rest (omega arith) within

-- the events of encoded records: a trim is a trim and a jump without a move
abbrev pub taken : EncodedEvents
taken = record { max_jumps = None; trim = event.TrimmedJump origin ∷ []; run = 0; stop = event.Stop }

-- each encoded record is decoded as the writer meant it
pub rereads : DecodesEncoding (λ run. pec_records) pec_encoding pec_write_limits taken
rereads = record {
  stitch = λ run at m rest within. stitch_reads (is_short_number m.x && is_short_number m.y) at m rest refl within;
  jump = λ run at m rest within. long_reads 1 at m rest (omega arith) within;
  trim = λ at rest. (
    at,
    pec_records (at + 4) rest,
    record_first at 4 (event.TrimmedJump origin) (160 ∷ 0 ∷ 160 ∷ 0 ∷ rest) refl (omega arith) (omega arith),
    refl,
  );
  stop = λ run at before rest. record_first at 3 event.Stop (pec_stop_record before ++ rest) refl (omega arith) (omega arith);
  is_trim = record { cuts = refl; few = omega arith; back = refl; short = omega arith; within = refl };
  is_stop = refl;
  late = tt;
  past = tt;
  hops = refl;
  limit = omega arith;
}
