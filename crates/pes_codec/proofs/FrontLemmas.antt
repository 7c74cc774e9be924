-- Formats whose files are a front and a block.
use Rattle.std.proofs.Common.{◌≡◌, ℕ, ◌≤◌, true, false, drop, IsTrue, nat_lt, List, ◌++◌, length, Result, Ok, Err, IfOk, IsOk, IsOkAnd, refl, ap, sym, subst, arith, length-append}
use Rattle.std.specs.List.{list_all}
use Rattle.std.proofs.lemmas.Bool.{le-ltb}
use Rattle.pes_codec.proofs.Names.{DesignValue, WriteFault, layout_reads, Meaning, RestoresDesign, pec_block_layout, Pec, Pes, file_meaning, RoundTripsWithThreads, front_layout_of, front_of, is_point_within, KeepsBlockLaws, BlockRoundTrips, pec_block_moves, pec_block_reads, after_front}
use Rattle.format_traits.specs.Laws.{KeepsLaws, MovesWithin, RoundTrips}
use Rattle.format_traits.specs.PlainDesigns.{IsPlain}
use Rattle.pec_codec.specs.declared.block.TheConstants.{LIMIT}
use Rattle.pec_codec.specs.Writing.{pec_block_writes}
use Rattle.pes_codec.specs.declared.file_kind.FileKind.{FileKind}
use Rattle.pec_codec.proofs.CallerLemmas.{again_from}

-- the files of a format are a front and a block, and read as the block
pub record IsBehind (m : Meaning) (front : List ℕ) : Type 0 where
  pub limit : m.limit ≡ LIMIT
  pub writes : (d : DesignValue) → m.writes d ≡ after_front front (pec_block_writes d)
  pub reads : (block : List ℕ) → m.reads (front ++ block) ≡ pec_block_reads (length front) (front ++ block)
  pub moves : (block : List ℕ) → m.moves (front ++ block) ≡ pec_block_moves (length front) (front ++ block)

-- what holds of a block that is written, holds of its file
if_behind : (front : List ℕ) (P Q : List ℕ → Type 0) → ((block : List ℕ) → Q block → P (front ++ block))
    → (r : Result (List ℕ) WriteFault) → IfOk r Q → IfOk (after_front front r) P
if_behind front P Q holds (Ok block) is = holds block is
if_behind front P Q holds (Err f) is = tt

ok_behind : (front : List ℕ) (r : Result (List ℕ) WriteFault) → IsOk r → IsOk (after_front front r)
ok_behind front (Ok block) ok = ok
ok_behind front (Err f) ok = ok

-- what a block reads as, its file does
whole_file : (m : Meaning) (front : List ℕ) → IsBehind m front → (d : DesignValue) (block : List ℕ)
    → ((before : List ℕ) → BlockRoundTrips d block before) → RoundTripsWithThreads m d (front ++ block)
whole_file m front is d block back =
    subst (λ result. IsOkAnd result (λ loaded. RestoresDesign d loaded)) (sym (is.reads block)) (back front).read

pub keeps_laws : (m : Meaning) (front : List ℕ) → IsBehind m front → (d : DesignValue) → KeepsBlockLaws d → KeepsLaws m d
keeps_laws m front is d laws = record {
  again = subst (λ r. IfOk r (λ bytes. RoundTrips m d bytes)) (sym (is.writes d))
      (if_behind front (λ bytes. RoundTrips m d bytes) (λ block. (before : List ℕ) → BlockRoundTrips d block before)
      (λ block back. again_from d (m.reads (front ++ block)) (whole_file m front is d block back)) (pec_block_writes d) laws.back);
  within = subst (λ r. IfOk r (λ bytes. MovesWithin m bytes)) (sym (is.writes d))
      (if_behind front (λ bytes. MovesWithin m bytes) (λ block. (before : List ℕ) → BlockRoundTrips d block before)
      (λ block back.
      subst (λ limit. IsTrue (list_all (λ move. is_point_within limit move) (m.moves (front ++ block)))) (sym is.limit)
      (subst (λ moves. IsTrue (list_all (λ move. is_point_within LIMIT move) moves)) (sym (is.moves block)) (back front).within))
      (pec_block_writes d) laws.back);
  plain = λ plain. subst (λ r. IsOk r) (sym (is.writes d))
      (ok_behind front (pec_block_writes d) (laws.plain (subst (λ limit. IsPlain limit d) is.limit plain)));
}

pub reads_whole : (m : Meaning) (front : List ℕ) → IsBehind m front → (d : DesignValue) → KeepsBlockLaws d
    → IfOk (m.writes d) (λ bytes. RoundTripsWithThreads m d bytes)
reads_whole m front is d laws =
    subst (λ r. IfOk r (λ bytes. RoundTripsWithThreads m d bytes)) (sym (is.writes d))
    (if_behind front (λ bytes. RoundTripsWithThreads m d bytes)
    (λ block. (before : List ℕ) → BlockRoundTrips d block before) (whole_file m front is d) (pec_block_writes d) laws.back)

-- a front that is known, and the block after it
record IsKnownFront (kind : FileKind) (block : List ℕ) : Type 0 where
  known : (front_layout_of kind).known (front_of kind ++ block) ≡ true
  long : (front_layout_of kind).length ≤ length (front_of kind)
  is : (front_layout_of kind).block (front_of kind ++ block) ≡ length (front_of kind)

fronts_are_known : (kind : FileKind) (block : List ℕ) → IsKnownFront kind block
fronts_are_known Pec block = record { known = refl; long = omega arith; is = refl }
fronts_are_known Pes block = record { known = refl; long = omega arith; is = refl }

pub is_behind : (kind : FileKind) → IsBehind (file_meaning kind) (front_of kind)
is_behind kind = record {
  limit = refl;
  writes = λ d. refl;
  reads = λ block.
      let front = fronts_are_known kind block in
      rw (front.known, whole block, front.is, there block)
      (ap (λ n. layout_reads pec_block_layout n (drop (length (front_of kind)) (front_of kind ++ block))) (omega arith));
  moves = λ block. let front = fronts_are_known kind block in rw (front.known, whole block, front.is) refl;
} where
  whole : (block : List ℕ) → nat_lt (length (front_of kind ++ block)) (front_layout_of kind).length ≡ false
  whole block = le-ltb (length (front_of kind ++ block)) (front_layout_of kind).length
      (omega (arith, (fronts_are_known kind block).long, length-append (front_of kind) block))

  there : (block : List ℕ) → nat_lt (length (front_of kind ++ block)) (length (front_of kind)) ≡ false
  there block = le-ltb (length (front_of kind ++ block)) (length (front_of kind)) (omega (arith, length-append (front_of kind) block))
