-- The label and the threads of a design are read back.
use Rattle.std.proofs.Common.{◌≡◌, ℕ, zero, suc, ◌+◌, ◌<◌, ◌≤◌, ◌%◌, true, List, [], ◌∷◌, ◌++◌, None, Some, Ok, All, IsOkAnd, slice_get, unwrap_or, refl, ap, sym, ◌∙◌, subst, arith}
use Rattle.stitch_text.proofs.Names.{nat_tests, ints, Act, NumberedAct, acts_of, DesignValue, thread_of, Loaded, AcceptedIsWithinLimits, first_refusal, stops_in, HasLabelAndThreads, LabelAndThreadsRoundTrip, loaded_of_parsed, list_reads, list_of, list_write_limits, list_writes, All-head, All-tail, stops_of}
use Rattle.design_model.specs.declared.act.Act.TheVariants as act
use Rattle.stitch_text.proofs.ActLemmas.{commands_along}
use Rattle.stitch_text.proofs.RoundTrip.{list_said, threads_along, threads_in, threads_told}

-- the thread at a later place
told_at : (thread : ℕ → ℕ) (acts : List NumberedAct) (stops k : ℕ) → k < stops_of acts
    → slice_get (threads_along thread stops acts) k ≡ Some (thread (stops + 1 + k) % 256)
told_at thread [] stops k there = absurd (omega (arith, there))
told_at thread (a ∷ rest) stops k there =
    by_act (λ stops k there. told_at thread rest stops k there) a.act k there where
      by_act : ((stops k : ℕ) → k < stops_of rest → slice_get (threads_along thread stops rest) k ≡ Some (thread (stops + 1 + k) % 256))
          → (b : Act) (k : ℕ) → k < stops_in b + stops_of rest
          → slice_get (threads_in thread stops b ++ threads_along thread (stops + stops_in b) rest) k ≡ Some (thread (stops + 1 + k) % 256)
      by_act again (act.Needle p float) k there = grind (arith, nat_tests, (again stops k))
      by_act again act.Trim k there = grind (arith, nat_tests, (again stops k))
      by_act again act.Stop zero there = grind (arith, nat_tests)
      by_act again act.Stop (suc k) there = grind (arith, nat_tests, (again (stops + 1) k))

told_of : (d : DesignValue) (block : ℕ) → block ≤ stops_of (acts_of d) → slice_get (threads_told d) block ≡ Some (thread_of d block % 256)
told_of d zero there = refl
told_of d (suc k) there = grind (arith, nat_tests, (told_at (thread_of d) (acts_of d) 0 k))

-- a thread that is a byte
byte_of : (threads : List ℕ) (block other : ℕ) → All (λ thread. thread < 256) threads → other < 256
    → unwrap_or (slice_get threads block) other < 256
byte_of [] block other all small = small
byte_of (t ∷ threads) zero other all small = All-head (λ thread. thread < 256) t threads all
byte_of (t ∷ threads) (suc block) other all small =
    byte_of threads block other (All-tail (λ thread. thread < 256) t threads all) small

-- what was written is the list
record IsWritten (d : DesignValue) (text : List ℕ) : Type 0 where
  none : first_refusal list_write_limits (acts_of d) ≡ None
  is : list_of d ≡ text

is_written : (d : DesignValue) (text : List ℕ) → list_writes d ≡ Ok text → IsWritten d text
is_written d text h1 = grind (arith, nat_tests, ints)

-- label and threads are kept
pub keeps_label_and_threads : AcceptedIsWithinLimits → LabelAndThreadsRoundTrip
keeps_label_and_threads small d text limits bytes written =
    let is = is_written d text written in
    let loaded : Loaded = record {
      design = record { label = d.label; threads = threads_told d; commands = commands_along (acts_of d) };
      ended = true;
    } in
    let kept : HasLabelAndThreads d loaded = record {
      label = refl;
      threads = λ block there.
          let byte = byte_of d.threads block (1 + block % 64) bytes (omega arith) in
          let same : thread_of d block % 256 ≡ thread_of d block = omega (arith, byte) in
          ap (λ o. unwrap_or o (1 + block % 64)) (told_of d block there) ∙ same;
    } in
    subst (λ (bytes : List ℕ). IsOkAnd (list_reads bytes) (λ loaded. HasLabelAndThreads d loaded)) is.is
    (subst (λ parsed. IsOkAnd (loaded_of_parsed parsed) (λ loaded. HasLabelAndThreads d loaded)) (sym (list_said small d limits is.none))
    kept)
