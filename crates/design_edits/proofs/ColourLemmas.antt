-- Threads of blocks, where the first ones are kept.
use Rattle.std.proofs.Common.{◌≡◌, ◌≢◌, ℕ, zero, suc, ◌+◌, ◌-◌, ◌%◌, ◌<◌, ◌≤◌, true, false, [], ◌∷◌, ◌++◌, length, map, get_or, set, refl, sym, ap, ◌∙◌, arith, append_assoc, inl, inr}
use Rattle.std.proofs.Math.ListN.{get_or-append, get_or-eq_default}
use Rattle.std.proofs.lemmas.List.{length-append, get_or-append-add, get_or-set_same, get_or-set_other}
use Rattle.std.proofs.lemmas.List.FromFn.{get_or-map-range_with_len, length-map-range_with_len}
use Rattle.std.proofs.lemmas.Option.{unwrap_or-slice_get}
use Rattle.design_edits.proofs.Names.{ap₂, DesignValue, Recolours, recoloured, threads_up_to, eqb_tells, nat_tests, cases_lt, ◌==◌, ◌⊎◌, if◌then◌else◌, range_with_len, thread_of, with_thread, with_thread_at, threads_from}

-- The thread of a block that has no stored number.
abbrev pub thread_by_place : ℕ → ℕ
thread_by_place block = 1 + block % 64

-- the thread of a block is the kept number, or that one
thread_is : (d : DesignValue) (block : ℕ) → thread_of d block ≡ get_or d.threads block (thread_by_place block)
thread_is d block = unwrap_or-slice_get d.threads block (thread_by_place block)

thread_past : (d : DesignValue) (block : ℕ) → length d.threads ≤ block → thread_of d block ≡ thread_by_place block
thread_past d block past = thread_is d block ∙ get_or-eq_default d.threads (thread_by_place block) past

-- The threads after the stored numbers are those of their blocks.
threads_past : (d : DesignValue) (block count : ℕ) → length d.threads ≤ block
    → threads_from d block count ≡ map thread_by_place (range_with_len block count)
threads_past d block zero past = refl
threads_past d block (suc count) past =
    ap₂ (λ x xs. x ∷ xs) (thread_past d block past) (threads_past d (block + 1) count (omega (arith, past)))

-- the number of threads up to a place
length-threads_up_to : (d : DesignValue) (place : ℕ) → length (threads_up_to d place) ≡ length d.threads + (place + 1 - length d.threads)
length-threads_up_to d place = grind (arith, nat_tests, d.threads, length-append, length-map-range_with_len)

count_more : (place len : ℕ) → len ≤ place → place + 1 - len ≡ suc (place + 1 - (len + 1))
count_more place len below = omega arith

-- keeping the thread of the next block changes none of the threads up to a place
up_to_next : (d new : DesignValue) (place : ℕ) → length d.threads ≤ place → new ≡ with_thread d (thread_of d (length d.threads))
    → threads_up_to new place ≡ threads_up_to d place
up_to_next d new place below is =
    let len = length d.threads in
    let next = thread_of d len in
    let more = place + 1 - (len + 1) in
    let longer : length new.threads ≡ len + 1 =
    ap (λ x. length x.threads) is ∙ length-append d.threads (next ∷ []) in
    let after : threads_from new (length new.threads) (place + 1 - length new.threads)
    ≡ map thread_by_place (range_with_len (len + 1) more) =
    threads_past new (length new.threads) (place + 1 - length new.threads) (omega arith)
    ∙ ap (λ n. map thread_by_place (range_with_len n (place + 1 - n))) longer in
    let before : threads_from d len (place + 1 - len)
    ≡ thread_by_place len ∷ map thread_by_place (range_with_len (len + 1) more) =
    threads_past d len (place + 1 - len) (omega arith)
    ∙ ap (λ n. map thread_by_place (range_with_len len n)) (count_more place len below) in
    ap₂ (λ xs ys. xs ++ ys) (ap (λ x. x.threads) is) after
    ∙ append_assoc d.threads (next ∷ []) (map thread_by_place (range_with_len (len + 1) more))
    ∙ ap (λ x. d.threads ++ x ∷ map thread_by_place (range_with_len (len + 1) more))
    (thread_past d len (omega arith))
    ∙ ap (λ xs. d.threads ++ xs) (sym before)

pub keeps_on : (whole d new : DesignValue) (place : ℕ) → length d.threads ≤ place → new ≡ with_thread d (thread_of d (length d.threads))
    → record d { threads = threads_up_to d place } ≡ record whole { threads = threads_up_to whole place }
    → record new { threads = threads_up_to new place } ≡ record whole { threads = threads_up_to whole place }
keeps_on whole d new place below is so_far = grind (arith, nat_tests, d.threads, threads_up_to, up_to_next)

-- a place up to which threads are kept has one
pub place_kept : (d new : DesignValue) (place : ℕ) → new ≡ record d { threads = threads_up_to d place } → place < length new.threads
place_kept d new place is = omega (arith, ap (λ x. length x.threads) is, length-threads_up_to d place)

-- a thread up to a place is the one that its block has
kept_thread : (d : DesignValue) (place block : ℕ) → get_or (threads_up_to d place) block (thread_by_place block) ≡ thread_of d block
kept_thread d place block = by_place (cases_lt block (length d.threads)) (cases_lt block (place + 1)) where
  by_place : (block < length d.threads) ⊎ (length d.threads ≤ block) → (block < place + 1) ⊎ (place + 1 ≤ block)
      → get_or (threads_up_to d place) block (thread_by_place block) ≡ thread_of d block
  by_place (inl kept) other = grind (arith, nat_tests, get_or-append, d.threads, thread_is)
  by_place (inr past) (inl below) =
      let further = block - length d.threads in
      let split : block ≡ length d.threads + further = omega arith in
      ap (λ n. get_or (threads_up_to d place) n (thread_by_place block)) split
      ∙ get_or-append-add d.threads _ further (thread_by_place block)
      ∙ get_or-map-range_with_len (thread_of d) (length d.threads) (place + 1 - length d.threads) further block
      (thread_by_place block) (omega arith) (omega arith)
  by_place (inr past) (inr beyond) = grind (arith, nat_tests, get_or-eq_default, threads_up_to, length-threads_up_to, thread_past)

-- one block has the thread, and each other the one that it had
recolours : (place thread : ℕ) (d : DesignValue) → Recolours place thread d (recoloured place thread d)
recolours place thread d block =
    thread_is (recoloured place thread d) block ∙ by_test (eqb_tells block place) where
      by_test : (((block == place) ≡ true) × (block ≡ place)) ⊎ (((block == place) ≡ false) × (block ≢ place))
          → get_or (set (threads_up_to d place) place thread) block (thread_by_place block)
          ≡ (if block == place then thread else thread_of d block)
      by_test (inl (test, same)) = grind (arith, nat_tests, threads_up_to, get_or-set_same, length-threads_up_to)
      by_test (inr (test, differs)) = grind (arith, nat_tests, get_or-set_other, threads_up_to, kept_thread)

pub recolours_by : (place thread : ℕ) (d kept new : DesignValue) → kept ≡ record d { threads = threads_up_to d place }
    → new ≡ with_thread_at kept place thread → Recolours place thread d new
recolours_by place thread d kept new is put = grind (arith, nat_tests, recolours)
