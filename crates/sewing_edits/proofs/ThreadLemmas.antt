-- As many threads as a design may store.
use Rattle.std.proofs.Common.{◌≡◌, ℕ, ◌≤◌, List, [], ◌++◌, drop, length, take, sym, ap, ◌∙◌, arith, append-nil}
use Rattle.design_model.specs.Designs.{DesignValue}
use Rattle.sewing_edits.specs.EmptyBlocks.{needled_threads_from}
use Rattle.std.proofs.lemmas.List.{drop_all, take-append-le, take_all}

-- what follows a full list isn't taken
pub full_taken : (threads xs ys : List ℕ) → length threads ≡ 255 → take 255 (threads ++ xs) ≡ take 255 (threads ++ ys)
full_taken threads xs ys full =
    take-append-le 255 threads xs (omega (arith, full)) ∙ sym (take-append-le 255 threads ys (omega (arith, full)))

-- a list that isn't too long is taken as it is
pub few_taken : (threads : List ℕ) → length threads ≤ 255 → take 255 (threads ++ []) ≡ threads
few_taken threads few = ap (take 255) (append-nil threads) ∙ take_all 255 threads few

-- at the end all threads are stored
pub threads_end : (d old out : DesignValue) (counts : List ℕ) (block i : ℕ) → length counts ≤ i → length out.threads ≤ 255
    → out ≡ record old { threads = out.threads }
    → take 255 (out.threads ++ needled_threads_from d block (drop i counts)) ≡ take 255 (needled_threads_from d 0 counts)
    → out ≡ record old { threads = take 255 (needled_threads_from d 0 counts) }
threads_end d old out counts block i done few others threads =
    others ∙ ap (λ ts. record old { threads = ts })
    (sym (few_taken out.threads few)
    ∙ ap (λ cs. take 255 (out.threads ++ needled_threads_from d block cs)) (sym (drop_all i counts done)) ∙ threads)
