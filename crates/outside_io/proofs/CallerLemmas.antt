-- Lemmas that this crate and those above cite.
use Rattle.std.proofs.Common.{arith, inl, inr, ℕ}
use Rattle.outside_io.proofs.Names.{IsFaultless, Rose}

-- where the count is quiet it did not rise
pub no_rise : (before now : ℕ) → IsFaultless before now → Rose before now → ⊥
no_rise before now still (inl rose) = omega (arith, still.same)
no_rise before now still (inr greatest) = still.below greatest
