-- What restores a design, and what does not.
use Rattle.std.proofs.Common.{◌≡◌, ℕ, true, List, [], ◌∷◌, ◌++◌, length, Result, Ok, Err, IfOk, IsOk, IsOkAnd, codes, arith, subst, sym, true≢false}
use Rattle.pec_codec.proofs.Names.{list_all, acts_of, DesignValue, KeepsLimits, is_point_within, origin, ReadFault, WriteFault, Loaded, BlockRoundTrips, BlocksKeepLaws, RestoresDesign, pec_block_moves, pec_block_reads, pec_block_writes, acts_without_numbers}
use Rattle.design_model.specs.declared.command.Command.TheVariants.{Stitch, Stop}
use Rattle.format_traits.specs.PlainDesigns.{IsPlain}

-- the two numbers are not the same
abbrev Differ : ℕ → ℕ → Type 0
Differ m n = m ≡ n → ⊥

-- two blocks of one stitch under a label, in these threads
abbrev design : List ℕ → List ℕ → DesignValue
design label threads = record { label = label; threads = threads; commands = Stitch origin ∷ Stop ∷ Stitch origin ∷ [] }

abbrev loaded : List ℕ → List ℕ → Loaded
loaded label threads = record { design = design label threads; ended = true }

-- the last block has the thread 5 and no other
pub known_last_thread : RestoresDesign (design [] (9 ∷ 5 ∷ [])) (loaded [] (9 ∷ 6 ∷ [])) → ⊥
known_last_thread restored = other (restored.threads 1 (omega arith))
  where
    other : Differ 6 5
    other is = omega (arith, is)

-- the first block has the thread 9 and no other
pub known_first_thread : RestoresDesign (design [] (9 ∷ 5 ∷ [])) (loaded [] (8 ∷ 5 ∷ [])) → ⊥
known_first_thread restored = other (restored.threads 0 (omega arith))
  where
    other : Differ 8 9
    other is = omega (arith, is)

pub known_other_label : RestoresDesign (design (codes "a") []) (loaded [] []) → ⊥
known_other_label restored = other restored.label
  where
    other : ◌≡◌ {A = List ℕ} [] (97 ∷ []) → ⊥
    other is = cc

-- a block that is encoded is read, after any bytes, with the label, the threads and the acts, to its end
pub known_unread : BlocksKeepLaws → (d : DesignValue) (block before : List ℕ) (why : ReadFault) → KeepsLimits d
    → pec_block_writes d ≡ Ok block → pec_block_reads (length before) (before ++ block) ≡ Err why
    → ⊥
known_unread law d block before why limits written unread =
    subst (λ (r : Result Loaded ReadFault). IsOkAnd r (λ loaded. RestoresDesign d loaded)) unread
    (back law d block before limits written).read
  where
    back : BlocksKeepLaws → (d : DesignValue) (block before : List ℕ) → KeepsLimits d → pec_block_writes d ≡ Ok block
        → BlockRoundTrips d block before
    back law d block before limits written =
        subst (λ (r : Result (List ℕ) WriteFault). IfOk r (λ block. (before : List ℕ) → BlockRoundTrips d block before)) written
        (law d limits).back before

-- its moves are within the limit, and a plain design isn't refused
pub known_moves : (d : DesignValue) (block before : List ℕ) → BlockRoundTrips d block before
    → list_all (λ move. is_point_within 2047 move) (pec_block_moves (length before) (before ++ block)) ≡ true
known_moves d block before back = back.within

pub known_plain : BlocksKeepLaws → (d : DesignValue) (why : WriteFault) → KeepsLimits d → IsPlain 2047 d → pec_block_writes d ≡ Err why
    → ⊥
known_plain law d why limits plain refused =
    true≢false (sym (subst (λ (r : Result (List ℕ) WriteFault). IsOk r) refused ((law d limits).plain plain)))

-- what restores a design has its acts, and an end
pub known_restored : (d : DesignValue) (l : Loaded) → RestoresDesign d l
    → (acts_without_numbers (acts_of l.design) ≡ acts_without_numbers (acts_of d)) × (l.ended ≡ true)
known_restored d l restored = (restored.again.acts, restored.again.ended)
