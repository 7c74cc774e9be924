-- The threads of the first blocks of a design. Own rule: a thread can be set for the blocks 0 to
-- 254, the colour places.
use Rattle.std.specs.Prelude.{◌≡◌, ◌==◌, ℕ, ◌+◌, ◌-◌, ◌<◌, ◌≤◌, min, List, ◌++◌, length, map, slice_set, Result, Ok, Err, if◌then◌else◌}
use Rattle.std.specs.List.{range_with_len}
use Rattle.design_model.specs.declared.design.TheConstants.{MAX_THREADS}
use Rattle.design_model.specs.Counts.{counts_of}
use Rattle.design_model.specs.Designs.{DesignValue, thread_of}
use Rattle.design_edits.specs.declared.edit_fault.EditFault.{EditFault}
use Rattle.design_edits.specs.declared.edit_fault.EditFault.TheVariants as fault

-- The number of colour places: the number of blocks, which is that of stops plus 1, but at most
-- MAX_THREADS.
abbrev pub colour_place_count : DesignValue → ℕ
colour_place_count d = min ((counts_of d).stops + 1) MAX_THREADS

-- The threads of `count` blocks, from one block on.
abbrev pub threads_from : DesignValue → ℕ → ℕ → List ℕ
threads_from d block count = map (thread_of d) (range_with_len block count)

-- The stored thread numbers, followed by the threads of the other blocks up to a place.
abbrev pub threads_up_to : DesignValue → ℕ → List ℕ
threads_up_to d place = d.threads ++ threads_from d (length d.threads)
    (place + 1 - length d.threads)

-- The design with a thread set for one block. The threads of all other blocks are unchanged.
abbrev pub recoloured : ℕ → ℕ → DesignValue → DesignValue
recoloured place thread d = record d { threads = slice_set (threads_up_to d place) place thread }

-- The block has that thread, and the threads of all other blocks are unchanged.
abbrev pub Recolours : ℕ → ℕ → DesignValue → DesignValue → Type 0
Recolours place thread old new =
    (block : ℕ) → thread_of new block ≡ (if block == place then thread else thread_of old block)

-- The results of setting a thread. An error leaves the design unchanged.
abbrev pub IsRecolourResult : {T : Type 0} → ℕ → ℕ → DesignValue → Result T EditFault → DesignValue
    → Type 0
IsRecolourResult place thread old (Ok _) new = (place < colour_place_count old)
    × (new ≡ recoloured place thread old)
IsRecolourResult place thread old (Err (fault.Range number)) new = ⊥
IsRecolourResult place thread old (Err (fault.NoPlace count)) new =
    (colour_place_count old ≤ place) × (count ≡ colour_place_count old) × (new ≡ old)
