-- What keeps label and threads, and what does not.
use Rattle.std.proofs.Common.{◌≡◌, ◌≢◌, ◌∙◌, ℕ, ◌+◌, ◌<◌, ◌≤◌, true, List, [], ◌∷◌, All, Result, Ok, Err, IsOk, IsOkAnd, codes, refl, arith, subst, sym}
use Rattle.stitch_text.proofs.Names.{Stitch, Stop, DesignValue, KeepsLimits, origin, ReadFault, WriteFault, Loaded, acts_of, stops_of, thread_of, list_meaning, HasLabelAndThreads, IsTextOf, LabelAndThreadsRoundTrip, NoFloatIsTooLong, ReadsAsWritten, ReadsWhereWritten, list_reads, list_writes, All-cons, All-nil}
use Rattle.format_traits.specs.declared.fault.WriteFault.TheVariants as fault

-- the two numbers are not the same
abbrev Differ : ℕ → ℕ → Type 0
Differ m n = m ≡ n → ⊥

pub known_format : (list_meaning.ending ≡ codes "lst") × (list_meaning.limit ≡ 2047)
known_format = (refl, refl)

-- two blocks of one stitch under a label, in these threads
abbrev design : List ℕ → List ℕ → DesignValue
design label threads = record { label = label; threads = threads; commands = Stitch origin ∷ Stop ∷ Stitch origin ∷ [] }

abbrev loaded : List ℕ → List ℕ → Loaded
loaded label threads = record { design = design label threads; ended = true }

-- the last block has the thread 5 and no other
pub known_last_thread : HasLabelAndThreads (design [] (9 ∷ 5 ∷ [])) (loaded [] (9 ∷ 6 ∷ [])) → ⊥
known_last_thread kept = other (kept.threads 1 (omega arith))
  where
    other : Differ 6 5
    other is = omega (arith, is)

-- three blocks of one stitch in these threads
abbrev three_blocks : List ℕ → DesignValue
three_blocks threads =
    record { label = []; threads = threads; commands = Stitch origin ∷ Stop ∷ Stitch origin ∷ Stop ∷ Stitch origin ∷ [] }

-- the first of three blocks has the thread 9 and no other
pub refuted_first_thread : HasLabelAndThreads (three_blocks (9 ∷ 5 ∷ 7 ∷ []))
    (record { design = three_blocks (8 ∷ 5 ∷ 7 ∷ []); ended = true }) → ⊥
refuted_first_thread kept = other (kept.threads 0 (omega arith))
  where
    other : Differ 8 9
    other is = omega (arith, is)

-- the middle one of three blocks has the thread 5 and no other
pub refuted_middle_thread : HasLabelAndThreads (three_blocks (9 ∷ 5 ∷ 7 ∷ []))
    (record { design = three_blocks (9 ∷ 6 ∷ 7 ∷ []); ended = true }) → ⊥
refuted_middle_thread kept = other (kept.threads 1 (omega arith))
  where
    other : Differ 6 5
    other is = omega (arith, is)

-- no block of a design has the next thread after the design is loaded
pub refuted_thread : (d : DesignValue) (l : Loaded) → HasLabelAndThreads d l → (block : ℕ) → block ≤ stops_of (acts_of d)
    → thread_of l.design block ≡ thread_of d block + 1 → ⊥
refuted_thread d l kept block there is = absurd (omega (arith, is, kept.threads block there))

pub known_other_label : HasLabelAndThreads (design (codes "a") []) (loaded [] []) → ⊥
known_other_label kept = other kept.label
  where
    other : ◌≡◌ {A = List ℕ} [] (97 ∷ []) → ⊥
    other is = cc

-- the greatest byte is a thread
pub known_byte : LabelAndThreadsRoundTrip → (d : DesignValue) (text : List ℕ) → d.threads ≡ 255 ∷ [] → KeepsLimits d
    → list_writes d ≡ Ok text
    → IsOkAnd (list_reads text) (λ loaded. HasLabelAndThreads d loaded)
known_byte law d text is limits written = law d text limits
    (subst (All (λ thread. thread < 256)) (sym is) (byte 255 (omega arith))) written
  where
    byte : (thread : ℕ) → thread < 256 → All (λ thread. thread < 256) (thread ∷ [])
    byte thread below = All-cons (λ thread. thread < 256) thread [] below (All-nil (λ thread. thread < 256))

-- no text is that of a design beyond the limits
pub known_long_label : (text : List ℕ) → IsTextOf text (design (codes "Roses of Damascus") []) → ⊥
known_long_label text is = long is.limits.label.short
  where
    long : 17 ≤ 16 → ⊥
    long is = omega (arith, is)

-- a text is read exactly where it is that of some design, and then as the design whose text it is
pub known_canonical : ReadsWhereWritten → (text : List ℕ) (d : DesignValue) → IsTextOf text d → IsOk (list_reads text)
known_canonical law text d is = (law text).1 (d, is)

pub known_of_some : ReadsWhereWritten → (text : List ℕ) → IsOk (list_reads text) → (d : DesignValue) × KeepsLimits d
    × (list_writes d ≡ Ok text)
known_of_some law text is = let some = (law text).0 is in (some.0, some.1.limits, some.1.written)

pub known_of_it : ReadsAsWritten → (text : List ℕ) (l : Loaded) → list_reads text ≡ Ok l
    → KeepsLimits l.design × (list_writes l.design ≡ Ok text)
known_of_it law text l is = ((law text l is).limits, (law text l is).written)

-- no design is refused for a float
pub known_floats : NoFloatIsTooLong → (d : DesignValue) (number : ℕ) → list_writes d ≡ Err (fault.FloatTooLong number) → ⊥
known_floats law d number is = law d number is

-- a list that is encoded is read again, with label and threads
pub known_unread : LabelAndThreadsRoundTrip → (d : DesignValue) (text : List ℕ) (why : ReadFault) → KeepsLimits d
    → All (λ thread. thread < 256) d.threads → list_writes d ≡ Ok text
    → list_reads text ≡ Err why → ⊥
known_unread law d text why limits threads written unread =
    subst (λ (r : Result Loaded ReadFault). IsOkAnd r (λ loaded. HasLabelAndThreads d loaded)) unread (law d text limits threads written)

-- a list that is read has the label and the threads of its design
read_again : LabelAndThreadsRoundTrip → (d : DesignValue) (text : List ℕ) (l : Loaded) → KeepsLimits d
    → All (λ thread. thread < 256) d.threads → list_writes d ≡ Ok text → list_reads text ≡ Ok l → HasLabelAndThreads d l
read_again law d text l limits threads written read =
    subst (λ (r : Result Loaded ReadFault). IsOkAnd r (λ loaded. HasLabelAndThreads d loaded)) read (law d text limits threads written)

-- no block of a design has the next thread after its list is read
pub refuted_read_thread : LabelAndThreadsRoundTrip → (d : DesignValue) (text : List ℕ) (l : Loaded) → KeepsLimits d
    → All (λ thread. thread < 256) d.threads → list_writes d ≡ Ok text → list_reads text ≡ Ok l
    → (block : ℕ) → block ≤ stops_of (acts_of d) → thread_of l.design block ≡ thread_of d block + 1 → ⊥
refuted_read_thread law d text l limits threads written read =
    refuted_thread d l (read_again law d text l limits threads written read)

-- no list is read with another label than its design has
pub refuted_read_label : LabelAndThreadsRoundTrip → (d : DesignValue) (text other : List ℕ) (l : Loaded) → KeepsLimits d
    → All (λ thread. thread < 256) d.threads → list_writes d ≡ Ok text → list_reads text ≡ Ok l
    → other ≢ d.label → l.design.label ≡ other → ⊥
refuted_read_label law d text other l limits threads written read differ is =
    differ (sym is ∙ (read_again law d text l limits threads written read).label)

-- a text is that of no design with another list, or with none
pub refuted_text : (text : List ℕ) (d : DesignValue) (other : Result (List ℕ) WriteFault) → IsTextOf text d
    → other ≢ Ok text → list_writes d ≡ other → ⊥
refuted_text text d other is differ written = differ (sym written ∙ is.written)
