-- What the theorems on PEC and PES files exclude.
use Rattle.std.proofs.Common.{◌≡◌, ℕ, ◌≤◌, true, List, Result, Ok, Err, IfOk, IsOkAnd, subst}
use Rattle.pes_codec.proofs.Names.{DesignValue, ReadFault, WriteFault, Meaning, RestoresDesign, RoundTripsWithThreads, KeepsLimits, thread_of, KeepsLabelsAndThreads}
use Rattle.design_model.specs.Acts.{acts_of, acts_without_numbers}
use Rattle.format_traits.specs.declared.loaded.Loaded.{Loaded}
use Rattle.format_traits.specs.Refusals.{stops_of}

-- the result of reading the file of a design
back : (m : Meaning) (d : DesignValue) (bytes : List ℕ) → KeepsLabelsAndThreads m → KeepsLimits d → m.writes d ≡ Ok bytes
    → IsOkAnd (m.reads bytes) (λ loaded. RestoresDesign d loaded)
back m d bytes law limits written =
    subst (λ (r : Result (List ℕ) WriteFault). IfOk r (λ bytes. RoundTripsWithThreads m d bytes)) written (law d limits)

-- a file of a design within its limits is read
pub known_unread : (m : Meaning) (d : DesignValue) (bytes : List ℕ) (why : ReadFault) → KeepsLabelsAndThreads m → KeepsLimits d
    → m.writes d ≡ Ok bytes → m.reads bytes ≡ Err why
    → ⊥
known_unread m d bytes why law limits written unread =
    subst (λ (r : Result Loaded ReadFault). IsOkAnd r (λ loaded. RestoresDesign d loaded)) unread (back m d bytes law limits written)

-- it has the label, the thread of each block, the acts, and an end
pub known_restored : (m : Meaning) (d : DesignValue) (bytes : List ℕ) (l : Loaded) (block : ℕ) → KeepsLabelsAndThreads m → KeepsLimits d
    → m.writes d ≡ Ok bytes → m.reads bytes ≡ Ok l → block ≤ stops_of (acts_of d)
    → (l.design.label ≡ d.label) × (thread_of l.design block ≡ thread_of d block)
    × (acts_without_numbers (acts_of l.design) ≡ acts_without_numbers (acts_of d)) × (l.ended ≡ true)
known_restored m d bytes l block law limits written read below =
    (restored.label, restored.threads block below, restored.again.acts, restored.again.ended)
  where
    restored : RestoresDesign d l
    restored = subst (λ (r : Result Loaded ReadFault). IsOkAnd r (λ loaded. RestoresDesign d loaded)) read
        (back m d bytes law limits written)
