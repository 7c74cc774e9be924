-- The round trip of PEC and PES files, with the label and the threads.
use Rattle.std.specs.Prelude.{ℕ, List, IfOk, IsOkAnd}
use Rattle.design_model.specs.Designs.{DesignValue, KeepsLimits}
use Rattle.format_traits.specs.Meanings.{Meaning}
use Rattle.pec_codec.specs.Laws.{RestoresDesign}

-- Round trip: the bytes read as a design with the same acts, the same label and the same thread of
-- each block.
abbrev pub RoundTripsWithThreads : Meaning → DesignValue → List ℕ → Type 0
RoundTripsWithThreads m d bytes = IsOkAnd (m.reads bytes) (λ loaded. RestoresDesign d loaded)

-- The file of every design within its limits reads back with the same acts, label and threads.
abbrev pub KeepsLabelsAndThreads : Meaning → Type 0
KeepsLabelsAndThreads m = (d : DesignValue) → KeepsLimits d
    → IfOk (m.writes d) (λ bytes. RoundTripsWithThreads m d bytes)
