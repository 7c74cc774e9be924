-- Worked chains and longest links of moves, and the faults of a trace.
use Rattle.std.proofs.Common.{◌≡◌, ℕ, pos, false, List, [], ◌∷◌, Result, Ok, Err, refl}
use Rattle.line_graph.specs.declared.draw_kind.DrawKind.TheVariants as kind
use Rattle.stitch_trace.specs.Traces.{IsRefusalOf}
use Rattle.stitch_trace.specs.Tracing.{GrowsAsSpecified, MeasuresMove, chain_if_any, chains_after, extended_chain, max_size_after, new_moves_by}
use Rattle.stitch_trace.specs.declared.needle_moves.NeedleMove.{NeedleMove}
use Rattle.stitch_trace.specs.declared.needle_moves.NeedleMove.TheVariants.{Stay, Gap, Sewn}
use Rattle.stitch_trace.specs.declared.trace_fault.TraceFault.{TraceFault}
use Rattle.stitch_trace.specs.declared.trace_fault.TraceFault.TheVariants as fault
use Rattle.stitch_trace.proofs.Names.{DrawKind, Link, Point, is_same_link, longest}

abbrev at : ℕ → Point
at x = record { x = pos x; y = pos 0 }

abbrev link : ℕ → ℕ → Link
link from to = record { from = at from; to = at to }

-- there, back, on, and there again: each link is new once, in either direction, and one that was sewn before is none
abbrev moves : List NeedleMove
moves = Sewn 2 (link 0 10) ∷ Sewn 3 (link 10 0) ∷ Stay ∷ Sewn 5 (link 10 25) ∷ Gap ∷ Sewn 7 (link 25 30) ∷ []

pub known_new_moves : (new_moves_by (λ other. false) moves
    ≡ Sewn 2 (link 0 10) ∷ Gap ∷ Stay ∷ Sewn 5 (link 10 25) ∷ Gap ∷ Sewn 7 (link 25 30) ∷ [])
    × (new_moves_by (is_same_link (link 30 25)) moves ≡ Sewn 2 (link 0 10) ∷ Gap ∷ Stay ∷ Sewn 5 (link 10 25) ∷ Gap ∷ Gap ∷ [])
known_new_moves = (refl, refl)

-- a chain has points, and a link begins it or goes on
pub known_chain : (chain_if_any [] ≡ []) × (chain_if_any (at 3 ∷ at 4 ∷ []) ≡ (at 3 ∷ at 4 ∷ []) ∷ [])
    × (extended_chain [] (link 3 4) ≡ at 3 ∷ at 4 ∷ []) × (extended_chain (at 9 ∷ at 3 ∷ []) (link 3 4) ≡ at 9 ∷ at 3 ∷ at 4 ∷ [])
known_chain = (refl, refl, refl, refl)

-- a gap ends a chain, and a needle that stays doesn't
pub known_chains : chains_after (at 9 ∷ at 0 ∷ []) (Sewn 2 (link 0 10) ∷ Stay ∷ Sewn 5 (link 10 25) ∷ Gap ∷ Gap ∷ Sewn 7 (link 25 30) ∷ [])
    ≡ (at 9 ∷ at 0 ∷ at 10 ∷ at 25 ∷ []) ∷ (at 25 ∷ at 30 ∷ []) ∷ []
known_chains = refl

-- the size of the longest of no links is 0
pub known_longest : (longest [] ≡ 0) × (longest (link 0 10 ∷ link 25 10 ∷ link 3 4 ∷ []) ≡ 15)
known_longest = (refl, refl)

-- the longest link so far is 12, and of these 15; one of 2048 is too long, and none at all is a fault
pub known_max_size : (max_size_after 12 moves ≡ Ok 15) × (max_size_after 99 moves ≡ Ok 99)
    × (max_size_after 12 (Gap ∷ Sewn 7 (link 0 2048) ∷ []) ≡ Err (fault.LinkTooLong 7))
    × (max_size_after 12 (Gap ∷ Sewn 7 (link 0 2047) ∷ []) ≡ Ok 2047) × (max_size_after 0 (Stay ∷ []) ≡ Err fault.NoLinks)
known_max_size = (refl, refl, refl, refl, refl)

-- a link of 15 after one of 12 makes it the longest, and one that is too long ends the measuring
pub known_measured : (more : ℕ) (why : TraceFault)
    → (MeasuresMove 12 (Sewn 5 (link 10 25)) (Ok more) → max_size_after 15 [] ≡ max_size_after more [])
    × (MeasuresMove 12 (Sewn 5 (link 10 25)) (Err why) → ⊥)
    × (MeasuresMove 12 (Sewn 7 (link 0 2048)) (Err why) → ◌≡◌ {A = Result ℕ TraceFault} (Err (fault.LinkTooLong 7)) (Err why))
known_measured more why = (λ measures. measures [], λ measures. never (measures []), λ measures. measures [])
  where
    never : ◌≡◌ {A = Result ℕ TraceFault} (Ok 15) (Err why) → ⊥
    never is = cc

-- a drawing grows to what was specified, or fails for that, or is out of memory
pub known_grown : (new : ℕ)
    → (GrowsAsSpecified {T = ℕ} (Ok 7) (Ok 1) new → ◌≡◌ {A = Result ℕ DrawKind} (Ok 7) (Ok new))
    × (GrowsAsSpecified {T = ℕ} (Ok 7) (Err kind.TooManyLines) new → ⊥)
    × (GrowsAsSpecified {T = ℕ} (Err kind.TooManyLines) (Ok 1) new → ⊥)
known_grown new = (λ grows. grows, λ is. cc, λ is. cc)

-- the fault of a drawing is one of a limit, but for memory
pub known_refusal : (why : TraceFault) → (IsRefusalOf kind.TooManyLines why → why ≡ fault.Limit kind.TooManyLines)
    × (IsRefusalOf kind.Memory why → why ≡ fault.Memory)
known_refusal why = (λ is. is, λ is. is)
