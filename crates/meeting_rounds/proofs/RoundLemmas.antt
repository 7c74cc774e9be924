-- Rounds in which nothing is done.
use Rattle.std.proofs.Common.{◌≡◌, ◌<◌, ℕ, zero, suc, ◌-◌, Bool, true, false, List, [], ◌∷◌, map, refl, ap, ◌∙◌, sym, arith}
use Rattle.std.specs.Prelude.{if◌then◌else◌}
use Rattle.meeting_rounds.specs.declared.acts.Acts.{Acts}
use Rattle.line_sections.specs.declared.spot.Spot.{Spot}
use Rattle.meeting_rounds.specs.MovedPoints.{spots_moved}
use Rattle.meeting_rounds.specs.declared.spot_moves.SpotMove.{SpotMove}
use Rattle.meeting_rounds.specs.Rounds.{after_rounds, round_acts, worked_by}
use Rattle.meeting_rounds.specs.declared.rounds.WorkedLines.{WorkedLines}

-- After a round in which nothing is done nothing changes.
pub idle_stays : (n : ℕ) (lists : Bool) (gap : ℕ) (worked : WorkedLines) (acts : Acts) → acts ≡ round_acts lists gap worked.lines
    → acts.is_idle ≡ true → after_rounds n lists gap worked ≡ worked
idle_stays zero lists gap worked acts is idle = refl
idle_stays (suc n) lists gap worked acts is idle =
    ap (λ (b : Bool). if b then worked else after_rounds n lists gap (worked_by gap (round_acts lists gap worked.lines) worked))
    (ap (λ (a : Acts). a.is_idle) (sym is) ∙ idle)

-- One round of several.
pub one_round : (n : ℕ) (lists : Bool) (gap : ℕ) (worked next : WorkedLines) (acts : Acts) → 0 < n
    → acts ≡ round_acts lists gap worked.lines → acts.is_idle ≡ false → next ≡ worked_by gap acts worked
    → after_rounds (n - 1) lists gap next ≡ after_rounds n lists gap worked
one_round zero lists gap worked next acts some is busy made = absurd (omega (arith, some))
one_round (suc n) lists gap worked next acts some is busy made =
    let back : suc n - 1 ≡ n = omega arith in
    ap (λ (k : ℕ). after_rounds k lists gap next) back
    ∙ (ap (λ (w : WorkedLines). after_rounds n lists gap w) (made ∙ ap (λ (a : Acts). worked_by gap a worked) is)
    ∙ sym (ap (λ (b : Bool). if b then worked
    else after_rounds n lists gap (worked_by gap (round_acts lists gap worked.lines) worked))
    (ap (λ (a : Acts). a.is_idle) (sym is) ∙ busy)))

-- a start or an end moves within its block
moved_blocks : (moves : List SpotMove) (spots : List Spot)
    → map (λ (s : Spot). s.block) (spots_moved moves spots) ≡ map (λ (s : Spot). s.block) spots
moved_blocks moves [] = refl
moved_blocks moves (s ∷ rest) = ap (λ (blocks : List ℕ). s.block ∷ blocks) (moved_blocks moves rest)

-- Starts stay in their blocks.
pub starts_stay : (n : ℕ) (lists : Bool) (gap : ℕ) (worked : WorkedLines)
    → map (λ (s : Spot). s.block) (after_rounds n lists gap worked).starts ≡ map (λ (s : Spot). s.block) worked.starts
starts_stay zero lists gap worked = refl
starts_stay (suc n) lists gap worked = by_test (round_acts lists gap worked.lines).is_idle
    (starts_stay n lists gap (worked_by gap (round_acts lists gap worked.lines) worked))
  where
    next : WorkedLines
    next = worked_by gap (round_acts lists gap worked.lines) worked

    by_test : (b : Bool)
        → map (λ (s : Spot). s.block) (after_rounds n lists gap next).starts ≡ map (λ (s : Spot). s.block) next.starts
        → map (λ (s : Spot). s.block) (if b then worked else after_rounds n lists gap next).starts
        ≡ map (λ (s : Spot). s.block) worked.starts
    by_test true later = refl
    by_test false later = later ∙ moved_blocks (round_acts lists gap worked.lines).moves worked.starts

-- Ends stay in their blocks.
pub ends_stay : (n : ℕ) (lists : Bool) (gap : ℕ) (worked : WorkedLines)
    → map (λ (s : Spot). s.block) (after_rounds n lists gap worked).ends ≡ map (λ (s : Spot). s.block) worked.ends
ends_stay zero lists gap worked = refl
ends_stay (suc n) lists gap worked = by_test (round_acts lists gap worked.lines).is_idle
    (ends_stay n lists gap (worked_by gap (round_acts lists gap worked.lines) worked))
  where
    next : WorkedLines
    next = worked_by gap (round_acts lists gap worked.lines) worked

    by_test : (b : Bool)
        → map (λ (s : Spot). s.block) (after_rounds n lists gap next).ends ≡ map (λ (s : Spot). s.block) next.ends
        → map (λ (s : Spot). s.block) (if b then worked else after_rounds n lists gap next).ends
        ≡ map (λ (s : Spot). s.block) worked.ends
    by_test true later = refl
    by_test false later = later ∙ moved_blocks (round_acts lists gap worked.lines).moves worked.ends
