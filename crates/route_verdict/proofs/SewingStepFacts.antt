-- Worked values of the steps of sewing and of comparing acts, and what the theorems on verdicts exclude.
use Rattle.std.proofs.Common.{◌≡◌, ℕ, ◌<◌, true, false, List, [], ◌∷◌, Option, Some, None, Ok, Err, length, ap, refl, arith, All, ◌+◌, ◌^◌}
use Rattle.design_model.specs.declared.act.Act.TheVariants as act
use Rattle.design_model.specs.declared.act.NumberedAct.{NumberedAct}
use Rattle.route_verdict.proofs.Names.{All-head, AllDrawn, Cut, HasShortLists, ArePieces, AreDrawn, CorrectRoutesAreAccepted, DesignValue, DrawingValue, IsCorrectRoute, IsLeastRedwork, IsVerdict, KeepsDrawingLimits, Pass, PieceCert, Stitch, Stop, Trim, YesIsLeastRedwork, later_needles, run_commands}
use Rattle.route_verdict.proofs.VerdictFacts.{at, back, cut, forth, needle, said, stroke}
use Rattle.route_verdict.specs.ActSteps.{ComparesActs, begins_with_act, run_acts}
use Rattle.route_verdict.specs.declared.verdict.Verdict.TheVariants as verdict

-- the first act alone is compared, and of no acts none is the expected one
pub known_begins : (begins_with_act (needle 3 ∷ act.Trim ∷ []) (needle 3) ≡ true)
    × (begins_with_act (needle 3 ∷ act.Trim ∷ []) act.Trim ≡ false)
    × (begins_with_act (act.Needle (at 3) true ∷ []) (needle 3) ≡ false) × (begins_with_act [] act.Stop ≡ false)
known_begins = (refl, refl, refl, refl)

-- a run has its stops, its needle points and a trim
pub known_run_acts : run_acts 2 (at 0 ∷ at 10 ∷ []) ≡ act.Stop ∷ act.Stop ∷ needle 0 ∷ needle 10 ∷ act.Trim ∷ []
known_run_acts = refl

-- from block 1 to block 3 there are two stops, and within a block none
pub known_run_commands : (run_commands 1 3 (at 0 ∷ at 10 ∷ []) ≡ Stop ∷ Stop ∷ Stitch (at 0) ∷ Stitch (at 10) ∷ Trim ∷ [])
    × (run_commands 2 2 (at 5 ∷ []) ≡ Stitch (at 5) ∷ Trim ∷ [])
known_run_commands = (refl, refl)

-- forth and back along a stroke of four steps, without the first point of each pass
pub known_later : later_needles stroke (forth 0 ∷ back 0 ∷ [])
    ≡ at 10 ∷ at 20 ∷ at 30 ∷ at 40 ∷ at 30 ∷ at 20 ∷ at 10 ∷ at 0 ∷ []
known_later = refl

-- each pass of a walk follows a line of the drawing
pub known_not_drawn : AllDrawn stroke (said 4 (forth 1 ∷ []) (cut 8 (0 ∷ [])) ∷ []) → ⊥
known_not_drawn drawn =
    let walk = All-head (λ (piece : PieceCert). AreDrawn stroke piece.walk) (said 4 (forth 1 ∷ []) (cut 8 (0 ∷ []))) [] drawn in
    let line = All-head (λ (pass : Pass). pass.line < length stroke.lines) (forth 1) [] walk in
    omega (arith, line)

-- two acts of a design
abbrev acts : List NumberedAct
acts = record { number = 1; act = needle 3 } ∷ record { number = 2; act = act.Trim } ∷ []

-- the number of an act, or 0 for none
abbrev number_of : Option ℕ → ℕ
number_of None = 0
number_of (Some number) = number

-- a comparison goes on within the acts, and only after equal ones
pub known_past : ComparesActs acts 0 (needle 3 ∷ []) (Ok 3) → ⊥
known_past compares = omega (arith, compares.0)

pub known_unequal : ComparesActs acts 0 (needle 4 ∷ []) (Ok 1) → ⊥
known_unequal compares = let numbers : 1 ≡ 0 = ap number_of (compares.1 (act.Trim ∷ [])) in omega (arith, numbers)

-- the number of a difference is that of the first one
pub known_equal : ComparesActs acts 0 (needle 3 ∷ []) (Err 1) → ⊥
known_equal compares = let numbers : 0 ≡ 1 = ap number_of (compares (act.Trim ∷ [])) in omega (arith, numbers)

pub known_other_number : ComparesActs acts 1 (act.Stop ∷ []) (Err 1) → ⊥
known_other_number compares = let numbers : 2 ≡ 1 = ap number_of (compares []) in omega (arith, numbers)

-- a correct route over the pieces of a drawing is judged yes
pub refuted_refusal : CorrectRoutesAreAccepted → (d : DrawingValue) (pieces : List (List ℕ)) (design : DesignValue)
    (certs : List PieceCert) → KeepsDrawingLimits d → ArePieces d pieces → IsCorrectRoute d pieces design certs
    → (IsVerdict d design certs verdict.Yes → ⊥) → ⊥
refuted_refusal law d pieces design certs limits are correct never = never (law d pieces design certs limits are correct)

-- what is judged yes is least redwork, and least redwork is judged yes
pub refuted_yes : YesIsLeastRedwork → (d : DrawingValue) (design : DesignValue) (certs : List PieceCert) → KeepsDrawingLimits d
    → (IsVerdict d design certs verdict.Yes → (IsLeastRedwork d design certs → ⊥) → ⊥)
    × (IsLeastRedwork d design certs → (IsVerdict d design certs verdict.Yes → ⊥) → ⊥)
refuted_yes law d design certs limits =
    (λ yes never. never ((law d design certs limits).0 yes), λ least never. never ((law d design certs limits).1 least))

-- the members of cuts in short lists are below the greatest 32-bit number
pub known_numbered : (c : PieceCert) → HasShortLists c
    → All (λ (cut_of : Cut). All (λ (j : ℕ). j + 1 < 2 ^ 32) cut_of.members) c.cuts
known_numbered c short = short.numbered
