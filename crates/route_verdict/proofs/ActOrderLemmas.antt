-- Where lists of acts begin to differ.
use Rattle.std.proofs.Common.{◌≡◌, ◌≤◌, ◌<◌, ℕ, ◌+◌, ◌-◌, true, List, [], ◌∷◌, ◌++◌, Some, Result, Ok, Err, length, drop, arith, refl, sym, ◌∙◌, ap, subst}
use Rattle.route_verdict.proofs.Names.{nat_tests, append_assoc, All-tail, PieceCert, Act, Point, acts_without_numbers, Pass, DrawingValue, block_of_passes, runs_of, needles_of_walk, first_differing_act, walks_of, AllDrawn, AreDrawn, at_drop_more, length-drop, sewn_acts_after}
use Rattle.design_model.specs.declared.act.NumberedAct.{NumberedAct}
use Rattle.route_verdict.specs.ActSteps.{ComparesActs, begins_with_act, run_acts}

-- one act on
drop_step : (acts : List NumberedAct) (at : ℕ) (a : NumberedAct) (rest : List NumberedAct) → drop at acts ≡ a ∷ rest
    → (drop (at + 1) acts ≡ rest) × (at + 1 ≤ length acts)
drop_step acts at a rest is =
    let less : at < length acts = omega (arith, sym (length-drop at acts) ∙ ap (λ (xs : List NumberedAct). length xs) is) in
    (ap (λ xs. behind xs) (sym (at_drop_more (λ xs. xs) acts at a less) ∙ is), omega (arith, less))
  where
    behind : List NumberedAct → List NumberedAct
    behind [] = []
    behind (x ∷ xs) = xs

-- acts that begin with the expected one continue after it
pub begins : (acts : List NumberedAct) (at : ℕ) (expected : Act) → begins_with_act (acts_without_numbers (drop at acts)) expected ≡ true
    → ComparesActs acts at (expected ∷ []) (Ok (at + 1))
begins acts at expected is = by_rest (drop at acts) refl is
  where
    by_rest : (found : List NumberedAct) → drop at acts ≡ found → begins_with_act (acts_without_numbers found) expected ≡ true
        → ComparesActs acts at (expected ∷ []) (Ok (at + 1))
    by_rest [] here same = absurd (cc)
    by_rest (a ∷ rest) here same =
        let next = drop_step acts at a rest here in
        (next.1, λ others. rw (here, next.0, same) refl)

-- some of the expected acts are passed over, and these are left
pub record GoesOn (acts : List NumberedAct) (at : ℕ) (whole : List Act) (next : ℕ) (left : List Act) : Type 0 where
  pub there : next ≤ length acts
  pub same : (others : List Act) → first_differing_act (at + 1) (acts_without_numbers (drop at acts)) (whole ++ others)
      ≡ first_differing_act (next + 1) (acts_without_numbers (drop next acts)) (left ++ others)

regroup : (left part rest others : List Act) → left ≡ part ++ rest → left ++ others ≡ part ++ (rest ++ others)
regroup left part rest others is = ap (λ xs. xs ++ others) is ∙ append_assoc part rest others

-- the walks so far are passed over, and these are left
pub record LeftRuns (d : DrawingValue) (acts : List NumberedAct) (certs : List PieceCert) (at before : ℕ)
    (rest : List PieceCert) : Type 0 where
  pub there : at ≤ length acts
  pub drawn : AllDrawn d rest
  pub same : first_differing_act 1 (acts_without_numbers acts) (sewn_acts_after 0 (runs_of d (walks_of certs)))
      ≡ first_differing_act (at + 1) (acts_without_numbers (drop at acts)) (sewn_acts_after before (runs_of d (walks_of rest)))

abbrev walk_acts : DrawingValue → ℕ → PieceCert → List Act
walk_acts d before cert = run_acts (block_of_passes d cert.walk - before) (needles_of_walk d cert.walk)

walk_first : (d : DrawingValue) (before : ℕ) (cert : PieceCert) (rest : List PieceCert)
    → sewn_acts_after before (runs_of d (walks_of (cert ∷ rest)))
    ≡ walk_acts d before cert ++ sewn_acts_after (block_of_passes d cert.walk) (runs_of d (walks_of rest))
walk_first d before cert rest = grind (arith, nat_tests, append_assoc)

left_first : (d : DrawingValue) (before : ℕ) (left rest : List PieceCert) (cert : PieceCert) → left ≡ cert ∷ rest
    → sewn_acts_after before (runs_of d (walks_of left))
    ≡ walk_acts d before cert ++ sewn_acts_after (block_of_passes d cert.walk) (runs_of d (walks_of rest))
left_first d before left rest cert is = grind (arith, nat_tests, walk_first)

-- a walk more is passed over
pub runs_on : (d : DrawingValue) (acts : List NumberedAct) (certs : List PieceCert) (at before next : ℕ) (left rest : List PieceCert)
    (cert : PieceCert) → left ≡ cert ∷ rest → LeftRuns d acts certs at before left
    → ComparesActs acts at (walk_acts d before cert) (Ok next) → LeftRuns d acts certs next (block_of_passes d cert.walk) rest
runs_on d acts certs at before next left rest cert is on passed = record {
  there = passed.0;
  drawn = All-tail (λ (c : PieceCert). AreDrawn d c.walk) cert rest (subst (AllDrawn d) is on.drawn);
  same = on.same ∙ ap (λ xs. first_differing_act (at + 1) (acts_without_numbers (drop at acts)) xs) (left_first d before left rest cert is)
      ∙ passed.1 (sewn_acts_after (block_of_passes d cert.walk) (runs_of d (walks_of rest)));
}

-- or differs
pub runs_differ : (d : DrawingValue) (acts : List NumberedAct) (certs : List PieceCert) (at before number : ℕ)
    (left rest : List PieceCert) (cert : PieceCert)
    → left ≡ cert ∷ rest → LeftRuns d acts certs at before left → ComparesActs acts at (walk_acts d before cert) (Err number)
    → first_differing_act 1 (acts_without_numbers acts) (sewn_acts_after 0 (runs_of d (walks_of certs))) ≡ Some number
runs_differ d acts certs at before number left rest cert is on differs = grind (arith, nat_tests, left_first d before left rest cert is)

-- an act that is left differs from the end
pub more_left : (acts : List NumberedAct) (at : ℕ) → at < length acts
    → first_differing_act (at + 1) (acts_without_numbers (drop at acts)) [] ≡ Some (at + 1)
more_left acts at less = by_rest (drop at acts) (length-drop at acts)
  where
    some : (n k : ℕ) → 0 ≡ n - k → k < n → ⊥
    some n k h l = omega arith

    by_rest : (found : List NumberedAct) → length found ≡ length acts - at
        → first_differing_act (at + 1) (acts_without_numbers found) [] ≡ Some (at + 1)
    by_rest [] none = absurd (some (length acts) at none less)
    by_rest (a ∷ rest) more = refl

-- the acts of a run, as the code has its block and its needles
pub run_is : (d : DrawingValue) (acts : List NumberedAct) (at before block stops : ℕ) (walk seen other : List Pass)
    (points needles : List Point) (r : Result ℕ ℕ) → seen ≡ walk → other ≡ walk → block ≡ block_of_passes d seen → stops ≡ block - before
    → points ≡ needles → needles ≡ needles_of_walk d other → ComparesActs acts at (run_acts stops points) r
    → ComparesActs acts at (run_acts (block_of_passes d walk - before) (needles_of_walk d walk)) r
run_is d acts at before block stops walk seen other points needles r seen_is other_is block_is stops_is points_are needles_are passed =
    grind (arith, nat_tests)
