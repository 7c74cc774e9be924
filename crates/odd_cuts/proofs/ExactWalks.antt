-- The check of a walk accepts exactly the fitting ones.
use Rattle.std.proofs.Common.{◌≡◌, ◌≤◌, ℕ, ◌+◌, ◌==◌, Bool, true, false, cond, ◌&&◌, List, [], ◌∷◌, length, Option, Some, None, Result, Ok, Err, is_ok, arith, refl, sym, ◌∙◌, ap}
use Rattle.odd_cuts.proofs.Names.{nat_tests, option_or, Edge, Pass, IsValidPiece, PieceValue, given_start, given_end, after_edge, are_same_junction, covers, edge_of, pass_end, walk_start, is_fitting_walk, is_walk_start_to_end, pass_start, walk_end_from, first_fault, faults_from, missing_fault, walk_fault, pass_start_on, ChecksWalk, ends_fault, faults_at, walk_ends_fault, pass_fault, pass_faults, stays_lost, eq_self}
use Rattle.odd_cuts.specs.declared.faults.WalkFault.{WalkFault}
use Rattle.odd_cuts.specs.declared.faults.WalkFault.TheVariants as fault

-- no fault is reported
abbrev is_right : {F : Type 0} → Option F → Bool
is_right None = true
is_right (Some found) = false

-- a test that reports a fault where it fails
told : {F : Type 0} (test : Bool) (found : F) → is_right (cond test None (Some found)) ≡ test
told true found = refl
told false found = refl

-- two faults are none where neither is one
both_right : {F : Type 0} (first rest : Option F) → is_right (first_fault first rest) ≡ (is_right first && is_right rest)
both_right (Some found) rest = refl
both_right None rest = refl

by_start : (ns : List ℕ) (es : List Edge) (number : ℕ) (ps : List Pass) (e : Edge) (back t : Bool) (f : WalkFault)
    → cond t (faults_from ns es (number + 1) (pass_end e back) ps) (Some (fault.Broken number)) ≡ Some f
    → (faults_from ns es (number + 1) (pass_end e back) ps ≡ Some f → walk_end_from ns es (Some (pass_end e back)) ps ≡ None)
    → walk_end_from ns es (cond t (Some (pass_end e back)) None) ps ≡ None
by_start ns es number ps e back true f is rest = rest is
by_start ns es number ps e back false f is rest = stays_lost ns es ps

by_edge : (ns : List ℕ) (es : List Edge) (number at : ℕ) (ps : List Pass) (found : Option Edge) (back : Bool) (f : WalkFault)
    → pass_fault number at found back (λ k. faults_from ns es (number + 1) k ps) ≡ Some f
    → ((k : ℕ) → faults_from ns es (number + 1) k ps ≡ Some f → walk_end_from ns es (Some k) ps ≡ None)
    → walk_end_from ns es (after_edge found back at) ps ≡ None
by_edge ns es number at ps None back f is rest = stays_lost ns es ps
by_edge ns es number at ps (Some e) back f is rest = grind (arith, nat_tests, by_start)

-- passes with a fault lead nowhere
faulty : (ns : List ℕ) (es : List Edge) (number at : ℕ) (ps : List Pass) (f : WalkFault)
    → faults_from ns es number at ps ≡ Some f → walk_end_from ns es (Some at) ps ≡ None
faulty ns es number at [] f is = absurd (cc)
faulty ns es number at (p ∷ ps) f is =
    by_edge ns es number at ps (edge_of ns es p.line) p.back f is (λ k. λ h. faulty ns es (number + 1) k ps f h)

nowhere_from : (ns : List ℕ) (es : List Edge) (walk : List Pass) (start : Option ℕ) (f : WalkFault)
    → faults_at ns es walk start ≡ Some f → walk_end_from ns es start walk ≡ None
nowhere_from ns es walk None f is = stays_lost ns es walk
nowhere_from ns es walk (Some at) f is = faulty ns es 1 at walk f is

nowhere : (ns : List ℕ) (es : List Edge) (walk : List Pass) (f : WalkFault)
    → pass_faults ns es walk ≡ Some f → walk_end_from ns es (walk_start ns es walk) walk ≡ None
nowhere ns es [] f is = refl
nowhere ns es (p ∷ ps) f is = nowhere_from ns es (p ∷ ps) (walk_start ns es (p ∷ ps)) f is

-- and what leads nowhere has no right end
no_end : (from to start : Option ℕ) → is_right (ends_fault from to start None) ≡ false
no_end None to start = refl
no_end (Some at) to start = grind (arith, nat_tests)

wrong_end : (p : PieceValue) (walk : List Pass) (f : WalkFault) → pass_faults p.lines p.edges walk ≡ Some f
    → is_right (walk_ends_fault p walk) ≡ false
wrong_end p walk f is = rw (nowhere p.lines p.edges walk f is) (no_end (given_start p) (given_end p) (walk_start p.lines p.edges walk))

-- a pass leads from its start to its end
from_start : (ns : List ℕ) (es : List Edge) (p : Pass) (ps : List Pass) (e : Edge) → edge_of ns es p.line ≡ Some e
    → walk_end_from ns es (Some (pass_start e p.back)) (p ∷ ps) ≡ walk_end_from ns es (Some (pass_end e p.back)) ps
from_start ns es p ps e is = rw (is, eq_self (pass_start e p.back)) refl

-- a walk that is to lead from one junction to another does, where its ends have no fault
from_there : (ns : List ℕ) (es : List Edge) (at to : ℕ) (p : Pass) (ps : List Pass) (found : Option Edge) → edge_of ns es p.line ≡ found
    → are_same_junction (walk_end_from ns es (Some at) (p ∷ ps)) (Some to)
    ≡ is_right (ends_fault (Some at) (Some to) (pass_start_on (edge_of ns es p.line) p.back)
    (walk_end_from ns es (pass_start_on (edge_of ns es p.line) p.back) (p ∷ ps)))
from_there ns es at to p ps None is = rw (is, stays_lost ns es ps) refl
from_there ns es at to p ps (Some e) is = rw (is, from_start ns es p ps e is) (by_test (pass_start e p.back == at))
  where
    ended : Option ℕ → Bool
    ended from = are_same_junction (walk_end_from ns es from ps) (Some to)

    by_test : (t : Bool) → ended (cond t (Some (pass_end e p.back)) None)
        ≡ is_right (cond t (cond (ended (Some (pass_end e p.back))) None (Some fault.WrongEnd)) (Some fault.WrongStart))
    by_test true = sym (told (ended (Some (pass_end e p.back))) fault.WrongEnd)
    by_test false = rw (stays_lost ns es ps) refl

led : (ns : List ℕ) (es : List Edge) (start end : Option ℕ) (p : Pass) (ps : List Pass)
    → are_same_junction (walk_end_from ns es (option_or (option_or start end) (walk_start ns es (p ∷ ps))) (p ∷ ps))
    (option_or (option_or end start) (walk_start ns es (p ∷ ps)))
    ≡ is_right (ends_fault (option_or start end) (option_or end start) (walk_start ns es (p ∷ ps))
    (walk_end_from ns es (walk_start ns es (p ∷ ps)) (p ∷ ps)))
led ns es None None p ps = grind (arith, nat_tests)
led ns es (Some a) None p ps = from_there ns es a a p ps (edge_of ns es p.line) refl
led ns es None (Some b) p ps = from_there ns es b b p ps (edge_of ns es p.line) refl
led ns es (Some a) (Some b) p ps = from_there ns es a b p ps (edge_of ns es p.line) refl

-- each line is passed where none is missing
none_missing : (ns : List ℕ) (walk : List Pass) → is_right (missing_fault ns walk) ≡ covers ns walk
none_missing [] walk = refl
none_missing (n ∷ ns) walk = grind (arith, nat_tests, none_missing ns walk)

-- no ends are right where no pass leads there
no_pass : (from to : Option ℕ) → is_right (ends_fault from to None None) ≡ false
no_pass None to = refl
no_pass (Some at) to = refl

none_covered : (p : PieceValue) → 1 ≤ length p.lines → covers p.lines [] ≡ false
none_covered p some = by_lines p.lines some
  where
    by_lines : (ns : List ℕ) → 1 ≤ length ns → covers ns [] ≡ false
    by_lines [] h = absurd (omega (arith, h))
    by_lines (n ∷ ns) h = refl

-- the passes add nothing: one with a fault has no right end either
ends_tell : (p : PieceValue) (walk : List Pass) (found : Option WalkFault) → pass_faults p.lines p.edges walk ≡ found
    → (is_right found && (is_right (walk_ends_fault p walk) && is_right (missing_fault p.lines walk)))
    ≡ (is_right (walk_ends_fault p walk) && is_right (missing_fault p.lines walk))
ends_tell p walk None is = refl
ends_tell p walk (Some f) is = rw (wrong_end p walk f is) refl

-- a walk fits exactly where no fault is found
fits_right : (p : PieceValue) (walk : List Pass) → 1 ≤ length p.lines → is_right (walk_fault p walk) ≡ is_fitting_walk p walk
fits_right p walk some =
    both_right (pass_faults p.lines p.edges walk) (first_fault (walk_ends_fault p walk) (missing_fault p.lines walk))
    ∙ ap (λ t. is_right (pass_faults p.lines p.edges walk) && t) (both_right (walk_ends_fault p walk) (missing_fault p.lines walk))
    ∙ ends_tell p walk (pass_faults p.lines p.edges walk) refl
    ∙ by_walk walk
  where
    neither : (s t : Bool) → t ≡ false → false ≡ (s && t)
    neither true t is = sym is
    neither false t is = refl

    by_walk : (walk : List Pass) → (is_right (walk_ends_fault p walk) && is_right (missing_fault p.lines walk)) ≡ is_fitting_walk p walk
    by_walk [] = rw (no_pass (given_start p) (given_end p)) (neither (is_walk_start_to_end p []) (covers p.lines []) (none_covered p some))
    by_walk (pass ∷ rest) = rw (← led p.lines p.edges p.start p.end pass rest, none_missing p.lines (pass ∷ rest)) refl

-- so the check answers right exactly where the walk fits
pub exact_walks : (p : PieceValue) (walk : List Pass) (r : Result ℕ WalkFault) → 1 ≤ length p.lines → ChecksWalk p walk r
    → is_ok r ≡ is_fitting_walk p walk
exact_walks p walk (Ok cost) some is = sym (ap (λ (f : Option WalkFault). is_right f) is.0) ∙ fits_right p walk some
exact_walks p walk (Err f) some is = sym (ap (λ (f : Option WalkFault). is_right f) is) ∙ fits_right p walk some

-- no fault is found exactly where the walk fits
pub walks_exact : (p : PieceValue) (walk : List Pass) → IsValidPiece p
    → (walk_fault p walk ≡ None → is_fitting_walk p walk ≡ true) × (is_fitting_walk p walk ≡ true → walk_fault p walk ≡ None)
walks_exact p walk keeps = grind (arith, nat_tests, fits_right p walk keeps.some)
