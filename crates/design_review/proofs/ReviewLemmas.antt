-- The needles of acts, and places of acts one after another.
use Rattle.std.proofs.Common.{◌≡◌, ◌∙◌, ℕ, zero, suc, ◌+◌, ◌==◌, ◌≤◌, Bool, true, false, ◌||◌, List, [], ◌∷◌, ◌++◌, IsTrue, drop, length, map, ap, sym, refl, subst, append_assoc, arith}
use Rattle.std.proofs.lemmas.Bool.{and_from, and_parts}
use Rattle.std.specs.List.{list_all}
use Rattle.design_model.specs.declared.act.Act.{Act}
use Rattle.design_model.specs.declared.act.Act.TheVariants as act
use Rattle.design_model.specs.declared.act.NumberedAct.{NumberedAct}
use Rattle.design_model.specs.declared.command.Command.{Command}
use Rattle.design_model.specs.declared.command.Command.TheVariants.{Stitch, Jump, Trim, Stop}
use Rattle.design_model.specs.declared.point.Point.{Point}
use Rattle.design_model.specs.declared.point.TheConstants.{NEEDLE_LIMIT}
use Rattle.design_model.specs.ActPositions.{is_act_in_range}
use Rattle.design_model.specs.Acts.{acts_from}
use Rattle.design_model.specs.Commands.{is_command_in_range}
use Rattle.design_model.specs.Extents.{needle_points_of_acts}
use Rattle.design_model.specs.Points.{is_point_within}
use Rattle.design_model.proofs.CallerLemmas.{are_in_range}
use Rattle.design_model.proofs.ListLemmas.{eq_self}
use Rattle.design_review.specs.declared.place.DesignPlace.{DesignPlace}
use Rattle.design_review.specs.declared.sewn.Sewn.{Sewn}
use Rattle.design_review.specs.Crowds.{has_key}
use Rattle.design_review.specs.KnownReviews.{IsNeedleAmong}
use Rattle.design_review.specs.NeedleKeys.{key_of}
use Rattle.design_review.specs.Places.{Review, places_from, places_of_act, reported_after_act}
use Rattle.design_review.specs.SewnActs.{sewn_after}
use Rattle.design_review.specs.Ties.{thread_needles_of_acts}

-- the needles of acts in range are in range
pub needles_in_range : (acts : List NumberedAct) → IsTrue (are_in_range acts)
    → IsTrue (list_all (is_point_within NEEDLE_LIMIT) (needle_points_of_acts acts))
needles_in_range [] all = refl
needles_in_range (a ∷ rest) all =
    let both = and_parts (is_act_in_range a.act) (are_in_range rest) all in by_act a.act refl both.0 (needles_in_range rest both.1)
  where
    by_act : (one : Act) → a.act ≡ one → IsTrue (is_act_in_range a.act)
        → IsTrue (list_all (is_point_within NEEDLE_LIMIT) (needle_points_of_acts rest))
        → IsTrue (list_all (is_point_within NEEDLE_LIMIT) (needle_points_of_acts (a ∷ rest)))
    by_act (act.Needle p float) is here others = rw is (and_from (is_point_within NEEDLE_LIMIT p)
        (list_all (is_point_within NEEDLE_LIMIT) (needle_points_of_acts rest)) (subst (λ (x : Act). IsTrue (is_act_in_range x)) is here)
        others)
    by_act act.Trim is here others = rw is others
    by_act act.Stop is here others = rw is others

-- there are as many needles as their points
pub as_many_needles : (acts : List NumberedAct) → length (thread_needles_of_acts acts) ≡ length (needle_points_of_acts acts)
as_many_needles [] = refl
as_many_needles (a ∷ rest) = by_act a.act refl (as_many_needles rest)
  where
    by_act : (one : Act) → a.act ≡ one → length (thread_needles_of_acts rest) ≡ length (needle_points_of_acts rest)
        → length (thread_needles_of_acts (a ∷ rest)) ≡ length (needle_points_of_acts (a ∷ rest))
    by_act (act.Needle p float) is same = rw is (ap (λ (n : ℕ). suc n) same)
    by_act act.Trim is same = rw is same
    by_act act.Stop is same = rw is same

-- there are no more needles than commands
pub few_needles : (n : ℕ) (loose jumped : Bool) (commands : List Command)
    → length (needle_points_of_acts (acts_from n loose jumped commands)) ≤ length commands
few_needles n loose jumped [] = omega arith
few_needles n loose jumped (Stitch p ∷ rest) = omega (arith, few_needles (n + 1) false false rest)
few_needles n loose jumped (Jump p ∷ rest) = omega (arith, few_needles (n + 1) loose true rest)
few_needles n true jumped (Trim ∷ rest) = omega (arith, few_needles (n + 1) true jumped rest)
few_needles n false jumped (Trim ∷ rest) = omega (arith, few_needles (n + 1) true false rest)
few_needles n loose jumped (Stop ∷ rest) = omega (arith, few_needles (n + 1) true false rest)

-- of commands in range those that are left are
pub all_dropped : (commands : List Command) (i : ℕ) → IsTrue (list_all is_command_in_range (drop i commands))
    → IsTrue (list_all is_command_in_range (drop (i + 1) commands))
all_dropped [] zero all = all
all_dropped [] (suc i) all =
    let next : suc i + 1 ≡ suc (i + 1) = omega arith in
    subst (λ (m : ℕ). IsTrue (list_all is_command_in_range (drop {A = Command} m []))) (sym next) all
all_dropped (c ∷ rest) zero all = (and_parts (is_command_in_range c) (list_all is_command_in_range rest) all).1
all_dropped (c ∷ rest) (suc i) all =
    let next : suc i + 1 ≡ suc (i + 1) = omega arith in
    subst (λ (m : ℕ). IsTrue (list_all is_command_in_range (drop m (c ∷ rest)))) (sym next) (all_dropped rest i all)

-- what is left of a list begins with one of its items
dropped_next : (xs : List Point) (n : ℕ) (p : Point) (rest : List Point) → drop n xs ≡ p ∷ rest
    → (n + 1 ≤ length xs) × ((drop (n + 1) xs ≡ rest) × IsTrue (has_key (map key_of xs) (key_of p)))
dropped_next [] zero p rest is = cc
dropped_next [] (suc n) p rest is = cc
dropped_next (x ∷ xs) zero p rest is =
    let same : x ≡ p = cc in
    let others : xs ≡ rest = cc in
    (omega arith, (others, rw same (rw (eq_self (key_of p)) refl)))
dropped_next (x ∷ xs) (suc n) p rest is =
    let later = dropped_next xs n p rest is in
    let next : suc n + 1 ≡ suc (n + 1) = omega arith in
    (omega (arith, later.0), (ap (λ (m : ℕ). drop m (x ∷ xs)) next ∙ later.1.0, rw later.1.1 (or_true (key_of x == key_of p))))
  where
    or_true : (t : Bool) → (t || true) ≡ true
    or_true true = refl
    or_true false = refl

-- The needles so far are within those of the design, and those that are left are the needles of the acts that are left.
pub record HasNeedles (needles : List Point) (sewn : Sewn) (acts : List NumberedAct) : Type 0 where
  pub within : sewn.needles ≤ length needles
  pub left : drop sewn.needles needles ≡ needle_points_of_acts acts

pub needle_among : (needles : List Point) (sewn : Sewn) (a : NumberedAct) (rest : List NumberedAct)
    → HasNeedles needles sewn (a ∷ rest) → IsNeedleAmong needles a.act
needle_among needles sewn a rest has = by_act a.act refl
  where
    by_act : (one : Act) → a.act ≡ one → IsNeedleAmong needles one
    by_act (act.Needle p float) is = (dropped_next needles sewn.needles p (needle_points_of_acts rest) (rw is at has.left)).1.1
    by_act act.Trim is = tt
    by_act act.Stop is = tt

pub needles_next : (needles : List Point) (sewn : Sewn) (a : NumberedAct) (rest : List NumberedAct)
    → HasNeedles needles sewn (a ∷ rest) → HasNeedles needles (sewn_after sewn a.act) rest
needles_next needles sewn a rest has = by_act a.act refl
  where
    by_act : (one : Act) → a.act ≡ one → HasNeedles needles (sewn_after sewn one) rest
    by_act (act.Needle p float) is =
        let next = dropped_next needles sewn.needles p (needle_points_of_acts rest) (rw is at has.left) in
        record { within = next.0; left = next.1.0 }
    by_act act.Trim is = record { within = has.within; left = rw is at has.left }
    by_act act.Stop is = record { within = has.within; left = rw is at has.left }

-- the places of an act, and then those of the acts after it
pub places_next : (review : Review) (reported : List Point) (sewn : Sewn) (a : NumberedAct) (rest : List NumberedAct)
    (old new all : List DesignPlace) → new ≡ old ++ places_of_act review reported sewn a.number a.act
    → old ++ places_from review reported sewn (a ∷ rest) ≡ all
    → new ++ places_from review (reported_after_act review reported a.act) (sewn_after sewn a.act) rest ≡ all
places_next review reported sewn a rest old new all put is =
    ap (λ (ps : List DesignPlace). ps ++ places_from review (reported_after_act review reported a.act) (sewn_after sewn a.act) rest) put
    ∙ append_assoc old _ _ ∙ is
