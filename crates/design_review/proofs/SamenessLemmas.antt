-- Acts without a difference are the same.
use Rattle.std.proofs.Common.{◌≡◌, ◌∙◌, ℕ, ◌+◌, Bool, true, false, List, [], ◌∷◌, Some, None, ap, ap₂, sym, refl}
use Rattle.std.proofs.lemmas.Bool.{and_from, and_parts}
use Rattle.std.specs.Prelude.{if◌then◌else◌}
use Rattle.design_model.specs.declared.act.Act.{Act}
use Rattle.design_model.specs.declared.act.Act.TheVariants as act
use Rattle.design_model.specs.Acts.{acts_of, acts_without_numbers}
use Rattle.design_model.specs.Points.{is_same_point}
use Rattle.design_model.proofs.CallerLemmas.{point_itself, same_is}
use Rattle.design_review.specs.Differences.{act_difference_at, act_difference_from, is_same_act, is_same_truth}
use Rattle.design_review.specs.Sameness.{NoDifferenceIsSameness}

same_truth : (a b : Bool) → is_same_truth a b ≡ true → a ≡ b
same_truth true b is = sym is
same_truth false true is = is
same_truth false false is = refl

truth_itself : (a : Bool) → is_same_truth a a ≡ true
truth_itself true = refl
truth_itself false = refl

same_act : (a b : Act) → is_same_act a b ≡ true → a ≡ b
same_act (act.Needle p float) (act.Needle q carried) is =
    let both = and_parts (is_same_point p q) (is_same_truth float carried) is in
    ap₂ act.Needle (same_is p q both.0) (same_truth float carried both.1)
same_act act.Trim act.Trim is = refl
same_act act.Stop act.Stop is = refl
same_act (act.Needle p float) act.Trim is = cc
same_act (act.Needle p float) act.Stop is = cc
same_act act.Trim (act.Needle q carried) is = cc
same_act act.Trim act.Stop is = cc
same_act act.Stop (act.Needle q carried) is = cc
same_act act.Stop act.Trim is = cc

act_itself : (a : Act) → is_same_act a a ≡ true
act_itself (act.Needle p float) = and_from (is_same_point p p) (is_same_truth float float) (point_itself p) (truth_itself float)
act_itself act.Trim = refl
act_itself act.Stop = refl

none_by_test : (t : Bool) (n : ℕ) (a b : Act) (rest others : List Act)
    → (if t then act_difference_from (n + 1) rest others else act_difference_at n (Some a) (Some b)) ≡ None → t ≡ true
none_by_test true n a b rest others none = refl
none_by_test false n a b rest others none = cc

-- acts without a difference are the same
no_difference : (n : ℕ) (xs ys : List Act) → act_difference_from n xs ys ≡ None → xs ≡ ys
no_difference n [] [] none = refl
no_difference n (a ∷ rest) [] none = cc
no_difference n [] (b ∷ others) none = cc
no_difference n (a ∷ rest) (b ∷ others) none =
    let same : is_same_act a b ≡ true = none_by_test (is_same_act a b) n a b rest others none in
    let left : act_difference_from (n + 1) rest others ≡ None =
    sym (ap (λ (t : Bool). if t then act_difference_from (n + 1) rest others else act_difference_at n (Some a) (Some b)) same) ∙ none in
    ap₂ (λ (x : Act) (xs : List Act). x ∷ xs) (same_act a b same) (no_difference (n + 1) rest others left)

-- and the same acts have none
itself : (n : ℕ) (xs : List Act) → act_difference_from n xs xs ≡ None
itself n [] = refl
itself n (a ∷ rest) = rw (act_itself a) (itself (n + 1) rest)

pub sameness : NoDifferenceIsSameness
sameness first second = (
  no_difference 1 (acts_without_numbers (acts_of first)) (acts_without_numbers (acts_of second)),
  λ same. rw same (itself 1 (acts_without_numbers (acts_of second))),
)
