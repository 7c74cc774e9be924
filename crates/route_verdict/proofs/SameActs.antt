-- Acts and lists of them are the same exactly where no difference is found.
use Rattle.std.proofs.Common.{◌≡◌, ℕ, ◌+◌, Bool, true, false, cond, List, [], ◌∷◌, Some, None, refl, ◌∙◌, ap, arith}
use Rattle.std.proofs.lemmas.Bool.{and_from}
use Rattle.route_verdict.proofs.Names.{nat_tests, Act, first_differing_act, is_same_point, is_same_act, are_equal_bools}
use Rattle.design_model.specs.declared.act.Act.TheVariants as act
use Rattle.design_model.proofs.CallerLemmas.{point_itself}

answer_itself : (a : Bool) → are_equal_bools a a ≡ true
answer_itself true = refl
answer_itself false = refl

same_act : (a b : Act) → is_same_act a b ≡ true → a ≡ b
same_act (act.Needle p float) (act.Needle q other) is = grind (arith, nat_tests)
same_act (act.Needle p float) act.Trim is = absurd (cc)
same_act (act.Needle p float) act.Stop is = absurd (cc)
same_act act.Trim (act.Needle q other) is = absurd (cc)
same_act act.Trim act.Trim is = refl
same_act act.Trim act.Stop is = absurd (cc)
same_act act.Stop (act.Needle q other) is = absurd (cc)
same_act act.Stop act.Trim is = absurd (cc)
same_act act.Stop act.Stop is = refl

act_itself : (a : Act) → is_same_act a a ≡ true
act_itself (act.Needle p float) = and_from (is_same_point p p) (are_equal_bools float float) (point_itself p) (answer_itself float)
act_itself act.Trim = refl
act_itself act.Stop = refl

-- lists without a difference are the same
pub no_difference : (number : ℕ) (acts others : List Act) → first_differing_act number acts others ≡ None → acts ≡ others
no_difference number [] [] is = refl
no_difference number [] (b ∷ others) is = absurd (cc)
no_difference number (a ∷ acts) [] is = absurd (cc)
no_difference number (a ∷ acts) (b ∷ others) is = by_test (is_same_act a b) refl is (λ h. no_difference (number + 1) acts others h)
  where
    by_test : (t : Bool) → is_same_act a b ≡ t → cond t (first_differing_act (number + 1) acts others) (Some number) ≡ None
        → (first_differing_act (number + 1) acts others ≡ None → acts ≡ others) → (a ∷ acts) ≡ (b ∷ others)
    by_test true here none rest = ap (λ (x : Act). x ∷ acts) (same_act a b here) ∙ ap (λ (xs : List Act). b ∷ xs) (rest none)
    by_test false here none rest = absurd (cc)

-- and a list has none with itself
pub none_with_itself : (number : ℕ) (acts : List Act) → first_differing_act number acts acts ≡ None
none_with_itself number [] = refl
none_with_itself number (a ∷ acts) = rw (act_itself a, none_with_itself (number + 1) acts) refl
