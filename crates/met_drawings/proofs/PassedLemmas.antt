-- The segments passed so far, in a set, with one more.
use Rattle.std.proofs.Common.{◌≡◌, Bool, true, false, ◌||◌, cond, List, [], ◌∷◌, ◌++◌, ap, ◌∙◌, sym, arith}
use Rattle.std.proofs.lemmas.Bool.Decides.{nat_tests}
use Rattle.std.proofs.lemmas.List.Folds.{list_any-append}
use Rattle.std.specs.List.{list_any}
use Rattle.design_model.proofs.CallerLemmas.{same_back}
use Rattle.met_drawings.specs.PassedSegments.{is_same_passed}
use Rattle.met_drawings.specs.declared.passed_segments.PassedSegment.{PassedSegment}

same_either_way : (s t : PassedSegment) → is_same_passed s t ≡ is_same_passed t s
same_either_way s t = grind (arith, nat_tests, (same_back s.from t.from), (same_back s.to t.to))

either : (a b : Bool) → cond a true b ≡ (b || (a || false))
either a b = grind (arith, nat_tests)

-- A segment is among those with one more exactly where it is that one or was among them.
pub passed_with : (k : PassedSegment) (all : List PassedSegment) (old new : PassedSegment → Bool)
    → ((q : PassedSegment) → new q ≡ cond (is_same_passed k q) true (old q))
    → ((q : PassedSegment) → old q ≡ list_any (is_same_passed q) all) → (q : PassedSegment)
    → new q ≡ list_any (is_same_passed q) (all ++ k ∷ [])
passed_with k all old new put was q =
    put q ∙ (ap (λ (b : Bool). cond (is_same_passed k q) true b) (was q)
    ∙ (ap (λ (b : Bool). cond b true (list_any (is_same_passed q) all)) (same_either_way k q)
    ∙ (either (is_same_passed q k) (list_any (is_same_passed q) all) ∙ sym (list_any-append (is_same_passed q) all (k ∷ [])))))
