-- Parts with an outline that leaves out a question aren't those that it is about.
use Rattle.std.proofs.Common.{◌≡◌, ◌++◌, ◌&&◌, ◌||◌, ◌==◌, ℕ, Bool, true, false, List, [], ◌∷◌, filter, map, arith, refl, sym, subst, ap, ◌∙◌}
use Rattle.std.proofs.lemmas.List.{append-nil}
use Rattle.design_model.proofs.ListLemmas.{false_true}
use Rattle.drawing_review.specs.Meetings.{cross_inside}
use Rattle.line_meetings.specs.declared.outline.Outline.{Outline}
use Rattle.line_meetings.specs.declared.query.Query.{Query}
use Rattle.line_meetings.specs.declared.query.Query.TheVariants as query
use Rattle.line_meetings.specs.Bounds.{bounds_around}
use Rattle.line_meetings.specs.Cores.{HasCore, HaveCore, core_of, is_core_out}
use Rattle.line_meetings.specs.Outlines.{HaveOutline, is_left_out}
use Rattle.line_meetings.specs.Queries.{is_earlier}
use Rattle.drawing_review.specs.Strips.{is_beside_strip}
use Rattle.line_meetings.specs.Outlines.{LiesInStrip, LieInStrip}
use Rattle.line_meetings.specs.Touches.{do_overlap}
use Rattle.line_meetings.proofs.BoundsLemmas.{unmatched}
use Rattle.line_meetings.proofs.CoreLemmas.{none_around}
use Rattle.line_meetings.proofs.Names.{AreAllWithin, AreWithin, Bounds, IndexedPart, LineSegment, are_bounds_apart, answers_query, bounds_of, matching_indexes, nat_tests, query_bounds}
use Rattle.line_meetings.proofs.StripLemmas.{beside_apart}

none_asked : (near same asked : Bool) → asked ≡ false → (near && (same && asked)) ≡ false
none_asked near same asked none = grind (arith, nat_tests, none)

none_later : (near same earlier asked : Bool) → asked ≡ false → (near && (same && (earlier && asked))) ≡ false
none_later near same earlier asked none = grind (arith, nat_tests, none)

left_part : (q : Query) (o : Outline) (t : LineSegment) → is_left_out q (query_bounds q) o ≡ true → HasCore (core_of t) o.core
    → LiesInStrip o.strip t → answers_query q t ≡ false
left_part (query.Close gap p) o t out has lies = absurd (false_true out)
left_part (query.Beside gap p) o t out has lies = absurd (false_true out)
left_part (query.Around gap p) o t out has lies = none_asked _ _ _ (none_around gap p t o.core out has)
left_part (query.Touching s) o t out has lies =
    none_later _ (t.block == s.block) (is_earlier s t) (cross_inside s t || do_overlap s t) (beside_apart o.strip s t lies out)

none_beside : (q : Query) (o : Outline) (parts : List IndexedPart) → is_left_out q (query_bounds q) o ≡ true
    → HaveCore o.core parts → LieInStrip o.strip parts → filter (λ p. answers_query q p.part) parts ≡ []
none_beside q o [] out have lie = refl
none_beside q o (p ∷ rest) out have lie =
    grind (arith, none_beside q o rest out have.1 lie.1, left_part q o p.part out have.0 lie.0)

none_within : (q : Query) (f : Bounds) (parts : List IndexedPart) → are_bounds_apart (query_bounds q) f ≡ true
    → AreAllWithin f parts → filter (λ p. answers_query q p.part) parts ≡ []
none_within q f [] apart within = refl
none_within q f (p ∷ rest) apart within =
    grind (arith, none_within q f rest apart within.1, unmatched q p.part f within.0 apart)

none_put : (q : Query) (parts : List IndexedPart) (before : List ℕ) → filter (λ p. answers_query q p.part) parts ≡ []
    → before ≡ before ++ matching_indexes q parts
none_put q parts before none =
    sym (ap (λ (some : List IndexedPart). before ++ map (λ (p : IndexedPart). p.index) some) none ∙ append-nil before)

-- A question whose bounds are apart from those of an outline is about none of its parts.
pub none_apart : (q : Query) (f : Bounds) (o : Outline) (parts : List IndexedPart) (before : List ℕ) → f ≡ query_bounds q
    → HaveOutline o parts → are_bounds_apart f o.bounds ≡ true → before ≡ before ++ matching_indexes q parts
none_apart q f o parts before is have apart =
    none_put q parts before (none_within q o.bounds parts (subst (λ (b : Bounds). are_bounds_apart b o.bounds ≡ true) is apart) have.within)

-- A question that leaves out an outline is about none of its parts.
pub none_left : (q : Query) (f : Bounds) (o : Outline) (parts : List IndexedPart) (before : List ℕ) → f ≡ query_bounds q
    → HaveOutline o parts → is_left_out q f o ≡ true → before ≡ before ++ matching_indexes q parts
none_left q f o parts before is have out =
    none_put q parts before (none_beside q o parts (subst (λ (b : Bounds). is_left_out q b o ≡ true) is out) have.core have.strip)
