-- Bounds that lie inside others, and parts outside of the bounds of a question.
use Rattle.std.proofs.Common.{◌≡◌, ◌++◌, ℕ, true, false, List, [], ◌∷◌, filter, map, arith, refl, sym, subst, ap, ◌∙◌}
use Rattle.std.proofs.lemmas.List.{append-nil}
use Rattle.design_model.proofs.ListLemmas.{either_way}
use Rattle.line_meetings.proofs.Names.{IndexedPart, and_left, matching_indexes, lt-ltb, ltb-true, not_from_true, AreAllWithin, AreWithin, Bounds, LineSegment, are_bounds_apart, bounds_of, answers_query, query_bounds, united_bounds}
use Rattle.line_meetings.specs.declared.query.Query.{Query}
use Rattle.line_meetings.specs.declared.span.Span.{Span}
use Rattle.line_meetings.specs.Bounds.{IsWithinSpan, are_spans_apart, united_span}

-- A span that is apart from another is apart from what lies within that.
apart_within : (q g f : Span) → IsWithinSpan g f → are_spans_apart q g ≡ true → are_spans_apart q f ≡ true
apart_within q g f inside apart =
    either_way _ _ _ _ (λ is. lt-ltb q.greatest f.least (omega (arith, ltb-true q.greatest g.least is, inside.least)))
    (λ is. lt-ltb f.greatest q.least (omega (arith, ltb-true g.greatest q.least is, inside.greatest))) apart

-- Bounds that are apart from others are apart from what lies inside those.
apart_inside : (q g f : Bounds) → AreWithin g f → are_bounds_apart q g ≡ true → are_bounds_apart q f ≡ true
apart_inside q g f inside apart =
    either_way _ _ _ _ (apart_within q.x g.x f.x inside.x) (either_way _ _ _ _ (apart_within q.y g.y f.y inside.y)
    (either_way _ _ _ _ (apart_within q.sum g.sum f.sum inside.sum)
    (either_way _ _ _ _ (apart_within q.difference g.difference f.difference inside.difference)
    (either_way _ _ _ _ (apart_within q.flat_sum g.flat_sum f.flat_sum inside.flat_sum)
    (either_way _ _ _ _ (apart_within q.steep_sum g.steep_sum f.steep_sum inside.steep_sum)
    (either_way _ _ _ _ (apart_within q.flat_difference g.flat_difference f.flat_difference inside.flat_difference)
    (apart_within q.steep_difference g.steep_difference f.steep_difference inside.steep_difference))))))) apart

first_within : (g a b : Span) → IsWithinSpan g (united_span a b) → IsWithinSpan g a
first_within g a b inside = record { least = omega (arith, inside.least); greatest = omega (arith, inside.greatest) }

second_within : (g a b : Span) → IsWithinSpan g (united_span a b) → IsWithinSpan g b
second_within g a b inside = record { least = omega (arith, inside.least); greatest = omega (arith, inside.greatest) }

within_itself : (g : Span) → IsWithinSpan g g
within_itself g = record { least = omega arith; greatest = omega arith }

first_inside : (g a b : Bounds) → AreWithin g (united_bounds a b) → AreWithin g a
first_inside g a b inside = record {
  x = first_within g.x a.x b.x inside.x;
  y = first_within g.y a.y b.y inside.y;
  sum = first_within g.sum a.sum b.sum inside.sum;
  difference = first_within g.difference a.difference b.difference inside.difference;
  flat_sum = first_within g.flat_sum a.flat_sum b.flat_sum inside.flat_sum;
  steep_sum = first_within g.steep_sum a.steep_sum b.steep_sum inside.steep_sum;
  flat_difference = first_within g.flat_difference a.flat_difference b.flat_difference inside.flat_difference;
  steep_difference = first_within g.steep_difference a.steep_difference b.steep_difference inside.steep_difference;
}

second_inside : (g a b : Bounds) → AreWithin g (united_bounds a b) → AreWithin g b
second_inside g a b inside = record {
  x = second_within g.x a.x b.x inside.x;
  y = second_within g.y a.y b.y inside.y;
  sum = second_within g.sum a.sum b.sum inside.sum;
  difference = second_within g.difference a.difference b.difference inside.difference;
  flat_sum = second_within g.flat_sum a.flat_sum b.flat_sum inside.flat_sum;
  steep_sum = second_within g.steep_sum a.steep_sum b.steep_sum inside.steep_sum;
  flat_difference = second_within g.flat_difference a.flat_difference b.flat_difference inside.flat_difference;
  steep_difference = second_within g.steep_difference a.steep_difference b.steep_difference inside.steep_difference;
}

inside_itself : (g : Bounds) → AreWithin g g
inside_itself g = record {
  x = within_itself g.x;
  y = within_itself g.y;
  sum = within_itself g.sum;
  difference = within_itself g.difference;
  flat_sum = within_itself g.flat_sum;
  steep_sum = within_itself g.steep_sum;
  flat_difference = within_itself g.flat_difference;
  steep_difference = within_itself g.steep_difference;
}

-- A part inside bounds that are apart from those of a question isn't one that it is about.
pub unmatched : (q : Query) (t : LineSegment) (g : Bounds) → AreWithin g (bounds_of t) → are_bounds_apart (query_bounds q) g ≡ true
    → answers_query q t ≡ false
unmatched q t g inside apart = and_left _ _ (not_from_true _ (apart_inside (query_bounds q) g (bounds_of t) inside apart))

-- What has the united bounds inside has the next part inside, and those before it.
pub grown : (f u : Bounds) (p : IndexedPart) (rest left all : List IndexedPart)
    → ((g : Bounds) → AreWithin g f → AreAllWithin g left → AreAllWithin g all) → left ≡ p ∷ rest
    → u ≡ united_bounds f (bounds_of p.part) → (g : Bounds) → AreWithin g u → AreAllWithin g rest → AreAllWithin g all
grown f u p rest left all before is united g inside more =
    before g (first_inside g f (bounds_of p.part) both) (subst (AreAllWithin g) (sym is) (second_inside g f (bounds_of p.part) both, more))
  where
    both : AreWithin g (united_bounds f (bounds_of p.part))
    both = subst (AreWithin g) united inside

pub all_inside : (f : Bounds) (left all : List IndexedPart)
    → ((g : Bounds) → AreWithin g f → AreAllWithin g left → AreAllWithin g all) → left ≡ [] → AreAllWithin f all
all_inside f left all before is = before f (inside_itself f) (subst (AreAllWithin f) (sym is) tt)
