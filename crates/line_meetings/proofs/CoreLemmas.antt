-- Cores of parts, and segments that have a core which reaches out of a square.
use Rattle.std.proofs.Common.{◌≡◌, ◌&&◌, ◌||◌, ℕ, max, Bool, true, false, nat_le, List, [], ◌∷◌, arith, refl, sym, subst, ap, ◌∙◌}
use Rattle.std.specs.Int.{abs_diff}
use Rattle.line_meetings.specs.declared.part_core.Core.{Core}
use Rattle.line_meetings.specs.declared.span.Span.{Span}
use Rattle.line_meetings.specs.Bounds.{IsWithinSpan, bounds_around, span_around, span_between}
use Rattle.line_meetings.specs.Cores.{HasCore, HaveCore, common_core, common_span, core_of, is_core_out, reaches_out}
use Rattle.line_meetings.specs.Touches.{are_close}
use Rattle.line_meetings.proofs.Names.{IndexedPart, LineSegment, nat_tests}

-- An end of a segment is farther than the gap away where its span has a core that reaches out.
far_ends : (gap p a b m n : ℕ) (c : Span) → IsWithinSpan (span_between a b) c → reaches_out c (span_around p gap) ≡ true
    → (nat_le (max (abs_diff p a) m) gap && nat_le (max (abs_diff p b) n) gap) ≡ false
far_ends gap p a b m n c inside out = grind (arith, nat_tests, out, inside.least, inside.greatest)

far_ends_down : (gap p a b m n : ℕ) (c : Span) → IsWithinSpan (span_between a b) c → reaches_out c (span_around p gap) ≡ true
    → (nat_le (max m (abs_diff p a)) gap && nat_le (max n (abs_diff p b)) gap) ≡ false
far_ends_down gap p a b m n c inside out = grind (arith, nat_tests, out, inside.least, inside.greatest)

-- A segment that has a core which reaches out of a square isn't inside the square.
pub none_around : (gap : ℕ) (p t : LineSegment) (c : Core) → is_core_out c (bounds_around gap p.a) ≡ true → HasCore (core_of t) c
    → (are_close gap p.a t.a && are_close gap p.a t.b) ≡ false
none_around gap p t c out has = by_test (reaches_out c.x (span_around p.a.x gap)) refl
  where
    by_test : (b : Bool) → reaches_out c.x (span_around p.a.x gap) ≡ b → (are_close gap p.a t.a && are_close gap p.a t.b) ≡ false
    by_test true is = far_ends gap p.a.x t.a.x t.b.x (abs_diff p.a.y t.a.y) (abs_diff p.a.y t.b.y) c.x has.x is
    by_test false is =
        far_ends_down gap p.a.y t.a.y t.b.y (abs_diff p.a.x t.a.x) (abs_diff p.a.x t.b.x) c.y has.y
        (sym (ap (λ (b : Bool). b || reaches_out c.y (span_around p.a.y gap)) is) ∙ out)

within_first : (g a b : Span) → IsWithinSpan (common_span a b) g → IsWithinSpan a g
within_first g a b inside = record { least = omega (arith, inside.least); greatest = omega (arith, inside.greatest) }

within_second : (g a b : Span) → IsWithinSpan (common_span a b) g → IsWithinSpan b g
within_second g a b inside = record { least = omega (arith, inside.least); greatest = omega (arith, inside.greatest) }

within_itself : (g : Span) → IsWithinSpan g g
within_itself g = record { least = omega arith; greatest = omega arith }

-- What lies in the common core lies in the next part, and in those before it.
pub narrowed : (f u : Core) (p : IndexedPart) (rest left all : List IndexedPart)
    → ((g : Core) → HasCore f g → HaveCore g left → HaveCore g all) → left ≡ p ∷ rest
    → u ≡ common_core f (core_of p.part) → (g : Core) → HasCore u g → HaveCore g rest → HaveCore g all
narrowed f u p rest left all before is common g inside more =
    before g first (subst (HaveCore g) (sym is) (second, more))
  where
    both : HasCore (common_core f (core_of p.part)) g
    both = subst (λ (outer : Core). HasCore outer g) common inside

    first : HasCore f g
    first = record { x = within_first g.x f.x (core_of p.part).x both.x; y = within_first g.y f.y (core_of p.part).y both.y }

    second : HasCore (core_of p.part) g
    second = record { x = within_second g.x f.x (core_of p.part).x both.x; y = within_second g.y f.y (core_of p.part).y both.y }

pub all_have : (f : Core) (left all : List IndexedPart)
    → ((g : Core) → HasCore f g → HaveCore g left → HaveCore g all) → left ≡ [] → HaveCore f all
all_have f left all before is =
    before f (record { x = within_itself f.x; y = within_itself f.y }) (subst (HaveCore f) (sym is) tt)
