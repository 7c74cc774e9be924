-- Strips that widen until all parts lie in them.
use Rattle.std.proofs.Common.{◌≡◌, ◌+◌, ◌*◌, Bool, true, false, nat_lt, List, [], ◌∷◌, if◌then◌else◌, arith, refl, sym, subst, ap, ◌∙◌}
use Rattle.drawing_review.specs.declared.grid_point.GridPoint.{GridPoint}
use Rattle.drawing_review.specs.declared.strip.Direction.{Direction}
use Rattle.drawing_review.specs.declared.strip.Strip.{Strip}
use Rattle.drawing_review.specs.Strips.{is_right_of, strip_with}
use Rattle.line_meetings.specs.Outlines.{LiesInStrip, LieInStrip}
use Rattle.line_meetings.proofs.Names.{IndexedPart, nat_tests}

-- a strip has all that lies in another
pub record IsWider (outer inner : Strip) : Type 0 where
  pub along : outer.along ≡ inner.along
  pub right : is_right_of inner.along inner.right outer.right ≡ false
  pub left : is_right_of inner.along outer.left inner.left ≡ false

no_further : (d : Direction) (p q r : GridPoint) → is_right_of d p q ≡ false → is_right_of d q r ≡ false → is_right_of d p r ≡ false
no_further d p q r first second = grind (arith, nat_tests, first, second)

not_itself : (d : Direction) (p : GridPoint) → is_right_of d p p ≡ false
not_itself d p = grind (arith, nat_tests)

not_both : (d : Direction) (p q : GridPoint) → is_right_of d p q ≡ true → is_right_of d q p ≡ false
not_both d p q is = grind (arith, nat_tests, is)

-- the strip with a point has the point, and what the strip has
record HasPoint (f : Strip) (p : GridPoint) : Type 0 where
  right : is_right_of f.along p f.right ≡ false
  left : is_right_of f.along f.left p ≡ false

with_right : (d : Direction) (p r : GridPoint) → let more = if is_right_of d p r then p else r in
    (is_right_of d p more ≡ false) × (is_right_of d r more ≡ false)
with_right d p r = by_test (is_right_of d p r) refl
  where
    by_test : (b : Bool) → is_right_of d p r ≡ b → let more = if b then p else r in
        (is_right_of d p more ≡ false) × (is_right_of d r more ≡ false)
    by_test true is = (not_itself d p, not_both d p r is)
    by_test false is = (is, not_itself d r)

with_left : (d : Direction) (p l : GridPoint) → let more = if is_right_of d l p then p else l in
    (is_right_of d more p ≡ false) × (is_right_of d more l ≡ false)
with_left d p l = by_test (is_right_of d l p) refl
  where
    by_test : (b : Bool) → is_right_of d l p ≡ b → let more = if b then p else l in
        (is_right_of d more p ≡ false) × (is_right_of d more l ≡ false)
    by_test true is = (not_itself d p, not_both d l p is)
    by_test false is = (is, not_itself d l)

wider_than : (f : Strip) (p : GridPoint) → IsWider (strip_with f p) f
wider_than f p = record { along = refl; right = (with_right f.along p f.right).1; left = (with_left f.along p f.left).1 }

has_its_point : (f : Strip) (p : GridPoint) → HasPoint (strip_with f p) p
has_its_point f p = record { right = (with_right f.along p f.right).0; left = (with_left f.along p f.left).0 }

wider_still : (g f e : Strip) → IsWider g f → IsWider f e → IsWider g e
wider_still g f e outer inner = record {
  along = outer.along ∙ inner.along;
  right = no_further e.along e.right f.right g.right inner.right
      (subst (λ (d : Direction). is_right_of d f.right g.right ≡ false) inner.along outer.right);
  left = no_further e.along g.left f.left e.left (subst (λ (d : Direction). is_right_of d g.left f.left
      ≡ false) inner.along outer.left) inner.left;
}

has_still : (g f : Strip) (p : GridPoint) → IsWider g f → HasPoint f p → HasPoint g p
has_still g f p wider has = record {
  right = subst (λ (d : Direction). is_right_of d p g.right ≡ false) (sym wider.along)
      (no_further f.along p f.right g.right has.right wider.right);
  left = subst (λ (d : Direction). is_right_of d g.left p ≡ false) (sym wider.along)
      (no_further f.along g.left f.left p wider.left has.left);
}

-- In what is as wide as the strip with the next part, that part lies, and those before it.
pub widened : (f e u : Strip) (p : IndexedPart) (rest left all : List IndexedPart)
    → ((g : Strip) → IsWider g f → LieInStrip g left → LieInStrip g all) → left ≡ p ∷ rest
    → e ≡ strip_with f p.part.a → u ≡ strip_with e p.part.b → (g : Strip) → IsWider g u → LieInStrip g rest → LieInStrip g all
widened f e u p rest left all before is with_a with_b g wider more =
    before g (wider_still g first f over_first (wider_than f p.part.a)) (subst (LieInStrip g) (sym is) (lies, more))
  where
    first : Strip
    first = strip_with f p.part.a

    both : Strip
    both = strip_with first p.part.b

    over_both : IsWider g both
    over_both = subst (λ (inner : Strip). IsWider g inner) (with_b ∙ ap (λ (s : Strip). strip_with s p.part.b) with_a) wider

    over_first : IsWider g first
    over_first = wider_still g both first over_both (wider_than first p.part.b)

    a : HasPoint g p.part.a
    a = has_still g first p.part.a over_first (has_its_point f p.part.a)

    b : HasPoint g p.part.b
    b = has_still g both p.part.b over_both (has_its_point first p.part.b)

    lies : LiesInStrip g p.part
    lies = record { right_a = a.right; right_b = b.right; left_a = a.left; left_b = b.left }

pub all_lie : (f : Strip) (left all : List IndexedPart)
    → ((g : Strip) → IsWider g f → LieInStrip g left → LieInStrip g all) → left ≡ [] → LieInStrip f all
all_lie f left all before is =
    before f (record { along = refl; right = not_itself f.along f.right; left = not_itself f.along f.left })
    (subst (LieInStrip f) (sym is) tt)
