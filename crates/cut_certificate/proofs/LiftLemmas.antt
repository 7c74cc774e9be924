-- The cuts of all moats, moat by moat.
use Rattle.std.proofs.Common.{◌≡◌, ℕ, zero, suc, ◌+◌, ◌-◌, ◌<◌, ◌≤◌, min, List, [], ◌∷◌, length, All, drop, get_or, add-one, drop-cons, true, nat_le, arith, inl, inr, refl, sym, ◌∙◌, ap, subst}
use Rattle.cut_certificate.proofs.Names.{nat_tests, cases_Bool, le-leb, All-weaker, if◌then◌else◌, slice_index, Moat, width_of, Edge, is_strictly_increasing, Cut, crosses, has_member, load_on, total_weight, LiftInput, level, AddsCuts, AreCutsTo, IsLevelCut, distance_between, AreDistancesFrom, lt-leb, drop_all, All-append, sum_by-append, sum_by-cons}
use Rattle.std.proofs.lemmas.List.{length-append}
use Rattle.cut_certificate.proofs.ClimbLemmas.{climb}
use Rattle.cut_certificate.proofs.InnerLevelLemmas.{few_inner, inners}
use Rattle.cut_certificate.proofs.LevelLemmas.{insider, outsider}
use Rattle.cut_certificate.proofs.MoatCutLemmas.{member_at, members_below, members_rise}
use Rattle.cut_certificate.proofs.MoatLemmas.{Fits, IsOf}
use Rattle.cut_certificate.proofs.MoatDistanceLemmas.{level_is}

-- a cut of one of the moats
pub record IsMade (g : LiftInput) (c : Cut) : Type 0 where
  pub moat : Moat
  pub is : IsOf g.moats moat
  pub limit : ℕ
  pub low : limit < moat.width
  pub heavy : 1 ≤ c.weight
  pub rising : is_strictly_increasing c.members ≡ true
  pub there : All (λ j. j < g.size) c.members
  pub members : (j : ℕ) → j < g.size → has_member c.members j ≡ nat_le (level g moat j) limit

-- the cuts of the moats before the rest
pub record AreLifted (g : LiftInput) (rest : List Moat) (cuts : List Cut) : Type 0 where
  pub loads : (e : Edge) → e.a < g.size → e.b < g.size
      → load_on cuts e + (climb g e.a e.b rest + climb g e.b e.a rest) ≡ climb g e.a e.b g.moats + climb g e.b e.a g.moats
  pub total : total_weight cuts + width_of rest ≡ width_of g.moats
  pub each : All (IsMade g) cuts
  pub few : length cuts + (length rest + inners g rest) ≤ length g.moats + inners g g.moats

-- the cuts of one moat, by the distances from it
pub record AreCutsOf (g : LiftInput) (s : Moat) (cuts : List Cut) : Type 0 where
  pub reach : List ℕ
  pub is : AreDistancesFrom g s reach
  pub cuts_are : AreCutsTo reach s.width cuts

one_load : (w a b x y l p q r : ℕ) → min w x ≡ a → min w y ≡ b → l ≡ distance_between (min w x) (min w y)
    → (p + l) + (q + r) ≡ p + (((b - a) + q) + ((a - b) + r))
one_load w a b x y l p q r hx hy hl = omega arith

-- below the width a distance and a level are within the same limits
same_limit : (w x a limit : ℕ) → min w x ≡ a → limit < w → nat_le x limit ≡ nat_le a limit
same_limit w x a limit is low = grind (arith, nat_tests)

made : (g : LiftInput) (s : Moat) (reach : List ℕ) (c : Cut) → IsOf g.moats s → AreDistancesFrom g s reach → IsLevelCut reach s.width c
    → IsMade g c
made g s reach c is_s is cut = record {
  moat = s;
  is = is_s;
  limit = cut.limit;
  low = cut.low;
  heavy = cut.heavy;
  rising = ap is_strictly_increasing cut.members ∙ members_rise 0 cut.limit reach;
  there = subst (λ (l : List ℕ). All (λ j. j < g.size) l) (sym cut.members)
      (members_below g.size 0 cut.limit reach (omega (arith, is.sized)));
  members = λ j in_j. ap (λ (l : List ℕ). has_member l j) cut.members ∙ member_at cut.limit j reach (omega (arith, is.sized))
      ∙ same_limit s.width (slice_index reach j) (level g s j) cut.limit (level_is g s reach j is in_j) cut.low;
}

more_lifted : (g : LiftInput) (s : Moat) (after : List Moat) (old new : List Cut) → IsOf g.moats s → AreLifted g (s ∷ after) old
    → AddsCuts (AreCutsOf g s) old new → AreLifted g after new
more_lifted g s after old new is_s l a = record {
  loads = loads;
  total = omega (
    arith,
    ap total_weight a.is,
    sum_by-append (λ (c : Cut). c.weight) old a.more,
    a.kind.cuts_are.total,
    l.total,
    sum_by-cons (λ (m : Moat). m.width) s after,
  );
  each = subst (λ (cs : List Cut). All (IsMade g) cs) (sym a.is)
      (All-append (IsMade g) old a.more l.each
      (All-weaker (IsLevelCut a.kind.reach s.width) (IsMade g) (λ c cut. made g s a.kind.reach c is_s a.kind.is cut) a.more
      a.kind.cuts_are.each));
  few = omega (
    arith,
    ap (λ (cs : List Cut). length cs) a.is,
    length-append old a.more,
    few_inner g s a.kind.reach (length a.more) a.kind.is a.kind.cuts_are.few,
    l.few,
  );
}
  where
    loads : (e : Edge) → e.a < g.size → e.b < g.size
        → load_on new e + (climb g e.a e.b after + climb g e.b e.a after) ≡ climb g e.a e.b g.moats + climb g e.b e.a g.moats
    loads e in_a in_b =
        ap (λ (cs : List Cut). load_on cs e + (climb g e.a e.b after + climb g e.b e.a after)) a.is
        ∙ ap (λ (z : ℕ). z + (climb g e.a e.b after + climb g e.b e.a after))
        (sum_by-append (λ (c : Cut). if crosses c.members e then c.weight else 0) old a.more)
        ∙ one_load s.width (level g s e.a) (level g s e.b) _ _ (load_on a.more e) (load_on old e) (climb g e.a e.b after)
        (climb g e.b e.a after)
        (level_is g s a.kind.reach e.a a.kind.is in_a) (level_is g s a.kind.reach e.b a.kind.is in_b)
        (a.kind.cuts_are.loads e (omega (arith, a.kind.is.sized)) (omega (arith, a.kind.is.sized)))
        ∙ l.loads e in_a in_b

is_at : (ms : List Moat) (i : ℕ) (d : Moat) → i < length ms → IsOf ms (get_or ms i d)
is_at [] i d lt = absurd (omega arith)
is_at (x ∷ xs) zero d lt = inl refl
is_at (x ∷ xs) (suc i) d lt = inr (is_at xs i d (omega arith))

-- the cuts of one more moat
pub next_lifted : (g : LiftInput) (i : ℕ) (s : Moat) (old new : List Cut) → i < length g.moats → s ≡ get_or g.moats i s
    → AreLifted g (drop i g.moats) old → AddsCuts (AreCutsOf g s) old new → AreLifted g (drop (i + 1) g.moats) new
next_lifted g i s old new lt is l a =
    let here : drop i g.moats ≡ s ∷ drop (i + 1) g.moats
    = rw (add-one, drop-cons g.moats i s) (ap (λ (z : Moat). z ∷ drop (suc i) g.moats) (sym is)) in
    more_lifted g s (drop (i + 1) g.moats) old new (subst (λ (z : Moat). IsOf g.moats z) (sym is) (is_at g.moats i s lt))
    (subst (λ (z : List Moat). AreLifted g z old) here l) a

-- after the last moat
pub all_lifted : (g : LiftInput) (i : ℕ) (cuts : List Cut) → length g.moats ≤ i → AreLifted g (drop i g.moats) cuts → AreLifted g [] cuts
all_lifted g i cuts le l = subst (λ (z : List Moat). AreLifted g z cuts) (drop_all i g.moats le) l

-- a cut of a moat holds the junction of a terminal exactly where the moat holds the terminal
pub as_moat : (g : LiftInput) → Fits g → (c : Cut) (made : IsMade g c) (u : ℕ) → u < g.places → g.spot u < g.size
    → has_member c.members (g.spot u) ≡ has_member made.moat.members u
as_moat g f c made u fits in_u = elim (cases_Bool (has_member made.moat.members u)) [
  | inl has ↦ made.members (g.spot u) in_u ∙ le-leb _ _ (omega (arith, insider g f made.moat u fits has)) ∙ sym has
  | inr misses ↦ made.members (g.spot u) in_u ∙ lt-leb _ _ (omega (arith, made.low, outsider g f made.moat u made.is fits misses)) ∙ sym
      misses
]
