-- A set that takes the place of some outer sets, and the slacks from the outer vertices.
use Rattle.std.proofs.Common.{◌≡◌, ℕ, ◌≤◌, ◌<◌, ◌⊎◌, inl, inr, suc, zero, List, length, get_or, arith, refl, ◌∙◌}
use Rattle.blossom_match.proofs.Names.{OddSetValue, count, FoldsCells, FoldsOuters, slack_from, AreOuterSlacks, IsOuterSlack, IsSlackFromOne, LowersBySet, ReachesEither, IsSoundSet, TableValue, outer_members, count_holding_both, BranchValue, FAR, around_same}
use Rattle.blossom_match.proofs.OuterSlackLemmas.{lowered_either, takes_near}

-- the outer sets that hold a vertex twice over are those that hold it
held_once : (x : ℕ) (root : OddSetValue) (tree : List BranchValue)
    → count_holding_both x x root tree ≡ count x (outer_members root.members tree)
held_once x root tree = omega (arith, around_same x root.members tree)

-- its own vertices are outer
pub set_within : (x : ℕ) (set root new_root : OddSetValue) (tree new_tree : List BranchValue)
    → FoldsOuters set root new_root tree new_tree → count x set.members ≤ count x (outer_members new_root.members new_tree)
set_within x set root new_root tree new_tree f = omega (arith, f.holds x x, held_once x new_root new_tree)

module _ (t : TableValue) (hs : List ℕ) (set root new_root : OddSetValue) (tree new_tree : List BranchValue) (reach mid new : List ℕ) where
  abbrev Folds : Type 0
  Folds = FoldsOuters set root new_root tree new_tree

  abbrev Merges : Type 0
  Merges = LowersBySet t hs set.members reach mid

  abbrev Reaches : Type 0
  Reaches = AreOuterSlacks t hs root tree reach

  abbrev IsOuter : ℕ → Type 0
  IsOuter x = 1 ≤ count x (outer_members new_root.members new_tree)

  -- outside the set the outer vertices stay
  outs : (x : ℕ) → Folds → count x set.members ≡ 0
      → count x (outer_members new_root.members new_tree) ≡ count x (outer_members root.members tree)
  outs x f none = omega (arith, held_once x root tree, held_once x new_root new_tree, f.same x x none)

  own : (x : ℕ) → Folds → count x set.members ≤ count x (outer_members new_root.members new_tree)
  own x f = set_within x set root new_root tree new_tree f

  fold_least : (n : ℕ) (a x : ℕ) → count a set.members ≡ n → Folds → Merges → Reaches → IsOuter a → x < t.places
      → count x (outer_members new_root.members new_tree) ≡ 0 → get_or mid x 0 ≤ slack_from t hs a x
  fold_least zero a x e f k r ha lx none =
      let off : count x set.members ≡ 0 = omega (arith, none, own x f) in
      omega (
        arith,
        k.less x lx,
        r.least a x (omega (arith, ha, outs a f e)) lx (omega (arith, none, outs x f off)),
      )
  fold_least (suc n) a x e f k r ha lx none = k.least a x (omega (arith, e)) lx (omega (arith, none, own x f))

  fold_both : (n m : ℕ) (a b : ℕ) → count a set.members ≡ n → count b set.members ≡ m → Folds → Merges → Reaches
      → ((x : ℕ) → count x set.members ≡ 0 → get_or new x 0 ≡ get_or mid x 0) → IsOuter a → IsOuter b → a < t.places → b < t.places
      → count_holding_both a b new_root new_tree ≡ 0 → ReachesEither t hs new a b
  fold_both zero zero a b e g f k r off ha hb la lb apart =
      lowered_either t hs reach new a b (omega (arith, off a e, k.less a la)) (omega (arith, off b g, k.less b lb))
      (r.both a b (omega (arith, ha, outs a f e)) (omega (arith, hb, outs b f g)) la lb (omega (arith, apart, f.same a b e)))
  fold_both (suc n) zero a b e g f k r off ha hb la lb apart = inl (omega (arith, off b g, k.least a b (omega (arith, e)) lb g))
  fold_both zero (suc m) a b e g f k r off ha hb la lb apart = inr (omega (arith, off a e, k.least b a (omega (arith, g)) la e))
  fold_both (suc n) (suc m) a b e g f k r off ha hb la lb apart = absurd (omega (arith, e, g, f.holds a b, apart))

  -- a slack from an outer vertex stays one from an outer vertex
  fold_from : (n : ℕ) (x left now : ℕ) → Folds → now ≡ left → count x set.members ≡ 0 → (l : IsOuterSlack t hs root tree x left)
      → count l.a set.members ≡ n → IsOuterSlack t hs new_root new_tree x now
  fold_from zero x left now f e none l off = record {
    a = l.a;
    here = omega (arith, l.here, outs l.a f off);
    apart = f.same l.a x off ∙ l.apart;
    exact = e ∙ l.exact;
  }
  fold_from (suc n) x left now f e none l on = record {
    a = l.a;
    here = omega (arith, on, own l.a f);
    apart = f.apart l.a x (omega (arith, on)) none;
    exact = e ∙ l.exact;
  }

  fold_kept : (x now : ℕ) → Folds → now ≡ get_or reach x 0 → count x set.members ≡ 0
      → (get_or reach x 0 ≡ FAR) ⊎ IsOuterSlack t hs root tree x (get_or reach x 0)
      → (now ≡ FAR) ⊎ IsOuterSlack t hs new_root new_tree x now
  fold_kept x now f e none (inl far) = inl (e ∙ far)
  fold_kept x now f e none (inr l) = inr (fold_from (count l.a set.members) x (get_or reach x 0) now f e none l refl)

  fold_moved : (x now : ℕ) → Folds → Reaches → now ≡ get_or mid x 0 → x < t.places → count x set.members ≡ 0
      → (get_or mid x 0 ≡ get_or reach x 0) ⊎ IsSlackFromOne t hs set.members x (get_or mid x 0)
      → (now ≡ FAR) ⊎ IsOuterSlack t hs new_root new_tree x now
  fold_moved x now f r e lx none (inl same) = fold_kept x now f (e ∙ same) none (r.is x lx)
  fold_moved x now f r e lx none (inr l) = inr (record {
    a = l.a;
    here = omega (arith, l.here, own l.a f);
    apart = f.apart l.a x l.here none;
    exact = e ∙ l.exact;
  })

  fold_case : (n : ℕ) (x : ℕ) → count x set.members ≡ n → Folds → Merges → Reaches
      → ((x : ℕ) → 1 ≤ count x set.members → get_or new x 0 ≡ FAR)
      → ((x : ℕ) → count x set.members ≡ 0 → get_or new x 0 ≡ get_or mid x 0) → x < t.places
      → (get_or new x 0 ≡ FAR) ⊎ IsOuterSlack t hs new_root new_tree x (get_or new x 0)
  fold_case zero x e f k r on off lx = fold_moved x (get_or new x 0) f r (off x e) lx e (k.is x lx e)
  fold_case (suc n) x e f k r on off lx = inl (on x (omega (arith, e)))

  short_case : (n : ℕ) (x : ℕ) → count x set.members ≡ n → Merges → Reaches
      → ((x : ℕ) → 1 ≤ count x set.members → get_or new x 0 ≡ FAR)
      → ((x : ℕ) → count x set.members ≡ 0 → get_or new x 0 ≡ get_or mid x 0) → x < t.places → get_or new x 0 ≤ FAR
  short_case zero x e k r on off lx = omega (arith, off x e, k.less x lx, r.short x lx)
  short_case (suc n) x e k r on off lx = omega (arith, on x (omega (arith, e)))

  fold_merged : Folds → Merges → Reaches → length new ≡ length reach → ((x : ℕ) → 1 ≤ count x set.members → get_or new x 0 ≡ FAR)
      → ((x : ℕ) → count x set.members ≡ 0 → get_or new x 0 ≡ get_or mid x 0) → AreOuterSlacks t hs new_root new_tree new
  fold_merged f k r size on off = record {
    size = size ∙ r.size;
    short = λ x lx. short_case (count x set.members) x refl k r on off lx;
    least = λ a x ha lx none. omega (
      arith,
      off x (omega (arith, none, own x f)),
      fold_least (count a set.members) a x refl f k r ha lx none,
    );
    both = λ a b ha hb la lb apart. fold_both (count a set.members) (count b set.members) a b refl refl f k r off ha hb la lb apart;
    is = λ x lx. fold_case (count x set.members) x refl f k r on off lx;
  }

-- the row of such a set is merged, and its own cells are far
pub folded : (t : TableValue) (hs : List ℕ) (set root new_root : OddSetValue) (tree new_tree : List BranchValue) (reach new : List ℕ)
    → FoldsOuters set root new_root tree new_tree → IsSoundSet t (λ (a : ℕ). get_or hs a 0) set → ((x : ℕ) → count x set.members ≤ 1)
    → length new ≡ length reach → FoldsCells set reach new → AreOuterSlacks t hs root tree reach → AreOuterSlacks t hs new_root new_tree new
folded t hs set root new_root tree new_tree reach new f sound once size cells r =
    fold_merged t hs set root new_root tree new_tree reach cells.between new f
    (takes_near t hs set reach cells.between sound once cells.size r.short cells.merged) r size cells.cleared.on cells.cleared.off
