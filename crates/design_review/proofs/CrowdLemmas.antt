-- Crowds by keys are those of needles, and so are the keys of reported ones.
use Rattle.std.proofs.Common.{◌≡◌, ◌∙◌, ℕ, ◌+◌, ◌-◌, ◌==◌, Bool, true, false, not, ◌&&◌, ◌||◌, nat_le, List, [], ◌∷◌, Option, Some, None, IsTrue, map, ap, sym, refl, arith}
use Rattle.std.proofs.lemmas.Bool.{and_parts}
use Rattle.std.proofs.lemmas.List.Sorted.{list_any-IsPermutation, sum_by-IsPermutation}
use Rattle.std.proofs.lemmas.List.Sums.{sum_by-cons}
use Rattle.std.specs.List.{list_all}
use Rattle.std.specs.List.Sorted.{IsPermutation}
use Rattle.std.specs.Prelude.{if◌then◌else◌}
use Rattle.design_model.specs.declared.point.Point.{Point}
use Rattle.design_model.specs.declared.point.TheConstants.{NEEDLE_LIMIT}
use Rattle.design_model.specs.Points.{is_point_within}
use Rattle.design_model.proofs.ListLemmas.{eq_self, same_number, unequal}
use Rattle.design_review.specs.Crowds.{crowd_at, crowd_of, has_key}
use Rattle.design_review.specs.Holes.{are_in_one_hole, needles_in_hole}
use Rattle.design_review.specs.NeedleKeys.{count_between, count_near, key_of}
use Rattle.design_review.proofs.KeyLemmas.{in_one_hole, in_windows}
use Rattle.design_review.proofs.WindowLemmas.{between_cons, one_between}

near_cons : (x : ℕ) (xs : List ℕ) (key : ℕ) → count_near (x ∷ xs) key ≡ in_windows key x + count_near xs key
near_cons x xs key = omega (
  arith,
  between_cons x xs (key - 131072) (key - 131072),
  between_cons x xs (key - 65537) (key - 65535),
  between_cons x xs (key - 2) (key + 2),
  between_cons x xs (key + 65535) (key + 65537),
  between_cons x xs (key + 131072) (key + 131072),
)

-- as many keys are near the key of a needle as needles are in one hole with it
pub counted : (needles : List Point) (p : Point) → IsTrue (is_point_within NEEDLE_LIMIT p)
    → IsTrue (list_all (is_point_within NEEDLE_LIMIT) needles) → count_near (map key_of needles) (key_of p) ≡ needles_in_hole needles p
counted [] p here all = refl
counted (q ∷ rest) p here all =
    let both = and_parts (is_point_within NEEDLE_LIMIT q) (list_all (is_point_within NEEDLE_LIMIT) rest) all in
    omega (
      arith,
      near_cons (key_of q) (map key_of rest) (key_of p),
      in_one_hole p q here both.0,
      sum_by-cons (λ r. if are_in_one_hole p r then 1 else 0) q rest,
      counted rest p here both.1,
    )

between_permuted : (xs ys : List ℕ) (least greatest : ℕ) → IsPermutation xs ys
    → count_between ys least greatest ≡ count_between xs least greatest
between_permuted xs ys least greatest moved = sum_by-IsPermutation (one_between least greatest) xs ys moved

-- sorted keys have the same crowds
near_permuted : (xs ys : List ℕ) (key : ℕ) → IsPermutation xs ys → count_near ys key ≡ count_near xs key
near_permuted xs ys key moved = omega (
  arith,
  between_permuted xs ys (key - 131072) (key - 131072) moved,
  between_permuted xs ys (key - 65537) (key - 65535) moved,
  between_permuted xs ys (key - 2) (key + 2) moved,
  between_permuted xs ys (key + 65535) (key + 65537) moved,
  between_permuted xs ys (key + 131072) (key + 131072) moved,
)

crowd_by : (least count : ℕ) → (least == 0) ≡ false → (if true && nat_le least count then Some count else None)
    ≡ (if not (least == 0) && nat_le least count then Some count else None)
crowd_by least count some = ap {B = Option ℕ} (λ (t : Bool). if t && nat_le least count then Some count else None) (ap not (sym some))

-- the crowd at the key of a needle, among the sorted keys of all
pub crowd_found : (least : ℕ) (needles : List Point) (keys : List ℕ) (p : Point) → (least ≡ 0 → ⊥)
    → IsPermutation (map key_of needles) keys → IsTrue (list_all (is_point_within NEEDLE_LIMIT) needles)
    → IsTrue (is_point_within NEEDLE_LIMIT p) → IsTrue (has_key (map key_of needles) (key_of p))
    → crowd_at least keys keys (key_of p) ≡ crowd_of least needles p
crowd_found least needles keys p some moved all here there =
    ap {B = Option ℕ} (λ (t : Bool). if t && nat_le least (count_near keys (key_of p)) then Some (count_near keys (key_of p)) else None)
    (sym (list_any-IsPermutation (λ other. other == key_of p) (map key_of needles) keys moved) ∙ there)
    ∙ ap {B = Option ℕ} (λ (n : ℕ). if true && nat_le least n then Some n else None)
    (near_permuted (map key_of needles) keys (key_of p) moved ∙ counted needles p here all)
    ∙ crowd_by least (needles_in_hole needles p) (unequal least 0 some)

-- one more key is noted, where it is crowded
pub crowd_next : (least x key : ℕ) (rest keys : List ℕ) (old new : Option ℕ)
    → new ≡ (if (x == key) && nat_le least (count_near keys x) then Some (count_near keys x) else old)
    → (if has_key rest key && nat_le least (count_near keys key) then Some (count_near keys key) else new)
    ≡ (if has_key (x ∷ rest) key && nat_le least (count_near keys key) then Some (count_near keys key) else old)
crowd_next least x key rest keys old new is = by_test (x == key) refl (has_key rest key) (nat_le least (count_near keys key)) refl
  where
    by_test : (same : Bool) → (x == key) ≡ same → (found enough : Bool) → nat_le least (count_near keys key) ≡ enough
        → (if found && enough then Some (count_near keys key) else new)
        ≡ (if ((x == key) || found) && enough then Some (count_near keys key) else old)
    by_test false differ found enough here = rw (is, differ) refl
    by_test true same true enough here = by_enough enough here
      where
        by_enough : (enough : Bool) → nat_le least (count_near keys key) ≡ enough
            → (if true && enough then Some (count_near keys key) else new)
            ≡ (if ((x == key) || true) && enough then Some (count_near keys key) else old)
        by_enough true here = rw same refl
        by_enough false here = rw (is, same_number x key same, eq_self key, here) refl
    by_test true same false true here = rw (is, same_number x key same, eq_self key, here) refl
    by_test true same false false here = rw (is, same_number x key same, eq_self key, here) refl
