-- Crowded needles in a hash map, and the keys of reported ones in a set. No public clause cites
-- this file.
use Rattle.std.specs.Prelude.{◌≡◌, ℕ, ◌+◌, ◌-◌, ◌==◌, Bool, ◌&&◌, nat_le, List, [], ◌∷◌, Option, Some, None, IsTrue, map, if◌then◌else◌}
use Rattle.std.specs.List.{list_all, list_any}
use Rattle.design_model.specs.declared.point.Point.{Point}
use Rattle.design_model.specs.declared.point.TheConstants.{NEEDLE_LIMIT}
use Rattle.design_model.specs.Points.{is_point_within}
use Rattle.design_review.specs.Holes.{is_crowded, needles_in_hole}
use Rattle.design_review.specs.NeedleKeys.{count_near, key_of}

-- The test whether a list has a key.
abbrev pub has_key : List ℕ → ℕ → Bool
has_key keys key = list_any (λ other. other == key) keys

-- The number of keys that are near a key, if it is one of some keys and the number isn't below the
-- least.
abbrev pub crowd_at : ℕ → (some keys : List ℕ) → ℕ → Option ℕ
crowd_at least some keys key = if has_key some key && nat_le least (count_near keys key)
    then Some (count_near keys key) else None

-- The number of needles in one hole with a needle, if it is crowded.
abbrev pub crowd_of : ℕ → List Point → Point → Option ℕ
crowd_of least needles p =
    if is_crowded least needles p then Some (needles_in_hole needles p) else None

-- Crowds by keys: for each needle of a list whether it is crowded, and by how many.
abbrev pub AreCrowds : ℕ → List Point → (ℕ → Option ℕ) → Type 0
AreCrowds least needles crowds = (p : Point) → IsTrue (is_point_within NEEDLE_LIMIT p)
    → IsTrue (has_key (map key_of needles) (key_of p))
    → crowds (key_of p) ≡ crowd_of least needles p

-- The keys of points in a needle's range.
pub record AreKeysOf (points : List Point) (keys : ℕ → Bool) : Type 0 where
  pub in_range : IsTrue (list_all (is_point_within NEEDLE_LIMIT) points)
  pub same : (key : ℕ) → keys key ≡ has_key (map key_of points) key

-- The keys of the points that a hole reaches from a point, by its key.
abbrev pub near_keys : ℕ → List ℕ
near_keys key = (key - 131072)
    ∷ (key - 65537) ∷ (key - 65537 + 1) ∷ (key - 65537 + 2)
    ∷ (key - 2) ∷ (key - 1) ∷ key ∷ (key + 1) ∷ (key + 2)
    ∷ (key + 65535) ∷ (key + 65535 + 1) ∷ (key + 65535 + 2)
    ∷ (key + 131072) ∷ []

-- The test whether a key that a hole reaches from that of a point passes a test.
abbrev pub is_near_any : (ℕ → Bool) → ℕ → Bool
is_near_any keys key = list_any keys (near_keys key)
