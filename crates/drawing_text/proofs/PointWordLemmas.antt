-- The points that words spell, taken one after another.
use Rattle.std.proofs.Common.{◌≡◌, ◌≤◌, ℕ, ℤ, unsigned_abs, arith, List, [], ◌∷◌, ◌++◌, Result, Ok, Err, All, IfOk, ap, sym, subst, ◌∙◌, refl, append_assoc}
use Rattle.drawing_text.proofs.Names.{Point, nat_tests, All-push, NEEDLE_LIMIT, IsNeedlePoint, DrawKind, and_then, BeginsWithCoordinate, parsed_points, words_of_line}

-- these points, and then those that come
abbrev pub behind : List Point → Result (List Point) DrawKind → Result (List Point) DrawKind
behind points rest = and_then rest (λ more. Ok (points ++ more))

-- one point, and then those that come
behind_one : (points : List Point) (p : Point) (rest : Result (List Point) DrawKind)
    → behind points (and_then rest (λ more. Ok (p ∷ more))) ≡ behind (points ++ p ∷ []) rest
behind_one points p (Ok more) = ap (λ list. Ok list) (sym (append_assoc points (p ∷ []) more))
behind_one points p (Err why) = refl

-- the words so far denote these points, and the rest is read after them
pub record GoesOn (words rest : List ℕ) (points : List Point) : Type 0 where
  pub parsed : parsed_points (words_of_line words) ≡ behind points (parsed_points (words_of_line rest))

-- two words more are one point more
pub point_read : (words rest after more : List ℕ) (points : List Point) (across down : ℤ) → GoesOn words rest points
    → BeginsWithCoordinate rest (Ok across) after → BeginsWithCoordinate after (Ok down) more
    → GoesOn words more (points ++ record { x = across; y = down } ∷ [])
point_read words rest after more points across down goes x y = record {
  parsed = goes.parsed ∙ (rw (x.words, y.words, ← x.value, ← y.value)
      (behind_one points (record { x = across; y = down }) (parsed_points (words_of_line more))));
}

-- and a needle may go down there
pub point_in_range : (points : List Point) (across down : ℤ) → All IsNeedlePoint points
    → unsigned_abs across ≤ NEEDLE_LIMIT → unsigned_abs down ≤ NEEDLE_LIMIT
    → All IsNeedlePoint (points ++ record { x = across; y = down } ∷ [])
point_in_range points across down in_range left right = grind (arith, nat_tests, All-push IsNeedlePoint points)

-- a coordinate that isn't refused is within the limit
pub coordinate_within : (answer : Result ℤ DrawKind) (n : ℤ) → answer ≡ Ok n → IfOk answer (λ m. unsigned_abs m ≤ NEEDLE_LIMIT)
    → unsigned_abs n ≤ NEEDLE_LIMIT
coordinate_within answer n is within = subst (λ (told : Result ℤ DrawKind). IfOk told (λ m. unsigned_abs m ≤ NEEDLE_LIMIT)) is within
