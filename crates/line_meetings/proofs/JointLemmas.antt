-- Two points are joined near by where they are joined around one of them.
use Rattle.std.proofs.Common.{◌≡◌, ◌∙◌, ℕ, Bool, true, false, ◌||◌, List, ap, sym}
use Rattle.line_meetings.specs.Joints.{are_joined, are_joined_around}
use Rattle.line_meetings.proofs.Names.{LineSegment}

module _ (gap : ℕ) (segments : List LineSegment) (p q : LineSegment) where
  -- two points are joined around the first
  pub joined_first : are_joined_around gap segments p q ≡ true → true ≡ are_joined gap segments p q
  joined_first joined = sym (ap (λ (b : Bool). b || are_joined_around gap segments q p) joined)

  -- two points are joined around the second, or aren't
  pub joined_second : (joined : Bool) → are_joined_around gap segments p q ≡ false
      → joined ≡ are_joined_around gap segments q p → joined ≡ are_joined gap segments p q
  joined_second joined never other = other ∙ sym (ap (λ (b : Bool). b || are_joined_around gap segments q p) never)
