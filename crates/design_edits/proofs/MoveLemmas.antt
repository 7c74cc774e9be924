-- Commands that are moved one after the other.
use Rattle.std.proofs.Common.{◌≡◌, ℕ, zero, suc, ◌+◌, ◌<◌, Bool, not, cond, IsTrue, add-one, List, [], ◌∷◌, ◌++◌, Option, Some, None, IfSome, length, get_or, set, take, drop, map, refl, ap, ◌∙◌, subst, arith}
use Rattle.design_edits.proofs.Names.{list_all, position_from, Command, Stitch, Jump, Trim, Stop, Point, is_command_in_range, DesignValue, is_point_within, Axis, first_out_of_range, mirror_point, turn_point, with_mapped_point, with_mapped_points, and_parts, nat_tests, slice_get, target_of, KeepsLimits, with_command_at, size-neg}

-- whether a command's point is out of its range
abbrev pub is_outside : Command → Bool
is_outside c = not (is_command_in_range c)

-- where the first is inside, the first outside is among the others
go_on : (n : ℕ) (c : Command) (rest : Option ℕ) → IsTrue (is_command_in_range c) → rest ≡ None → cond (is_outside c) (Some n) rest ≡ None
go_on n c rest inside none = rw inside none

gone_on : (n : ℕ) (inside : Bool) (rest : Option ℕ) → cond (not inside) (Some n) rest ≡ None → IsTrue inside × (rest ≡ None)
gone_on n inside rest h1 = grind (arith, nat_tests)

-- A map that keeps points within each limit keeps all commands in range.
module _ (f : Point → Point)
    (stays : (limit : ℕ) (p : Point) → IsTrue (is_point_within limit p) → IsTrue (is_point_within limit (f p))) where
  stays_in_range : (c : Command) → IsTrue (is_command_in_range c) → IsTrue (is_command_in_range (with_mapped_point f c))
  stays_in_range (Stitch p) inside = stays _ p inside
  stays_in_range (Jump p) inside = stays _ p inside
  stays_in_range Trim inside = refl
  stays_in_range Stop inside = refl

  none_outside : (n : ℕ) (cs : List Command) → IsTrue (list_all is_command_in_range cs)
      → position_from is_outside n (map (with_mapped_point f) cs) ≡ None
  none_outside n [] all = refl
  none_outside n (c ∷ rest) all =
      let both = and_parts (is_command_in_range c) (list_all is_command_in_range rest) all in
      go_on n (with_mapped_point f c) (position_from is_outside (n + 1) (map (with_mapped_point f) rest))
      (stays_in_range c both.0) (none_outside (n + 1) rest both.1)

turn_stays : (quarters limit : ℕ) (p : Point) → IsTrue (is_point_within limit p) → IsTrue (is_point_within limit (turn_point quarters p))
turn_stays zero limit p within = within
turn_stays (suc quarters) limit p within = grind (arith, nat_tests, size-neg, (turn_stays quarters limit p within))

mirror_stays : (a : Axis) (limit : ℕ) (p : Point) → IsTrue (is_point_within limit p) → IsTrue (is_point_within limit (mirror_point a p))
mirror_stays a limit p h1 = grind (arith, nat_tests, size-neg)

-- No point of a design leaves its range in a turn or a mirroring.
pub turn_in_range : (quarters : ℕ) (d : DesignValue) → KeepsLimits d
    → first_out_of_range (with_mapped_points (turn_point quarters) d).commands ≡ None
turn_in_range quarters d limits = none_outside (turn_point quarters) (turn_stays quarters) 1 d.commands limits.in_range

pub mirror_in_range : (a : Axis) (d : DesignValue) → KeepsLimits d
    → first_out_of_range (with_mapped_points (mirror_point a) d).commands ≡ None
mirror_in_range a d limits = none_outside (mirror_point a) (mirror_stays a) 1 d.commands limits.in_range

-- the commands of which those before an index are mapped
abbrev pub mapped_before : (Command → Command) → ℕ → List Command → List Command
mapped_before g i cs = map g (take i cs) ++ drop i cs

-- the next is still as it was
next_as_before : (g : Command → Command) (i : ℕ) (cs : List Command) → i < length cs
    → slice_get (mapped_before g i cs) i ≡ Some (get_or cs i Trim)
next_as_before g i [] there = absurd (omega arith)
next_as_before g zero (c ∷ rest) there = refl
next_as_before g (suc i) (c ∷ rest) there = next_as_before g i rest (omega arith)

-- and mapping it goes on
map_next : (g : Command → Command) (i : ℕ) (cs : List Command) → i < length cs
    → set (mapped_before g i cs) i (g (get_or cs i Trim)) ≡ mapped_before g (suc i) cs
map_next g i [] there = absurd (omega arith)
map_next g zero (c ∷ rest) there = refl
map_next g (suc i) (c ∷ rest) there = ap (λ xs. g c ∷ xs) (map_next g i rest (omega arith))

-- each mapped command is inside
inside_at : (g : Command → Command) (n i : ℕ) (cs : List Command) → i < length cs
    → position_from is_outside n (map g cs) ≡ None → IsTrue (is_command_in_range (g (get_or cs i Trim)))
inside_at g n i [] there none = absurd (omega arith)
inside_at g n zero (c ∷ rest) there none = grind (arith, nat_tests, gone_on, is_command_in_range, position_from)
inside_at g n (suc i) (c ∷ rest) there none =
    inside_at g (n + 1) i rest (omega arith)
    (gone_on n (is_command_in_range (g c)) (position_from is_outside (n + 1) (map g rest)) none).1

-- the design of which the commands before an index are mapped
module _ (g : Command → Command) (i : ℕ) (whole d : DesignValue) (there : i < length whole.commands)
    (is : d ≡ record whole { commands = mapped_before g i whole.commands }) where
  next_of : slice_get d.commands i ≡ Some (get_or whole.commands i Trim)
  next_of = ap (λ x. slice_get x.commands i) is ∙ next_as_before g i whole.commands there

  pub next_inside : first_out_of_range (map g whole.commands) ≡ None
      → IfSome (slice_get d.commands i) (λ c. IsTrue (is_command_in_range (g c)))
  next_inside none = rw next_of (inside_at g 1 i whole.commands there none)

  pub next_mapped : (new : DesignValue)
      → IfSome (slice_get d.commands i) (λ c. new ≡ with_command_at d i (g c))
      → new ≡ record whole { commands = mapped_before g (i + 1) whole.commands }
  next_mapped new mapped =
      let put : new ≡ with_command_at d i (g (get_or whole.commands i Trim)) =
      subst (λ o. IfSome o (λ c. new ≡ with_command_at d i (g c))) next_of mapped in
      put ∙ ap (λ x. with_command_at x i (g (get_or whole.commands i Trim))) is
      ∙ rw (add-one i) (ap (λ cs. record whole { commands = cs }) (map_next g i whole.commands there))

-- a command without a point is mapped to itself
same_without : (f : Point → Point) (c : Command) → target_of c ≡ None → c ≡ with_mapped_point f c
same_without f c h1 = grind (arith, nat_tests)

found_same : (f : Point → Point) (cs : List Command) (i : ℕ) (e : Command) → target_of (get_or cs i e) ≡ None
    → IfSome (slice_get cs i) (λ c. cs ≡ set cs i (with_mapped_point f c))
found_same f [] i e none = tt
found_same f (c ∷ rest) zero e none = ap (λ x. x ∷ rest) (same_without f c none)
found_same f (c ∷ rest) (suc i) e none = grind (arith, nat_tests, with_mapped_point, (found_same f rest i e none))

pub stays_there : (f : Point → Point) (d : DesignValue) (i : ℕ) (e : Command) (cs : List Command)
    (target : Option Point) → cs ≡ d.commands → target ≡ target_of (get_or cs i e) → target ≡ None
    → IfSome (slice_get d.commands i) (λ c. d ≡ with_command_at d i (with_mapped_point f c))
stays_there f d i e cs target are is none =
    whole (slice_get d.commands i) (found_same f d.commands i e (rw (← are, ← is) none)) where
      whole : (found : Option Command) → IfSome found (λ x. d.commands ≡ set d.commands i (with_mapped_point f x))
          → IfSome found (λ x. d ≡ with_command_at d i (with_mapped_point f x))
      whole None same = tt
      whole (Some x) same = ap (λ cs. record d { commands = cs }) same
