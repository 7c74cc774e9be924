-- Lines, needle points and junctions of a moved drawing. The map of points keeps whether two points are equal, and maps the
-- needle points of a line to those of the mapped line.
use Rattle.std.proofs.Common.{◌≡◌, ◌∙◌, ℕ, ◌+◌, ◌-◌, ◌||◌, Bool, true, false, cond, List, [], ◌∷◌, ◌++◌, Option, Some, None, length, map, drop, reverse, refl, ap, sym}
use Rattle.edit_laws.proofs.Names.{length-map, map-append, slice_get-map, option_map, slice_get, flat_map, list_any, Point, is_same_point, moved_drawing, with_moved_line, Pass, DrawingValue, block_of, first_point, last_point, points_of, endpoints, needle_points, junction_number, junctions_of, needles_of_pass, needles_of_walk, cost_of_line, needles_of_line, LineValue, drop-map, reverse-append, position_or_len, optional_line_block, optional_line_points, with_point, with_points}
use Rattle.step_splitter.specs.Chains.{last_point_or}

-- functions with the same values are the same
pub same_function : {A B : Type 0} (f g : A → B) → ((x : A) → f x ≡ g x) → f ≡ g
same_function f g same = λ i x. same x i

-- equal parts make equal lists
pub joined_same : {A : Type 0} (a a' b b' : List A) → a ≡ a' → b ≡ b' → a ++ b ≡ a' ++ b'
joined_same a a' b b' one two = ap (λ x. x ++ b) one ∙ ap (λ y. a' ++ y) two

-- a map of points goes through all that a list of lines gives, if it goes through what each gives
pub flat_moved : {A : Type 0} (f : Point → Point) (g h : A → List Point) → ((a : A) → g a ≡ map f (h a)) → (xs : List A)
    → flat_map g xs ≡ map f (flat_map h xs)
flat_moved f g h same [] = refl
flat_moved f g h same (x ∷ xs) =
    joined_same (g x) (map f (h x)) (flat_map g xs) (map f (flat_map h xs)) (same x) (flat_moved f g h same xs)
    ∙ sym (map-append f (h x) (flat_map h xs))

-- the first and the last of mapped points
pub first_moved : (f : Point → Point) (ps : List Point) → first_point (map f ps) ≡ option_map f (first_point ps)
first_moved f [] = refl
first_moved f (p ∷ ps) = refl

last_or_moved : (f : Point → Point) (p : Point) (ps : List Point) → last_point_or (f p) (map f ps) ≡ f (last_point_or p ps)
last_or_moved f p [] = refl
last_or_moved f p (q ∷ ps) = last_or_moved f q ps

pub last_moved : (f : Point → Point) (ps : List Point) → last_point (map f ps) ≡ option_map f (last_point ps)
last_moved f [] = refl
last_moved f (p ∷ ps) = ap (λ (q : Point). Some q) (last_or_moved f p ps)

pub endpoints_moved : (f : Point → Point) (ps : List Point) → endpoints (map f ps) ≡ map f (endpoints ps)
endpoints_moved f [] = refl
endpoints_moved f (p ∷ ps) = ap (λ (q : Point). f p ∷ q ∷ []) (last_or_moved f p ps)

-- the lines of a moved drawing
pub points_moved : (f : Point → Point) (d : DrawingValue) (i : ℕ) → points_of (moved_drawing f d) i ≡ map f (points_of d i)
points_moved f d i = ap optional_line_points (slice_get-map (with_moved_line f) d.lines i) ∙ by_line (slice_get d.lines i)
  where
    by_line : (o : Option LineValue) → optional_line_points (option_map (with_moved_line f) o) ≡ map f (optional_line_points o)
    by_line None = refl
    by_line (Some line) = refl

pub block_moved : (f : Point → Point) (d : DrawingValue) (i : ℕ) → block_of (moved_drawing f d) i ≡ block_of d i
block_moved f d i = ap optional_line_block (slice_get-map (with_moved_line f) d.lines i) ∙ by_line (slice_get d.lines i)
  where
    by_line : (o : Option LineValue) → optional_line_block (option_map (with_moved_line f) o) ≡ optional_line_block o
    by_line None = refl
    by_line (Some line) = refl

-- lists in reverse order
reverse_moved : (f : Point → Point) (ps : List Point) → reverse (map f ps) ≡ map f (reverse ps)
reverse_moved f [] = refl
reverse_moved f (p ∷ ps) = reverse-append (f p ∷ []) (map f ps)
    ∙ (ap (λ x. x ++ f p ∷ []) (reverse_moved f ps)
    ∙ (sym (map-append f (reverse ps) (p ∷ [])) ∙ ap (λ (x : List Point). map f x) (sym (reverse-append (p ∷ []) ps))))

-- the needle points of a moved drawing
module _ (f : Point → Point)
    (needles : (step : ℕ) (ps : List Point) → needle_points step (map f ps) ≡ map f (needle_points step ps)) where
  pub line_needles_moved : (d : DrawingValue) (i : ℕ) → needles_of_line (moved_drawing f d) i ≡ map f (needles_of_line d i)
  line_needles_moved d i = ap (needle_points d.step) (points_moved f d i) ∙ needles d.step (points_of d i)

  pub cost_moved : (d : DrawingValue) (i : ℕ) → cost_of_line (moved_drawing f d) i ≡ cost_of_line d i
  cost_moved d i = ap (λ (ps : List Point). length ps - 1) (line_needles_moved d i)
      ∙ ap (λ (n : ℕ). n - 1) (length-map (needles_of_line d i) f)

  by_back : (b : Bool) (ps : List Point) → cond b (reverse (map f ps)) (map f ps) ≡ map f (cond b (reverse ps) ps)
  by_back true ps = reverse_moved f ps
  by_back false ps = refl

  pub pass_moved : (d : DrawingValue) (pass : Pass) → needles_of_pass (moved_drawing f d) pass ≡ map f (needles_of_pass d pass)
  pass_moved d pass = ap (λ (ps : List Point). cond pass.back (reverse ps) ps) (line_needles_moved d pass.line)
      ∙ by_back pass.back (needles_of_line d pass.line)

  pub walk_moved : (d : DrawingValue) (walk : List Pass) → needles_of_walk (moved_drawing f d) walk ≡ map f (needles_of_walk d walk)
  walk_moved d [] = refl
  walk_moved d (pass ∷ rest) =
      joined_same _ _ _ _ (pass_moved d pass) (flat_moved f (λ (next : Pass). drop 1 (needles_of_pass (moved_drawing f d) next))
      (λ (next : Pass). drop 1 (needles_of_pass d next))
      (λ next. ap (drop 1) (pass_moved d next) ∙ drop-map f 1 (needles_of_pass d next)) rest)
      ∙ sym (map-append f (needles_of_pass d pass) (flat_map (λ (next : Pass). drop 1 (needles_of_pass d next)) rest))

  pub walk_length_moved : (d : DrawingValue) (walk : List Pass)
      → length (needles_of_walk (moved_drawing f d) walk) ≡ length (needles_of_walk d walk)
  walk_length_moved d walk = ap (λ (ps : List Point). length ps) (walk_moved d walk) ∙ length-map (needles_of_walk d walk) f

-- the junctions of a moved drawing
module _ (f : Point → Point) (same : (p q : Point) → is_same_point (f p) (f q) ≡ is_same_point p q) where
  pub listed_moved : (p : Point) (ps : List Point) → list_any (is_same_point (f p)) (map f ps) ≡ list_any (is_same_point p) ps
  listed_moved p [] = refl
  listed_moved p (q ∷ ps) = ap (λ (t : Bool). t || list_any (is_same_point (f p)) (map f ps)) (same p q)
      ∙ ap (λ (t : Bool). is_same_point p q || t) (listed_moved p ps)

  with_point_moved : (ps : List Point) (p : Point) → with_point (map f ps) (f p) ≡ map f (with_point ps p)
  with_point_moved ps p = ap (λ (t : Bool). cond t (map f ps) (map f ps ++ f p ∷ [])) (listed_moved p ps)
      ∙ by_test (list_any (is_same_point p) ps)
    where
      by_test : (t : Bool) → cond t (map f ps) (map f ps ++ f p ∷ []) ≡ map f (cond t ps (ps ++ p ∷ []))
      by_test true = refl
      by_test false = sym (map-append f ps (p ∷ []))

  with_points_moved : (acc ps : List Point) → with_points (map f acc) (map f ps) ≡ map f (with_points acc ps)
  with_points_moved acc [] = refl
  with_points_moved acc (p ∷ ps) = ap (λ (x : List Point). with_points x (map f ps)) (with_point_moved acc p)
      ∙ with_points_moved (with_point acc p) ps

  pub junctions_moved : (d : DrawingValue) (lines : List ℕ) → junctions_of (moved_drawing f d) lines ≡ map f (junctions_of d lines)
  junctions_moved d lines = ap (with_points []) (flat_moved f (λ (line : ℕ). endpoints (points_of (moved_drawing f d) line))
      (λ (line : ℕ). endpoints (points_of d line))
      (λ line. ap endpoints (points_moved f d line) ∙ endpoints_moved f (points_of d line)) lines)
      ∙ with_points_moved [] (flat_map (λ (line : ℕ). endpoints (points_of d line)) lines)

  number_moved : (p : Point) (ps : List Point) → position_or_len (is_same_point (f p)) (map f ps) ≡ position_or_len (is_same_point p) ps
  number_moved p [] = refl
  number_moved p (q ∷ ps) = by_test (is_same_point p q) refl (number_moved p ps)
    where
      by_test : (t : Bool) → is_same_point p q ≡ t
          → position_or_len (is_same_point (f p)) (map f ps) ≡ position_or_len (is_same_point p) ps
          → position_or_len (is_same_point (f p)) (f q ∷ map f ps) ≡ position_or_len (is_same_point p) (q ∷ ps)
      by_test true is rest = rw (same p q, is) refl
      by_test false is rest = rw (same p q, is) (ap (λ (n : ℕ). 1 + n) rest)

  pub junction_number_moved : (ps : List Point) (p : Option Point)
      → junction_number (map f ps) (option_map f p) ≡ junction_number ps p
  junction_number_moved ps None = length-map ps f
  junction_number_moved ps (Some p) = number_moved p ps
