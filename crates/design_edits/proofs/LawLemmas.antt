-- What moves undo, point by point.
use Rattle.std.proofs.Common.{◌≡◌, ℤ, neg_ℤ, List, [], ◌∷◌, map, refl, ap, ◌∙◌}
use Rattle.design_edits.proofs.Names.{ap₂, Command, Stitch, Jump, Trim, Stop, Point, DesignValue, FourQuarterTurnsRestore, OppositeShiftRestores, TwoMirroringsRestore, mirror_point, shift_point, turn_point, turned, with_mapped_point, with_mapped_points, back-there, neg-neg}
use Rattle.design_edits.specs.declared.axis.Axis.TheVariants as axis

-- a map that undoes another on points undoes it on designs
module _ (undo f : Point → Point) (undone : (p : Point) → undo (f p) ≡ p) where
  undone_one : (c : Command) → with_mapped_point undo (with_mapped_point f c) ≡ c
  undone_one (Stitch p) = ap Stitch (undone p)
  undone_one (Jump p) = ap Jump (undone p)
  undone_one Trim = refl
  undone_one Stop = refl

  undone_all : (cs : List Command) → map (with_mapped_point undo) (map (with_mapped_point f) cs) ≡ cs
  undone_all [] = refl
  undone_all (c ∷ rest) = ap₂ (λ x xs. x ∷ xs) (undone_one c) (undone_all rest)

  undone_whole : (d : DesignValue) → with_mapped_points undo (with_mapped_points f d) ≡ d
  undone_whole d = ap (λ cs. record d { commands = cs }) (undone_all d.commands)

same_point : (p : Point) (x y : ℤ) → x ≡ p.x → y ≡ p.y → record { x = x; y = y } ≡ p
same_point p x y across down = ap₂ (λ a b. record { x = a; y = b }) across down

pub opposite_shift : OppositeShiftRestores
opposite_shift dx dy d = undone_whole (shift_point (neg_ℤ dx) (neg_ℤ dy)) (shift_point dx dy)
    (λ p. same_point p _ _ (back-there p.x dx) (back-there p.y dy)) d

pub two_mirrorings : TwoMirroringsRestore
two_mirrorings axis.X d = undone_whole (mirror_point axis.X) (mirror_point axis.X)
    (λ p. same_point p _ _ (neg-neg p.x) refl) d
two_mirrorings axis.Y d = undone_whole (mirror_point axis.Y) (mirror_point axis.Y)
    (λ p. same_point p _ _ refl (neg-neg p.y)) d

-- two maps one after the other are one map
module _ (f g : Point → Point) where
  composed_one : (c : Command) → with_mapped_point f (with_mapped_point g c) ≡ with_mapped_point (λ p. f (g p)) c
  composed_one (Stitch p) = refl
  composed_one (Jump p) = refl
  composed_one Trim = refl
  composed_one Stop = refl

  composed_all : (cs : List Command)
      → map (with_mapped_point f) (map (with_mapped_point g) cs) ≡ map (with_mapped_point (λ p. f (g p))) cs
  composed_all [] = refl
  composed_all (c ∷ rest) = ap₂ (λ x xs. x ∷ xs) (composed_one c) (composed_all rest)

  composed : (d : DesignValue) → with_mapped_points f (with_mapped_points g d) ≡ with_mapped_points (λ p. f (g p)) d
  composed d = ap (λ cs. record d { commands = cs }) (composed_all d.commands)

pub four_quarters : FourQuarterTurnsRestore
four_quarters d =
    let q = turn_point 1 in
    let two : turned 1 (turned 1 d) ≡ with_mapped_points (λ p. q (q p)) d = composed q q d in
    let three : turned 1 (turned 1 (turned 1 d)) ≡ with_mapped_points (λ p. q (q (q p))) d =
    ap (turned 1) two ∙ composed q (λ p. q (q p)) d in
    ap (turned 1) three
    ∙ undone_whole q (λ p. q (q (q p))) (λ p. same_point p _ _ (neg-neg p.x) (neg-neg p.y)) d
