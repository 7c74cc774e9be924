-- Lines that are written: their blocks rise, and they are near the lines as drawn.
use Rattle.std.proofs.Common.{◌≡◌, ◌≤◌, ◌<◌, ◌==◌, ℕ, zero, suc, Bool, true, false, ◌&&◌, ◌||◌, All, List, [], ◌∷◌, ◌++◌, length, get_or, map, nat_le, refl, ap, ◌∙◌, sym, subst, arith}
use Rattle.std.proofs.Math.Path.{ap₂}
use Rattle.std.proofs.lemmas.Bool.Decides.{nat_tests}
use Rattle.std.proofs.lemmas.List.{append_assoc}
use Rattle.std.proofs.lemmas.List.Elements.{All-cons, All-nil}
use Rattle.std.proofs.lemmas.List.Folds.{list_all-append}
use Rattle.std.specs.List.{list_all}
use Rattle.std.specs.List.Sorted.{IsNonDecreasing}
use Rattle.std.specs.Prelude.{if◌then◌else◌}
use Rattle.design_model.proofs.ListLemmas.{first_true, number_found, second_true}
use Rattle.design_model.specs.declared.point.Point.{Point}
use Rattle.line_sections.specs.Lines.{LineValue}
use Rattle.meeting_rounds.specs.NearLines.{LinesStayNear, is_near_drawn}
use Rattle.meeting_rounds.specs.RoundLaws.{NearLinesHaveNearPoints}
use Rattle.met_drawings.specs.Copies.{part_after, part_if, parts_from, parts_of, passed_by, passed_segment, uncopied_after}
use Rattle.met_drawings.specs.MeetLaws.{is_near_one}
use Rattle.met_drawings.specs.PassedSegments.{is_passed_in}
use Rattle.met_drawings.specs.declared.passed_segments.PassedSegment.{PassedSegment}

-- The blocks of lines don't fall, from the given one on, and are below a bound.
abbrev pub Rise : (bound from : ℕ) → List LineValue → Type 0
Rise bound from [] = Unit
Rise bound from (line ∷ rest) = (from ≤ line.block) × (line.block < bound) × Rise bound line.block rest

rise_lower : (bound from less : ℕ) (lines : List LineValue) → less ≤ from → Rise bound from lines → Rise bound less lines
rise_lower bound from less [] low rise = tt
rise_lower bound from less (line ∷ rest) low rise = (omega (arith, low, rise.0), rise.1, rise.2)

rise_after : (bound : ℕ) (line : LineValue) (rest : List LineValue) → IsNonDecreasing (map (λ line. line.block) (line ∷ rest))
    → All (λ line. line.block < bound) rest → Rise bound line.block rest
rise_after bound line [] ordered below = tt
rise_after bound line (next ∷ rest) ordered below = (
  ordered 0 1 0 (omega arith) (omega arith),
  below 0 next (omega arith),
  rise_after bound next rest (λ i j e less there. ordered (suc i) (suc j) e (omega (arith, less)) (omega (arith, there)))
      (λ i e low. below (suc i) e (omega (arith, low))),
)

-- The blocks of lines in their order rise.
pub rise_all : (bound : ℕ) (lines : List LineValue) → IsNonDecreasing (map (λ line. line.block) lines)
    → All (λ line. line.block < bound) lines → Rise bound 0 lines
rise_all bound [] ordered below = tt
rise_all bound (line ∷ rest) ordered below = (
  omega arith,
  below 0 line (omega arith),
  rise_after bound line rest ordered (λ i e low. below (suc i) e (omega (arith, low))),
)

rise_low : (bound from : ℕ) (lines : List LineValue) (j e : ℕ) → Rise bound from lines → j < length (map (λ line. line.block) lines)
    → from ≤ get_or (map (λ line. line.block) lines) j e
rise_low bound from [] j e rise there = absurd (omega (arith, there))
rise_low bound from (line ∷ rest) zero e rise there = rise.0
rise_low bound from (line ∷ rest) (suc j) e rise there =
    let low : line.block ≤ get_or (map (λ line. line.block) rest) j e =
    rise_low bound line.block rest j e rise.2 (omega (arith, there)) in
    omega (arith, low, rise.0)

-- Blocks that rise are in order, and below the bound.
pub rise_ordered : (bound from : ℕ) (lines : List LineValue) → Rise bound from lines → IsNonDecreasing (map (λ line. line.block) lines)
rise_ordered bound from [] rise i j e less there = absurd (omega (arith, there))
rise_ordered bound from (line ∷ rest) rise zero zero e less there = omega arith
rise_ordered bound from (line ∷ rest) rise zero (suc j) e less there = rise_low bound line.block rest j e rise.2 (omega (arith, there))
rise_ordered bound from (line ∷ rest) rise (suc i) zero e less there = absurd (omega (arith, less))
rise_ordered bound from (line ∷ rest) rise (suc i) (suc j) e less there =
    rise_ordered bound line.block rest rise.2 i j e (omega (arith, less)) (omega (arith, there))

pub rise_below : (bound from : ℕ) (lines : List LineValue) → Rise bound from lines → All (λ line. line.block < bound) lines
rise_below bound from [] rise = All-nil (λ line. line.block < bound)
rise_below bound from (line ∷ rest) rise =
    All-cons (λ (l : LineValue). l.block < bound) line rest rise.1 (rise_below bound line.block rest rise.2)

-- The blocks of lines after rounds rise as those before.
pub near_rise : (bound from gap : ℕ) (drawn after : List LineValue) → LinesStayNear gap drawn after → Rise bound from drawn
    → Rise bound from after
near_rise bound from gap [] after none rise = subst (Rise bound from) (sym none) tt
near_rise bound from gap (line ∷ drawn) [] never rise = absurd never
near_rise bound from gap (line ∷ drawn) (a ∷ after) (block, near, others) (low, high, rise) = (
  subst (λ (b : ℕ). from ≤ b) (sym block) low,
  subst (λ (b : ℕ). b < bound) (sym block) high,
  subst (λ (b : ℕ). Rise bound b after) (sym block) (near_rise bound line.block gap drawn after others rise),
)

part_rise : (b : Bool) (bound from block : ℕ) (part : List Point) (more : List LineValue) → from ≤ block → block < bound
    → Rise bound block more → Rise bound from (part_if b block part ++ more)
part_rise b bound from block part more low high rise = by_test (b && nat_le 2 (length part))
  where
    by_test : (is_line : Bool) → Rise bound from ((if is_line then record { block = block; points = part } ∷ [] else []) ++ more)
    by_test true = (low, high, rise)
    by_test false = rise_lower bound block from more low rise

parts_rise : (bound from : ℕ) (passed : List PassedSegment) (block : ℕ) (part : List Point) (p : Point) (rest : List Point)
    (more : List LineValue) → from ≤ block → block < bound → Rise bound block more
    → Rise bound from (parts_from passed block part p rest ++ more)
parts_rise bound from passed block part p [] more low high rise = part_rise true bound from block part more low high rise
parts_rise bound from passed block part p (q ∷ rest) more low high rise =
    let s : PassedSegment = passed_segment block p q in
    let b : Bool = is_passed_in passed s in
    let later : List LineValue = parts_from (passed ++ s ∷ []) block (part_after b part q) q rest in
    subst (Rise bound from) (sym (append_assoc (part_if b block part) later more))
    (part_rise b bound from block part (later ++ more) low high
    (parts_rise bound block (passed ++ s ∷ []) block (part_after b part q) q rest more (omega arith) high rise))

line_rise : (bound from : ℕ) (passed : List PassedSegment) (block : ℕ) (points : List Point) (more : List LineValue) → from ≤ block
    → block < bound → Rise bound block more → Rise bound from (parts_of passed block points ++ more)
line_rise bound from passed block [] more low high rise = rise_lower bound block from more low rise
line_rise bound from passed block (p ∷ rest) more low high rise = parts_rise bound from passed block (p ∷ []) p rest more low high rise

-- The blocks of lines without copies rise.
pub uncopied_rise : (bound from : ℕ) (passed : List PassedSegment) (lines : List LineValue) → Rise bound from lines
    → Rise bound from (uncopied_after passed lines)
uncopied_rise bound from passed [] rise = tt
uncopied_rise bound from passed (line ∷ rest) (low, high, rise) =
    line_rise bound from passed line.block line.points (uncopied_after (passed ++ passed_by line.block line.points) rest) low high
    (uncopied_rise bound line.block (passed ++ passed_by line.block line.points) rest rise)

-- a line near one of some lines is near one of more
or_later : (a b : Bool) → b ≡ true → (a || b) ≡ true
or_later a b is = grind (arith, nat_tests)

or_now : (a b : Bool) → a ≡ true → (a || b) ≡ true
or_now a b is = grind (arith, nat_tests)

near_more : (gap : ℕ) (line : LineValue) (drawn lines : List LineValue) → list_all (is_near_one gap drawn) lines ≡ true
    → list_all (is_near_one gap (line ∷ drawn)) lines ≡ true
near_more gap line drawn [] near = refl
near_more gap line drawn (a ∷ lines) near =
    let here : Bool = is_near_one gap drawn a in
    let there : Bool = list_all (is_near_one gap drawn) lines in
    ap₂ (λ (x y : Bool). x && y)
    (or_later (line.block == a.block && list_all (is_near_drawn gap line.points) a.points) here (first_true here there near))
    (near_more gap line drawn lines (second_true here there near))

-- Lines after rounds are each near one as drawn.
pub near_ones : (gap : ℕ) (drawn after : List LineValue) → NearLinesHaveNearPoints → LinesStayNear gap drawn after
    → list_all (is_near_one gap drawn) after ≡ true
near_ones gap [] after points none = subst (λ (ls : List LineValue). list_all (is_near_one gap []) ls ≡ true) (sym none) refl
near_ones gap (line ∷ drawn) [] points never = refl
near_ones gap (line ∷ drawn) (a ∷ after) points (block, near, others) =
    ap₂ (λ (x y : Bool). x && y)
    (or_now _ _ (ap₂ (λ (x y : Bool). x && y) (number_found line.block a.block (sym block)) (points gap line.points a.points near)))
    (near_more gap line drawn after (near_ones gap drawn after points others))

-- a line that is near one, by a test of its points: whatever points of its block pass it are near that one
abbrev NearBy : ℕ → List LineValue → LineValue → Type 0
NearBy gap drawn line = (f : Point → Bool) × (list_all f line.points ≡ true)
    × ((points : List Point) → list_all f points ≡ true → is_near_one gap drawn (record { block = line.block; points = points }) ≡ true)

near_by : (gap : ℕ) (drawn : List LineValue) (line : LineValue) → is_near_one gap drawn line ≡ true → NearBy gap drawn line
near_by gap [] line never = absurd (never_true never)
  where
    never_true : false ≡ true → ⊥
    never_true is = cc
near_by gap (one ∷ drawn) line near =
    by_test (one.block == line.block) (list_all (is_near_drawn gap one.points) line.points) refl refl
    (λ found. near_by gap drawn line found) near
  where
    by_test : (same all : Bool) → (one.block == line.block) ≡ same → list_all (is_near_drawn gap one.points) line.points ≡ all
        → (is_near_one gap drawn line ≡ true → NearBy gap drawn line)
        → ((same && all) || is_near_one gap drawn line) ≡ true → NearBy gap (one ∷ drawn) line
    by_test true true is each later found =
        (is_near_drawn gap one.points, each, λ points pass. or_now _ _ (ap₂ (λ (x y : Bool). x && y) is pass))
    by_test true false is each later found =
        ((later found).0, (later found).1, λ points pass. or_later _ _ ((later found).2 points pass))
    by_test false all is each later found =
        ((later found).0, (later found).1, λ points pass. or_later _ _ ((later found).2 points pass))

module _ (f : Point → Bool) (g : LineValue → Bool) (block : ℕ)
    (leads : (points : List Point) → list_all f points ≡ true → g (record { block = block; points = points }) ≡ true) where
  both : (xs ys : List LineValue) → list_all g xs ≡ true → list_all g ys ≡ true → list_all g (xs ++ ys) ≡ true
  both xs ys here there = list_all-append g xs ys ∙ ap₂ (λ (a b : Bool). a && b) here there

  one_passes : (b : Bool) (part : List Point) → list_all f part ≡ true → list_all g (part_if b block part) ≡ true
  one_passes b part pass = by_test (b && nat_le 2 (length part))
    where
      by_test : (is_line : Bool) → list_all g (if is_line then record { block = block; points = part } ∷ [] else []) ≡ true
      by_test true = ap (λ (x : Bool). x && true) (leads part pass)
      by_test false = refl

  goes_on : (b : Bool) (part : List Point) (q : Point) → list_all f part ≡ true → f q ≡ true → list_all f (part_after b part q) ≡ true
  goes_on true part q pass more = ap (λ (x : Bool). x && true) more
  goes_on false part q pass more = list_all-append f part (q ∷ []) ∙ ap₂ (λ (x y : Bool). x && (y && true)) pass more

  -- Parts of a line whose points pass have points that pass.
  parts_pass : (passed : List PassedSegment) (part : List Point) (p : Point) (rest : List Point) → list_all f part ≡ true
      → list_all f rest ≡ true → list_all g (parts_from passed block part p rest) ≡ true
  parts_pass passed part p [] here there = one_passes true part here
  parts_pass passed part p (q ∷ rest) here there =
      let s : PassedSegment = passed_segment block p q in
      let b : Bool = is_passed_in passed s in
      both (part_if b block part) (parts_from (passed ++ s ∷ []) block (part_after b part q) q rest) (one_passes b part here)
      (parts_pass (passed ++ s ∷ []) (part_after b part q) q rest (goes_on b part q here (first_true _ _ there)) (second_true _ _ there))

  line_passes : (passed : List PassedSegment) (points : List Point) → list_all f points ≡ true
      → list_all g (parts_of passed block points) ≡ true
  line_passes passed [] all = refl
  line_passes passed (p ∷ rest) all = parts_pass passed (p ∷ []) p rest (ap (λ (x : Bool). x && true) (first_true _ _ all))
      (second_true _ _ all)

-- Lines without copies are near those as drawn.
pub uncopied_near : (gap : ℕ) (drawn : List LineValue) (passed : List PassedSegment) (lines : List LineValue)
    → list_all (is_near_one gap drawn) lines ≡ true → list_all (is_near_one gap drawn) (uncopied_after passed lines) ≡ true
uncopied_near gap drawn passed [] near = refl
uncopied_near gap drawn passed (line ∷ rest) near =
    let by : NearBy gap drawn line = near_by gap drawn line (first_true _ _ near) in
    list_all-append (is_near_one gap drawn) (parts_of passed line.block line.points)
    (uncopied_after (passed ++ passed_by line.block line.points) rest)
    ∙ ap₂ (λ (a b : Bool). a && b) (line_passes by.0 (is_near_one gap drawn) line.block by.2 passed line.points by.1)
    (uncopied_near gap drawn (passed ++ passed_by line.block line.points) rest (second_true _ _ near))
