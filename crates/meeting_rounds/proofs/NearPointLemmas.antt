-- Each point of a line that stays near is near the line as drawn.
use Rattle.std.proofs.Common.{◌≡◌, ℕ, ◌+◌, ◌*◌, Bool, true, ◌&&◌, ◌||◌, inl, inr, List, [], ◌∷◌, ◌++◌, Option, Some, None, refl, ap, ◌∙◌, sym, subst, arith}
use Rattle.std.proofs.Math.Path.{ap₂}
use Rattle.std.proofs.lemmas.Bool.Decides.{nat_tests}
use Rattle.std.proofs.lemmas.List.{append_assoc}
use Rattle.std.proofs.lemmas.List.Folds.{list_any-append}
use Rattle.std.specs.List.{list_all}
use Rattle.design_model.proofs.ListLemmas.{first_true}
use Rattle.design_model.specs.declared.point.Point.{Point}
use Rattle.drawing_review.specs.Frames.{grid_point}
use Rattle.drawing_review.specs.Meetings.{is_near}
use Rattle.line_meetings.specs.Touches.{are_close}
use Rattle.meeting_rounds.specs.NearLines.{IsAlong, StaysNear, is_near_drawn, is_near_segments, last_of}
use Rattle.meeting_rounds.specs.Puts.{drawn_between}
use Rattle.meeting_rounds.specs.RoundLaws.{NearLinesHaveNearPoints}

or_first : (a b : Bool) → a ≡ true → (a || b) ≡ true
or_first a b is = grind (arith, nat_tests)

or_second : (a b : Bool) → b ≡ true → (a || b) ≡ true
or_second a b is = grind (arith, nat_tests)

-- Some points end in the given one, if one is given.
abbrev EndsIn : List Point → Option Point → Type 0
EndsIn done None = Unit
EndsIn done (Some x) = (init : List Point) × (done ≡ init ++ x ∷ [])

last_apart : (q : Point) (run : List Point) → (init : List Point) × (q ∷ run ≡ init ++ last_of q run ∷ [])
last_apart q [] = ([], refl)
last_apart q (r ∷ run) = let later = last_apart r run in (q ∷ later.0, ap (λ (ps : List Point). q ∷ ps) later.1)

ends_later : (done : List Point) (q : Point) (run : List Point) → EndsIn (done ++ q ∷ run) (Some (last_of q run))
ends_later done q run = let later = last_apart q run in
    (done ++ later.0, ap (λ (ps : List Point). done ++ ps) later.1 ∙ sym (append_assoc done later.0 (last_of q run ∷ [])))

near_segment : (room : ℕ) (init coming : List Point) (a b p : Point) → is_near room (grid_point p) (drawn_between a b) ≡ true
    → is_near_segments room (init ++ a ∷ b ∷ coming) p ≡ true
near_segment room [] coming a b p near = or_first _ _ near
near_segment room (c ∷ []) coming a b p near = or_second _ _ (or_first _ _ near)
near_segment room (c ∷ d ∷ init) coming a b p near = or_second _ _ (near_segment room (d ∷ init) coming a b p near)

-- a listed point is near
listed_near : (gap : ℕ) (whole done : List Point) (from : Option Point) (coming : List Point) (p : Point) → whole ≡ done ++ coming
    → EndsIn done from → IsAlong (gap + 1) from coming p → is_near_drawn gap whole p ≡ true
listed_near gap whole done None coming p is ends never = absurd never
listed_near gap whole done (Some x) [] p is ends never = absurd never
listed_near gap whole done (Some x) (q ∷ coming) p is (init, ends) near =
    subst (λ (ps : List Point). is_near_drawn gap ps p ≡ true)
    (sym (is ∙ (ap (λ (ps : List Point). ps ++ q ∷ coming) ends ∙ append_assoc init (x ∷ []) (q ∷ coming))))
    (or_second _ _ (near_segment (gap + 1) init coming x q p near))

-- and so is one that stands for points as drawn
standing_near : (gap : ℕ) (whole done : List Point) (q : Point) (more : List Point) (p : Point) → whole ≡ done ++ q ∷ more
    → are_close (2 * gap + 1) (grid_point p) (grid_point q) ≡ true → is_near_drawn gap whole p ≡ true
standing_near gap whole done q more p is close =
    subst (λ (ps : List Point). is_near_drawn gap ps p ≡ true) (sym is)
    (or_first _ _ (list_any-append (λ (x : Point). are_close (2 * gap + 1) (grid_point p) (grid_point x)) done (q ∷ more)
    ∙ or_second _ _ (or_first _ _ close)))

all_near : (gap : ℕ) (whole done : List Point) (from : Option Point) (coming after : List Point) → whole ≡ done ++ coming
    → EndsIn done from → StaysNear (2 * gap + 1) (gap + 1) from coming after → list_all (is_near_drawn gap whole) after ≡ true
all_near gap whole done from coming [] is ends none = refl
all_near gap whole done from coming (p ∷ after) is ends (inl (near, rest)) =
    ap₂ (λ (a b : Bool). a && b) (listed_near gap whole done from coming p is ends near)
    (all_near gap whole done from coming after is ends rest)
all_near gap whole done from coming (p ∷ after) is ends (inr (q, run, rest, next, within, others)) =
    ap₂ (λ (a b : Bool). a && b)
    (standing_near gap whole done q (run ++ rest) p (is ∙ ap (λ (ps : List Point). done ++ ps) next) (first_true _ _ within))
    (all_near gap whole (done ++ q ∷ run) (Some (last_of q run)) rest after
    (is ∙ (ap (λ (ps : List Point). done ++ ps) next ∙ sym (append_assoc done (q ∷ run) rest))) (ends_later done q run) others)

pub points_near : NearLinesHaveNearPoints
points_near = λ gap drawn after near. all_near gap drawn [] None drawn after refl tt near
