-- Drawn lines that are joined with starts and ends: the result has their sections and these starts and ends.
use Rattle.std.proofs.Common.{◌≡◌, ◌∙◌, Bool, true, false, not, nat_lt, List, [], ◌∷◌, ◌++◌, Result, Ok, Err, IfOk, length, refl, ap, sym, subst, append_assoc, append-nil, All, if◌then◌else◌, arith}
use Rattle.drawing_edits.proofs.Names.{nat_tests, All-head, All-nil, IfOk-at_ok, IfOk-weaker, list_any, with_starts_and_ends, with_walk_ends, DrawKind, MAX_LINES, MAX_POINTS, DrawingValue, and_then, point_count, joined_drawing, HasNoEnds, is_junction, Spot, LineValue, after_both, All-cons, are_connected_spots, spot_added, walk_end_added}
use Rattle.line_graph.specs.declared.draw_kind.DrawKind.TheVariants as kind
use Rattle.line_sections.specs.Sections.{all_sections}

-- A drawing with further starts where the flag is true, else with further ends.
abbrev pub with_spots : Bool → DrawingValue → List Spot → DrawingValue
with_spots true d spots = record d { starts = d.starts ++ spots }
with_spots false d spots = record d { ends = d.ends ++ spots }

-- A drawing that got further starts or ends, each of which is a junction.
pub record HasSpots (is_start : Bool) (d : DrawingValue) (spots : List Spot) (e : DrawingValue) : Type 0 where
  pub is : e ≡ with_spots is_start d spots
  pub there : All (λ spot. is_junction d.lines spot ≡ true) spots

module _ (lines : List LineValue) (spots : List Spot) (spot : Spot) where
  -- A spot that is added is a junction, and the last one.
  abbrev IsLast : List Spot → Type 0
  IsLast all = (all ≡ spots ++ spot ∷ []) × All (λ one. is_junction lines one ≡ true) (spot ∷ [])

  last_by : (there twice : Bool) (x y : DrawKind) → is_junction lines spot ≡ there
      → IfOk (if not there then Err x else (if twice then Err y else Ok (spots ++ spot ∷ []))) IsLast
  last_by false twice x y is = tt
  last_by true true x y is = tt
  last_by true false x y is = (refl, All-cons (λ (s : Spot). is_junction lines s ≡ true) spot [] is (All-nil _))

  comes_last : IfOk (spot_added lines spots spot) IsLast
  comes_last = last_by (is_junction lines spot) (list_any (λ (one : Spot). are_connected_spots lines one spot) spots) _ _ refl

lines_stay : (is_start : Bool) (d : DrawingValue) (spots : List Spot) → (with_spots is_start d spots).lines ≡ d.lines
lines_stay is_start d spots = grind (arith, nat_tests)

one_more : (is_start : Bool) (d : DrawingValue) (spot : Spot) (rest : List Spot)
    → with_spots is_start (with_spots is_start d (spot ∷ [])) rest ≡ with_spots is_start d (spot ∷ rest)
one_more true d spot rest = ap (λ (s : List Spot). record d { starts = s }) (append_assoc d.starts (spot ∷ []) rest)
one_more false d spot rest = ap (λ (s : List Spot). record d { ends = s }) (append_assoc d.ends (spot ∷ []) rest)

none_more : (is_start : Bool) (d : DrawingValue) → with_spots is_start d [] ≡ d
none_more true d = ap (λ (s : List Spot). record d { starts = s }) (append-nil d.starts)
none_more false d = ap (λ (s : List Spot). record d { ends = s }) (append-nil d.ends)

-- All further starts or ends are put after those before.
pub spots_put : (is_start : Bool) (spots : List Spot) (d : DrawingValue)
    → IfOk (with_walk_ends is_start d spots) (HasSpots is_start d spots)
spots_put is_start [] d = record { is = sym (none_more is_start d); there = All-nil _ }
spots_put is_start (spot ∷ rest) d =
    after_both (HasSpots is_start d (spot ∷ [])) (HasSpots is_start d (spot ∷ rest)) (walk_end_added is_start d spot)
    (λ next. with_walk_ends is_start next rest) (grind (arith, nat_tests))
    (λ next one. IfOk-weaker (with_walk_ends is_start next rest) (HasSpots is_start next rest) (HasSpots is_start d (spot ∷ rest))
    (λ e more. record {
      is = more.is ∙ ap (λ (n : DrawingValue). with_spots is_start n rest) one.is ∙ one_more is_start d spot rest;
      there = All-cons (λ (s : Spot). is_junction d.lines s ≡ true) spot rest
          (All-head (λ (s : Spot). is_junction d.lines s ≡ true) spot [] one.there)
          (subst (λ (ls : List LineValue). All (λ (s : Spot). is_junction ls s ≡ true) rest)
          (ap (λ (n : DrawingValue). n.lines) one.is ∙ lines_stay is_start d (spot ∷ [])) more.there);
    }) (spots_put is_start rest next))

-- A drawing that got starts and ends, each of which is a junction.
pub record HasBoth (whole : DrawingValue) (starts ends : List Spot) (e : DrawingValue) : Type 0 where
  pub is : e ≡ record whole { starts = starts; ends = ends }
  pub starts_there : All (λ spot. is_junction whole.lines spot ≡ true) starts
  pub ends_there : All (λ spot. is_junction whole.lines spot ≡ true) ends

pub both_put : (whole : DrawingValue) (starts ends : List Spot) → HasNoEnds whole
    → IfOk (with_starts_and_ends whole starts ends) (HasBoth whole starts ends)
both_put whole starts ends none =
    after_both (HasSpots true whole starts) (HasBoth whole starts ends) (with_walk_ends true whole starts)
    (λ s. with_walk_ends false s ends) (spots_put true starts whole)
    (λ s first. IfOk-weaker (with_walk_ends false s ends) (HasSpots false s ends) (HasBoth whole starts ends)
    (λ e second. record {
      is = second.is ∙ ap (λ (d : DrawingValue). with_spots false d ends) first.is
          ∙ ap (λ (ss : List Spot). record whole { starts = ss ++ starts; ends = whole.ends ++ ends }) none.starts
          ∙ ap (λ (es : List Spot). record whole { starts = starts; ends = es ++ ends }) none.ends;
      starts_there = first.there;
      ends_there = subst (λ (ls : List LineValue). All (λ (p : Spot). is_junction ls p ≡ true) ends)
          (ap (λ (d : DrawingValue). d.lines) first.is) second.there;
    }) (spots_put false ends s))

-- The joined drawing has starts and ends that are junctions of the given sections, and the call joins it as it is.
pub record IsJoinedWith (join : (starts ends : List Spot) → Result DrawingValue DrawKind) (sections : List LineValue)
    (starts ends : List Spot) (joined : DrawingValue) : Type 0 where
  pub whole : join joined.starts joined.ends ≡ Ok joined
  pub starts_are : joined.starts ≡ starts
  pub ends_are : joined.ends ≡ ends
  pub starts_there : All (λ spot. is_junction sections spot ≡ true) starts
  pub ends_there : All (λ spot. is_junction sections spot ≡ true) ends

module _ (drawn : DrawingValue) (sections : List LineValue) (starts ends : List Spot) (none : HasNoEnds drawn) (x y : DrawKind) where
  abbrev joined_if : (many long : Bool) → (starts ends : List Spot) → Result DrawingValue DrawKind
  joined_if many long s e = if many then Err x else (if long then Err y
      else Ok (record drawn { lines = sections; starts = s; ends = e }))

  joined_by : (many long : Bool) → IfOk (and_then (joined_if many long drawn.starts drawn.ends)
      (λ (whole : DrawingValue). with_starts_and_ends whole starts ends)) (IsJoinedWith (joined_if many long) sections starts ends)
  joined_by true long = tt
  joined_by false true = tt
  joined_by false false =
      let whole : DrawingValue = record drawn { lines = sections } in
      let Is : DrawingValue → Type 0 = IsJoinedWith (joined_if false false) sections starts ends in
      IfOk-weaker (with_starts_and_ends whole starts ends) (HasBoth whole starts ends) Is
      (λ e put. subst Is (sym put.is) (record {
        whole = refl;
        starts_are = refl;
        ends_are = refl;
        starts_there = put.starts_there;
        ends_there = put.ends_there;
      })) (both_put whole starts ends (record { starts = none.starts; ends = none.ends }))

-- Drawn lines that were joined with starts and ends have these and their own sections.
pub joined_with : (drawn joined : DrawingValue) (starts ends : List Spot) → HasNoEnds drawn
    → and_then (joined_drawing drawn) (λ (whole : DrawingValue). with_starts_and_ends whole starts ends) ≡ Ok joined
    → IsJoinedWith (λ s e. joined_drawing (record drawn { starts = s; ends = e })) (all_sections drawn.lines) starts ends joined
joined_with drawn joined starts ends none is =
    let sections : List LineValue = all_sections drawn.lines in
    let many : Bool = nat_lt MAX_LINES (length sections) in
    let long : Bool = nat_lt MAX_POINTS (point_count sections) in
    IfOk-at_ok _ is (joined_by drawn sections starts ends none kind.TooManyLines kind.TooManyPoints many long)
