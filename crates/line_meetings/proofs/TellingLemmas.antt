-- Meetings are told up to one above the limit: what is left may be left out once there are so many.
use Rattle.std.proofs.Common.{◌≡◌, ℕ, ◌≤◌, ◌+◌, ◌++◌, nat_lt, true, List, [], ◌∷◌, length, ap, sym, ◌∙◌, append_assoc, arith}
use Rattle.std.proofs.lemmas.List.{take-append-le}
use Rattle.line_meetings.specs.declared.meeting.Meeting.{Meeting}
use Rattle.line_meetings.specs.declared.meeting.TheConstants.{MAX_MEETINGS}
use Rattle.line_meetings.specs.Meetings.{beside, close_to, meetings_among, touches}
use Rattle.line_meetings.specs.Telling.{TellsUpTo, told}
use Rattle.line_meetings.proofs.Names.{ltb-true, flat_map, LineSegment}

-- Meetings found, with those that are left, tell the same as those before, with all.
abbrev pub TellsFrom : (left found all before : List Meeting) → Type 0
TellsFrom left found all before = (rest : List Meeting)
    → told (found ++ (left ++ rest)) ≡ told (before ++ (all ++ rest))

-- the meetings of one part more are found
pub told_next : (f : LineSegment → List Meeting) (x : LineSegment) (left more : List LineSegment) (found new all before : List Meeting)
    → left ≡ x ∷ more → new ≡ found ++ f x → TellsFrom (flat_map f left) found all before
    → TellsFrom (flat_map f more) new all before
told_next f x left more found new all before is longer tells rest =
    ap (λ (some : List Meeting). told some)
    (ap (λ (some : List Meeting). some ++ (flat_map f more ++ rest)) longer
    ∙ append_assoc found (f x) (flat_map f more ++ rest)
    ∙ ap (λ (some : List Meeting). found ++ some) (sym (append_assoc (f x) (flat_map f more) rest))
    ∙ ap (λ (parts : List LineSegment). found ++ (flat_map f parts ++ rest)) (sym is))
    ∙ tells rest

-- there are enough
pub told_enough : (found left all before : List Meeting) → nat_lt MAX_MEETINGS (length found) ≡ true
    → TellsFrom left found all before → TellsUpTo all before found
unfolding told
told_enough found left all before enough tells rest =
    let many : MAX_MEETINGS + 1 ≤ length found = omega (arith, ltb-true MAX_MEETINGS (length found) enough) in
    take-append-le (MAX_MEETINGS + 1) found rest many
    ∙ sym (take-append-le (MAX_MEETINGS + 1) found (left ++ rest) many) ∙ tells rest

-- all are found
pub told_all : (f : LineSegment → List Meeting) (left : List LineSegment) (found all before : List Meeting) → left ≡ []
    → TellsFrom (flat_map f left) found all before → TellsUpTo all before found
told_all f left found all before none tells rest =
    ap (λ (parts : List LineSegment). told (found ++ (flat_map f parts ++ rest))) (sym none) ∙ tells rest

-- the meetings of all kinds, one kind after another
pub told_together : (gap : ℕ) (near tree first second third : List LineSegment) (again none close beside_too touched found : List Meeting)
    → first ≡ near → second ≡ near → third ≡ tree → none ≡ [] → TellsUpTo (flat_map (close_to gap near tree) first) none close
    → TellsUpTo (flat_map (beside gap tree) second) close beside_too
    → TellsUpTo (flat_map (touches tree) third) beside_too touched → found ≡ touched ++ again
    → told found ≡ told (meetings_among gap near tree again)
told_together gap near tree first second third again none close beside_too touched found
    of_first of_second of_third empty one two three last =
    ap told last ∙ three again
    ∙ ap (λ (some : List LineSegment). told (beside_too ++ (flat_map (touches tree) some ++ again))) of_third
    ∙ two (flat_map (touches tree) tree ++ again)
    ∙ ap (λ (some : List LineSegment). told (close ++ (flat_map (beside gap tree) some
    ++ (flat_map (touches tree) tree ++ again)))) of_second
    ∙ one (flat_map (beside gap tree) near ++ (flat_map (touches tree) tree ++ again))
    ∙ ap (λ (some : List LineSegment). told (none ++ (flat_map (close_to gap near tree) some
    ++ (flat_map (beside gap tree) near ++ (flat_map (touches tree) tree ++ again))))) of_first
    ∙ ap (λ (some : List Meeting). told (some ++ meetings_among gap near tree again)) empty
