-- The places of a design that were probably not meant, in the order of its commands. The places of
-- a piece come where it ends, and so does that of a block. Lengths are straight, in tenths of a
-- millimetre, rounded down.
use Rattle.std.specs.Prelude.{ℕ, ◌+◌, ◌==◌, Bool, not, ◌&&◌, ◌||◌, nat_lt, List, [], ◌∷◌, ◌++◌, length, slice_get, unwrap_or, if◌then◌else◌}
use Rattle.design_model.specs.declared.act.Act.{Act}
use Rattle.design_model.specs.declared.act.Act.TheVariants as act
use Rattle.design_model.specs.declared.act.NumberedAct.{NumberedAct}
use Rattle.design_model.specs.declared.point.Point.{Point}
use Rattle.design_model.specs.Acts.{acts_of}
use Rattle.design_model.specs.Designs.{DesignValue}
use Rattle.design_model.specs.Extents.{needle_points_of_design}
use Rattle.design_review.specs.declared.limits.ReviewLimits.{ReviewLimits}
use Rattle.design_review.specs.declared.place.DesignPlace.{DesignPlace}
use Rattle.design_review.specs.declared.place.DesignPlace.TheVariants as place
use Rattle.design_review.specs.declared.sewn.Sewn.{Sewn}
use Rattle.design_review.specs.declared.thread_needles.ThreadNeedle.{ThreadNeedle}
use Rattle.design_review.specs.FrameMoves.{frame_moves_of, tenths_between}
use Rattle.design_review.specs.Holes.{is_hole_reported, needles_in_hole, reported_after}
use Rattle.design_review.specs.SewnActs.{is_piece_open, nothing_sewn, open_piece, sewn_after}
use Rattle.design_review.specs.Ties.{backwards, is_tied, thread_needles_of_design}

-- What a review knows of all of a design: the limits, the points of its needles, the needles with
-- their floats, and how far the frame is from the last needle at each stop.
pub record Review : Type 0 where
  pub limits : ReviewLimits
  pub needles : List Point
  pub threads : List ThreadNeedle
  pub moves : List ℕ

-- The review of a design.
abbrev pub review_of : ReviewLimits → DesignValue → Review
review_of limits d = record {
  limits = limits;
  needles = needle_points_of_design d;
  threads = thread_needles_of_design d;
  moves = frame_moves_of d;
}

-- A place, where a test holds.
abbrev pub place_where : Bool → DesignPlace → List DesignPlace
place_where test place = if test then place ∷ [] else []

-- The test whether a length exceeds a limit. None exceeds the limit 0.
abbrev pub exceeds : (limit length : ℕ) → Bool
exceeds limit length = not (limit == 0) && nat_lt limit length

-- The test whether a stitch of a length is too short or too long.
abbrev pub is_bad_stitch : ReviewLimits → ℕ → Bool
is_bad_stitch limits length = nat_lt length limits.short || exceeds limits.long length

-- The place of the thread to a needle: a stitch that is too short or too long, or a float that is
-- too long. A float may also be too short, as a stitch.
abbrev pub span_places : ReviewLimits → (command : ℕ) → Bool → ℕ → List DesignPlace
span_places limits command float length =
    if float then (if exceeds limits.float length then place.Float command length ∷ []
    else place_where (nat_lt length limits.short) (place.Stitch command length))
    else place_where (is_bad_stitch limits length) (place.Stitch command length)

-- The place of the thread to a needle, where it isn't loose.
abbrev pub thread_places : ReviewLimits → Sewn → (command : ℕ) → Point → Bool → List DesignPlace
thread_places limits sewn command p float =
    if is_piece_open sewn then span_places limits command float (tenths_between sewn.place p)
    else []

-- The place of a needle in one hole with others.
abbrev pub hole_places : Review → (reported : List Point) → (command : ℕ) → Point
    → List DesignPlace
hole_places review reported command p =
    place_where (is_hole_reported review.limits.hole review.needles reported p)
    (place.Hole command (needles_in_hole review.needles p))

-- The places of a piece that has ended, by its number. With the limit 0 no tie is looked for.
abbrev pub tie_places : ReviewLimits → ℕ → List ThreadNeedle → List DesignPlace
tie_places limits number thread = if limits.tie == 0 then [] else
    place_where (not (is_tied limits.tie thread)) (place.UntiedStart number)
    ++ place_where (not (is_tied limits.tie (backwards thread))) (place.UntiedEnd number)

-- The places of the piece that is sewn, where there is one.
abbrev pub piece_places : Review → Sewn → List DesignPlace
piece_places review sewn = if is_piece_open sewn
    then tie_places review.limits sewn.pieces (open_piece review.threads sewn) else []

-- The place of a block that has ended. In a design without a needle it is no place.
abbrev pub block_places : Review → Sewn → List DesignPlace
block_places review sewn =
    place_where (sewn.before_block == sewn.needles && not (length review.needles == 0))
    (place.EmptyBlock (sewn.stops + 1))

-- The places where a block ends.
abbrev pub end_places : Review → Sewn → List DesignPlace
end_places review sewn = piece_places review sewn ++ block_places review sewn

-- How far the frame is from the last needle at the next stop.
abbrev pub next_frame_move : Review → Sewn → ℕ
next_frame_move review sewn = unwrap_or (slice_get review.moves sewn.stops) 0

-- The place of a stop at which the frame is away from the last needle.
abbrev pub frame_places : Review → Sewn → List DesignPlace
frame_places review sewn = place_where (not (next_frame_move review sewn == 0))
    (place.FrameMove (sewn.stops + 1) (next_frame_move review sewn))

-- The places of an act of a command.
abbrev pub places_of_act : Review → (reported : List Point) → Sewn → (command : ℕ) → Act
    → List DesignPlace
places_of_act review reported sewn command (act.Needle p float) =
    thread_places review.limits sewn command p float ++ hole_places review reported command p
places_of_act review reported sewn command act.Trim = piece_places review sewn
places_of_act review reported sewn command act.Stop =
    end_places review sewn ++ frame_places review sewn

-- The needles of the reported holes, after an act.
abbrev pub reported_after_act : Review → (reported : List Point) → Act → List Point
reported_after_act review reported (act.Needle p float) =
    reported_after review.limits.hole review.needles reported p
reported_after_act review reported act.Trim = reported
reported_after_act review reported act.Stop = reported

-- The places of acts, and of the end of the design after them.
abbrev pub places_from : Review → (reported : List Point) → Sewn → List NumberedAct
    → List DesignPlace
places_from review reported sewn [] = end_places review sewn
places_from review reported sewn (a ∷ rest) =
    places_of_act review reported sewn a.number a.act
    ++ places_from review (reported_after_act review reported a.act) (sewn_after sewn a.act) rest

-- The places of a design: whether it has no needle, and those of its acts.
abbrev pub places_of : ReviewLimits → DesignValue → List DesignPlace
places_of limits d = place_where (length (needle_points_of_design d) == 0) place.NoNeedle
    ++ places_from (review_of limits d) [] nothing_sewn (acts_of d)
