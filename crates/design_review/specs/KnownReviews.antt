-- What the code of a review knows of a design. No public clause cites this file.
use Rattle.std.specs.Prelude.{◌≡◌, ℕ, ◌==◌, ◌≤◌, Bool, not, ◌&&◌, ◌||◌, List, ◌++◌, IsTrue, length, map}
use Rattle.std.specs.HashMap.{get}
use Rattle.design_model.specs.declared.act.Act.{Act}
use Rattle.design_model.specs.declared.act.Act.TheVariants as act
use Rattle.design_model.specs.declared.point.Point.{Point}
use Rattle.design_review.specs.declared.place.DesignPlace.{DesignPlace}
use Rattle.design_review.specs.declared.place.DesignPlace.TheVariants as place
use Rattle.design_review.specs.declared.reviewing.Known.{Known}
use Rattle.design_review.specs.declared.sewn.Sewn.{Sewn}
use Rattle.design_review.specs.declared.thread_needles.ThreadNeedle.{ThreadNeedle}
use Rattle.design_review.specs.Crowds.{AreCrowds, AreKeysOf, has_key, is_near_any}
use Rattle.design_review.specs.NeedleKeys.{key_of}
use Rattle.design_review.specs.Places.{Review, place_where, places_of_act, reported_after_act}

-- The review that the code knows.
abbrev pub known_review : Known → Review
known_review known = record {
  limits = known.limits;
  needles = known.needles.now;
  threads = known.threads.now;
  moves = known.moves.now;
}

-- The crowds are those of the needles.
abbrev pub KnowsCrowds : Known → Type 0
KnowsCrowds known =
    AreCrowds known.limits.hole known.needles.now (get (λ a b. a == b) known.crowds.now)

-- The piece that is sewn is within the needles.
pub record IsPieceWithin (needles : List ThreadNeedle) (sewn : Sewn) : Type 0 where
  pub start : sewn.before_piece ≤ sewn.needles
  pub end : sewn.needles ≤ length needles

-- A needle of an act is one of the needles.
abbrev pub IsNeedleAmong : List Point → Act → Type 0
IsNeedleAmong needles (act.Needle p float) = IsTrue (has_key (map key_of needles) (key_of p))
IsNeedleAmong needles act.Trim = Unit {0}
IsNeedleAmong needles act.Stop = Unit {0}

-- The places of an act are added, and what is reported after it is noted.
pub record PutsAct (review : Review) (sewn : Sewn) (command : ℕ) (a : Act)
    (old new : List DesignPlace) (keys : ℕ → Bool) (reported : List Point) : Type 0 where
  pub places : new ≡ old ++ places_of_act review reported sewn command a
  pub noted : AreKeysOf (reported_after_act review reported a) keys

-- A crowded needle, by its key: its place is added, unless it is in a hole that is reported before.
pub record NotesCrowd (command key count : ℕ) (old new : List DesignPlace)
    (before after : ℕ → Bool) : Type 0 where
  pub places : new ≡ old ++ place_where (not (is_near_any before key)) (place.Hole command count)
  pub noted : (other : ℕ)
      → after other ≡ (before other || (not (is_near_any before key) && key == other))
