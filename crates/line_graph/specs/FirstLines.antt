-- Links between lines that share an end, from which the pieces are computed. A link connects a line
-- to the first line at one of its ends. Indexes of lines count from 0. Used only inside this crate.
use Rattle.std.specs.Prelude.{◌≡◌, ℕ, ◌<◌, ◌⊎◌, List, [], ◌∷◌, ◌++◌, Option, Some, length, get_or, All, Contains}
use Rattle.line_sections.specs.declared.spot.Spot.{Spot}
use Rattle.line_graph.specs.declared.line_labels.LineLink.{LineLink}
use Rattle.line_graph.specs.Drawings.{DrawingValue, block_of, first_point, last_point, points_of}
use Rattle.line_graph.specs.LineLabels.{LabelsAgree, LinkedAreConnected, AreLinksBelow}
use Rattle.line_graph.specs.Pieces.{LinesTouch}

-- A line has an end at a spot.
pub record IsLineEnd (d : DrawingValue) (line : ℕ) (spot : Spot) : Type 0 where
  pub there : line < length d.lines
  pub block : block_of d line ≡ spot.block
  pub at_end : (first_point (points_of d line) ≡ Some spot.at)
      ⊎ (last_point (points_of d line) ≡ Some spot.at)

-- The first line at each spot, if there is one: a map from spots to lines.
abbrev pub FirstLineAt : Type 0
FirstLineAt = Spot → Option ℕ

-- A line is entered in the map at a spot: it becomes the first line there if the spot had none. No
-- other entry changes.
pub record RecordsFirstLine (spot : Spot) (line : ℕ) (old new : FirstLineAt) (first : ℕ) : Type 0
  where
    pub is : new spot ≡ Some first
    pub keeps : (other : Spot) (n : ℕ) → old other ≡ Some n → new other ≡ Some n
    pub only : (other : Spot) (n : ℕ) → new other ≡ Some n
        → (old other ≡ Some n) ⊎ ((other ≡ spot) × (n ≡ line))

-- A link is added from a line to the first line at a spot.
pub record AddsLink (spot : Spot) (line : ℕ) (old new : FirstLineAt) (before after : List LineLink)
    : Type 0 where
  pub first : ℕ
  pub takes : RecordsFirstLine spot line old new first
  pub added : after ≡ before ++ record { line = line; first = first } ∷ []

-- Two lines have an end in common.
pub record SharesEnd (d : DrawingValue) (line other : ℕ) : Type 0 where
  pub spot : Spot
  pub one : IsLineEnd d line spot
  pub two : IsLineEnd d other spot

-- A line is linked to the first line at a spot.
pub record IsLinkedAt (firsts : FirstLineAt) (links : List LineLink) (line : ℕ) (spot : Spot) : Type
    0 where
  pub first : ℕ
  pub is : firsts spot ≡ Some first
  pub linked : Contains links (record { line = line; first = first })

-- All lines below the index `count` are linked at both ends, and each link connects lines that
-- share an end.
pub record AreLinkedBelow (d : DrawingValue) (count : ℕ) (firsts : FirstLineAt)
    (links : List LineLink)
    : Type 0 where
  pub sound : (spot : Spot) (line : ℕ) → firsts spot ≡ Some line → IsLineEnd d line spot
  pub met : (line : ℕ) (spot : Spot) → line < count → IsLineEnd d line spot
      → IsLinkedAt firsts links line spot
  pub shared : All (λ (link : LineLink). SharesEnd d link.line link.first) links

-- Links of a drawing: linked lines are connected, and lines that touch have equal labels wherever
-- all linked lines have equal labels.
pub record AreLinks (d : DrawingValue) (links : List LineLink) : Type 0 where
  pub within : AreLinksBelow (length d.lines) links
  pub joined : LinkedAreConnected d links
  pub met : (labels : List ℕ) → LabelsAgree labels links → (i j : ℕ) → LinesTouch d i j
      → get_or labels i 0 ≡ get_or labels j 0
