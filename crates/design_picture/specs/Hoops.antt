-- A hoop around a design: both have one middle. The hoop is turned where the design fits it only
-- so, and red where the design doesn't fit. Then stitches outside the hoop are red too.
use Rattle.std.specs.Prelude.{ℕ, ℤ, ◌+◌, ◌-◌, ◌*◌, ◌/◌, ◌-ℤ◌, ◌||◌, unsigned_abs, Bool, nat_le, nat_lt, List, [], ◌∷◌, ◌++◌, Some, codes, if◌then◌else◌}
use Rattle.std.specs.Fmt.{decimal}
use Rattle.design_model.specs.declared.bounds.Extent.{Extent}
use Rattle.design_model.specs.declared.point.Point.{Point}
use Rattle.design_model.specs.Extents.{extent_height, extent_width}
use Rattle.design_picture.specs.declared.block_line.TheConstants.{LINE_HEIGHT}
use Rattle.design_picture.specs.declared.hoop.Hoop.{Hoop}
use Rattle.design_picture.specs.declared.hoop.Rim.{Rim}
use Rattle.design_picture.specs.declared.strokes.SewnStitch.{SewnStitch}
use Rattle.design_picture.specs.declared.strokes.Stroke.{Stroke}
use Rattle.design_picture.specs.declared.strokes.Stroke.TheVariants.{Begin, Float, Sewn, Trim, Stop}
use Rattle.design_picture.specs.Threads.{sewn_text}
use Rattle.hoop_check.specs.declared.fitting.Fit.{Fit}
use Rattle.hoop_check.specs.declared.fitting.Fit.TheVariants as fit
use Rattle.picture_parts.specs.Parts.{ended, filled, mm_text, point_text}
use Rattle.picture_parts.specs.Paths.{move_text}

-- What a hoop that is smaller than a design leaves out at each of two sides: half of the
-- difference, rounded up, or 0.
abbrev pub left_out : ℕ → ℕ → ℕ
left_out hoop design = (design - hoop + 1) / 2

-- The rim of an extent that lies outside a hoop with the same middle.
abbrev pub rim_of : Extent → Hoop → Rim
rim_of extent hoop = record {
  corners = extent;
  across = left_out hoop.width (extent_width (Some extent));
  down = left_out hoop.height (extent_height (Some extent));
}

-- Two coordinates are nearer to each other than a length.
abbrev pub are_nearer : ℕ → ℤ → ℤ → Bool
are_nearer length a b = nat_lt (unsigned_abs (a -ℤ b)) length

-- A point of the extent is on the rim, outside the hoop.
abbrev pub is_beyond_hoop : Rim → Point → Bool
is_beyond_hoop rim p = are_nearer rim.across p.x rim.corners.min.x
    || (are_nearer rim.across rim.corners.max.x p.x
    || (are_nearer rim.down p.y rim.corners.min.y || are_nearer rim.down rim.corners.max.y p.y))

-- A stitch that begins or ends outside the hoop, once more.
abbrev pub outside_shape : Rim → SewnStitch → List ℕ
outside_shape rim stitch = if is_beyond_hoop rim stitch.from || is_beyond_hoop rim stitch.at
    then move_text stitch.from ++ sewn_text stitch else []

-- The stitch of a stroke that begins or ends outside the hoop.
abbrev pub outside_text : Rim → Stroke → List ℕ
outside_text rim (Begin start) = []
outside_text rim (Float from p) = []
outside_text rim (Sewn stitch) = outside_shape rim stitch
outside_text rim (Trim p) = []
outside_text rim (Stop ended next) = []

-- By how much a design is too large for a hoop.
unfoldable pub too_large : ℕ → ℕ → List ℕ
too_large over_x over_y = filled (codes "too large by @ x @ mm")
    (mm_text over_x ∷ mm_text over_y ∷ [])

-- What the key says of a design in a hoop.
abbrev pub fit_words : Fit → List ℕ
fit_words fit.Upright = codes "fits"
fit_words fit.Turned = codes "fits turned"
fit_words (fit.No over_x over_y) = too_large over_x over_y

-- The beginning of the key's line of a hoop, below so many lines: its size.
unfoldable pub hoop_key_start : ℕ → Hoop → List ℕ
hoop_key_start lines hoop = filled (codes "<g transform='translate(0,@)'><text class='small'>"
    ++ codes "hoop @ x @ mm: ")
    (decimal (160 + LINE_HEIGHT * lines + LINE_HEIGHT) ∷ mm_text hoop.width
    ∷ mm_text hoop.height ∷ [])

-- The end of the key's line of a hoop: the mark of the middle.
unfoldable pub hoop_key_end : List ℕ
hoop_key_end = filled (codes "</text><path class='line' d='M498,-6m-9,0l9,-9l9,9l-9,9z'/><text "
    ++ ended (codes "class='small' x='514'>middle</text></g>")) []

-- The key's line of a hoop, below so many lines.
abbrev pub hoop_key : ℕ → Hoop → Fit → List ℕ
hoop_key lines hoop fit = hoop_key_start lines hoop ++ (fit_words fit ++ hoop_key_end)

-- The hoop as a design fits it.
abbrev pub hoop_as_fits : Hoop → Fit → Hoop
hoop_as_fits hoop fit.Upright = hoop
hoop_as_fits hoop fit.Turned = record { width = hoop.height; height = hoop.width }
hoop_as_fits hoop (fit.No over_x over_y) = hoop

-- The class of a hoop's outline, which is red where the design doesn't fit.
abbrev pub hoop_class : Fit → List ℕ
hoop_class fit.Upright = codes "line"
hoop_class fit.Turned = codes "line"
hoop_class (fit.No over_x over_y) = codes "line over"

-- The beginning of a hoop's outline, at the corner of the design.
unfoldable pub hoop_start : List ℕ → Point → List ℕ
hoop_start class corner = filled (codes "<path class='@' d='M@") (class ∷ point_text corner ∷ [])

-- Where a hoop's side begins from the design's side: half of what it is longer, to the left or
-- above. Other characters come before it.
unfoldable pub offset_text : List ℕ → ℕ → ℕ → List ℕ
offset_text before hoop design = if nat_le design hoop
    then filled (codes "@-@") (before ∷ mm_text ((hoop - design) * 5) ∷ [])
    else filled (codes "@@") (before ∷ mm_text ((design - hoop) * 5) ∷ [])

-- The four sides of a hoop, from its upper left corner on.
unfoldable pub hoop_end : Hoop → List ℕ
hoop_end hoop = filled (ended (codes "h@v@h-@z'/>"))
    (decimal hoop.width ∷ decimal hoop.height ∷ decimal hoop.width ∷ [])

-- The outline of a hoop around an extent.
unfoldable pub hoop_text : Extent → Hoop → Fit → List ℕ
hoop_text extent hoop fit = hoop_start (hoop_class fit) extent.min
    ++ (offset_text (codes "m") hoop.width (extent_width (Some extent))
    ++ (offset_text (codes ",") hoop.height (extent_height (Some extent)) ++ hoop_end hoop))
