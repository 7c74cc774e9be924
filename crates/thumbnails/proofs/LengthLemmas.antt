-- The number of bytes of thumbnails.
use Rattle.std.proofs.Common.{◌≡◌, ℕ, zero, suc, ◌+◌, ◌*◌, List, [], ◌∷◌, ◌++◌, length, refl, arith, length-append}
use Rattle.design_model.specs.declared.act.Act.{Act}
use Rattle.design_model.specs.declared.act.Act.TheVariants as act
use Rattle.design_model.specs.declared.act.NumberedAct.{NumberedAct}
use Rattle.design_model.specs.Acts.{acts_of}
use Rattle.design_model.specs.Designs.{DesignValue}
use Rattle.design_model.specs.Extents.{extent_of}
use Rattle.format_traits.specs.Refusals.{stops_in, stops_of}
use Rattle.thumbnails.specs.declared.scaling.View.{View}
use Rattle.thumbnails.specs.LitPoints.{ThumbPoints}
use Rattle.thumbnails.specs.Packings.{row_bytes, rows_from, thumb_bytes}
use Rattle.thumbnails.specs.Scales.{view_of}
use Rattle.thumbnails.specs.Sketches.{Sketched, drawn_thumbnails_of, nothing_sketched, sketched_after, sketched_along}

length-rows : (points : ThumbPoints) (row left : ℕ) → length (rows_from points row left) ≡ 6 * left
length-rows points row zero = refl
length-rows points row (suc left) =
    omega (arith, length-append (row_bytes points row) (rows_from points (row + 1) left), length-rows points (row + 1) left)

length-thumb : (points : ThumbPoints) → length (thumb_bytes points) ≡ 228
unfolding thumb_bytes
length-thumb points = length-rows points 0 38

-- The bytes of the blocks that are done, after an act and after acts.
after_act : (view : View) (sketched : Sketched) (one : Act)
    → length (sketched_after view sketched one).done ≡ length sketched.done + 228 * stops_in one
after_act view sketched (act.Needle p float) = omega arith
after_act view sketched act.Trim = omega arith
after_act view sketched act.Stop =
    omega (arith, length-append sketched.done (thumb_bytes sketched.block), length-thumb sketched.block)

after_acts : (view : View) (sketched : Sketched) (acts : List NumberedAct)
    → length (sketched_along view sketched acts).done ≡ length sketched.done + 228 * stops_of acts
after_acts view sketched [] = omega arith
after_acts view sketched (a ∷ rest) =
    omega (arith, after_act view sketched a.act, after_acts view (sketched_after view sketched a.act) rest)

pub length-drawn : (d : DesignValue) → length (drawn_thumbnails_of d) ≡ 228 * (stops_of (acts_of d) + 2)
length-drawn d =
    let view = view_of (extent_of d) in
    let last = sketched_along view nothing_sketched (acts_of d) in
    omega (
      arith,
      length-append (thumb_bytes last.whole) (last.done ++ thumb_bytes last.block),
      length-append last.done (thumb_bytes last.block),
      length-thumb last.whole,
      length-thumb last.block,
      after_acts view nothing_sketched (acts_of d),
    )
