-- The marks of pictures. At one needle the triangle of a start is on the left, the square of an end
-- and the bars of a stop on the right, and the cross of a trim below.
use Rattle.std.specs.Prelude.{ℕ, List, [], ◌∷◌, ◌++◌, codes}
use Rattle.design_model.specs.declared.point.Point.{Point}
use Rattle.picture_parts.specs.declared.marks.Mark.{Mark}
use Rattle.picture_parts.specs.declared.marks.Mark.TheVariants.{Start, End, Stop, Trim, Even, Odd, Loose}
use Rattle.picture_parts.specs.Parts.{ended, filled, point_text}

-- The shape of a mark.
abbrev pub mark_template : Mark → List ℕ
mark_template Start = ended (codes "<path class='start' d='M@m-23,-9l18,9l-18,9z'/>")
mark_template End = ended (codes "<path class='end' d='M@m6,-7h14v14h-14z'/>")
mark_template Stop = ended (codes "<path class='stop' d='M@m25,-7h4v14h-4zm8,0h4v14h-4z'/>")
mark_template Trim = ended (codes "<path class='trim' d='M@m-6,8l12,12m-12,0l12,-12'/>")
mark_template Even = ended (codes "<path fill='#222' d='M@m-5,0a5,5,0,1,0,10,0a5,5,0,1,0,-10,0'/>")
mark_template Odd = codes "<path fill='#ffd400' stroke='#222' stroke-width='2' d='M@"
    ++ ended (codes "m-9,0a9,9,0,1,0,18,0a9,9,0,1,0,-18,0'/>")
mark_template Loose = codes "<path fill='none' stroke='#d00' stroke-width='3' d='M@"
    ++ ended (codes "m-15,0a15,15,0,1,0,30,0a15,15,0,1,0,-30,0'/>")

-- A shape at a point.
unfoldable pub shape_at : List ℕ → Point → List ℕ
shape_at template p = filled template (point_text p ∷ [])

-- A mark at a point.
unfoldable pub mark_text : Mark → Point → List ℕ
mark_text mark p = shape_at (mark_template mark) p
