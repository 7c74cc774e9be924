-- The lines about places of a design. Commands, pieces, blocks and stops are numbered from 1, and
-- lengths are in tenths of a millimetre.
use Rattle.std.specs.Prelude.{ℕ, List, [], ◌∷◌, ◌++◌, codes, decimal}
use Rattle.design_model.specs.TextLines.{newline}
use Rattle.design_review.specs.declared.place.DesignPlace.{DesignPlace}
use Rattle.design_review.specs.declared.place.DesignPlace.TheVariants as place

-- The text about a place.
abbrev pub design_place_text : DesignPlace → List ℕ
design_place_text place.NoNeedle = codes "no needle at all"
design_place_text (place.Stitch command length) =
    codes "command " ++ (decimal command ++ (codes ": stitch of " ++ decimal length))
design_place_text (place.Float command length) = codes "command " ++ (decimal command
    ++ (codes ": float of " ++ (decimal length ++ codes " without a trim")))
design_place_text (place.Hole command needles) = codes "command " ++ (decimal command
    ++ (codes ": " ++ (decimal needles ++ codes " needles in one hole")))
design_place_text (place.UntiedStart piece) =
    codes "piece " ++ (decimal piece ++ codes ": not tied at its start")
design_place_text (place.UntiedEnd piece) =
    codes "piece " ++ (decimal piece ++ codes ": not tied at its end")
design_place_text (place.EmptyBlock block) = codes "block " ++ (decimal block
    ++ codes ": no needle")
design_place_text (place.FrameMove stop length) =
    codes "stop " ++ (decimal stop ++ (codes ": the frame moves by " ++ decimal length))

-- The lines about places.
abbrev pub design_place_lines : List DesignPlace → List ℕ
design_place_lines [] = []
design_place_lines (p ∷ rest) = (design_place_text p ++ newline) ++ design_place_lines rest
