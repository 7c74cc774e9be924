-- Worked values of what is printed of a design.
use Rattle.std.proofs.Common.{◌≡◌, ℤ, pos, negsuc, true, false, [], ◌∷◌, ◌++◌, refl}
use Rattle.std.specs.Fmt.{digits}
use Rattle.std.specs.Prelude.{codes}
use Rattle.design_model.specs.declared.command.Command.TheVariants.{Stitch, Jump, Trim, Stop}
use Rattle.design_model.specs.declared.point.Point.{Point}
use Rattle.design_model.specs.Counts.{counts_of}
use Rattle.design_model.specs.Designs.{DesignValue, empty_design}
use Rattle.design_model.specs.TextLines.{newline}
use Rattle.program_texts.specs.DesignReports.{written_report, show_report}

abbrev place : ℤ → ℤ → Point
place x y = record { x = x; y = y }

-- the square of sides 30 as its DST file is read: five needles, and a trim within three jumps
abbrev square : DesignValue
square = record {
  label = [];
  threads = [];
  commands = Stitch (place (pos 0) (pos 0)) ∷ Stitch (place (pos 30) (pos 0)) ∷ Stitch (place (pos 30) (pos 30))
      ∷ Stitch (place (pos 0) (pos 30)) ∷ Stitch (place (pos 0) (pos 0)) ∷ Jump (place (pos 2) (pos 2))
      ∷ Jump (place (negsuc 1) (negsuc 1)) ∷ Trim ∷ Jump (place (pos 0) (pos 0)) ∷ [];
}

-- Two blocks, of which only the first has a stored thread number.
abbrev two_blocks : DesignValue
two_blocks = record {
  label = codes "AB";
  threads = 20 ∷ [];
  commands = Jump (place (pos 10) (pos 0)) ∷ Stitch (place (pos 10) (pos 0)) ∷ Stitch (place (pos 10) (pos 25))
      ∷ Trim ∷ Stop ∷ Stitch (place (negsuc 4) (pos 3)) ∷ [];
}

pub known_square : show_report (codes "dst") (record { design = square; ended = true })
    ≡ codes "format dst" ++ (newline ++ (codes "label []" ++ (newline ++ (codes "commands 9" ++ (newline
    ++ (codes "needles 5" ++ (newline ++ (codes "trims 1" ++ (newline ++ (codes "stops 0" ++ (newline
    ++ (codes "extent 0 0 30 30" ++ (newline ++ (codes "ended yes" ++ (newline
    ++ (codes "block 1 thread 1 needles 5" ++ newline))))))))))))))))
unfolding digits
known_square = refl

pub known_two_blocks : show_report (codes "pes") (record { design = two_blocks; ended = false })
    ≡ codes "format pes" ++ (newline ++ (codes "label [AB]" ++ (newline ++ (codes "commands 6" ++ (newline
    ++ (codes "needles 3" ++ (newline ++ (codes "trims 1" ++ (newline ++ (codes "stops 1" ++ (newline
    ++ (codes "extent -5 0 10 25" ++ (newline ++ (codes "ended no" ++ (newline
    ++ (codes "block 1 thread 20 needles 2" ++ (newline
    ++ (codes "block 2 thread 2 needles 1" ++ newline))))))))))))))))))
unfolding digits
known_two_blocks = refl

-- a design without commands has one block, and no extent
pub known_nothing : show_report (codes "exp") (record { design = empty_design; ended = true })
    ≡ codes "format exp" ++ (newline ++ (codes "label []" ++ (newline ++ (codes "commands 0" ++ (newline
    ++ (codes "needles 0" ++ (newline ++ (codes "trims 0" ++ (newline ++ (codes "stops 0" ++ (newline
    ++ (codes "extent none" ++ (newline ++ (codes "ended yes" ++ (newline
    ++ (codes "block 1 thread 1 needles 0" ++ newline))))))))))))))))
unfolding digits
known_nothing = refl

-- the report on a design that was written
pub known_written : written_report (counts_of two_blocks) ≡ codes "needles 3 trims 1 stops 1" ++ newline
unfolding digits
known_written = refl
