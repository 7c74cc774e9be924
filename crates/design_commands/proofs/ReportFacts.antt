-- Worked reports of a small design on its blocks and threads, and of the palette.
use Rattle.std.proofs.Common.{◌≡◌, ◌++◌, pos, [], ◌∷◌, Some, None, codes, refl}
use Rattle.std.specs.Fmt.{digits}
use Rattle.design_model.specs.Designs.{DesignValue}
use Rattle.design_model.specs.Lengths.{length_of, square_of, whole_root}
use Rattle.design_model.specs.declared.command.Command.TheVariants.{Stitch, Stop}
use Rattle.design_commands.specs.LookTexts.{design_look_report, look_block_line}
use Rattle.design_commands.specs.ThreadTexts.{palette_lines, threads_report}
use Rattle.picture_parts.specs.Colours.{colour_of_thread}
use Rattle.picture_parts.specs.ThreadNames.{name_of_thread}

-- the length of a thread and of its stitches is in tenths, rounded down; a block without a stitch has none that is shortest
pub known_line : (look_block_line 2 20 (record { needles = 5; length = 5899; shortest = Some 399; longest = 501 })
    ≡ codes "block 2 thread 20 Black needles 5 length 58 shortest 3 longest 5\n")
    × (look_block_line 1 5 (record { needles = 1; length = 0; shortest = None; longest = 0 })
    ≡ codes "block 1 thread 5 Red needles 1 length 0 shortest 0 longest 0\n")
unfolding digits name_of_thread
known_line = (refl, refl)

-- a stitch of 3 mm in red, and one of 0.2 mm in black
abbrev design : DesignValue
design = record {
  label = [];
  threads = 5 ∷ 20 ∷ [];
  commands = Stitch (record { x = pos 0; y = pos 0 }) ∷ Stitch (record { x = pos 30; y = pos 0 }) ∷ Stop
      ∷ Stitch (record { x = pos 30; y = pos 40 }) ∷ Stitch (record { x = pos 30; y = pos 42 }) ∷ [];
}

pub known_look : design_look_report (record { short = 3; long = 70; float = 60; tie = 0; hole = 0 }) design
    ≡ codes "size 30 42\norigin 0 0\nblock 1 thread 5 Red needles 2 length 30 shortest 30 longest 30\n"
    ++ codes "block 2 thread 20 Black needles 2 length 2 shortest 2 longest 2\ncommand 5: stitch of 2\nplaces 1\n"
unfolding digits name_of_thread length_of square_of whole_root
known_look = refl

pub known_threads : threads_report design
    ≡ codes "block 1 thread 5 Red #ed171f needles 2 length 30\nblock 2 thread 20 Black #000000 needles 2 length 2\n"
unfolding digits name_of_thread colour_of_thread length_of square_of whole_root
known_threads = refl

pub known_palette : palette_lines 4 2 ≡ codes "thread 4 Cornflower Blue #4b6baf\nthread 5 Red #ed171f\n"
unfolding digits name_of_thread colour_of_thread
known_palette = refl
