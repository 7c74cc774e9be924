use Rattle.std.proofs.Common.{◌≡◌, ◌++◌, ◌<◌, All, length}
use Rattle.drawing_picture.proofs.Names.{bands_of_lines, iter_rest, zip_first, zip_second}
use Rattle.drawing_picture.proofs.line_bands.put_lines.Given as goal

-- the bands so far, and those of the lines that are left
abbrev pub invariant-loop-line : goal.invariant-loop-line
invariant-loop-line l =
    let left = iter_rest (zip_first l.line-iterator) in
    record {
      there : All (λ line. line < length l.d.lines) left;
      bands : l.text ++ bands_of_lines l.d l.cuts left (iter_rest (zip_second l.line-iterator))
          ≡ l.fn.text ++ bands_of_lines l.fn.d l.fn.cuts l.lines l.edges;
    }
