use Rattle.std.proofs.Common.{◌∙◌}
use Rattle.sample_drawings.proofs.Names.{cells_per_side, cell_kind}
use Rattle.sample_drawings.proofs.DrawLemmas.{place_found, place_there}
use Rattle.sample_drawings.proofs.grid.Grid.kind.Goals as goal

pub bounds-as_slice-j : goal.bounds-as_slice-j
bounds-as_slice-j c =
    let grid = c.args.self.now in
    place_there (cells_per_side grid.number) c.cell_count.result c.args.i c.args.j (cell_kind grid.number) _ c.cell_count.ensures.value
    (c.as_slice.ensures ∙ grid.kinds_are) c.requires.column c.requires.row

pub returns : goal.returns
returns c =
    let grid = c.args.self.now in
    place_found (cells_per_side grid.number) c.cell_count.result c.args.i c.args.j (cell_kind grid.number) _ _ c.cell_count.ensures.value
    (c.as_slice.ensures ∙ grid.kinds_are) c.requires.column c.requires.row
