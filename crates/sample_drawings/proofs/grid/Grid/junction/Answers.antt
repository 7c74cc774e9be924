use Rattle.std.proofs.Common.{◌∙◌}
use Rattle.sample_drawings.proofs.Names.{grid_junction, junctions_per_side}
use Rattle.sample_drawings.proofs.DrawLemmas.{place_found, place_there}
use Rattle.sample_drawings.proofs.grid.Grid.junction.Goals as goal

pub bounds-as_slice-j : goal.bounds-as_slice-j
bounds-as_slice-j c =
    let grid = c.args.self.now in
    place_there (junctions_per_side grid.number) c.junction_count.result c.args.i c.args.j (grid_junction grid.number) _
    c.junction_count.ensures.value (c.as_slice.ensures ∙ grid.junctions_are) c.requires.column c.requires.row

pub returns : goal.returns
returns c =
    let grid = c.args.self.now in
    place_found (junctions_per_side grid.number) c.junction_count.result c.args.i c.args.j (grid_junction grid.number) _ _
    c.junction_count.ensures.value (c.as_slice.ensures ∙ grid.junctions_are) c.requires.column c.requires.row
