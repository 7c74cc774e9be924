use Rattle.std.proofs.Common.{◌≡◌, None, length, sym, ◌∙◌}
use Rattle.odd_cuts.proofs.Names.{stranger_fault, graph_of}
use Rattle.odd_cuts.proofs.ParityLemmas.{count_told, cut_even, cut_right, parities_few}
use Rattle.odd_cuts.proofs.cut_check.check_cut.Goals as goal

pub count_odd-odd-requires : goal.count_odd-odd-requires
count_odd-odd-requires c = parities_few (graph_of c.args.p.now) c.args.parities.now c.args.p.now.kept c.requires.parities

pub returns-then-is_odd : goal.returns-then-is_odd
returns-then-is_odd c =
    let none : stranger_fault (length c.args.p.now.junctions) c.args.number c.args.cut.now.members ≡ None =
    rw (← c.len.ensures, ← c.as_slice.ensures) c.in_ok-check_members.ensures in
    let told = count_told (graph_of c.args.p.now) c.args.cut.now.members c.held_by-held.result c.args.parities.now c.count_odd-odd.result
    c.args.p.now.kept (rw (← c.as_slice-2.ensures) c.held_by-held.ensures) c.requires.parities c.count_odd-odd.ensures in (
      cut_right (graph_of c.args.p.now) c.args.number c.args.cut.now c.count_odd-odd.result none told
          (sym c.is_odd.ensures ∙ c.if-is_odd.true),
      rw (← c.as_slice-2.ensures) c.held_by-held.ensures,
    )

pub returns-else-is_odd : goal.returns-else-is_odd
returns-else-is_odd c =
    let none : stranger_fault (length c.args.p.now.junctions) c.args.number c.args.cut.now.members ≡ None =
    rw (← c.len.ensures, ← c.as_slice.ensures) c.in_ok-check_members.ensures in
    let told = count_told (graph_of c.args.p.now) c.args.cut.now.members c.held_by-held.result c.args.parities.now c.count_odd-odd.result
    c.args.p.now.kept (rw (← c.as_slice-2.ensures) c.held_by-held.ensures) c.requires.parities c.count_odd-odd.ensures in
    cut_even (graph_of c.args.p.now) c.args.number c.args.cut.now c.count_odd-odd.result none told
    (sym c.is_odd.ensures ∙ c.if-is_odd.false)
