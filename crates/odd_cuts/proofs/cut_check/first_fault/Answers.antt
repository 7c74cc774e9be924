use Rattle.odd_cuts.proofs.Names.{graph_of}
use Rattle.odd_cuts.proofs.LoadLemmas.{loads_found, told_on, total_found}
use Rattle.odd_cuts.proofs.cut_check.first_fault.Goals as goal

pub returns : goal.returns
returns c =
    let told = total_found (graph_of c.args.p.now) c.args.retraced c.args.cuts.now c.in_ok-loads.loads c.in_ok-loads.ensures
    c.in_ok-check_loads.ensures in
    rw (← told, ← c.total_of.ensures, ← c.from.ensures) c.check_total.ensures

pub returns-in_err-check_loads : goal.returns-in_err-check_loads
returns-in_err-check_loads c =
    told_on _ _ _ c.from_residual-in_err-check_loads.ensures.1
    (loads_found (graph_of c.args.p.now) c.args.retraced c.args.cuts.now c.in_ok-loads.loads c.in_err-check_loads.field-0.0
    c.in_ok-loads.ensures c.in_err-check_loads.ensures)
