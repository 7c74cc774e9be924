use Rattle.std.proofs.Common.{◌≡◌, ◌%◌, ℕ, List, arith, length, subst, sym}
use Rattle.odd_paths.proofs.Names.{graph_of, odd_junctions, odds_from, nat_tests, degrees_few}
use Rattle.odd_paths.proofs.DegreeLemmas.{even_few, odds_kept}
use Rattle.odd_paths.proofs.odd_junctions.odd.Goals as goal

pub odds_in-requires : goal.odds_in-requires
odds_in-requires c = rw c.as_slice.ensures (degrees_few (graph_of c.args.p.now) c.args.p.now.kept)

pub returns-clause-value : goal.returns-clause-value
returns-clause-value c =
    let reported : odds_from c.from.result c.to.result 0 c.as_slice.result.now
    ≡ odd_junctions (graph_of c.args.p.now) =
    rw (c.from.ensures, c.to.ensures, c.as_slice.ensures) (grind (arith, nat_tests, odds_kept)) in
    rw (← reported) c.in_ok-odds.ensures

pub returns-clause-even : goal.returns-clause-even
returns-clause-even c =
    let reported : odds_from c.from.result c.to.result 0 c.as_slice.result.now
    ≡ odd_junctions (graph_of c.args.p.now) =
    rw (c.from.ensures, c.to.ensures, c.as_slice.ensures) (grind (arith, nat_tests, odds_kept)) in
    subst (λ (odds : List ℕ). length odds % 2 ≡ 0) (sym (rw (← reported) c.in_ok-odds.ensures))
    (even_few (graph_of c.args.p.now) c.args.p.now.kept).0
