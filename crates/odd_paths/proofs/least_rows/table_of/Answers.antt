use Rattle.std.proofs.Common.{◌≡◌, ◌∙◌, ◌<◌, ◌++◌, sym}
use Rattle.odd_paths.proofs.Names.{take-append-drop, All-drop}
use Rattle.odd_paths.proofs.TableLemmas.{goes_on, none_left}
use Rattle.odd_paths.proofs.least_rows.table_of.Goals as goal

pub loop-rest-preserved : goal.loop-rest-preserved
loop-rest-preserved c =
    let whole : c.split_at.result.0.now ++ c.split_at.result.1.now ≡ c.loop-rest.rest.now =
    rw (c.split_at.ensures.front, c.split_at.ensures.back) (take-append-drop c.min.result c.loop-rest.rest.now) in
    record {
      there = rw c.split_at.ensures.back (All-drop (λ t. t < c.args.n) c.min.result c.loop-rest.rest.now c.loop-rest.invariant.there);
      rows = goes_on c.args.edges.now c.args.n c.args.terminals.now c.split_at.result.0.now c.split_at.result.1.now c.loop-rest.rest.now
          _ _ c.in_ok-order-2.ensures (sym whole) c.loop-rest.invariant.rows;
    }

pub returns : goal.returns
returns c =
    none_left c.args.edges.now c.args.n c.args.terminals.now c.loop-rest.rest.now _ (sym c.is_empty.ensures ∙ c.loop-rest-test.false)
    c.loop-rest.invariant.rows
