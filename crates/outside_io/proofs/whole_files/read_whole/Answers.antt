use Rattle.std.proofs.Common.{◌≡◌, ℕ, List, ◌++◌, ◌∙◌, take, Ok, sym, subst, arith, length-append, rules}
use Rattle.outside_io.proofs.Names.{nat_tests, length-take-le, IsContentPrefix}
use Rattle.outside_io.proofs.WholeAnswers.{decided}
use Rattle.outside_io.proofs.WholeFiles.{part_failed, stays_on}
use Rattle.outside_io.proofs.whole_files.read_whole.Goals as goal

pub loop-bytes-preserved : goal.loop-bytes-preserved
loop-bytes-preserved g c =
    let kept = c.loop-bytes.invariant in
    let reads = c.in_ok-count.ensures.reads in
    let next = reads.3 c.loop-bytes.bytes (sym c.len.ensures) (λ told is. kept.begins told (sym kept.same ∙ is)) in
    let added : c.append.new.self ≡ c.loop-bytes.bytes ++ take c.in_ok-count.count c.read_next.new.buffer = search rules in
    record {
      same = c.in_ok-count.ensures.same ∙ kept.same;
      stays = stays_on kept.stays reads.0;
      short = grind (arith, nat_tests, added, length-append, length-take-le, c.len.ensures, reads.1, reads.2);
      room = search rules;
      begins = λ told is. subst (λ (b : List ℕ). IsContentPrefix (told c.args.name.now) b) (sym added) (next.on told (kept.same ∙ is));
    }

pub loop-bytes-smaller : goal.loop-bytes-smaller
loop-bytes-smaller g c =
    let reads = c.in_ok-count.ensures.reads in
    let added : c.append.new.self ≡ c.loop-bytes.bytes ++ take c.in_ok-count.count c.read_next.new.buffer = search rules in
    grind (arith, nat_tests, added, length-append, length-take-le, c.len.ensures, reads.1, reads.2, c.if-count-eq0.false)

pub returns-in_err-count-clause-reads : goal.returns-in_err-count-clause-reads
returns-in_err-count-clause-reads g c =
    let kept = c.loop-bytes.invariant in
    part_failed _ c.loop-bytes.bytes c.read_next.new.buffer _ _ _ _ _ _ c.from_residual.result c.from_residual.ensures.1 kept.same
    kept.stays kept.begins c.len.ensures c.in_err-count.ensures.reads

pub returns-in_err-count-clause-decided : goal.returns-in_err-count-clause-decided
returns-in_err-count-clause-decided g c =
    decided _ _ (g.S.Store.view c.args.store.now) _ c.from_residual.result (returns-in_err-count-clause-reads g c)

pub returns-then-count-eq0-clause-reads : goal.returns-then-count-eq0-clause-reads
returns-then-count-eq0-clause-reads g c =
    let kept = c.loop-bytes.invariant in
    let reads = c.in_ok-count.ensures.reads in
    let next = reads.3 c.loop-bytes.bytes (sym c.len.ensures) (λ told is. kept.begins told (sym kept.same ∙ is)) in
    (kept.short, λ told is. next.end c.if-count-eq0.true told (kept.same ∙ is), stays_on kept.stays reads.0)

pub returns-then-count-eq0-clause-decided : goal.returns-then-count-eq0-clause-decided
returns-then-count-eq0-clause-decided g c =
    decided _ _ (g.S.Store.view c.args.store.now) _ (Ok c.loop-bytes.bytes) (returns-then-count-eq0-clause-reads g c)
