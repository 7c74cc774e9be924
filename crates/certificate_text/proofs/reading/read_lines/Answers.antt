use Rattle.std.proofs.Common.{sym, ◌∙◌, arith}
use Rattle.certificate_text.proofs.ReadingLemmas.{reads_more, reads_no_more}
use Rattle.certificate_text.proofs.reading.read_lines.Goals as goal

pub returns-in-None : goal.returns-in-None
returns-in-None c =
    reads_no_more c.args.bytes.now c.loop-line.rest.now c.in-Some.line.now c.in-Some.after.now c.loop-line.number
    c.loop-line.draft c.loop-line.invariant.on c.in-Some.ensures.some (sym c.in-None.is ∙ c.in_ok-next.ensures)

pub loop-line-preserved : goal.loop-line-preserved
loop-line-preserved c = record {
  on = reads_more c.args.bytes.now c.loop-line.rest.now c.in-Some.line.now c.in-Some.after.now c.loop-line.number
      c.loop-line.draft _ c.loop-line.invariant.on c.in-Some.ensures.some (sym c.in-Some-2.is ∙ c.in_ok-next.ensures);
  early = omega (arith, c.loop-line.invariant.early, c.in-Some.ensures.sizes);
}
