use Rattle.std.proofs.Common.{◌≡◌, ◌∙◌, ℕ, suc, ◌+◌, ◌-◌, ◌++◌, append-nil, append_assoc, ap, sym, arith}
use Rattle.design_commands.specs.ThreadTexts.{palette_line, palette_lines}
use Rattle.design_commands.proofs.thread_texts.first_threads.Goals as goal

pub loop-thread-init : goal.loop-thread-init
loop-thread-init c = record {
  most = omega arith;
  lines =
      let all : c.args.count + 1 - 1 ≡ c.args.count = omega arith in
      rw c.new-text.ensures (ap (λ (n : ℕ). palette_lines 1 n) all);
}

pub loop-thread-preserved : goal.loop-thread-preserved
loop-thread-preserved c =
    let at = c.loop-thread.thread in
    let count = c.args.count in
    let more : count + 1 - at ≡ suc (count + 1 - (at + 1)) = omega (arith, c.loop-thread-test.true) in
    record {
      most = omega (arith, c.loop-thread-test.true);
      lines = rw c.in_ok-put_palette_line.ensures (
          append_assoc c.loop-thread.text (palette_line at) (palette_lines (at + 1) (count + 1 - (at + 1)))
          ∙ sym (ap (λ (n : ℕ). c.loop-thread.text ++ palette_lines at n) more) ∙ c.loop-thread.invariant.lines);
    }

pub returns : goal.returns
returns c =
    let none : c.args.count + 1 - c.loop-thread.thread ≡ 0 = omega (arith, c.loop-thread-test.false) in
    sym (append-nil c.loop-thread.text)
    ∙ sym (ap (λ (n : ℕ). c.loop-thread.text ++ palette_lines c.loop-thread.thread n) none) ∙ c.loop-thread.invariant.lines
