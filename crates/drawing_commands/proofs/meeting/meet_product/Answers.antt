use Rattle.std.proofs.lemmas.Result.{IfOk-weaker}
use Rattle.drawing_commands.proofs.Names.{IsMeetProduct}
use Rattle.program_shell.specs.Products.{product_value}
use Rattle.drawing_commands.proofs.meeting.meet_product.Goals as goal

pub returns : goal.returns
returns c = IfOk-weaker _ _ (λ product. IsMeetProduct c.args.report c.args.output.now c.args.comments.now c.args.drawing.now c.args.met.now
    (product_value product)) (λ product written. record {
      before = _;
      before_are = c.in_ok-before.ensures.cut;
      after = _;
      after_are = c.in_ok-after.ensures.cut;
      written = rw (c.in_ok-moved.ensures.value, c.as_slice.ensures, c.in_ok-text.ensures, c.len.ensures, c.len-2.ensures) at written;
    }) c.whole_product.ensures
