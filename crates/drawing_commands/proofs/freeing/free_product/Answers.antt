use Rattle.std.proofs.lemmas.Result.{IfOk-weaker}
use Rattle.drawing_commands.proofs.Names.{IsFreeProduct}
use Rattle.program_shell.specs.Products.{product_value}
use Rattle.drawing_commands.proofs.freeing.free_product.Goals as goal

pub returns : goal.returns
returns c = IfOk-weaker _ _ (λ product. IsFreeProduct c.args.output.now c.args.comments.now c.args.lines.now.drawn c.args.lines.now.joined
    (product_value product)) (λ product written. record {
      freed = _;
      is = c.in_ok-freed.ensures.freed;
      written = rw (c.in_ok-report.ensures, c.as_slice.ensures, c.as_slice-2.ensures) at written;
    }) c.whole_product.ensures
