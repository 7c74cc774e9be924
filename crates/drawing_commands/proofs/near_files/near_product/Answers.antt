use Rattle.std.proofs.Common.{◌∙◌}
use Rattle.std.proofs.lemmas.Result.{IfOk-weaker}
use Rattle.drawing_commands.proofs.Names.{IsNearProduct}
use Rattle.program_shell.specs.Products.{product_value}
use Rattle.drawing_commands.proofs.near_files.near_product.Goals as goal

pub returns : goal.returns
returns c = IfOk-weaker _ _ (λ product. IsNearProduct c.args.output.now c.args.text.now (product_value product))
    (λ product written. record {
      found = _;
      near = c.in_ok-found.ensures.near;
      written = rw (c.in_ok-comments.ensures.value, c.text_bytes.ensures ∙ c.in_ok-report.ensures) at written;
    }) c.cut_product.ensures
