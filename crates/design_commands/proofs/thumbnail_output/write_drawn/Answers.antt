use Rattle.std.proofs.Common.{◌≡◌, ℕ, List, ap, refl, rules, ◌∙◌}
use Rattle.program_shell.specs.Products.{one_file_product}
use Rattle.program_texts.specs.DesignReports.{written_report}
use Rattle.design_commands.proofs.thumbnail_output.write_drawn.Goals as goal

-- the product of one file, by its content and its report
same_product : (name content file report said : List ℕ) → content ≡ file → report ≡ said
    → one_file_product name content report ≡ one_file_product name file said
same_product name content file report said of_content of_report =
    ap (λ bytes. one_file_product name bytes report) of_content ∙ ap (one_file_product name file) of_report

pub returns-in_ok-product-in-Ok : goal.returns-in_ok-product-in-Ok
returns-in_ok-product-in-Ok g c =
    record {
      at = λ store. (
        record {
          out = c.in-Ok.content;
          written = c.in-Ok.ensures.value;
          again = c.in-Ok.ensures.again;
          within = c.in-Ok.ensures.within;
          redrawn = c.in_ok-content-in-Ok.ensures.redrawn _ c.in-Ok.ensures.value;
          made = c.in_ok-product-in-Ok.ensures ∙ same_product c.args.name.now _ _ _ _ c.in_ok-content-in-Ok.ensures.value
              (c.in_ok-report-in-Ok.ensures ∙ ap written_report c.counts.ensures);
        },
        search rules,
        refl,
      );
    }
