use Rattle.std.proofs.Common.{◌≡◌, false, bytes_eq, sym, rules}
use Rattle.stitch_cli.proofs.Names.{change_list}
use Rattle.stitch_cli.proofs.FormatLemmas.{rewriting_found}
use Rattle.stitch_cli.proofs.rewriting.rewrite.Goals as goal

pub returns-clause-answers : goal.returns-clause-answers
returns-clause-answers g c =
    let apart : bytes_eq c.args.names.input.now c.args.names.output.now ≡ false = search rules in
    rewriting_found _ c.args.formats.now c.args.names.input.now c.args.names.output.now (change_list c.args.changes.now) _ _ _ _ _
    (sym c.in-Some.ensures.value) (sym c.in-Some-find.ensures.value) c.in-Some.ensures.there c.in-Some-find.ensures.there apart
    c.rewrite_by.ensures.prepares
