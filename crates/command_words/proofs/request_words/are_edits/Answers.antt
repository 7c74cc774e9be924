use Rattle.std.proofs.Common.{◌∙◌, rules, string_bytes}
use Rattle.std.proofs.lemmas.Iterator.{YieldsList-from_slice}
use Rattle.std.proofs.lemmas.Iterator.Search.{all_from_yields_List}
use Rattle.std.specs.Prelude.{is_some}
use borrow.Author.Tests.{tests}
use Rattle.command_words.specs.Arguments.{parsed_edit}
use Rattle.command_words.proofs.CallerLemmas.{all_are_parsed}
use Rattle.command_words.proofs.request_words.are_edits.Goals as goal

pub returns : goal.returns
returns c =
    all_from_yields_List (λ word. is_some (parsed_edit (string_bytes word))) _ _ _ c.all.ensures.ran
    (YieldsList-from_slice c.args.words.now cc) (λ word b q k. search (rules, tests))
    ∙ all_are_parsed parsed_edit _ c.args.words.now
