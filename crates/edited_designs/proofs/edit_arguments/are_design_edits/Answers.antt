use Rattle.std.proofs.Common.{◌∙◌, rules, string_bytes}
use Rattle.std.proofs.lemmas.Iterator.{YieldsList-from_slice}
use Rattle.std.proofs.lemmas.Iterator.Search.{all_from_yields_List}
use Rattle.command_words.proofs.CallerLemmas.{all_are_parsed}
use Rattle.edited_designs.proofs.Names.{is_some, parsed_change}
use borrow.Author.Tests.{tests}
use Rattle.edited_designs.proofs.edit_arguments.are_design_edits.Goals as goal

pub returns : goal.returns
returns c =
    all_from_yields_List (λ word. is_some (parsed_change (string_bytes word))) _ _ _ c.all.ensures.ran
    (YieldsList-from_slice c.args.words.now cc) (λ word b q k. search (rules, tests))
    ∙ all_are_parsed parsed_change _ c.args.words.now
