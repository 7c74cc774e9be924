use Rattle.blossom_match.proofs.Names.{search_value}
use Rattle.blossom_match.proofs.AdjustmentLemmas.{can_adjust, adjusts}
use Rattle.blossom_match.proofs.adjustment.adjust.Goals as goal

pub change_duals-requires-clause-root : goal.change_duals-requires-clause-root
change_duals-requires-clause-root c = (can_adjust (search_value c.args.s) c.args.change c.requires).0

pub change_duals-requires-clause-tree : goal.change_duals-requires-clause-tree
change_duals-requires-clause-tree c = (can_adjust (search_value c.args.s) c.args.change c.requires).1

pub change_duals-requires-clause-heights : goal.change_duals-requires-clause-heights
change_duals-requires-clause-heights c = (can_adjust (search_value c.args.s) c.args.change c.requires).2

pub returns-clause-adjusts : goal.returns-clause-adjusts
returns-clause-adjusts c = adjusts (search_value c.args.s) (search_value c.change_duals.result) c.args.change c.change_duals.ensures
