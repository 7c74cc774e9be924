use Rattle.std.proofs.Common.{◌∙◌, ◌==◌, ap}
use Rattle.std.proofs.lemmas.List.{take_rest}
use Rattle.near_pieces.proofs.Names.{Piece, prefix_len}
use Rattle.near_pieces.proofs.RunLemmas.{first_run_is}
use Rattle.near_pieces.proofs.piece_runs.first_run.Goals as goal

pub returns-in-len1-up-clause-runs : goal.returns-in-len1-up-clause-runs
returns-in-len1-up-clause-runs c = first_run_is c.first-item.result c.args.pieces.now c.split_at.result.0.now c.split_at.result.1.now
    c.first-item.result c.requires c.first-item.is c.in_block.result
    (c.in_block.ensures.value ∙ ap (prefix_len (λ (q : Piece). q.block == c.first-item.result.block)) (take_rest c.args.pieces.now 1))
    c.split_at.ensures.front c.split_at.ensures.back
