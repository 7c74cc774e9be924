use Rattle.std.proofs.Common.{◌++◌, ◌<◌, ◌^◌}
use Rattle.certificate_text.proofs.Names.{flat_map, Cut, cut_line_text}
use Rattle.certificate_text.proofs.ItemPuts.{PutsOn}
use Rattle.certificate_text.proofs.printing.put_cuts.Given as goal

-- the cuts so far are put, and their weights are small
abbrev pub invariant-loop-cut : goal.invariant-loop-cut
invariant-loop-cut l =
    PutsOn cut_line_text (λ (cut : Cut). cut.weight < 2 ^ 32) l.cuts l.cut-index l.text (l.fn.text ++ flat_map cut_line_text l.cuts)
