use Rattle.design_model.proofs.design_counts.counts_with.Goals as goal

pub returns-in-Trim : goal.returns-in-Trim
returns-in-Trim c = record {
  counts = λ n. rw c.in-Some.is (c.counts_with_cut.ensures.counts n);
  most = c.counts_with_cut.ensures.most;
}
