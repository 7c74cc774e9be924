use Rattle.design_review.proofs.key_windows.Columns.at.Goals as goal

pub returns-clause-at : goal.returns-clause-at
returns-clause-at c = record {
  far_left = rw (c.saturating_sub.ensures, c.saturating_sub-2.ensures) at c.at.ensures;
  left = rw (c.saturating_sub-3.ensures, c.saturating_sub-4.ensures) at c.at-2.ensures;
  middle = rw c.saturating_sub-5.ensures at c.at-3.ensures;
  right = c.at-4.ensures;
  far_right = c.at-5.ensures;
}
