use Rattle.drawing_reports.proofs.PlaceLemmas.{all_named, first_named}
use Rattle.drawing_reports.proofs.place_texts.named.Goals as goal

pub returns-then-meetings-le-MAX_MEETINGS : goal.returns-then-meetings-le-MAX_MEETINGS
returns-then-meetings-le-MAX_MEETINGS c = all_named _ c.if-meetings-le-MAX_MEETINGS.true

pub returns : goal.returns
returns c = first_named _ _ c.split_at.ensures.front
