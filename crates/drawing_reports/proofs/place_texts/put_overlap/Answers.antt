use Rattle.std.proofs.Common.{List, ℕ, ◌++◌, ap, ◌∙◌}
use Rattle.drawing_reports.proofs.PlaceLemmas.{three_put}
use Rattle.drawing_reports.proofs.place_texts.put_overlap.Goals as goal

pub returns : goal.returns
returns c =
    three_put c.args.text.now _ _ _ _ _ _ c.in_ok-put_other.ensures c.in_ok-put_point.ensures
    (c.in_ok-append.ensures.ok ∙ ap (λ (text : List ℕ). c.put_point.new.text ++ text) (c.as_bytes.ensures.value ∙ c.in_ok-what.ensures))
