use Rattle.std.proofs.Common.{◌∙◌, refl, rules}
use Rattle.program_inputs.proofs.LoadLemmas.{more_fed}
use Rattle.program_inputs.proofs.loading.feed_file.Goals as goal

pub loop-count-preserved : goal.loop-count-preserved
loop-count-preserved g c =
    let kept = c.loop-count.invariant in
    let reads = c.in_ok-count.ensures.reads in
    record {
      files = c.in_ok-count.ensures.same ∙ kept.files;
      stays = record { count = reads.0.count ∙ kept.stays.count; blame = reads.0.blame ∙ kept.stays.blame };
      near = reads.1;
      room = search rules;
      same = c.in-Ok.ensures.same ∙ kept.same;
      fed = more_fed _ _ _ _ _ _ c.read_next.new.buffer _ _ _ kept.files kept.fed reads.2 reads.3 refl c.in-Ok.ensures.feeds;
    }
