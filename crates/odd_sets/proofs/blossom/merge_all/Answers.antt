use Rattle.std.proofs.Common.{get_or, arith, ap, length, List, ℕ, refl, ◌≡◌, ◌∙◌}
use Rattle.odd_sets.proofs.Names.{PartValue, part_in, parts_in}
use Rattle.odd_sets.proofs.SlackRowLemmas.{merge_next}
use Rattle.odd_sets.proofs.ListLemmas.{each_here, mapped_item, mapped_low}
use Rattle.odd_sets.proofs.HandleLemmas.{no_part}
use Rattle.odd_sets.proofs.blossom.merge_all.Goals as goal

pub merge-requires : goal.merge-requires
merge-requires c =
    omega (
      arith,
      ap (λ (ks : List ℕ). length ks) c.near.ensures,
      each_here (λ (p : PartValue). length p.odd_set.near ≡ length c.args.cells.now) (parts_in c.args.sets.now c.args.parts.now)
          c.loop-p.p-index (part_in c.args.sets.now (get_or c.args.parts.now c.loop-p.p-index no_part))
          c.requires.rows (mapped_low (part_in c.args.sets.now) c.args.parts.now c.loop-p.p-index c.loop-p-test.true)
          (mapped_item (part_in c.args.sets.now) c.args.parts.now c.loop-p.p-index no_part),
      c.loop-p.invariant.size,
    )

pub loop-p-preserved : goal.loop-p-preserved
loop-p-preserved c =
    let row = each_here (λ (p : PartValue). length p.odd_set.near ≡ length c.args.cells.now) (parts_in c.args.sets.now c.args.parts.now)
    c.loop-p.p-index (part_in c.args.sets.now (get_or c.args.parts.now c.loop-p.p-index no_part))
    c.requires.rows (mapped_low (part_in c.args.sets.now) c.args.parts.now c.loop-p.p-index c.loop-p-test.true)
    (mapped_item (part_in c.args.sets.now) c.args.parts.now c.loop-p.p-index no_part) in
    record {
      done = merge_next (length c.args.cells.now) (parts_in c.args.sets.now c.args.parts.now) c.loop-p.p-index
          (part_in c.args.sets.now (get_or c.args.parts.now c.loop-p.p-index no_part)) c.near.result.now
          (get_or c.args.parts.now c.loop-p.p-index no_part).handle.dual
          c.loop-p.cells c.merge.new.cells (mapped_low (part_in c.args.sets.now) c.args.parts.now c.loop-p.p-index c.loop-p-test.true)
          (mapped_item (part_in c.args.sets.now) c.args.parts.now c.loop-p.p-index no_part) c.near.ensures refl c.merge.ensures
          (ap (λ (ks : List ℕ). length ks) c.near.ensures ∙ row) c.loop-p.invariant.done;
      size = omega (arith, c.merge.auto.cells, c.loop-p.invariant.size);
    }
