use Rattle.std.proofs.Common.{arith, ap, get_or, List, ℕ, subst}
use Rattle.blossom_match.proofs.Names.{count, SetsCells, match_in, matches_in, mapped_item, mapped_low, no_match}
use Rattle.blossom_match.proofs.MaskLemmas.{match_within, puts_match}
use Rattle.blossom_match.proofs.masks.show.Goals as goal

pub put-requires : goal.put-requires
put-requires c = λ x here.
    let sets = c.args.sets.now in
    omega (
      arith,
      c.loop-c.invariant.size,
      c.requires x (omega (
        arith,
        here,
        ap (λ (ks : List ℕ). count x ks) c.members.ensures,
        match_within x (matches_in sets c.args.matches.now) c.loop-c.c-index
            (match_in sets (get_or c.args.matches.now c.loop-c.c-index no_match))
            (mapped_low (match_in sets) c.args.matches.now c.loop-c.c-index c.loop-c-test.true)
            (mapped_item (match_in sets) c.args.matches.now c.loop-c.c-index no_match),
      )),
    )

pub put-requires-in-loop-c : goal.put-requires-in-loop-c
put-requires-in-loop-c c = λ x here.
    let sets = c.args.sets.now in
    omega (
      arith,
      c.loop-c.invariant.size,
      c.put.auto.cells,
      c.requires x (omega (
        arith,
        here,
        ap (λ (ks : List ℕ). count x ks) c.members-in-loop-c.ensures,
        match_within x (matches_in sets c.args.matches.now) c.loop-c.c-index
            (match_in sets (get_or c.args.matches.now c.loop-c.c-index no_match))
            (mapped_low (match_in sets) c.args.matches.now c.loop-c.c-index c.loop-c-test.true)
            (mapped_item (match_in sets) c.args.matches.now c.loop-c.c-index no_match),
      )),
    )

pub loop-c-preserved : goal.loop-c-preserved
loop-c-preserved c =
    let sets = c.args.sets.now in
    record {
      puts = puts_match 0 (matches_in sets c.args.matches.now) c.loop-c.c-index
          (match_in sets (get_or c.args.matches.now c.loop-c.c-index no_match)) c.args.mask.now c.loop-c.mask c.put.new.cells
          c.put-in-loop-c.new.cells (mapped_low (match_in sets) c.args.matches.now c.loop-c.c-index c.loop-c-test.true)
          (mapped_item (match_in sets) c.args.matches.now c.loop-c.c-index no_match) c.loop-c.invariant.puts
          (subst (λ (ks : List ℕ). SetsCells 0 ks c.loop-c.mask c.put.new.cells) c.members.ensures c.put.ensures)
          (subst (λ (ks : List ℕ). SetsCells 0 ks c.put.new.cells c.put-in-loop-c.new.cells) c.members-in-loop-c.ensures
          c.put-in-loop-c.ensures);
      size = omega (arith, c.put.auto.cells, c.put-in-loop-c.auto.cells, c.loop-c.invariant.size);
    }
