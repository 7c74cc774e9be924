use Rattle.std.proofs.Common.{ℕ, List, ap, arith, length, subst, sym}
use Rattle.blossom_match.proofs.Names.{AreSearchSlacks, search_value, written}
use Rattle.blossom_match.proofs.AdjustmentLemmas.{stays}
use Rattle.blossom_match.proofs.EndLemmas.{can_step, can_adjust_now, goes}
use Rattle.blossom_match.proofs.KeptLemmas.{can_of, slacks_of}
use Rattle.blossom_match.proofs.LoweredLemmas.{still_reaches}
use Rattle.blossom_match.proofs.phase.advance.Goals as goal

pub least-change-requires-clause-can : goal.least-change-requires-clause-can
least-change-requires-clause-can c = can_of c.args.s.t.now (search_value c.args.s.search) c.args.s.can

pub least-change-requires-clause-reaches : goal.least-change-requires-clause-reaches
least-change-requires-clause-reaches c =
    let s = search_value c.args.s.search in
    subst (λ (cells : List ℕ). AreSearchSlacks c.args.s.t.now s cells) (sym c.deref.ensures.value)
    (slacks_of c.args.s.t.now s.heights s.root s.tree c.args.s.reach.items c.args.s.reaches)

pub take_step-requires-clause-step : goal.take_step-requires-clause-step
take_step-requires-clause-step c =
    let s = search_value c.args.s.search in
    can_step c.args.s.t.now s s c.least-change.result c.requires (can_of c.args.s.t.now s c.args.s.can) c.least-change.ensures
    (stays s c.least-change.result c.if-change-eq0.true)

pub take_step-requires-clause-some : goal.take_step-requires-clause-some
take_step-requires-clause-some c = (can_of c.args.s.t.now (search_value c.args.s.search) c.args.s.can).some

pub take_step-requires-clause-reaches : goal.take_step-requires-clause-reaches
take_step-requires-clause-reaches c =
    let s = search_value c.args.s.search in
    slacks_of c.args.s.t.now s.heights s.root s.tree c.args.s.reach.items c.args.s.reaches

pub returns-then-change-eq0 : goal.returns-then-change-eq0
returns-then-change-eq0 c =
    let s = search_value c.args.s.search in
    goes c.args.s.t.now s s c.least-change.result c.in_ok-next.next c.requires (can_of c.args.s.t.now s c.args.s.can)
    c.least-change.ensures (stays s c.least-change.result c.if-change-eq0.true) c.in_ok-next.ensures

pub adjust-adjusted-requires : goal.adjust-adjusted-requires
adjust-adjusted-requires c =
    let s = search_value c.args.s.search in
    can_adjust_now c.args.s.t.now s c.least-change.result c.requires (can_of c.args.s.t.now s c.args.s.can) c.least-change.ensures

pub take_step-requires-2-clause-step : goal.take_step-requires-2-clause-step
take_step-requires-2-clause-step c =
    let s = search_value c.args.s.search in
    can_step c.args.s.t.now s (search_value c.adjust-adjusted.result) c.least-change.result c.requires
    (can_of c.args.s.t.now s c.args.s.can) c.least-change.ensures c.adjust-adjusted.ensures.adjusts

pub take_step-requires-2-clause-some : goal.take_step-requires-2-clause-some
take_step-requires-2-clause-some c =
    omega (
      arith,
      (can_of c.args.s.t.now (search_value c.args.s.search) c.args.s.can).some,
      ap (λ (places : List ℕ). length places) c.adjust-adjusted.ensures.adjusts.free,
    )

pub take_step-requires-2-clause-reaches : goal.take_step-requires-2-clause-reaches
take_step-requires-2-clause-reaches c =
    let t = c.args.s.t.now in
    let s = search_value c.args.s.search in
    let r = search_value c.adjust-adjusted.result in
    subst (λ (cells : List ℕ). AreSearchSlacks t r cells)
    (sym (written c.args.s.reach.len c.lower_slacks.new.reach c.args.s.reach.items
    (omega (arith, c.lower_slacks.auto.reach, c.deref_mut.ensures.len))))
    (still_reaches t c.least-change.result.by s r c.deref_mut.result.now c.lower_slacks.new.reach c.requires.table
    (can_of t s c.args.s.can).search c.adjust-adjusted.ensures.changes
    (subst (λ (cells : List ℕ). AreSearchSlacks t s cells) (sym c.deref_mut.ensures.value)
    (slacks_of t s.heights s.root s.tree c.args.s.reach.items c.args.s.reaches))
    c.lower_slacks.auto.reach c.lower_slacks.ensures)

pub returns : goal.returns
returns c =
    let s = search_value c.args.s.search in
    goes c.args.s.t.now s (search_value c.adjust-adjusted.result) c.least-change.result c.in_ok-next-2.next c.requires
    (can_of c.args.s.t.now s c.args.s.can) c.least-change.ensures c.adjust-adjusted.ensures.adjusts c.in_ok-next-2.ensures
