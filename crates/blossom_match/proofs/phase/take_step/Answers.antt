use Rattle.blossom_match.specs.declared.search.SearchStep.TheVariants as step
use Rattle.blossom_match.specs.declared.state.Search.{Search}
use Rattle.std.proofs.Common.{arith, ℕ, ◌-◌, Global, List, Vec, ap, drop, length, refl, subst, sym, take, ◌∙◌}
use Rattle.std.proofs.Math.Path.{subst₂}
use Rattle.blossom_match.proofs.Names.{length-map, AddsOuterSlacks, Advances, AreSearchSlacks, HasSlackCells, IsSearchMask, branch_in, branches_in, match_in, search_value, stored_height, CanStepAt, SearchStep, written}
use Rattle.blossom_match.proofs.EndLemmas.{searches_on}
use Rattle.blossom_match.proofs.KeptLemmas.{keeps}
use Rattle.blossom_match.proofs.OuterSlackLemmas.{grown_past, grown_size}
use Rattle.blossom_match.proofs.LoweredLemmas.{apart_more, is_reachable, one_more, steps_at}
use Rattle.blossom_match.proofs.MaskLemmas.{mapped_more, have_cells, hides_there, masks_apart, masks_hung, masks_same, newest_is, next_search}
use Rattle.blossom_match.proofs.phase.take_step.Goals as goal
use Rattle.blossom_match.proofs.phase.take_step.Goals.{in-Grow+in_ok-grown-in-Grow, in-Shrink+in_ok-search-in-Shrink, in-Expand+in_ok-expanded-in-Expand}

pub grow_to-requires : goal.grow_to-requires
grow_to-requires c = steps_at c.args.t.now (search_value c.args.s) c.args.step (step.Grow c.in-Grow.link) c.in-Grow.is c.requires.step

pub add_slacks_from-requires-clause-can : goal.add_slacks_from-requires-clause-can
add_slacks_from-requires-clause-can c =
    let r = search_value c.in_ok-grown-in-Grow.grown in
    subst (λ (cells : List ℕ). HasSlackCells r cells) (sym c.deref_mut.ensures.value)
    (is_reachable c.args.t.now (search_value c.args.s) r c.args.step (step.Grow c.in-Grow.link)
    c.args.from.items c.in-Grow.is
    c.requires.step c.in_ok-grown-in-Grow.ensures.advances c.requires.reaches)

pub add_slacks_from-requires-clause-within : goal.add_slacks_from-requires-clause-within
add_slacks_from-requires-clause-within c =
    let s = c.args.s in
    let r = c.in_ok-grown-in-Grow.grown in
    let hangs = c.in_ok-grown-in-Grow.ensures.hangs in
    omega (arith, c.len-before.ensures, mapped_more)

pub index-requires : goal.index-requires
index-requires c =
    let s = c.args.s in
    let r = c.in_ok-grown-in-Grow.grown in
    let hangs = c.in_ok-grown-in-Grow.ensures.hangs in
    omega (arith, c.len-before.ensures, mapped_more)

pub hide-requires : goal.hide-requires
hide-requires c =
    let s = c.args.s in
    let r = c.in_ok-grown-in-Grow.grown in
    let hangs = c.in_ok-grown-in-Grow.ensures.hangs in
    hides_there c.args.t.now (search_value s) (search_value r) c.args.step (step.Grow c.in-Grow.link) _ c.deref_mut-in-Grow.result.now
    c.in-Grow.is
    c.requires.step c.in_ok-grown-in-Grow.ensures.advances hangs
    (newest_is (branch_in r.sets) r.tree.items c.len-before.result c.index.result.now (branches_in s.sets s.tree.items) hangs.branch
    c.index.ensures hangs.tree
    (omega (arith, c.len-before.ensures, length-map s.tree.items (branch_in s.sets))))
    (subst (λ (cells : List ℕ). IsSearchMask c.args.t.now (search_value s) cells) (sym c.deref_mut-in-Grow.ensures.value)
    c.requires.masks)

pub shrink_by-requires-clause-step : goal.shrink_by-requires-clause-step
shrink_by-requires-clause-step c =
    steps_at c.args.t.now (search_value c.args.s) c.args.step (step.Shrink c.in-Shrink.link) c.in-Shrink.is c.requires.step

pub shrink_by-requires-clause-cells : goal.shrink_by-requires-clause-cells
shrink_by-requires-clause-cells c = ap (λ (cells : List ℕ). length cells) c.deref_mut-in-Shrink.ensures.value
    ∙ c.requires.reaches.size ∙ sym c.requires.step.size

pub add_slacks_from-requires-in-Expand-clause-can : goal.add_slacks_from-requires-in-Expand-clause-can
add_slacks_from-requires-in-Expand-clause-can c =
    let r = search_value c.in_ok-expanded-in-Expand.expanded in
    subst (λ (cells : List ℕ). HasSlackCells r cells) (sym c.deref_mut-in-Expand.ensures.value)
    (is_reachable c.args.t.now (search_value c.args.s) r c.args.step
    (step.Expand c.in-Expand.at) c.args.from.items
    c.in-Expand.is
    c.requires.step c.in_ok-expanded-in-Expand.ensures.advances c.requires.reaches)

pub overflow_sub-len : goal.overflow_sub-len
overflow_sub-len c =
    let s = c.args.s in
    let r = c.in_ok-expanded-in-Expand.expanded in
    omega (
      arith,
      c.len.ensures,
      c.len-before.ensures,
      length-map s.tree.items (branch_in s.sets),
      length-map r.tree.items (branch_in r.sets),
      grown_size c.in-Expand.at (search_value s).tree (search_value r).tree c.in_ok-expanded-in-Expand.ensures.apart.grows,
    )

pub add_slacks_from-requires-in-Expand-clause-within : goal.add_slacks_from-requires-in-Expand-clause-within
add_slacks_from-requires-in-Expand-clause-within c =
    let s = c.args.s in
    let r = c.in_ok-expanded-in-Expand.expanded in
    omega (
      arith,
      c.len.ensures,
      c.len-before.ensures,
      length-map s.tree.items (branch_in s.sets),
      length-map r.tree.items (branch_in r.sets),
      grown_past c.in-Expand.at (search_value s).tree (search_value r).tree c.in_ok-expanded-in-Expand.ensures.apart.grows,
    )

pub show_from-requires-clause-within : goal.show_from-requires-clause-within
show_from-requires-clause-within c =
    let s = c.args.s in
    let r = c.in_ok-expanded-in-Expand.expanded in
    let apart = c.in_ok-expanded-in-Expand.ensures.apart in
    omega (arith, c.len-matched.ensures, mapped_more (match_in s.sets) (match_in r.sets) s.rest.items r.rest.items apart.more apart.rest)

pub show_from-requires-clause-cells : goal.show_from-requires-clause-cells
show_from-requires-clause-cells c =
    let s = search_value c.args.s in
    let r = search_value c.in_ok-expanded-in-Expand.expanded in
    have_cells c.args.t.now (stored_height s) r c.len-matched.result c.deref_mut-in-Expand-2.result.now
    (next_search c.args.t.now s r c.args.step (step.Expand c.in-Expand.at) c.in-Expand.is c.requires.step
    c.in_ok-expanded-in-Expand.ensures.advances)
    (ap (λ (cells : List ℕ). length cells) c.deref_mut-in-Expand-2.ensures.value ∙ c.requires.masks.size)

pub invariant_of-result : goal.invariant_of-result
invariant_of-result c =
    let t = c.args.t.now in
    let s = search_value c.args.s in
    elim c.match-step.branch [
      | in-Grow+in_ok-grown-in-Grow w ↦
          let now = w.in_ok-grown-in-Grow.grown in
          let r = search_value now in
          let hangs = w.in_ok-grown-in-Grow.ensures.hangs in
          let adv = w.in_ok-grown-in-Grow.ensures.advances in
          keeps t c.match-step.search now c.match-step.reach.items w.add_slacks_from.new.reach c.match-step.mask.items w.hide.new.mask
          w.search-is
          (ap (λ (cells : Vec ℕ Global). cells.items) w.reach-is
          ∙ written c.args.from.len w.add_slacks_from.new.reach c.args.from.items
          (omega (arith, w.add_slacks_from.auto.reach, w.deref_mut.ensures.len)))
          (ap (λ (cells : Vec ℕ Global). cells.items) w.mask-is
          ∙ written c.args.shown.len w.hide.new.mask c.args.shown.items
          (omega (arith, w.hide.auto.mask, w.deref_mut-in-Grow.ensures.len)))
          (searches_on t s r (step.Grow w.in-Grow.link)
          (subst (λ (st : SearchStep). CanStepAt t s st) w.in-Grow.is c.requires.step) c.requires.some adv)
          (one_more t s r c.args.step (step.Grow w.in-Grow.link) w.deref_mut.result.now w.add_slacks_from.new.reach w.in-Grow.is
          c.requires.step adv hangs
          (subst (λ (cells : List ℕ). AreSearchSlacks t s cells) (sym w.deref_mut.ensures.value) c.requires.reaches)
          (subst (λ (n : ℕ). AddsOuterSlacks (take 1 (drop n r.tree)) w.deref_mut.result.now w.add_slacks_from.new.reach)
          (omega (arith, c.len-before.ensures, length-map c.args.s.tree.items (branch_in c.args.s.sets)))
          w.add_slacks_from.ensures))
          (masks_hung t s r c.args.step (step.Grow w.in-Grow.link) _ w.deref_mut-in-Grow.result.now w.hide.new.mask
          w.in-Grow.is c.requires.step adv hangs
          (newest_is (branch_in now.sets) now.tree.items c.len-before.result w.index.result.now
          (branches_in c.args.s.sets c.args.s.tree.items) hangs.branch w.index.ensures hangs.tree
          (omega (arith, c.len-before.ensures, length-map c.args.s.tree.items (branch_in c.args.s.sets))))
          (subst (λ (cells : List ℕ). IsSearchMask t s cells) (sym w.deref_mut-in-Grow.ensures.value) c.requires.masks)
          w.hide.auto.mask w.hide.ensures)
      | in-Shrink+in_ok-search-in-Shrink w ↦
          let now = w.in_ok-search-in-Shrink.search in
          let r = search_value now in
          let can = subst (λ (st : SearchStep). CanStepAt t s st) w.in-Shrink.is c.requires.step in
          keeps t c.match-step.search now c.match-step.reach.items w.shrink_by.new.reach c.match-step.mask.items c.args.shown.items
          w.search-is
          (ap (λ (cells : Vec ℕ Global). cells.items) w.reach-is
          ∙ written c.args.from.len w.shrink_by.new.reach c.args.from.items
          (omega (arith, w.shrink_by.auto.reach, w.deref_mut-in-Shrink.ensures.len)))
          (ap (λ (cells : Vec ℕ Global). cells.items) w.mask-is)
          (searches_on t s r (step.Shrink w.in-Shrink.link) can c.requires.some w.in_ok-search-in-Shrink.ensures.advances)
          (w.in_ok-search-in-Shrink.ensures.carries t can
          (subst (λ (cells : List ℕ). AreSearchSlacks t s cells) (sym w.deref_mut-in-Shrink.ensures.value) c.requires.reaches))
          (masks_same t s r c.args.shown.items w.in_ok-search-in-Shrink.ensures.rest c.requires.masks)
      | in-Expand+in_ok-expanded-in-Expand w ↦
          let now = w.in_ok-expanded-in-Expand.expanded in
          let r = search_value now in
          let adv = w.in_ok-expanded-in-Expand.ensures.advances in
          let apart = w.in_ok-expanded-in-Expand.ensures.apart in
          keeps t c.match-step.search now c.match-step.reach.items w.add_slacks_from-in-Expand.new.reach c.match-step.mask.items
          w.show_from.new.mask w.search-is
          (ap (λ (cells : Vec ℕ Global). cells.items) w.reach-is
          ∙ written c.args.from.len w.add_slacks_from-in-Expand.new.reach c.args.from.items
          (omega (arith, w.add_slacks_from-in-Expand.auto.reach, w.deref_mut-in-Expand.ensures.len)))
          (ap (λ (cells : Vec ℕ Global). cells.items) w.mask-is
          ∙ written c.args.shown.len w.show_from.new.mask c.args.shown.items
          (omega (arith, w.show_from.auto.mask, w.deref_mut-in-Expand-2.ensures.len)))
          (searches_on t s r (step.Expand w.in-Expand.at)
          (subst (λ (st : SearchStep). CanStepAt t s st) w.in-Expand.is c.requires.step) c.requires.some adv)
          (apart_more t s r c.args.step w.in-Expand.at (w.len.result - c.len-before.result) w.deref_mut-in-Expand.result.now
          w.add_slacks_from-in-Expand.new.reach w.in-Expand.is c.requires.step adv apart
          (omega (
            arith,
            w.len.ensures,
            c.len-before.ensures,
            length-map c.args.s.tree.items (branch_in c.args.s.sets),
            length-map now.tree.items (branch_in now.sets),
            grown_size w.in-Expand.at s.tree r.tree apart.grows,
          ))
          (subst (λ (cells : List ℕ). AreSearchSlacks t s cells) (sym w.deref_mut-in-Expand.ensures.value) c.requires.reaches)
          w.add_slacks_from-in-Expand.ensures)
          (masks_apart t (stored_height s) s r w.in-Expand.at c.len-matched.result w.deref_mut-in-Expand-2.result.now
          w.show_from.new.mask
          (next_search t s r c.args.step (step.Expand w.in-Expand.at) w.in-Expand.is c.requires.step adv) apart
          (omega (arith, c.len-matched.ensures, length-map c.args.s.rest.items (match_in c.args.s.sets)))
          (subst (λ (cells : List ℕ). IsSearchMask t s cells) (sym w.deref_mut-in-Expand-2.ensures.value) c.requires.masks)
          w.show_from.auto.mask w.show_from.ensures)
    ]

pub returns : goal.returns
returns c =
    let advances = λ (st : SearchStep) (r : Search). Advances (search_value c.args.s) st (search_value r) in
    elim c.match-step.branch [
      | in-Grow+in_ok-grown-in-Grow w ↦ (
        subst₂ advances (sym w.in-Grow.is) (sym w.search-is) w.in_ok-grown-in-Grow.ensures.advances,
        refl,
      )
      | in-Shrink+in_ok-search-in-Shrink w ↦ (
        subst₂ advances (sym w.in-Shrink.is) (sym w.search-is) w.in_ok-search-in-Shrink.ensures.advances,
        refl,
      )
      | in-Expand+in_ok-expanded-in-Expand w ↦ (
        subst₂ advances (sym w.in-Expand.is) (sym w.search-is) w.in_ok-expanded-in-Expand.ensures.advances,
        refl,
      )
    ]
