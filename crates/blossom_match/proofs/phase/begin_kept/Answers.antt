use Rattle.std.proofs.Common.{◌≡◌, ◌<◌, ℕ, List, ap, arith, get_or, length, subst, sym}
use Rattle.blossom_match.proofs.Names.{AreSearchSlacks, FAR, IsSearchMask, match_members, stored_height, matches_in, search_value, written}
use Rattle.blossom_match.proofs.EndLemmas.{begins, place_there}
use Rattle.blossom_match.proofs.LoweredLemmas.{begins_reach, searched}
use Rattle.blossom_match.proofs.MaskLemmas.{have_cells, masks_anew}
use Rattle.blossom_match.proofs.phase.begin_kept.Goals as goal

pub begin-requires-clause-cell : goal.begin-requires-clause-cell
begin-requires-clause-cell c = place_there c.args.t.now c.args.place (matches_in c.args.from.sets c.args.from.matches.items)
    c.args.from.free.items
    c.args.from.heights.items c.requires.stands

pub begin-requires-clause-within : goal.begin-requires-clause-within
begin-requires-clause-within c =
    omega (arith, c.requires.stands.size, place_there)

pub begin_slacks-requires-clause-can : goal.begin_slacks-requires-clause-can
begin_slacks-requires-clause-can c =
    let s = begins c.args.t.now c.args.place (matches_in c.args.from.sets c.args.from.matches.items) c.args.from.free.items
    c.args.from.heights.items (search_value c.in_ok-search.search)
    c.requires.stands c.requires.some c.in_ok-search.ensures in
    record {
      t = c.args.t.now;
      can = searched c.args.t.now (search_value c.in_ok-search.search) s.search;
      size = omega (arith, c.in_ok-reach.ensures.size, c.places.ensures.value);
    }

pub show_from-requires-clause-cells : goal.show_from-requires-clause-cells
show_from-requires-clause-cells c =
    let r = search_value c.in_ok-search.search in
    let s = begins c.args.t.now c.args.place (matches_in c.args.from.sets c.args.from.matches.items) c.args.from.free.items
    c.args.from.heights.items r c.requires.stands c.requires.some c.in_ok-search.ensures in
    have_cells c.args.t.now (stored_height r) r 0 c.deref_mut-2.result.now s.search
    (omega (
      arith,
      ap (λ (cells : List ℕ). length cells) c.deref_mut-2.ensures.value,
      c.in_ok-mask.ensures.size,
      c.places-2.ensures.value,
    ))

pub invariant_of-result : goal.invariant_of-result
invariant_of-result c =
    let t = c.args.t.now in
    let r = search_value c.in_ok-search.search in
    let s = begins t c.args.place (matches_in c.args.from.sets c.args.from.matches.items) c.args.from.free.items
    c.args.from.heights.items r c.requires.stands c.requires.some c.in_ok-search.ensures in
    let reach = written c.in_ok-reach.reach.len c.begin_slacks.new.reach c.in_ok-reach.reach.items
    (omega (arith, c.begin_slacks.auto.reach, c.deref_mut.ensures.len)) in
    let mask = written c.in_ok-mask.mask.len c.show_from.new.mask c.in_ok-mask.mask.items
    (omega (arith, c.show_from.auto.mask, c.deref_mut-2.ensures.len)) in
    let slacks : length c.begin_slacks.new.reach ≡ t.places =
    omega (
      arith,
      c.begin_slacks.auto.reach,
      ap (λ (cells : List ℕ). length cells) c.deref_mut.ensures.value,
      c.in_ok-reach.ensures.size,
      c.places.ensures.value,
    ) in
    let masked : length c.show_from.new.mask ≡ t.places =
    omega (
      arith,
      c.show_from.auto.mask,
      ap (λ (cells : List ℕ). length cells) c.deref_mut-2.ensures.value,
      c.in_ok-mask.ensures.size,
      c.places-2.ensures.value,
    ) in
    record {
      can = ∣ s ∣₁;
      reaches = subst (λ (cells : List ℕ). ∥ AreSearchSlacks t r cells ∥₁) (sym reach)
          ∣ begins_reach t r c.begin_slacks.new.reach s.search c.in_ok-search.ensures.tree slacks c.begin_slacks.ensures ∣₁;
      masks = subst (λ (cells : List ℕ). IsSearchMask t r cells) (sym mask) (record {
        size = masked;
        masks = masks_anew (match_members r.rest) c.deref_mut-2.result.now c.show_from.new.mask
            (have_cells t (stored_height r) r 0 c.show_from.new.mask s.search masked) c.show_from.auto.mask
            (subst (λ (cells : List ℕ). (x : ℕ) → x < length cells → get_or cells x 0 ≡ FAR) (sym c.deref_mut-2.ensures.value)
            (λ x low. c.in_ok-mask.ensures.far x (omega (arith, low, c.in_ok-mask.ensures.size))))
            c.show_from.ensures;
      });
    }
