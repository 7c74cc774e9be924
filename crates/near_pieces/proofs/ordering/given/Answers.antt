use Rattle.std.proofs.Common.{◌≡◌, ◌++◌, ◌<◌, All, List, ℕ, length, ap, sym, subst, arith, ◌∙◌}
use Rattle.near_pieces.proofs.Names.{given_order, length-range_with_len}
use Rattle.near_pieces.proofs.NodeLemmas.{all_inside}
use Rattle.near_pieces.proofs.ordering.given.Goals as goal

pub travel_through-travel-requires-clause-inside : goal.travel_through-travel-requires-clause-inside
travel_through-travel-requires-clause-inside c =
    let is : c.as_slice-2.result.now ≡ given_order c.args.visits.now =
    c.as_slice-2.ensures ∙ c.in_ok-append.ensures.ok ∙ ap (λ l. l ++ c.as_slice.result.now) c.new-order.ensures
    ∙ c.as_slice.ensures ∙ c.requires.all in
    subst (λ (l : List ℕ). All (λ i. i < length c.args.visits.now) l) (sym is) (all_inside c.args.visits.now)

pub travel_through-travel-requires-clause-few : goal.travel_through-travel-requires-clause-few
travel_through-travel-requires-clause-few c =
    let is : c.as_slice-2.result.now ≡ given_order c.args.visits.now =
    c.as_slice-2.ensures ∙ c.in_ok-append.ensures.ok ∙ ap (λ l. l ++ c.as_slice.result.now) c.new-order.ensures
    ∙ c.as_slice.ensures ∙ c.requires.all in
    omega (arith, ap length is, length-range_with_len 0 (length c.args.visits.now), c.requires.few)
