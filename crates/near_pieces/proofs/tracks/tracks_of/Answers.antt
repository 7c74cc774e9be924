use Rattle.std.proofs.Common.{◌≡◌, ◌∙◌, ◌++◌, ◌<◌, All, List, None, ap, arith, length, reverse, subst, sym, ℕ}
use Rattle.std.proofs.lemmas.List.{length-reverse}
use Rattle.near_pieces.proofs.NodeLemmas.{order_inside, order_length}
use Rattle.near_pieces.proofs.StopLemmas.{whole_travel}
use Rattle.near_pieces.proofs.TrackLemmas.{reversed_inside}
use Rattle.near_pieces.specs.Stops.{stops_in}
use Rattle.near_pieces.proofs.tracks.tracks_of.Goals as goal

pub stops_of-requires-clause-inside : goal.stops_of-requires-clause-inside
stops_of-requires-clause-inside c = subst (λ (l : List ℕ). All (λ i. i < length c.args.visits.now) l) (sym c.as_slice.ensures)
    (order_inside c.args.visits.now c.args.order c.requires.each)

pub stops_of-requires-clause-few : goal.stops_of-requires-clause-few
stops_of-requires-clause-few c =
    omega (arith, ap length c.as_slice.ensures, order_length c.args.visits.now c.args.order c.requires.each, c.requires.few)

pub stops_of-requires-2-clause-inside : goal.stops_of-requires-2-clause-inside
stops_of-requires-2-clause-inside c =
    let turned : c.as_slice-3.result.now ≡ reverse c.args.order = c.as_slice-3.ensures ∙ c.reversed-turned.ensures ∙ ap reverse
    (c.in_ok-append.ensures.ok ∙ ap (λ l. l ++ c.as_slice-2.result.now) c.new-turned.ensures ∙ c.as_slice-2.ensures) in
    subst (λ (l : List ℕ). All (λ i. i < length c.args.visits.now) l) (sym turned)
    (reversed_inside c.args.visits.now c.args.order c.requires.each)

pub stops_of-requires-2-clause-few : goal.stops_of-requires-2-clause-few
stops_of-requires-2-clause-few c =
    let turned : c.as_slice-3.result.now ≡ reverse c.args.order = c.as_slice-3.ensures ∙ c.reversed-turned.ensures ∙ ap reverse
    (c.in_ok-append.ensures.ok ∙ ap (λ l. l ++ c.as_slice-2.result.now) c.new-turned.ensures ∙ c.as_slice-2.ensures) in
    omega (
      arith,
      ap length turned,
      length-reverse c.args.order,
      order_length c.args.visits.now c.args.order c.requires.each,
      c.requires.few,
    )

pub returns-clause-tracks : goal.returns-clause-tracks
returns-clause-tracks c =
    let turned : c.as_slice-3.result.now ≡ reverse c.args.order = c.as_slice-3.ensures ∙ c.reversed-turned.ensures ∙ ap reverse
    (c.in_ok-append.ensures.ok ∙ ap (λ l. l ++ c.as_slice-2.result.now) c.new-turned.ensures ∙ c.as_slice-2.ensures) in
    let there : c.in_ok-there.there ≡ stops_in c.args.visits.now c.args.start 0 c.args.order =
    c.in_ok-there.ensures ∙ ap (stops_in c.args.visits.now c.args.start 0) c.as_slice.ensures in
    record {
      measured = record {
        each = c.requires.each;
        travel = whole_travel c.args.visits.now c.args.start c.args.order c.as_slice-4.result.now c.after_last-travel.result
            (c.as_slice-4.ensures ∙ there) c.after_last-travel.ensures;
      };
      there = there;
      back = c.in_ok-back.ensures ∙ ap (stops_in c.args.visits.now None 0) turned;
    }
