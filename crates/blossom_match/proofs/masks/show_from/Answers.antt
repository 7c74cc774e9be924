use Rattle.std.proofs.Common.{ap, arith, drop, length, List, ◌≤◌, ◌-◌, ◌∙◌, subst, sym}
use Rattle.std.proofs.lemmas.List.{length-drop}
use Rattle.blossom_match.proofs.Names.{take_all, count, match_members, SetsCells, match_in, matches_in, MatchValue, Match, mapped_drop}
use Rattle.blossom_match.proofs.masks.show_from.Goals as goal

pub show-requires : goal.show-requires
show-requires c = λ x here.
    let sets = c.args.s.now.sets in
    let all = c.deref.result.now in
    c.requires.cells x (subst (λ (cs : List MatchValue). 1 ≤ count x (match_members cs))
    (ap (λ (ks : List Match). matches_in sets ks)
    (take_all (length all - c.args.at) (drop c.args.at all) (omega (arith, length-drop c.args.at all)))
    ∙ sym (mapped_drop (match_in sets) c.args.at all)
    ∙ ap (λ (ks : List Match). drop c.args.at (matches_in sets ks)) c.deref.ensures.value) here)

pub returns : goal.returns
returns c =
    let sets = c.args.s.now.sets in
    let all = c.deref.result.now in
    subst (λ (cs : List MatchValue). SetsCells 0 (match_members cs) c.args.mask.now c.show.new.mask)
    (ap (λ (ks : List Match). matches_in sets ks)
    (take_all (length all - c.args.at) (drop c.args.at all) (omega (arith, length-drop c.args.at all)))
    ∙ sym (mapped_drop (match_in sets) c.args.at all)
    ∙ ap (λ (ks : List Match). drop c.args.at (matches_in sets ks)) c.deref.ensures.value) c.show.ensures
