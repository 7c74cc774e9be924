-- New links by a test of what was sewn, and the chains of moves one after another.
use Rattle.std.proofs.Common.{arith, ◌≡◌, ℕ, Bool, true, false, ◌||◌, cond, List, [], ◌∷◌, ◌++◌, map, filter, ap, sym, ◌∙◌, refl, append_assoc, append-nil}
use Rattle.stitch_trace.proofs.Names.{nat_tests, ap₂, map-append, contains, list_any, NumberedAct, Point, Link, NeedleMove, Stay, Gap, Sewn, chains_of, has_links, is_sewn, new_moves, new_moves_of, is_same_directed_link, is_same_link, links_in, needle_moves_of, reversed_link, chain_if_any, chains_after, extended_chain, new_moves_by, HashSet, onto_first, slice_split, is_gap, points_through}

-- what is found after two keys were put in
or_order : (a b c : Bool) → cond b true (cond a true c) ≡ ((a || b) || c)
or_order true true c = refl
or_order true false c = refl
or_order false true c = refl
or_order false false c = refl

-- a link is kept in both directions
pub kept_both : (link back : Link) (old mid new : Link → Bool) → back ≡ reversed_link link
    → ((q : Link) → mid q ≡ cond (is_same_directed_link link q) true (old q))
    → ((q : Link) → new q ≡ cond (is_same_directed_link back q) true (mid q)) → (q : Link) → new q ≡ (is_same_link link q || old q)
kept_both link back old mid new is first second q =
    grind (arith, nat_tests, ap₂, or_order (is_same_directed_link link q) (is_same_directed_link (reversed_link link) q) (old q))

-- tests that agree find the same new links
pub new_by_same : (f g : Link → Bool) → ((l : Link) → f l ≡ g l) → (moves : List NeedleMove) → new_moves_by f moves ≡ new_moves_by g moves
new_by_same f g agree [] = refl
new_by_same f g agree (Stay ∷ rest) = ap (λ (ms : List NeedleMove). Stay ∷ ms) (new_by_same f g agree rest)
new_by_same f g agree (Gap ∷ rest) = ap (λ (ms : List NeedleMove). Gap ∷ ms) (new_by_same f g agree rest)
new_by_same f g agree (Sewn number link ∷ rest) =
    ap₂ (λ (t : Bool) (ms : List NeedleMove). cond t Gap (Sewn number link) ∷ ms) (agree link)
    (new_by_same (λ other. is_same_link link other || f other) (λ other. is_same_link link other || g other)
    (λ other. ap (λ (t : Bool). is_same_link link other || t) (agree other)) rest)

-- the test whether a link is among those before
new_by_before : (before : List Link) (moves : List NeedleMove) → new_moves_by (is_sewn before) moves ≡ new_moves before moves
new_by_before before [] = refl
new_by_before before (Stay ∷ rest) = ap (λ (ms : List NeedleMove). Stay ∷ ms) (new_by_before before rest)
new_by_before before (Gap ∷ rest) = ap (λ (ms : List NeedleMove). Gap ∷ ms) (new_by_before before rest)
new_by_before before (Sewn number link ∷ rest) = grind (arith, nat_tests, new_by_before (link ∷ before) rest)

-- the runs, of which these links begin the first
abbrev with_run : List Link → List (List Link) → List (List Link)
with_run run [] = run ∷ []
with_run run (first ∷ rest) = (run ++ first) ∷ rest

abbrev pub parts_of : List NeedleMove → List (List Link)
parts_of moves = map links_in (slice_split is_gap moves)

abbrev pub chains_through : List (List Link) → List (List Point)
chains_through parts = map points_through (filter has_links parts)

stay_parts : (run : List Link) (parts : List (List NeedleMove))
    → with_run run (map links_in (onto_first Stay parts)) ≡ with_run run (map links_in parts)
stay_parts run [] = ap (λ (r : List Link). r ∷ []) (append-nil run)
stay_parts run (first ∷ others) = refl

sewn_parts : (number : ℕ) (link : Link) (run : List Link) (parts : List (List NeedleMove))
    → with_run run (map links_in (onto_first (Sewn number link) parts)) ≡ with_run (run ++ link ∷ []) (map links_in parts)
sewn_parts number link run [] = refl
sewn_parts number link run (first ∷ others) = grind (arith, nat_tests, append_assoc run (link ∷ []) (links_in first))

-- a run that is over
ended_parts : (run : List Link) (parts : List (List Link))
    → chain_if_any (points_through run) ++ chains_through (with_run [] parts) ≡ chains_through ((run ++ []) ∷ parts)
ended_parts [] [] = refl
ended_parts [] (first ∷ others) = refl
ended_parts (link ∷ rest) [] = ap (λ (r : List Link). points_through (link ∷ r) ∷ []) (sym (append-nil rest))
ended_parts (link ∷ rest) (first ∷ others) = grind (arith, nat_tests, append-nil rest)

last_parts : (run : List Link) → chain_if_any (points_through run) ≡ chains_through ((run ++ []) ∷ [])
last_parts [] = refl
last_parts (link ∷ rest) = ap (λ (r : List Link). points_through (link ∷ r) ∷ []) (sym (append-nil rest))

led_points : (run : List Link) (link : Link) → extended_chain (points_through run) link ≡ points_through (run ++ link ∷ [])
led_points [] link = refl
led_points (first ∷ rest) link = grind (arith, nat_tests, map-append (λ (one : Link). one.to) (first ∷ rest) (link ∷ []))

-- chains that are made move by move are those between gaps
chains_by_runs : (run : List Link) (moves : List NeedleMove)
    → chains_after (points_through run) moves ≡ chains_through (with_run run (parts_of moves))
chains_by_runs run [] = last_parts run
chains_by_runs run (Stay ∷ rest) = grind (arith, nat_tests, chains_by_runs run rest, stay_parts run (slice_split is_gap rest))
chains_by_runs run (Gap ∷ rest) = grind (arith, nat_tests, chains_by_runs [] rest, ended_parts run (parts_of rest))
chains_by_runs run (Sewn number link ∷ rest) =
    ap (λ (ps : List Point). chains_after ps rest) (led_points run link)
    ∙ (chains_by_runs (run ++ link ∷ []) rest
    ∙ ap chains_through (sym (sewn_parts number link run (slice_split is_gap rest))))

runs_begun : (parts : List (List Link)) → chains_through (with_run [] parts) ≡ chains_through parts
runs_begun [] = refl
runs_begun (first ∷ others) = refl

-- so are those of a block
pub chains_are : (acts : List NumberedAct) → chains_after [] (new_moves_of acts) ≡ chains_of acts
chains_are acts = chains_by_runs [] (new_moves_of acts) ∙ runs_begun (parts_of (new_moves_of acts))

-- where nothing was sewn before
pub chains_begin : (was : Link → Bool) (acts : List NumberedAct) → ((l : Link) → was l ≡ false)
    → chains_after [] (new_moves_by was (needle_moves_of acts)) ≡ chains_of acts
chains_begin was acts none =
    ap (chains_after []) (new_by_same was (is_sewn []) none (needle_moves_of acts) ∙ new_by_before [] (needle_moves_of acts))
    ∙ chains_are acts

-- and of a block whose first act comes
pub begun_so : (acts : List NumberedAct) {S : Type 0} (sewn : HashSet Link S) (chain : List Point) (chains : List (List Point))
    → sewn.keys ≡ [] → chain ≡ [] → chains ≡ []
    → chains ++ chains_after chain (new_moves_by (contains is_same_directed_link sewn) (needle_moves_of acts)) ≡ chains_of acts
begun_so acts sewn chain chains unsewn unled none =
    rw (unled, none) (chains_begin (contains is_same_directed_link sewn) acts (λ l. ap (list_any (is_same_directed_link l)) unsewn))
