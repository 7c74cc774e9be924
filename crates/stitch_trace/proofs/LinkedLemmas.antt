-- Links of a chain follow each other, so chains have the new links as their segments.
use Rattle.std.proofs.Common.{arith, ◌≡◌, ℕ, Bool, true, false, cond, List, [], ◌∷◌, ◌++◌, Option, Some, None, map, flat_map, ap, sym, subst, ◌∙◌, refl, append_assoc, append-nil}
use Rattle.stitch_trace.proofs.Names.{nat_tests, ap₂, flat_map-append, Act, NumberedAct, Point, needle_point, act_point, is_same_point, last_point, last_point_or, Link, NeedleMove, Stay, Gap, Sewn, chains_of, has_links, new_links_of, new_moves, new_moves_of, link_between, links_along, links_in, move_to_act, needle_moves_of, needle_moves_from, chain_if_any, chains_after, extended_chain, same_is, some_same, segments_from}
use Rattle.design_model.specs.declared.act.Act.TheVariants as act
use Rattle.stitch_trace.proofs.MoveLemmas.{chains_are, chains_through, parts_of}

-- a link continues from a point, if there is one
abbrev pub Follows : Option Point → Link → Type 0
Follows None link = Unit {0}
Follows (Some p) link = link.from ≡ p

-- each link continues the one before, with no gap between
abbrev pub Linked : Option Point → List NeedleMove → Type 0
Linked before [] = Unit {0}
Linked before (Stay ∷ rest) = Linked before rest
Linked before (Gap ∷ rest) = Linked None rest
Linked before (Sewn number link ∷ rest) = Follows before link × Linked (Some link.to) rest

freed : (before : Option Point) (moves : List NeedleMove) → Linked before moves → Linked None moves
freed before [] linked = tt
freed before (Stay ∷ rest) linked = freed before rest linked
freed before (Gap ∷ rest) linked = linked
freed before (Sewn number link ∷ rest) linked = (tt, linked.1)

after_needle : (p q : Point) (number : ℕ) (later : List NeedleMove) → Linked (Some q) later → (t : Bool) → is_same_point p q ≡ t
    → (float : Bool) → Linked (Some p) (cond t Stay (cond float Gap (Sewn number (record { from = p; to = q }))) ∷ later)
after_needle p q number later linked true same float = subst (λ (r : Point). Linked (Some r) later) (sym (same_is p q same)) linked
after_needle p q number later linked false same true = freed (Some q) later linked
after_needle p q number later linked false same false = (refl, linked)

after_act : (p : Point) (number : ℕ) (what : Act) (later : List NeedleMove) → Linked (act_point what) later
    → Linked (Some p) (move_to_act (Some p) number what ∷ later)
after_act p number act.Trim later linked = linked
after_act p number act.Stop later linked = linked
after_act p number (act.Needle q float) later linked = after_needle p q number later linked (is_same_point p q) refl float

pub moves_linked : (before : Option Point) (acts : List NumberedAct) → Linked before (needle_moves_from before acts)
moves_linked before [] = tt
moves_linked None (a ∷ rest) =
    freed (needle_point a) (needle_moves_from (needle_point a) rest) (moves_linked (needle_point a) rest)
moves_linked (Some p) (a ∷ rest) =
    after_act p a.number a.act (needle_moves_from (needle_point a) rest) (moves_linked (needle_point a) rest)

pub new_linked : (before : List Link) (place : Option Point) (moves : List NeedleMove) → Linked place moves → Linked place
    (new_moves before moves)
new_linked before place [] linked = tt
new_linked before place (Stay ∷ rest) linked = new_linked before place rest linked
new_linked before place (Gap ∷ rest) linked = new_linked before None rest linked
new_linked before place (Sewn number link ∷ rest) linked =
    grind (arith, nat_tests, new_linked (link ∷ before) (Some link.to) rest linked.1, freed (Some link.to) (new_moves (link ∷ before) rest))

-- a segment more
led_segments : (p : Point) (rest : List Point) (q : Point) → map link_between (segments_from p (rest ++ q ∷ []))
    ≡ map link_between (segments_from p rest) ++ record { from = last_point_or p rest; to = q } ∷ []
led_segments p [] q = refl
led_segments p (r ∷ rest) q = ap (λ (links : List Link). link_between (p, r) ∷ links) (led_segments r rest q)

led_last : (p : Point) (rest : List Point) (q : Point) → last_point_or p (rest ++ q ∷ []) ≡ q
led_last p [] q = refl
led_last p (r ∷ rest) q = led_last r rest q

led_links : (begun : List Point) (place : Option Point) (link : Link) → last_point begun ≡ place → Follows place link
    → links_along (extended_chain begun link) ≡ links_along begun ++ link ∷ []
led_links [] place link ends follows = refl
led_links (p ∷ rest) None link ends follows = absurd cc
led_links (p ∷ rest) (Some q) link ends follows =
    grind (arith, nat_tests, led_segments p rest link.to, some_same (last_point_or p rest) q ends)

pub led_ends : (begun : List Point) (link : Link) → last_point (extended_chain begun link) ≡ Some link.to
led_ends [] link = refl
led_ends (p ∷ rest) link = ap Some (led_last p rest link.to)

begun_links : (begun : List Point) → flat_map links_along (chain_if_any begun) ≡ links_along begun
begun_links [] = refl
begun_links (p ∷ rest) = append-nil (links_along (p ∷ rest))

-- chains have the links that are sewn
linked_chains : (begun : List Point) (place : Option Point) (moves : List NeedleMove) → last_point begun ≡ place → Linked place moves
    → flat_map links_along (chains_after begun moves) ≡ links_along begun ++ links_in moves
linked_chains begun place [] ends linked = begun_links begun ∙ sym (append-nil (links_along begun))
linked_chains begun place (Stay ∷ rest) ends linked = linked_chains begun place rest ends linked
linked_chains begun place (Gap ∷ rest) ends linked =
    flat_map-append links_along (chain_if_any begun) (chains_after [] rest)
    ∙ ap₂ (λ (first later : List Link). first ++ later) (begun_links begun) (linked_chains [] None rest refl linked)
linked_chains begun place (Sewn number link ∷ rest) ends linked =
    linked_chains (extended_chain begun link) (Some link.to) rest (led_ends begun link) linked.1
    ∙ (ap (λ (first : List Link). first ++ links_in rest) (led_links begun place link ends linked.0)
    ∙ append_assoc (links_along begun) (link ∷ []) (links_in rest))

pub chains_links : (acts : List NumberedAct) → flat_map links_along (chains_of acts) ≡ new_links_of acts
chains_links acts =
    ap (flat_map links_along) (sym (chains_are acts))
    ∙ linked_chains [] None (new_moves_of acts) refl (new_linked [] None (needle_moves_of acts) (moves_linked None acts))

-- there are chains
abbrev pub has_chains : List (List Point) → Bool
has_chains [] = false
has_chains (chain ∷ rest) = true

-- there are chains where there are links
some_chains : (parts : List (List Link)) → has_chains (chains_through parts) ≡ has_links (flat_map links_along (chains_through parts))
some_chains [] = refl
some_chains ([] ∷ rest) = some_chains rest
some_chains ((link ∷ more) ∷ rest) = refl

pub chains_where_links : (acts : List NumberedAct) → has_chains (chains_of acts) ≡ has_links (new_links_of acts)
chains_where_links acts = some_chains (parts_of (new_moves_of acts)) ∙ ap has_links (chains_links acts)
