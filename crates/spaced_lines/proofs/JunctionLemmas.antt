-- The spots at the ends of sections, in a set.
use Rattle.std.proofs.Common.{◌≡◌, ◌∙◌, ℕ, ◌==◌, Bool, true, false, ◌&&◌, ◌||◌, cond, List, [], ◌∷◌, ap, sym, arith}
use Rattle.spaced_lines.proofs.Names.{nat_tests, ap₂, list_any, Point, is_same_point, endpoints, has_end_at_spot, is_junction, Spot, LineValue, is_same_spot, last_point_or, same_back}

-- what is found after two spots of a block were put in
either_end : (a b c found : Bool) → cond (a && c) true (cond (a && b) true found) ≡ ((a && (b || (c || false))) || found)
either_end a b c found = grind (arith, nat_tests)

-- a spot that was found, or is an end of the next section or of a later one
found_next : (found end later : Bool) → ((end || found) || later) ≡ (found || (end || later))
found_next found end later = grind (arith, nat_tests)

-- two spots of a block are put in
both_put : (block : ℕ) (first last : Point) (old mid new : Spot → Bool)
    → ((q : Spot) → mid q ≡ cond (is_same_spot (record { block = block; at = first }) q) true (old q))
    → ((q : Spot) → new q ≡ cond (is_same_spot (record { block = block; at = last }) q) true (mid q)) → (q : Spot)
    → new q ≡ (((block == q.block) && list_any (is_same_point q.at) (first ∷ last ∷ [])) || old q)
both_put block first last old mid new one two q =
    two q ∙ (ap (λ (b : Bool). cond (is_same_spot (record { block = block; at = last }) q) true b) (one q)
    ∙ (ap₂ (λ (a b : Bool). cond ((block == q.block) && b) true (cond ((block == q.block) && a) true (old q)))
    (same_back first q.at) (same_back last q.at)
    ∙ either_end (block == q.block) (is_same_point q.at first) (is_same_point q.at last) (old q)))

-- the ends of a section are put in
pub ends_put : (section : LineValue) (block : ℕ) (first last : Point) (after : List Point) (old mid new : Spot → Bool)
    → block ≡ section.block → section.points ≡ first ∷ after → last ≡ last_point_or first after
    → ((q : Spot) → mid q ≡ cond (is_same_spot (record { block = block; at = first }) q) true (old q))
    → ((q : Spot) → new q ≡ cond (is_same_spot (record { block = block; at = last }) q) true (mid q)) → (q : Spot)
    → new q ≡ (has_end_at_spot q section || old q)
ends_put section block first last after old mid new in_block points is_last one two q =
    both_put block first last old mid new one two q
    ∙ ap₂ (λ (b : ℕ) (ends : List Point). ((b == q.block) && list_any (is_same_point q.at) ends) || old q) in_block
    (ap (λ (l : Point). first ∷ l ∷ []) is_last ∙ sym (ap (λ (ps : List Point). endpoints ps) points))

-- a spot is found after the ends of the next section were put in, or is an end of a later one
pub junctions_go_on : (found new : Spot → Bool) (sections left rest : List LineValue) (section : LineValue)
    → ((q : Spot) → (found q || is_junction left q) ≡ is_junction sections q) → left ≡ section ∷ rest
    → ((q : Spot) → new q ≡ (has_end_at_spot q section || found q)) → (q : Spot) → (new q || is_junction rest q) ≡ is_junction sections q
junctions_go_on found new sections left rest section are is put q =
    ap (λ (b : Bool). b || is_junction rest q) (put q)
    ∙ (found_next (found q) (has_end_at_spot q section) (is_junction rest q)
    ∙ (ap (λ (ls : List LineValue). found q || is_junction ls q) (sym is) ∙ are q))
