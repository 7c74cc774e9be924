-- One match of a list.
use Rattle.std.proofs.Common.{◌≡◌, ℕ, ◌+◌, ◌≤◌, ◌<◌, suc, List, ◌∷◌, ◌++◌, length, take, drop, get_or, drop-cons, add-one, arith, sym, ap, subst, ◌∙◌}
use Rattle.odd_sets.proofs.Names.{nat_tests, take-append-drop, count, MatchHolds, MatchValue, FirstMatchHolds, RemovesMatch}

-- the match at the index comes first among those that are left
pub match_here : (cs : List MatchValue) (i : ℕ) (c : MatchValue) → i < length cs → c ≡ get_or cs i c → drop i cs ≡ c ∷ drop (i + 1) cs
match_here cs i c lt is = rw add-one (drop-cons cs i c lt ∙ ap (λ (k : MatchValue). k ∷ drop (suc i) cs) (sym is))

pub taken_out : (x : ℕ) (old new : List MatchValue) (i : ℕ) (c : MatchValue) → i < length old → c ≡ get_or old i c
    → new ≡ take i old ++ drop (suc i) old → MatchHolds x old i → RemovesMatch x old new c
taken_out x old new i c h1 h2 h3 h4 = grind (arith, nat_tests, drop-cons, take-append-drop)

-- the match at the index holds the place
pub match_holds : (x : ℕ) (cs : List MatchValue) (i : ℕ) (c : MatchValue) → i < length cs → c ≡ get_or cs i c
    → 1 ≤ count x c.first.members + count x c.second.members → MatchHolds x cs i
match_holds x cs i c low is here = subst (FirstMatchHolds x) (sym (match_here cs i c low is)) here
