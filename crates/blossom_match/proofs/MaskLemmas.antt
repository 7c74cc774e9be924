-- Masks that show the places of matches.
use Rattle.std.proofs.Common.{◌≡◌, ◌≢◌, ℕ, ◌+◌, ◌-◌, ◌≤◌, ◌<◌, List, [], ◌∷◌, ◌++◌, length, take, drop, map, get_or, min, Option, Some, None, ⊎_elim, arith, refl, sym, ap, subst, ◌∙◌, length-append}
use Rattle.std.proofs.lemmas.List.FromFn.{get_or-range_with_len, length-range_with_len}
use Rattle.std.specs.List.{AllWithin, HoldsAt, range_with_len}
use Rattle.std.specs.Option.{MatchOption, unwrap_or}
use Rattle.blossom_match.proofs.Names.{nat_tests, cases_lt, length-map, take-append-drop, drop-append_seam, count, match_members, stored_height, Advances, CanStepAt, ExpandsBranch, GrowsBranch, IsSearch, SetsCells, branch_members, masked_slack, IsMaskedSlack, IsSearchMask, TableValue, BranchValue, MatchValue, SearchValue, SearchStep, FAR, take_here, count-append, members-append, members_push, by_count, by_either, get_or-drop, get_or-take, IsMask, mapped_at, match_here}
use Rattle.blossom_match.proofs.SearchLemmas.{is_one, place_in}

pub puts_join : (left : ℕ) (xs ys zs old mid new : List ℕ) → ((x : ℕ) → count x zs ≡ count x xs + count x ys) → SetsCells left xs old mid
    → SetsCells left ys mid new → SetsCells left zs old new
puts_join left xs ys zs old mid new h1 h2 h3 = grind (arith, nat_tests, by_count)

-- one match more
pub puts_match : (left : ℕ) (cs : List MatchValue) (i : ℕ) (c : MatchValue) (old now mid new : List ℕ) → i < length cs
    → c ≡ get_or cs i c → SetsCells left (match_members (take i cs)) old now → SetsCells left c.first.members now mid
    → SetsCells left c.second.members mid new → SetsCells left (match_members (take (i + 1) cs)) old new
puts_match left cs i c old now mid new low is one two three =
    let both = c.first.members ++ c.second.members in
    let at = λ (x : ℕ). count-append x c.first.members c.second.members in
    puts_join left (match_members (take i cs)) both (match_members (take (i + 1) cs)) old now new
    (λ x. omega (
      arith,
      at x,
      members_push,
      ap (λ (ks : List MatchValue). count x (match_members ks)) (take_here cs i c low is),
    )) one (puts_join left c.first.members c.second.members both now mid new at two three)

-- a match's places are matched
pub match_within : (x : ℕ) (cs : List MatchValue) (i : ℕ) (c : MatchValue) → i < length cs → c ≡ get_or cs i c
    → count x c.first.members + count x c.second.members ≤ count x (match_members cs)
match_within x cs i c low is =
    omega (
      arith,
      members-append,
      ap (λ (ks : List MatchValue). count x (match_members ks)) (take-append-drop i cs),
      ap (λ (ks : List MatchValue). count x (match_members ks)) (match_here cs i c low is),
      count-append,
    )

-- a mask computed from the beginning
pub masks_anew : (places old new : List ℕ) → ((x : ℕ) → 1 ≤ count x places → x < length new) → length new ≡ length old
    → ((x : ℕ) → x < length old → get_or old x 0 ≡ FAR) → SetsCells 0 places old new → IsMask places new
masks_anew places old new within size far k = record {
  within = within;
  on = k.on;
  off = λ x low none. k.off x none ∙ far x (omega (arith, low, size));
}

-- one that shows more places
masks_more : (places more all old new : List ℕ) → ((x : ℕ) → count x all ≡ count x places + count x more)
    → ((x : ℕ) → 1 ≤ count x all → x < length new) → length new ≡ length old → IsMask places old → SetsCells 0 more old new → IsMask all new
masks_more places more all old new h1 h2 h3 h4 h5 = grind (arith, nat_tests, by_count)

-- one that shows fewer
masks_less : (places gone all old new : List ℕ) → ((x : ℕ) → count x places ≡ count x all + count x gone) → ((x : ℕ) → count x places ≤ 1)
    → length new ≡ length old → IsMask places old → SetsCells FAR gone old new → IsMask all new
masks_less places gone all old new h1 h2 h3 h4 h5 = grind (arith, nat_tests, by_count)

-- the matches stay
pub masks_same : (t : TableValue) (s r : SearchValue) (mask : List ℕ) → r.rest ≡ s.rest → IsSearchMask t s mask → IsSearchMask t r mask
masks_same t s r mask e m = record {
  size = m.size;
  masks = subst (λ (cs : List MatchValue). IsMask (match_members cs) mask) (sym e) m.masks;
}

dropped_in : (x n : ℕ) (cs : List MatchValue) → count x (match_members (drop n cs)) ≤ count x (match_members cs)
dropped_in x n cs =
    omega (
      arith,
      members-append,
      ap (λ (ks : List MatchValue). count x (match_members ks)) (take-append-drop n cs),
    )

-- the places of a search's matches have cells
pub have_cells : (t : TableValue) (h : ℕ → ℕ) (s : SearchValue) (n : ℕ) (mask : List ℕ) → IsSearch t h s → length mask ≡ t.places → (x : ℕ)
    → 1 ≤ count x (match_members (drop n s.rest)) → x < length mask
have_cells t h s n mask i size x here = omega (arith, place_in t x (omega (arith, i.places x, here, dropped_in x n s.rest)), size)

-- the search that the step leads to
pub next_search : (t : TableValue) (s r : SearchValue) (st now : SearchStep) → st ≡ now → CanStepAt t s st → Advances s now r
    → IsSearch t (stored_height s) r
next_search t s r st now e k adv =
    let on = subst (λ (st : SearchStep). CanStepAt t s st) e k in
    adv.search t (stored_height s) on.search on.ready

-- the matches of before are those after it and the branch
hung_out : (t : TableValue) (h : ℕ → ℕ) (s r : SearchValue) → IsSearch t h s → IsSearch t h r → (hangs : GrowsBranch s r) → r.free ≡ s.free
    → (x : ℕ) → count x (match_members s.rest) ≡ count x (match_members r.rest) + count x (branch_members hangs.branch)
hung_out t h s r h1 h2 hangs h3 x = grind (arith, nat_tests, members_push, count-append)

last_here : {Y : Type 0} (ys : List Y) (y d : Y) → get_or (ys ++ y ∷ []) (length ys) d ≡ y
last_here [] y d = refl
last_here (z ∷ ys) y d = last_here ys y d

-- the size of a list whose images are those of another list and more
pub mapped_more : {X Y : Type 0} (f g : X → Y) (xs ys : List X) (more : List Y) → map g ys ≡ map f xs ++ more
    → length ys ≡ length xs + length more
mapped_more f g xs ys more h1 = grind (arith, nat_tests, length-append, length-map)

-- the item after those before it
pub newest_is : {X Y : Type 0} (f : X → Y) (xs : List X) (i : ℕ) (x : X) (ys : List Y) (y : Y) → x ≡ get_or xs i x → map f xs ≡ ys ++ y ∷ []
    → i ≡ length ys → f x ≡ y
newest_is {X} {Y} f xs i x ys y is e at =
    mapped_at f xs i x is ∙ ap (λ (zs : List Y). get_or zs i (f x)) e
    ∙ subst (λ (n : ℕ). get_or (ys ++ y ∷ []) n (f x) ≡ y) (sym at) (last_here ys y (f x))

-- a match that moved into the tree was shown
pub hides_there : (t : TableValue) (s r : SearchValue) (st now : SearchStep) (b : BranchValue) (mask : List ℕ) → st ≡ now → CanStepAt t s st
    → Advances s now r → (hangs : GrowsBranch s r) → b ≡ hangs.branch → IsSearchMask t s mask → (x : ℕ) → 1 ≤ count x (branch_members b)
    → x < length mask
hides_there t s r st now b mask e k adv hangs is m x here =
    m.masks.within x (grind (
      arith,
      nat_tests,
      here,
      hung_out t (stored_height s) s r k.search (next_search t s r st now e k adv) hangs
          adv.free x,
    ))

-- and is hidden then
pub masks_hung : (t : TableValue) (s r : SearchValue) (st now : SearchStep) (b : BranchValue) (old new : List ℕ) → st ≡ now
    → CanStepAt t s st → Advances s now r → (hangs : GrowsBranch s r) → b ≡ hangs.branch → IsSearchMask t s old → length new ≡ length old
    → SetsCells FAR (branch_members b) old new → IsSearchMask t r new
masks_hung t s r st now b old new e k adv hangs is m size puts =
    let out = hung_out t (stored_height s) s r k.search (next_search t s r st now e k adv) hangs adv.free in
    record {
      size = size ∙ m.size;
      masks = masks_less (match_members s.rest) (branch_members hangs.branch) (match_members r.rest) old new out
          (λ x. omega (arith, k.search.places x, is_one t x)) size m.masks
          (subst (λ (c : BranchValue). SetsCells FAR (branch_members c) old new) is puts);
    }

-- matches more are shown
pub masks_apart : (t : TableValue) (h : ℕ → ℕ) (s r : SearchValue) (at n : ℕ) (old new : List ℕ) → IsSearch t h r
    → (apart : ExpandsBranch at s r) → n ≡ length s.rest → IsSearchMask t s old → length new ≡ length old
    → SetsCells 0 (match_members (drop n r.rest)) old new → IsSearchMask t r new
masks_apart t h s r at n old new j apart e m size puts =
    let more : drop n r.rest ≡ apart.more = ap (λ (cs : List MatchValue). drop n cs) apart.rest
    ∙ subst (λ (i : ℕ). drop i (s.rest ++ apart.more) ≡ apart.more) (sym e) (drop-append_seam s.rest apart.more) in
    record {
      size = size ∙ m.size;
      masks = masks_more (match_members s.rest) (match_members apart.more) (match_members r.rest) old new
          (λ x. omega (arith, members-append, ap (λ (cs : List MatchValue). count x (match_members cs)) apart.rest))
          (have_cells t h r 0 new j (size ∙ m.size)) size m.masks
          (subst (λ (cs : List MatchValue). SetsCells 0 (match_members cs) old new) more puts);
    }

-- the lesser of what is shown so far and at the next place
pub shown_next : (hs reach mask : List ℕ) (i old new : ℕ) → new ≡ min (masked_slack hs reach mask i) old → i < length reach
    → (old < FAR → IsMaskedSlack hs reach mask old) → new < FAR → IsMaskedSlack hs reach mask new
shown_next hs reach mask i old new is low was near =
    by_either
    (λ less. record { place = i; within = low; exact = omega (arith, is, less) })
    (λ more. let same : new ≡ old = omega (arith, is, more) in
    subst (λ (n : ℕ). IsMaskedSlack hs reach mask n) (sym same) (was (omega (arith, same, near))))
    (cases_lt (masked_slack hs reach mask i) old)

-- and no place so far has less
pub least_next : (hs reach mask : List ℕ) (i old new : ℕ) → new ≡ min (masked_slack hs reach mask i) old
    → ((x : ℕ) → x < i → old ≤ masked_slack hs reach mask x) → (x : ℕ) → x < i + 1 → new ≤ masked_slack hs reach mask x
least_next hs reach mask i old new h1 h2 x h3 = grind (arith, nat_tests, by_either, cases_lt)

block_slack : (hs reach mask : List ℕ) (at n i : ℕ) → i < n
    → masked_slack (take n (drop at hs)) (take n (drop at reach)) (take n (drop at mask)) i ≡ masked_slack hs reach mask (at + i)
block_slack hs reach mask at n i h1 = grind (arith, nat_tests, get_or-take, get_or-drop)

-- a block that shows more than the slack at each place doesn't show it
pub block_next : (hs reach mask : List ℕ) (at n least slack : ℕ) → slack < least
    → ((i : ℕ) → i < n → least ≤ masked_slack (take n (drop at hs)) (take n (drop at reach)) (take n (drop at mask)) i)
    → ((x : ℕ) → x < at → slack ≢ masked_slack hs reach mask x) → (x : ℕ) → x < at + n → slack ≢ masked_slack hs reach mask x
block_next hs reach mask at n least slack more low was x lx =
    by_either
    (λ less. was x less)
    (λ past. λ same.
    let i = x - at in
    let here : i < n = omega (arith, lx, past) in
    let there : at + i ≡ x = omega (arith, past) in
    absurd (grind (arith, nat_tests, more, low i here, block_slack hs reach mask at n i here, same)))
    (cases_lt x at)

-- the first place of a list that shows the slack is found, if there is one
abbrev pub FindsShown : List ℕ → List ℕ → List ℕ → ℕ → List ℕ → Option ℕ → Type 0
FindsShown hs reach mask slack places r = MatchOption r (AllWithin (λ x. slack ≢ masked_slack hs reach mask x) places 0 (length places))
    (λ x. (slack ≡ masked_slack hs reach mask x)
    × (i : ℕ) × (i < length places) × HoldsAt (λ y. y ≡ x) places i × AllWithin (λ y. slack ≢ masked_slack hs reach mask y) places 0 i)

-- the first place from the start that shows the slack, or the last one where no place before it does
pub shown_or_last : (hs reach mask : List ℕ) (slack start last at : ℕ) (r : Option ℕ) → last ≡ length reach - 1
    → IsMaskedSlack hs reach mask slack → ((x : ℕ) → x < start → slack ≢ masked_slack hs reach mask x)
    → FindsShown hs reach mask slack (range_with_len start (last - start)) r → at ≡ unwrap_or r last
    → slack ≡ masked_slack hs reach mask at
shown_or_last hs reach mask slack start last at (Some x) ends there before is found = rw found is.0
shown_or_last hs reach mask slack start last at None ends there before is found =
    ⊎_elim (λ low. absurd (before there.place low there.exact))
    (λ high. ⊎_elim
    (λ low.
    let at_start : there.place ≡ start + (there.place - start) = omega (arith, high) in
    absurd (is (there.place - start) 0 (omega arith) (omega (arith, high, low, length-range_with_len start (last - start)))
    (rw (get_or-range_with_len start (last - start) (there.place - start) 0 (omega (arith, high, low)), sym at_start) there.exact)))
    (λ more.
    let at_last : there.place ≡ at = omega (arith, more, ends, found, there.within) in
    subst (λ (x : ℕ). slack ≡ masked_slack hs reach mask x) at_last there.exact)
    (cases_lt there.place last))
    (cases_lt there.place start)
