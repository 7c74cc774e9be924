-- Passes and members as words: the meaning of words, and the text of that meaning.
use Rattle.std.proofs.Common.{◌≡◌, ℕ, ◌+◌, ◌-◌, ◌<◌, ◌≤◌, ◌^◌, ◌==◌, Bool, true, false, List, [], ◌∷◌, Some, option_map, length, All, decimal, subst, ap, sym, refl, ◌∙◌, map, arith}
use Rattle.certificate_text.proofs.Names.{and_from, and_parts, nat_tests, decimal_nonempty, digits_decimal, All-cons, All-head, All-tail, is_ascii_digit, flat_map, all_ascii_digits, Pass, parsed_members_after, parsed_number_above, parsed_pass_along, parsed_pass, parsed_passes, member_text, passes_text, decimal_model}
use Rattle.line_graph.specs.PieceWalks.{all_greater, is_strictly_increasing}
use Rattle.certificate_text.proofs.NumberWords.{above_is, above_read, map_some, pass_is, pass_spaced, pass_word, spaced, then_some}

-- a pass and a member that have a number
abbrev pub HasPass : Pass → Type 0
HasPass pass = pass.line + 1 < 2 ^ 32

abbrev pub HasMember : ℕ → Type 0
HasMember j = j + 1 < 2 ^ 32

-- the word that denotes a member
abbrev pub member_word : ℕ → List ℕ
member_word j = decimal (j + 1)

-- the words of passes and of members are printed after spaces
pub passes_spaced : (walk : List Pass) → passes_text walk ≡ spaced (map pass_word walk)
passes_spaced [] = refl
passes_spaced (pass ∷ walk) = grind (arith, nat_tests, pass_spaced pass, passes_spaced walk)

pub members_spaced : (members : List ℕ) → flat_map member_text members ≡ spaced (map member_word members)
members_spaced [] = refl
members_spaced (j ∷ members) = grind (arith, nat_tests, members_spaced members)

-- a printed pass is read
pass_read : (pass : Pass) → HasPass pass → parsed_pass (pass_word pass) ≡ Some pass
pass_read pass has = by_sign pass.back refl where
  along : (back : Bool) → parsed_pass_along back (decimal (pass.line + 1)) ≡ Some (record { line = pass.line; back = back })
  along back =
      let before : pass.line + 1 - 1 ≡ pass.line = omega arith in
      rw (above_read 0 (pass.line + 1) (omega arith) has, before) refl

  forward : (word : List ℕ) → all_ascii_digits word ≡ true → 0 < length word → parsed_pass word ≡ parsed_pass_along false word
  forward [] digits some = absurd (omega arith)
  forward (b ∷ rest) digits some =
      let digit = (and_parts (is_ascii_digit b) (all_ascii_digits rest) digits).0 in
      let test : (b == 45) ≡ false = grind (arith, nat_tests, digit) in
      rw test refl

  by_sign : (back : Bool) → pass.back ≡ back → parsed_pass (pass_word pass) ≡ Some pass
  by_sign true is = rw is (along true)
  by_sign false is =
      let fits : pass.line + 1 < 2 ^ 64 = omega (arith, has) in
      rw is (forward (decimal (pass.line + 1)) (digits_decimal decimal_model (pass.line + 1) fits)
      (decimal_nonempty (pass.line + 1) fits) ∙ along false)

-- printed passes are read
pub passes_read : (walk : List Pass) → All HasPass walk → parsed_passes (map pass_word walk) ≡ Some walk
passes_read [] have = refl
passes_read (pass ∷ walk) have =
    rw (pass_read pass (All-head HasPass pass walk have), passes_read walk (All-tail HasPass pass walk have)) refl

-- the passes that words denote
pub record SayPasses (words : List (List ℕ)) (walk : List Pass) : Type 0 where
  pub are : map pass_word walk ≡ words
  pub have : All HasPass walk

-- passes that were read are those that the words spell
pub passes_are : (words : List (List ℕ)) (walk : List Pass) → parsed_passes words ≡ Some walk → SayPasses words walk
passes_are [] walk says = grind (arith, nat_tests)
passes_are (word ∷ words) walk says =
    then_some (λ pass. option_map (λ passes. pass ∷ passes) (parsed_passes words)) (parsed_pass word) walk says (λ pass first rest.
    map_some (λ passes. pass ∷ passes) (parsed_passes words) walk rest (λ passes behind made.
    let one = pass_is word pass first in
    let others = passes_are words passes behind in
    subst (λ (all : List Pass). SayPasses (word ∷ words) all) made (record {
      are = ap (λ (w : List ℕ). w ∷ map pass_word passes) one.is ∙ ap (λ (ws : List (List ℕ)). word ∷ ws) others.are;
      have = All-cons HasPass pass passes one.fits others.have;
    })))

-- the first member is not below a number
abbrev pub Reaches : ℕ → List ℕ → Type 0
Reaches least [] = Unit {0}
Reaches least (j ∷ members) = least ≤ j

-- each reaches the first number
pub reach_all : (members : List ℕ) → Reaches 0 members
reach_all [] = tt
reach_all (j ∷ members) = omega arith

-- what is above a number is above a lesser one
above_less : (j m : ℕ) (members : List ℕ) → j < m → all_greater m members ≡ true → all_greater j members ≡ true
above_less j m [] less all = refl
above_less j m (k ∷ members) less all = grind (arith, nat_tests, above_less j m members less, and_from, and_parts)

-- members rise where each is above the one before it
rises_from : (j : ℕ) (members : List ℕ) → Reaches (j + 1) members → is_strictly_increasing members ≡ true
    → is_strictly_increasing (j ∷ members) ≡ true
rises_from j [] reach rising = refl
rises_from j (k ∷ members) reach rising = grind (arith, nat_tests, and_parts, and_from, above_less)

-- where members rise, the second one is above the first one
rises_reach : (j : ℕ) (members : List ℕ) → is_strictly_increasing (j ∷ members) ≡ true → Reaches (j + 1) members
rises_reach j [] rising = tt
rises_reach j (k ∷ members) rising = grind (arith, nat_tests)

-- printed members are read
pub members_read : (before : ℕ) (members : List ℕ) → Reaches before members → is_strictly_increasing members ≡ true → All HasMember members
    → parsed_members_after before (map member_word members) ≡ Some members
members_read before [] reach rising have = refl
members_read before (j ∷ members) reach rising have =
    let less : before < j + 1 = omega (arith, reach) in
    let same : j + 1 - 1 ≡ j = omega arith in
    let rest = (and_parts (all_greater j members) (is_strictly_increasing members) rising).1 in
    rw (
      above_read before (j + 1) less (All-head HasMember j members have),
      members_read (j + 1) members (rises_reach j members rising) rest (All-tail HasMember j members have),
      same,
    ) refl

-- the members that words denote
pub record SayMembers (before : ℕ) (words : List (List ℕ)) (members : List ℕ) : Type 0 where
  pub are : map member_word members ≡ words
  pub reach : Reaches before members
  pub rising : is_strictly_increasing members ≡ true
  pub have : All HasMember members

-- members that were read are those that the words spell
pub members_are : (before : ℕ) (words : List (List ℕ)) (members : List ℕ) → parsed_members_after before words ≡ Some members
    → SayMembers before words members
members_are before [] members says = grind (arith, nat_tests)
members_are before (word ∷ words) members says =
    then_some (λ number. option_map (λ more. (number - 1) ∷ more) (parsed_members_after number words)) (parsed_number_above before word)
    members says (λ number first rest.
    map_some (λ more. (number - 1) ∷ more) (parsed_members_after number words) members rest (λ more behind made.
    let one = above_is before word number first in
    let others = members_are number words more behind in
    let next : number - 1 + 1 ≡ number = omega (arith, one.0) in
    subst (λ (all : List ℕ). SayMembers before (word ∷ words) all) made (record {
      are = ap (λ (n : ℕ). decimal n ∷ map member_word more) next
          ∙ (ap (λ (w : List ℕ). w ∷ map member_word more) one.1.is ∙ ap (λ (ws : List (List ℕ)). word ∷ ws) others.are);
      reach = omega (arith, one.0);
      rising = rises_from (number - 1) more (subst (λ (n : ℕ). Reaches n more) (sym next) others.reach) others.rising;
      have = All-cons HasMember (number - 1) more (omega (arith, next, one.1.small)) others.have;
    })))
