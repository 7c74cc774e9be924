-- Words of a line, taken one after another.
use Rattle.std.proofs.Common.{◌≡◌, ◌≢◌, ℕ, ◌-◌, List, [], ◌∷◌, ◌++◌, Option, None, Some, option_map, append_assoc, ap, refl, sym, ◌∙◌}
use Rattle.certificate_text.proofs.Names.{option_and_then, parsed_members_after, parsed_number_above, only_number, parsed_passes, parsed_walk, words_in, Pass, some_part}

-- a word with others after it is not the only one
not_only : (word : List ℕ) (words : List (List ℕ)) → words ≢ [] → only_number (word ∷ words) ≡ None
not_only word [] some = absurd (some refl)
not_only word (next ∷ words) some = refl

-- so more than one word are not a number
pub more_than_one : (words word rest : List ℕ) → words_in words ≡ word ∷ words_in rest → only_number (words_in words) ≡ None
more_than_one words word rest are = ap only_number are ∙ not_only word (words_in rest) (some_part 32 rest)

-- one or more words are a walk if all are passes
walk_of_some : (words : List (List ℕ)) → words ≢ [] → parsed_walk words ≡ parsed_passes words
walk_of_some [] some = absurd (some refl)
walk_of_some (word ∷ words) some = refl

-- the words of a line are one or more
pub walk_of_words : (words : List ℕ) → parsed_walk (words_in words) ≡ parsed_passes (words_in words)
walk_of_words words = walk_of_some (words_in words) (some_part 32 words)

-- these items, and then those that come
abbrev pub behind : {A : Type 0} → List A → Option (List A) → Option (List A)
behind items rest = option_map (λ more. items ++ more) rest

-- the words so far denote these passes, and the rest is read after them
pub record PassesOn (words rest : List ℕ) (walk : List Pass) : Type 0 where
  pub whole : parsed_passes (words_in words) ≡ behind walk (parsed_passes (words_in rest))

-- the words so far denote these members, and the rest is read after that number
pub record MembersOn (words rest : List ℕ) (before : ℕ) (members : List ℕ) : Type 0 where
  pub whole : parsed_members_after 0 (words_in words) ≡ behind members (parsed_members_after before (words_in rest))

-- a member is after those so far, and others after it
one_behind : (members : List ℕ) (n : ℕ) (rest : Option (List ℕ))
    → behind members (option_map (λ more. n ∷ more) rest) ≡ behind (members ++ n ∷ []) rest
one_behind members n None = refl
one_behind members n (Some more) = ap Some (sym (append_assoc members (n ∷ []) more))

-- the word that denotes a member is added to the members
pub one_member : (words rest word after : List ℕ) (before number : ℕ) (members more : List ℕ) → MembersOn words rest before members
    → words_in rest ≡ word ∷ words_in after → Some number ≡ parsed_number_above before word → more ≡ members ++ (number - 1) ∷ []
    → MembersOn words after number more
one_member words rest word after before number members more on are is put = record {
  whole = on.whole ∙ ap (λ ws. behind members (parsed_members_after before ws)) are
      ∙ ap (λ found. behind members (option_and_then
      (λ n. option_map (λ ms. (n - 1) ∷ ms) (parsed_members_after n (words_in after))) found)) (sym is)
      ∙ one_behind members (number - 1) (parsed_members_after number (words_in after))
      ∙ ap (λ ms. behind ms (parsed_members_after number (words_in after))) (sym put);
}
