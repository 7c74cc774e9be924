-- The lines of a certificate as texts: the meaning of a line, and the text of that meaning.
use Rattle.std.proofs.Common.{◌≡◌, ◌≢◌, ℕ, ◌<◌, ◌^◌, Bool, true, false, List, [], ◌∷◌, ◌++◌, Some, option_map, All, bytes_eq, codes, decimal, subst, ap, sym, refl, ◌∙◌, map, append-nil}
use Rattle.certificate_text.proofs.Names.{join_with_byte-slice_split, none-some, same_Some, flat_map, join_with_byte, Pass, CertLine, Cut, parsed_cut, parsed_cert_line, parsed_members_after, parsed_number_above, parsed_cert_number, only_number, parsed_passes, parsed_walk, words_in, member_text, passes_text, IsPlainCut, parsed_cert_words, same_word}
use Rattle.certificate_text.specs.declared.lines.CertLine.TheVariants as line
use Rattle.certificate_text.proofs.ItemWords.{HasMember, HasPass, members_are, members_spaced, passes_are, passes_spaced}
use Rattle.certificate_text.proofs.NumberWords.{above_is, map_some, number_is, pass_word, spaced, then_some}

-- a cut that can be printed
pub record HasCut (cut : Cut) : Type 0 where
  pub plain : IsPlainCut cut
  pub small : cut.weight < 2 ^ 32
  pub members : All HasMember cut.members

-- a meaning that can be printed
abbrev pub HasLine : CertLine → Type 0
HasLine line.Head = Unit {0}
HasLine (line.Piece retraced) = retraced < 2 ^ 32
HasLine (line.Walk walk) = (walk ≢ []) × All HasPass walk
HasLine (line.Cut cut) = HasCut cut
HasLine line.End = Unit {0}

-- the bytes that have this meaning
abbrev pub line_bytes : CertLine → List ℕ
line_bytes line.Head = codes "redwork-certificate 1"
line_bytes (line.Piece retraced) = codes "piece " ++ decimal retraced
line_bytes (line.Walk walk) = codes "walk" ++ passes_text walk
line_bytes (line.Cut cut) = codes "cut " ++ (decimal cut.weight ++ flat_map member_text cut.members)
line_bytes line.End = codes "end"

-- bytes have this meaning, and no other bytes do
pub record SaysLine (bytes : List ℕ) (l : CertLine) : Type 0 where
  pub is : bytes ≡ line_bytes l
  pub has : HasLine l

-- words joined by single spaces
pub joined : (word : List ℕ) (words : List (List ℕ)) → join_with_byte 32 (word ∷ words) ≡ word ++ spaced words
joined word [] = sym (append-nil word)
joined word (next ∷ words) = ap (λ (more : List ℕ). word ++ 32 ∷ more) (joined next words)

-- the line of a piece
piece_said : (words : List (List ℕ)) (l : CertLine) → option_map line.Piece (only_number words) ≡ Some l
    → SaysLine (codes "piece" ++ spaced words) l
piece_said [] l says = absurd (none-some l says)
piece_said (word ∷ []) l says =
    map_some line.Piece (parsed_cert_number word) l says (λ number read made.
    let spells = number_is word number read in
    subst (λ (one : CertLine). SaysLine (codes "piece" ++ spaced (word ∷ [])) one) made (record {
      is = ap (λ (text : List ℕ). codes "piece " ++ text) (append-nil word ∙ sym spells.is);
      has = spells.small;
    }))
piece_said (word ∷ next ∷ words) l says = absurd (none-some l says)

-- a list with an item is not empty
pub some_item : {A : Type 0} (a : A) (items : List A) → a ∷ items ≢ []
some_item a items none = cc

-- a walk that has words has a pass
some_pass : (walk : List Pass) (word : List ℕ) (words : List (List ℕ)) → map pass_word walk ≡ word ∷ words → walk ≢ []
some_pass walk word words are none = cc

-- the line of a walk
walk_said : (words : List (List ℕ)) (l : CertLine) → option_map line.Walk (parsed_walk words) ≡ Some l
    → SaysLine (codes "walk" ++ spaced words) l
walk_said [] l says = absurd (none-some l says)
walk_said (word ∷ words) l says =
    map_some line.Walk (parsed_passes (word ∷ words)) l says (λ walk read made.
    let all = passes_are (word ∷ words) walk read in
    subst (λ (one : CertLine). SaysLine (codes "walk" ++ spaced (word ∷ words)) one) made (record {
      is = ap (λ (text : List ℕ). codes "walk" ++ text) (sym (passes_spaced walk ∙ ap spaced all.are));
      has = (some_pass walk word words all.are, all.have);
    }))

-- the line of a cut
cut_said : (words : List (List ℕ)) (l : CertLine) → option_map line.Cut (parsed_cut words) ≡ Some l
    → SaysLine (codes "cut" ++ spaced words) l
cut_said [] l says = absurd (none-some l says)
cut_said (word ∷ words) l says =
    map_some line.Cut (parsed_cut (word ∷ words)) l says (λ cut read made.
    then_some (λ weight. option_map (λ members. record { weight = weight; members = members }) (parsed_members_after 0 words))
    (parsed_number_above 0 word) cut read (λ weight first rest.
    map_some (λ members. record { weight = weight; members = members }) (parsed_members_after 0 words) cut rest (λ members behind cuts.
    let spells = above_is 0 word weight first in
    let all = members_are 0 words members behind in
    let whole : Cut = record { weight = weight; members = members } in
    let one : SaysLine (codes "cut" ++ spaced (word ∷ words)) (line.Cut whole) = record {
      is = ap (λ (w : List ℕ). codes "cut " ++ (w ++ spaced words)) (sym spells.1.is)
          ∙ ap (λ (text : List ℕ). codes "cut " ++ (decimal weight ++ text)) (sym (members_spaced members ∙ ap spaced all.are));
      has = record {
        plain = record { heavy = spells.0; rising = all.rising };
        small = spells.1.small;
        members = all.have;
      };
    } in
    subst (λ (other : CertLine). SaysLine (codes "cut" ++ spaced (word ∷ words)) other) (ap line.Cut cuts ∙ made) one)))

-- the line of words, by the first one
words_are : (words : List (List ℕ)) (l : CertLine) → parsed_cert_words words ≡ Some l → SaysLine (join_with_byte 32 words) l
words_are [] l says = absurd (none-some l says)
words_are (word ∷ words) l says =
    subst (λ (bytes : List ℕ). SaysLine bytes l) (sym (joined word words))
    (by_kind (bytes_eq word (codes "piece")) (bytes_eq word (codes "walk")) (bytes_eq word (codes "cut")) refl refl refl) where
      by_kind : (piece walk cut : Bool) → bytes_eq word (codes "piece") ≡ piece → bytes_eq word (codes "walk") ≡ walk
          → bytes_eq word (codes "cut") ≡ cut → SaysLine (word ++ spaced words) l
      by_kind true walk cut is walks cuts =
          subst (λ (w : List ℕ). SaysLine (w ++ spaced words) l) (sym (same_word word (codes "piece") is))
          (piece_said words l (rw is at says))
      by_kind false true cut is walks cuts =
          subst (λ (w : List ℕ). SaysLine (w ++ spaced words) l) (sym (same_word word (codes "walk") walks))
          (walk_said words l (rw (is, walks) at says))
      by_kind false false true is walks cuts =
          subst (λ (w : List ℕ). SaysLine (w ++ spaced words) l) (sym (same_word word (codes "cut") cuts))
          (cut_said words l (rw (is, walks, cuts) at says))
      by_kind false false false is walks cuts = absurd (none-some l (rw (is, walks, cuts) at says))

-- bytes with the meaning of a line are the text of that line
pub line_is : (bytes : List ℕ) (l : CertLine) → parsed_cert_line bytes ≡ Some l → SaysLine bytes l
line_is bytes l says =
    by_kind (bytes_eq bytes (codes "redwork-certificate 1")) (bytes_eq bytes (codes "end")) refl refl where
      whole : (text : List ℕ) (one : CertLine) → bytes_eq bytes text ≡ true → text ≡ line_bytes one → HasLine one
          → one ≡ l → SaysLine bytes l
      whole text one found is has made =
          subst (λ (other : CertLine). SaysLine bytes other) made (record { is = same_word bytes text found ∙ is; has = has })

      by_kind : (head end : Bool) → bytes_eq bytes (codes "redwork-certificate 1") ≡ head → bytes_eq bytes (codes "end") ≡ end
          → SaysLine bytes l
      by_kind true end is ends =
          whole (codes "redwork-certificate 1") line.Head is refl tt (same_Some line.Head l (rw is at says))
      by_kind false true is ends = whole (codes "end") line.End ends refl tt (same_Some line.End l (rw (is, ends) at says))
      by_kind false false is ends =
          subst (λ (other : List ℕ). SaysLine other l) (join_with_byte-slice_split 32 bytes)
          (words_are (words_in bytes) l (rw (is, ends) at says))
