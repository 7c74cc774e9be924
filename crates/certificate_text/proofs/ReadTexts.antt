-- The text of a certificate is read as that certificate.
use Rattle.std.proofs.Common.{◌≡◌, ◌≢◌, ℕ, ◌+◌, ◌<◌, ◌^◌, ◌==◌, true, false, List, [], ◌∷◌, ◌++◌, Option, Some, Ok, All, codes, decimal, map, subst, ap, sym, refl, ◌∙◌, append_assoc, append-nil, arith}
use Rattle.std.proofs.lemmas.List.Sums.{AllPass-from_list_all}
use Rattle.certificate_text.proofs.Names.{nat_tests, and_from, digits_decimal, All-head, All-tail, flat_map, option_and_then, Pass, PieceCert, CertDraft, CertLine, Cut, parsed_cut, parsed_cert_line, parsed_walk, parts_between, words_in, HasCanonicalText, certificate_text, cut_line_text, member_text, passes_text, piece_text, newline, IsPlainCut, HasSmallNumbers, cert_of, draft_with_text_line, draft_with_line, pieces_after_lines, with_cut, decimal_model, not-true, All-weaker, list_all-append, slice_split_at, slice_split_none, list_all, digits_inner, inner_kept, is_word_byte, is_line_byte, no_space}
use Rattle.certificate_text.specs.declared.draft.CertDraft.TheVariants as draft
use Rattle.certificate_text.specs.declared.lines.CertLine.TheVariants as line
use Rattle.certificate_text.proofs.ItemWords.{HasMember, HasPass, member_word, members_read, members_spaced, passes_read, passes_spaced, reach_all}
use Rattle.certificate_text.proofs.LineTexts.{HasCut, HasLine, line_bytes}
use Rattle.certificate_text.proofs.NumberWords.{above_read, number_read, pass_word, spaced}
use Rattle.certificate_text.proofs.UniqueTexts.{HasText}
use Rattle.certificate_text.proofs.ReadingLemmas.{goes_on, line_judged}

-- words of such bytes
abbrev AreWords : List (List ℕ) → Type 0
AreWords [] = Unit {0}
AreWords (word ∷ words) = (list_all is_word_byte word ≡ true) × AreWords words

-- a printed number is one word
number_word : (n : ℕ) → n < 2 ^ 32 → list_all is_word_byte (decimal n) ≡ true
number_word n small = digits_inner (decimal n) (digits_decimal decimal_model n (omega (arith, small)))

-- a printed pass is one word
pass_inner : (pass : Pass) → HasPass pass → list_all is_word_byte (pass_word pass) ≡ true
pass_inner pass has = grind (arith, nat_tests, pass_word pass, number_word (pass.line + 1) has)

-- so are those of a walk
passes_inner : (walk : List Pass) → All HasPass walk → AreWords (map pass_word walk)
passes_inner [] have = tt
passes_inner (pass ∷ walk) have =
    (pass_inner pass (All-head HasPass pass walk have), passes_inner walk (All-tail HasPass pass walk have))

-- and those of members
members_inner : (members : List ℕ) → All HasMember members → AreWords (map member_word members)
members_inner [] have = tt
members_inner (j ∷ members) have =
    (number_word (j + 1) (All-head HasMember j members have), members_inner members (All-tail HasMember j members have))

-- words that stand one space apart are read
words_read : (word : List ℕ) (words : List (List ℕ)) → list_all is_word_byte word ≡ true → AreWords words
    → words_in (word ++ spaced words) ≡ word ∷ words
words_read word [] is are = grind (arith, nat_tests, append-nil, slice_split_none, no_space)
words_read word (next ∷ words) is are = grind (arith, nat_tests, words_read next words, slice_split_at, spaced, no_space)

-- nor do words after spaces
spaced_kept : (words : List (List ℕ)) → AreWords words → list_all is_line_byte (spaced words) ≡ true
spaced_kept [] are = refl
spaced_kept (word ∷ words) are = grind (arith, nat_tests, spaced_kept words, list_all-append, is_line_byte, spaced, and_from, inner_kept)

-- the words of a line
abbrev line_words : CertLine → List (List ℕ)
line_words line.Head = codes "redwork-certificate" ∷ codes "1" ∷ []
line_words (line.Piece retraced) = codes "piece" ∷ decimal retraced ∷ []
line_words (line.Walk walk) = codes "walk" ∷ map pass_word walk
line_words (line.Cut cut) = codes "cut" ∷ decimal cut.weight ∷ map member_word cut.members
line_words line.End = codes "end" ∷ []

-- its bytes are its words, one space apart
record AreOf (bytes : List ℕ) (words : List (List ℕ)) : Type 0 where
  first : List ℕ
  rest : List (List ℕ)
  split : words ≡ first ∷ rest
  bytes_are : bytes ≡ first ++ spaced rest

-- the words of each kind of line
words_of : (l : CertLine) → AreOf (line_bytes l) (line_words l)
words_of line.Head = record { first = codes "redwork-certificate"; rest = codes "1" ∷ []; split = refl; bytes_are = refl }
words_of (line.Piece retraced) = grind (arith, nat_tests, append-nil (decimal retraced))
words_of (line.Walk walk) = grind (arith, nat_tests, passes_spaced walk)
words_of (line.Cut cut) = grind (arith, nat_tests, members_spaced cut.members)
words_of line.End = record { first = codes "end"; rest = []; split = refl; bytes_are = refl }

-- they are words
line_inner : (l : CertLine) → HasLine l → AreWords (line_words l)
line_inner line.Head has = (refl, (refl, tt))
line_inner (line.Piece retraced) has = (refl, (number_word retraced has, tt))
line_inner (line.Walk walk) has = (refl, passes_inner walk has.1)
line_inner (line.Cut cut) has = (refl, (number_word cut.weight has.small, members_inner cut.members has.members))
line_inner line.End has = (refl, tt)

-- so it is one line, of these words
record IsLine (l : CertLine) : Type 0 where
  words : words_in (line_bytes l) ≡ line_words l
  kept : list_all is_line_byte (line_bytes l) ≡ true

-- each line that can be printed is such a line
is_line : (l : CertLine) → HasLine l → IsLine l
is_line l has =
    let of = words_of l in
    let inner = subst (λ (words : List (List ℕ)). AreWords words) of.split (line_inner l has) in
    record {
      words = ap words_in of.bytes_are ∙ (words_read of.first of.rest inner.0 inner.1 ∙ sym of.split);
      kept = ap (list_all is_line_byte) of.bytes_are ∙ (list_all-append is_line_byte of.first (spaced of.rest)
          ∙ and_from (list_all is_line_byte of.first) (list_all is_line_byte (spaced of.rest)) (inner_kept of.first inner.0)
          (spaced_kept of.rest inner.1));
    }

-- a walk with a pass is read
walk_read : (walk : List Pass) → walk ≢ [] → All HasPass walk → parsed_walk (map pass_word walk) ≡ Some walk
walk_read [] some have = absurd (some refl)
walk_read (pass ∷ walk) some have = passes_read (pass ∷ walk) have

-- and a plain cut
cut_read : (cut : Cut) → HasCut cut → parsed_cut (decimal cut.weight ∷ map member_word cut.members) ≡ Some cut
cut_read cut has = grind (arith, nat_tests, above_read, members_read, reach_all)

-- the text of a line has its meaning
line_read : (l : CertLine) → HasLine l → parsed_cert_line (line_bytes l) ≡ Some l
line_read line.Head has = refl
line_read (line.Piece retraced) has =
    grind (arith, nat_tests, line_bytes (line.Piece retraced), is_line (line.Piece retraced) has, number_read retraced has)
line_read (line.Walk walk) has =
    grind (arith, nat_tests, line_bytes (line.Walk walk), is_line (line.Walk walk) has, walk_read walk has.0 has.1)
line_read (line.Cut cut) has = grind (arith, nat_tests, line_bytes (line.Cut cut), is_line (line.Cut cut) has, cut_read cut has)
line_read line.End has = refl

-- no byte of a line ends a line
abbrev pub Lacks : List ℕ → Type 0
Lacks bytes = All (λ b. (b == 10) ≡ false) bytes

-- the lines after a draft complete it with these pieces, whatever their numbers
abbrev pub SayOn : CertDraft → List ℕ → List PieceCert → Type 0
SayOn said text pieces = (number : ℕ) → pieces_after_lines number said (parts_between 10 text) ≡ Ok pieces

-- one line before others
pub next_judged : (number : ℕ) (said : CertDraft) (bytes text : List ℕ) → Lacks bytes
    → pieces_after_lines number said (parts_between 10 (bytes ++ 10 ∷ text))
    ≡ goes_on number (draft_with_text_line said bytes) (parts_between 10 text)
next_judged number said bytes text lacks = grind (arith, nat_tests, line_judged, slice_split_at)

-- a line by its meaning, after a draft
pub line_before : (said new : CertDraft) (l : CertLine) (text : List ℕ) (pieces : List PieceCert) → HasLine l
    → draft_with_line said l ≡ Some new → SayOn new text pieces → SayOn said (line_bytes l ++ 10 ∷ text) pieces
line_before said new l text pieces has fits rest number =
    let kept : Lacks (line_bytes l) =
    All-weaker (λ (b : ℕ). is_line_byte b ≡ true) (λ (b : ℕ). (b == 10) ≡ false) (λ b test. not-true (b == 10) test)
    (line_bytes l) (AllPass-from_list_all is_line_byte (line_bytes l) (is_line l has).kept) in
    let next : draft_with_text_line said (line_bytes l) ≡ Some new =
    ap (λ one. option_and_then (draft_with_line said) one) (line_read l has) ∙ fits in
    next_judged number said (line_bytes l) text kept
    ∙ (ap (λ (one : Option CertDraft). goes_on number one (parts_between 10 text)) next ∙ rest (number + 1))

-- the cuts of a piece before them
cut_before : (cut : Cut) (text : List ℕ) → cut_line_text cut ++ text ≡ line_bytes (line.Cut cut) ++ 10 ∷ text
cut_before cut text = ap (λ (more : List ℕ). codes "cut " ++ more)
    (append_assoc (decimal cut.weight) (flat_map member_text cut.members ++ newline) text
    ∙ (ap (λ (more : List ℕ). decimal cut.weight ++ more) (append_assoc (flat_map member_text cut.members) newline text)
    ∙ sym (append_assoc (decimal cut.weight) (flat_map member_text cut.members) (10 ∷ text))))

-- a piece with these cuts more
abbrev with_cuts : PieceCert → List Cut → PieceCert
with_cuts piece cuts = record piece { cuts = piece.cuts ++ cuts }

-- the cuts are added one after another
cuts_before : (cuts : List Cut) (done : List PieceCert) (piece : PieceCert) (text : List ℕ) (pieces : List PieceCert)
    → All HasCut cuts → SayOn (draft.InPiece done (with_cuts piece cuts)) text pieces
    → SayOn (draft.InPiece done piece) (flat_map cut_line_text cuts ++ text) pieces
cuts_before [] done piece text pieces have rest =
    subst (λ (one : List Cut). SayOn (draft.InPiece done (record piece { cuts = one })) text pieces) (append-nil piece.cuts) rest
cuts_before (cut ∷ cuts) done piece text pieces have rest =
    let behind : List ℕ = flat_map cut_line_text cuts ++ text in
    let parts : flat_map cut_line_text (cut ∷ cuts) ++ text ≡ line_bytes (line.Cut cut) ++ 10 ∷ behind =
    append_assoc (cut_line_text cut) (flat_map cut_line_text cuts) text ∙ cut_before cut behind in
    let same : piece.cuts ++ cut ∷ cuts ≡ (with_cut piece cut).cuts ++ cuts = sym (append_assoc piece.cuts (cut ∷ []) cuts) in
    let others : SayOn (draft.InPiece done (with_cut piece cut)) behind pieces =
    cuts_before cuts done (with_cut piece cut) text pieces (All-tail HasCut cut cuts have)
    (subst (λ (one : List Cut). SayOn (draft.InPiece done (record piece { cuts = one })) text pieces) same rest) in
    subst (λ (bytes : List ℕ). SayOn (draft.InPiece done piece) bytes pieces) (sym parts)
    (line_before (draft.InPiece done piece) (draft.InPiece done (with_cut piece cut)) (line.Cut cut) behind pieces
    (All-head HasCut cut cuts have) refl others)

-- after a draft a piece may begin, or the certificate may end, with these pieces complete
record Awaits (said : CertDraft) (done : List PieceCert) : Type 0 where
  opens : (retraced : ℕ) → draft_with_line said (line.Piece retraced) ≡ Some (draft.AwaitingWalk done retraced)
  ends : draft_with_line said line.End ≡ Some (draft.Complete done)

-- the cuts of a piece that can be printed
cuts_have : (cuts : List Cut) → All IsPlainCut cuts → All (λ (cut : Cut). All HasMember cut.members) cuts
    → All (λ (cut : Cut). cut.weight < 2 ^ 32) cuts → All HasCut cuts
cuts_have cuts plain members small = λ k d there. record { plain = plain k d there; small = small k d there; members = members k d there }

-- a piece before them
piece_before : (said : CertDraft) (done : List PieceCert) (piece : PieceCert) (text : List ℕ) (pieces : List PieceCert) → Awaits said done
    → HasText piece → SayOn (draft.InPiece done piece) text pieces → SayOn said (piece_text piece ++ text) pieces
piece_before said done piece text pieces awaits has rest =
    let cost : List ℕ = decimal piece.retraced in
    let passes : List ℕ = passes_text piece.walk in
    let cuts : List ℕ = flat_map cut_line_text piece.cuts in
    let begun : PieceCert = record { retraced = piece.retraced; walk = piece.walk; cuts = [] } in
    let have : All HasCut piece.cuts =
    cuts_have piece.cuts has.canonical.plain has.canonical.members has.small.weights in
    let parts : piece_text piece ++ text
    ≡ line_bytes (line.Piece piece.retraced) ++ 10 ∷ (line_bytes (line.Walk piece.walk) ++ 10 ∷ (cuts ++ text)) =
    ap (λ (more : List ℕ). codes "piece " ++ more) (append_assoc cost (10 ∷ (codes "walk" ++ (passes ++ 10 ∷ cuts))) text
    ∙ ap (λ (more : List ℕ). cost ++ 10 ∷ (codes "walk" ++ more)) (append_assoc passes (10 ∷ cuts) text)) in
    let behind : SayOn (draft.InPiece done begun) (cuts ++ text) pieces =
    cuts_before piece.cuts done begun text pieces have rest in
    let walked : SayOn (draft.AwaitingWalk done piece.retraced) (line_bytes (line.Walk piece.walk) ++ 10 ∷ (cuts ++ text)) pieces =
    line_before (draft.AwaitingWalk done piece.retraced) (draft.InPiece done begun) (line.Walk piece.walk) (cuts ++ text) pieces
    (has.canonical.some, has.canonical.passes) refl behind in
    subst (λ (bytes : List ℕ). SayOn said bytes pieces) (sym parts)
    (line_before said (draft.AwaitingWalk done piece.retraced) (line.Piece piece.retraced) _ pieces
    has.small.retraced (awaits.opens piece.retraced) walked)

-- the pieces and the end
pieces_say : (pieces : List PieceCert) (said : CertDraft) (done : List PieceCert) → Awaits said done → All HasText pieces
    → SayOn said (flat_map piece_text pieces ++ (codes "end" ++ newline)) (done ++ pieces)
pieces_say [] said done awaits have = grind (arith, nat_tests, append-nil, line_before)
pieces_say (piece ∷ pieces) said done awaits have =
    let rest : List ℕ = flat_map piece_text pieces ++ (codes "end" ++ newline) in
    let next : Awaits (draft.InPiece done piece) (done ++ piece ∷ []) = record { opens = λ retraced. refl; ends = refl } in
    let others : SayOn (draft.InPiece done piece) rest ((done ++ piece ∷ []) ++ pieces) =
    pieces_say pieces (draft.InPiece done piece) (done ++ piece ∷ []) next (All-tail HasText piece pieces have) in
    let whole : SayOn (draft.InPiece done piece) rest (done ++ piece ∷ pieces) =
    subst (λ (all : List PieceCert). SayOn (draft.InPiece done piece) rest all) (append_assoc done (piece ∷ []) pieces) others in
    subst (λ (bytes : List ℕ). SayOn said bytes (done ++ piece ∷ pieces))
    (sym (append_assoc (piece_text piece) (flat_map piece_text pieces) (codes "end" ++ newline)))
    (piece_before said done piece rest (done ++ piece ∷ pieces) awaits (All-head HasText piece pieces have) whole)

-- the entire text
pub text_says : (pieces : List PieceCert) → All HasCanonicalText pieces → All HasSmallNumbers pieces
    → cert_of (certificate_text pieces) ≡ Ok pieces
text_says pieces spelled small =
    let rest : List ℕ = flat_map piece_text pieces ++ (codes "end" ++ newline) in
    let next : Awaits draft.Headed [] = record { opens = λ retraced. refl; ends = refl } in
    let have : All HasText pieces = λ k d there. record { canonical = spelled k d there; small = small k d there } in
    line_before draft.Empty draft.Headed line.Head rest pieces tt refl (pieces_say pieces draft.Headed [] next have) 1
