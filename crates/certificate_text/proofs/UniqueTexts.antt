-- A text that is read as a certificate is the text of that certificate, and no other text is.
use Rattle.std.proofs.Common.{◌≡◌, ℕ, ◌+◌, ◌<◌, ◌^◌, List, [], ◌∷◌, ◌++◌, Option, None, Some, Result, Ok, Err, All, codes, decimal, subst, ap, sym, refl, ◌∙◌, append_assoc, append-nil, arith}
use Rattle.std.proofs.lemmas.Grind.{flat_map-append}
use Rattle.certificate_text.proofs.Names.{nat_tests, All-nil, join_with_byte-slice_split, flat_map, join_with_byte, ok_or, and_then, Pass, PieceCert, CertDraft, CertLine, Cut, parsed_cert_line, parts_between, HasCanonicalText, certificate_text, cut_line_text, member_text, passes_text, piece_text, newline, IsPlainCut, HasSmallNumbers, pieces_at_end, cert_of, draft_with_text_line, draft_with_line, pieces_after_lines, with_cut, All-push}
use Rattle.certificate_text.specs.declared.draft.CertDraft.TheVariants as draft
use Rattle.certificate_text.specs.declared.lines.CertLine.TheVariants as line
use Rattle.certificate_text.proofs.ItemWords.{HasMember}
use Rattle.certificate_text.proofs.LineTexts.{HasCut, HasLine, line_bytes, line_is}
use Rattle.certificate_text.proofs.NumberWords.{then_some}

-- a piece that has a text
pub record HasText (piece : PieceCert) : Type 0 where
  pub canonical : HasCanonicalText piece
  pub small : HasSmallNumbers piece

-- the first line and the texts of these pieces
abbrev pub begun : List PieceCert → List ℕ
begun done = codes "redwork-certificate 1" ++ (newline ++ flat_map piece_text done)

-- the lines of a draft
abbrev draft_text : CertDraft → List ℕ
draft_text draft.Empty = []
draft_text draft.Headed = begun []
draft_text (draft.AwaitingWalk done retraced) = begun done ++ (codes "piece " ++ (decimal retraced ++ newline))
draft_text (draft.InPiece done piece) = begun done ++ piece_text piece
draft_text (draft.Complete pieces) = certificate_text pieces

-- what a draft holds has a text
abbrev HasDraft : CertDraft → Type 0
HasDraft draft.Empty = Unit {0}
HasDraft draft.Headed = Unit {0}
HasDraft (draft.AwaitingWalk done retraced) = All HasText done × (retraced < 2 ^ 32)
HasDraft (draft.InPiece done piece) = All HasText done × HasText piece
HasDraft (draft.Complete pieces) = All HasText pieces

-- what holds of a draft that comes after that one and the line
abbrev AddsLine : CertDraft → CertLine → Option CertDraft → Type 0
AddsLine said l None = Unit {0}
AddsLine said l (Some new) = (draft_text new ≡ draft_text said ++ (line_bytes l ++ newline))
    × (HasDraft said → HasLine l → HasDraft new)

-- one piece more
begun_more : (done : List PieceCert) (piece : PieceCert) → begun (done ++ piece ∷ []) ≡ begun done ++ piece_text piece
begun_more done piece = grind (arith, nat_tests, append-nil, flat_map-append)

-- one cut more
cut_bytes : (cut : Cut) → line_bytes (line.Cut cut) ++ newline ≡ cut_line_text cut
cut_bytes cut = ap (λ (text : List ℕ). codes "cut " ++ text)
    (append_assoc (decimal cut.weight) (flat_map member_text cut.members) newline)

-- the text of a piece with one cut more
piece_more : (piece : PieceCert) (cut : Cut) → piece_text (with_cut piece cut) ≡ piece_text piece ++ cut_line_text cut
piece_more piece cut =
    let cuts : List ℕ = flat_map cut_line_text piece.cuts in
    let walk : List ℕ = passes_text piece.walk in
    let cost : List ℕ = decimal piece.retraced in
    let text : List ℕ = cut_line_text cut in
    ap (λ (t : List ℕ). codes "piece " ++ (cost ++ 10 ∷ (codes "walk" ++ (walk ++ 10 ∷ t))))
    (flat_map-append cut_line_text piece.cuts (cut ∷ []) ∙ ap (λ (t : List ℕ). cuts ++ t) (append-nil text))
    ∙ sym (ap (λ (t : List ℕ). codes "piece " ++ t) (append_assoc cost (10 ∷ (codes "walk" ++ (walk ++ 10 ∷ cuts))) text
    ∙ ap (λ (t : List ℕ). cost ++ 10 ∷ (codes "walk" ++ t)) (append_assoc walk (10 ∷ cuts) text)))

-- a walk after the first line of its piece
walk_bytes : (retraced : ℕ) (walk : List Pass)
    → (codes "piece " ++ (decimal retraced ++ newline)) ++ (line_bytes (line.Walk walk) ++ newline)
    ≡ piece_text (record { retraced = retraced; walk = walk; cuts = [] })
walk_bytes retraced walk = ap (λ (text : List ℕ). codes "piece " ++ text)
    (append_assoc (decimal retraced) newline (line_bytes (line.Walk walk) ++ newline))

-- a piece with a cut more has a text too
has_cut : (piece : PieceCert) (cut : Cut) → HasText piece → HasCut cut → HasText (with_cut piece cut)
has_cut piece cut all one = record {
  canonical = record {
    some = all.canonical.some;
    passes = all.canonical.passes;
    plain = All-push IsPlainCut piece.cuts cut all.canonical.plain one.plain;
    members = All-push (λ (c : Cut). All HasMember c.members) piece.cuts cut all.canonical.members one.members;
  };
  small = record {
    retraced = all.small.retraced;
    weights = All-push (λ (c : Cut). c.weight < 2 ^ 32) piece.cuts cut all.small.weights one.small;
  };
}

-- the texts and the facts of drafts, line by line
adds : (said : CertDraft) (l : CertLine) → AddsLine said l (draft_with_line said l)
adds draft.Empty line.Head = (refl, λ has line. tt)
adds draft.Headed (line.Piece retraced) = (refl, λ has line. (All-nil HasText, line))
adds draft.Headed line.End = (refl, λ has line. All-nil HasText)
adds (draft.AwaitingWalk done retraced) (line.Walk walk) = (
  sym (append_assoc (begun done) (codes "piece " ++ (decimal retraced ++ newline)) (line_bytes (line.Walk walk) ++ newline)
      ∙ ap (λ (text : List ℕ). begun done ++ text) (walk_bytes retraced walk)),
  λ has line. (has.0, grind (arith, nat_tests, has.1)),
)
adds (draft.InPiece done piece) (line.Cut cut) = (
  ap (λ (text : List ℕ). begun done ++ text) (piece_more piece cut ∙ ap (λ (text : List ℕ). piece_text piece ++ text) (sym (cut_bytes cut)))
      ∙ sym (append_assoc (begun done) (piece_text piece) (line_bytes (line.Cut cut) ++ newline)),
  λ has line. (has.0, has_cut piece cut has.1 line),
)
adds (draft.InPiece done piece) (line.Piece retraced) = (
  ap (λ (text : List ℕ). text ++ (codes "piece " ++ (decimal retraced ++ newline))) (begun_more done piece),
  λ has line. (All-push HasText done piece has.0 has.1, line),
)
adds (draft.InPiece done piece) line.End = (
  ap (λ (text : List ℕ). text ++ (codes "end" ++ newline)) (begun_more done piece),
  λ has line. All-push HasText done piece has.0 has.1,
)
adds said other = tt

-- what one line adds to a draft
record Adds (said : CertDraft) (bytes : List ℕ) (new : CertDraft) : Type 0 where
  text : draft_text new ≡ draft_text said ++ (bytes ++ newline)
  has : HasDraft said → HasDraft new

-- a line that fits adds its bytes
added : (said new : CertDraft) (bytes : List ℕ) → draft_with_text_line said bytes ≡ Some new → Adds said bytes new
added said new bytes fits =
    then_some (draft_with_line said) (parsed_cert_line bytes) new fits (λ l read next.
    let one = line_is bytes l read in
    let both = subst (λ (answer : Option CertDraft). AddsLine said l answer) next (adds said l) in
    record {
      text = both.0 ∙ ap (λ (text : List ℕ). draft_text said ++ (text ++ newline)) (sym one.is);
      has = λ before. both.1 before one.has;
    })

-- the certificate that is read from a text has that text
record Spelled (before text : List ℕ) (said : CertDraft) (pieces : List PieceCert) : Type 0 where
  text_is : before ++ text ≡ certificate_text pieces
  has : HasDraft said → All HasText pieces

-- at the end of the text
abbrev AtEnd : CertDraft → List ℕ → Result (List PieceCert) ℕ → Type 0
AtEnd said rest (Ok pieces) = Spelled (draft_text said) rest said pieces
AtEnd said rest (Err n) = Unit {0}

-- nothing follows the end
ends : (n : ℕ) (said : CertDraft) (rest : List ℕ) → AtEnd said rest (pieces_at_end n said rest)
ends n (draft.Complete pieces) [] = record { text_is = append-nil (certificate_text pieces); has = λ all. all }
ends n said rest = tt

-- a line that may follow, and what comes after it
goes_on : (n : ℕ) (new : Option CertDraft) (next : CertDraft → Result (List PieceCert) ℕ) (pieces : List PieceCert) {P : Type 0}
    → and_then (ok_or new n) next ≡ Ok pieces → ((said : CertDraft) → new ≡ Some said → next said ≡ Ok pieces → P) → P
goes_on n None next pieces says then = absurd (grind (arith, nat_tests))
goes_on n (Some said) next pieces says then = then said refl says

-- the text after a draft
spelled_after : (parts : List (List ℕ)) (n : ℕ) (said : CertDraft) (pieces : List PieceCert) → pieces_after_lines n said parts ≡ Ok pieces
    → Spelled (draft_text said) (join_with_byte 10 parts) said pieces
spelled_after [] n said pieces says = absurd (grind (arith, nat_tests))
spelled_after (rest ∷ []) n said pieces says = grind (arith, nat_tests, ends n said rest)
spelled_after (bytes ∷ next ∷ more) n said pieces says =
    goes_on n (draft_with_text_line said bytes) (λ new. pieces_after_lines (n + 1) new (next ∷ more)) pieces says (λ new fits rest.
    let one = added said new bytes fits in
    let others = spelled_after (next ∷ more) (n + 1) new pieces rest in
    let behind : List ℕ = join_with_byte 10 (next ∷ more) in
    let parts : (bytes ++ newline) ++ behind ≡ bytes ++ 10 ∷ behind = append_assoc bytes newline behind in
    record {
      text_is = ap (λ (text : List ℕ). draft_text said ++ text) (sym parts)
          ∙ (sym (append_assoc (draft_text said) (bytes ++ newline) behind)
          ∙ (ap (λ (text : List ℕ). text ++ behind) (sym one.text) ∙ others.text_is));
      has = λ before. others.has (one.has before);
    })

-- the text of all
whole : (text : List ℕ) (pieces : List PieceCert) → cert_of text ≡ Ok pieces → Spelled [] text draft.Empty pieces
whole text pieces says =
    grind (arith, nat_tests, join_with_byte-slice_split 10 text, spelled_after (parts_between 10 text) 1 draft.Empty pieces says)

-- a text that is read as pieces is the text of these pieces
pub one_text : (text : List ℕ) (pieces : List PieceCert) → cert_of text ≡ Ok pieces → text ≡ certificate_text pieces
one_text text pieces says = (whole text pieces says).text_is

-- pieces that are read can be printed
pub said_spelled : (text : List ℕ) (pieces : List PieceCert) → cert_of text ≡ Ok pieces
    → All HasCanonicalText pieces × All HasSmallNumbers pieces
said_spelled text pieces says = grind (arith, nat_tests, whole text pieces says)
