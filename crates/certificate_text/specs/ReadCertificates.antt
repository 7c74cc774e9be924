-- The certificate that a text denotes, or the number of its first bad line. Own text: the byte 10
-- ends each line, and the lines before a line decide which kinds of line may follow. Lines of the
-- text are numbered from 1.
use Rattle.std.specs.Prelude.{◌≡◌, ℕ, ◌+◌, ◌-◌, ◌<◌, ◌≤◌, ◌^◌, List, [], ◌∷◌, ◌++◌, Option, Some, None, Result, Ok, Err, All, length, take}
use Rattle.std.specs.List.{flat_map}
use Rattle.std.specs.Option.{ok_or, option_and_then}
use Rattle.odd_cuts.specs.declared.certificate.Cert.{Cert}
use Rattle.odd_cuts.specs.declared.certificate.PieceCert.{PieceCert}
use Rattle.certificate_text.specs.declared.draft.CertDraft.{CertDraft}
use Rattle.certificate_text.specs.declared.draft.CertDraft.TheVariants as draft
use Rattle.certificate_text.specs.declared.lines.CertLine.{CertLine}
use Rattle.certificate_text.specs.declared.lines.CertLine.TheVariants as line
use Rattle.certificate_text.specs.declared.reading.CertFault.{CertFault}
use Rattle.certificate_text.specs.declared.reading.CertFault.TheVariants as fault
use Rattle.odd_cuts.specs.declared.cut.Cut.{Cut}
use Rattle.certificate_text.specs.CertificateLines.{parsed_cert_line}
use Rattle.text_parts.specs.Parts.{parts_between}
use Rattle.odd_cuts.specs.Certificates.{HasCanonicalText}
use Rattle.certificate_text.specs.CertificateTexts.{certificate_text}
use Rattle.line_graph.specs.GrowingDrawings.{and_then}

-- A piece with one more cut.
abbrev pub with_cut : PieceCert → Cut → PieceCert
with_cut piece cut = record piece { cuts = piece.cuts ++ cut ∷ [] }

-- The draft of a certificate after one more line of the given meaning, if such a line may follow.
abbrev pub draft_with_line : CertDraft → CertLine → Option CertDraft
draft_with_line draft.Empty line.Head = Some draft.Headed
draft_with_line draft.Headed (line.Piece retraced) = Some (draft.AwaitingWalk [] retraced)
draft_with_line draft.Headed line.End = Some (draft.Complete [])
draft_with_line (draft.AwaitingWalk done retraced) (line.Walk walk) =
    Some (draft.InPiece done (record { retraced = retraced; walk = walk; cuts = [] }))
draft_with_line (draft.InPiece done piece) (line.Cut cut) = Some
    (draft.InPiece done (with_cut piece cut))
draft_with_line (draft.InPiece done piece) (line.Piece retraced) =
    Some (draft.AwaitingWalk (done ++ piece ∷ []) retraced)
draft_with_line (draft.InPiece done piece) line.End = Some (draft.Complete (done ++ piece ∷ []))
draft_with_line said other = None

-- The draft of a certificate after one more line, given by its bytes, if that line may follow.
abbrev pub draft_with_text_line : CertDraft → List ℕ → Option CertDraft
draft_with_text_line said bytes = option_and_then (draft_with_line said) (parsed_cert_line bytes)

-- The certificate of a draft at the end of the text. The text is bad at the given line if the draft
-- isn't complete or bytes follow its last line.
abbrev pub pieces_at_end : ℕ → CertDraft → List ℕ → Result (List PieceCert) ℕ
pieces_at_end number (draft.Complete pieces) [] = Ok pieces
pieces_at_end number said rest = Err number

-- The certificate of a draft and the remaining lines, from the line of the given number on. The
-- last item of the list is what follows the last line.
abbrev pub pieces_after_lines : ℕ → CertDraft → List (List ℕ) → Result (List PieceCert) ℕ
pieces_after_lines number said [] = Err number
pieces_after_lines number said (rest ∷ []) = pieces_at_end number said rest
pieces_after_lines number said (bytes ∷ next ∷ more) =
    and_then (ok_or (draft_with_text_line said bytes) number)
    (λ new. pieces_after_lines (number + 1) new (next ∷ more))

-- The certificate that a text denotes, or the number of its first bad line.
abbrev pub cert_of : List ℕ → Result (List PieceCert) ℕ
cert_of text = pieces_after_lines 1 draft.Empty (parts_between 10 text)

-- The result of a reader equals the specified one, or is out of memory.
abbrev pub ReadsCert : Result (List PieceCert) ℕ → Result Cert CertFault → Type 0
ReadsCert said (Ok cert) = said ≡ Ok cert.pieces
ReadsCert said (Err (fault.BadLine number)) = said ≡ Err number
ReadsCert said (Err fault.Memory) = Unit {0}

-- The retraced cost and the weights of a piece are below 2 ^ 32.
pub record HasSmallNumbers (piece : PieceCert) : Type 0 where
  pub retraced : piece.retraced < 2 ^ 32
  pub weights : All (λ (cut : Cut). cut.weight < 2 ^ 32) piece.cuts

-- Each list of a piece has fewer than 2 ^ 32 - 1 items.
pub record HasFewItems (piece : PieceCert) : Type 0 where
  pub passes : length piece.walk < 2 ^ 32 - 1
  pub cuts : length piece.cuts < 2 ^ 32 - 1
  pub members : All (λ (cut : Cut). length cut.members < 2 ^ 32 - 1) piece.cuts

-- There are fewer than 2 ^ 32 - 1 pieces, and each list of a piece has fewer items than that.
pub record AreFew (pieces : List PieceCert) : Type 0 where
  pub few : length pieces < 2 ^ 32 - 1
  pub each : All HasFewItems pieces

-- The text of a certificate is read as that certificate.
abbrev pub TextOfPiecesIsRead : Type 0
TextOfPiecesIsRead = (pieces : List PieceCert) → All HasCanonicalText pieces
    → All HasSmallNumbers pieces
    → cert_of (certificate_text pieces) ≡ Ok pieces

-- A text that is read as a certificate is the text of that certificate. No certificate has two
-- texts.
abbrev pub PiecesHaveOneText : Type 0
PiecesHaveOneText = (text : List ℕ) (pieces : List PieceCert) → cert_of text ≡ Ok pieces
    → text ≡ certificate_text pieces

-- A certificate that is read from a text can be printed, and its numbers are small.
abbrev pub ReadPiecesCanBePrinted : Type 0
ReadPiecesCanBePrinted = (text : List ℕ) (pieces : List PieceCert) → cert_of text ≡ Ok pieces
    → All HasCanonicalText pieces × All HasSmallNumbers pieces

-- The first lines of a text, as many as given, with their ends.
abbrev pub first_lines : ℕ → List ℕ → List ℕ
first_lines count text =
    flat_map (λ (bytes : List ℕ). bytes ++ 10 ∷ []) (take count (parts_between 10 text))

-- The given bytes begin the text of some certificate.
pub record IsCertificatePrefix (bytes : List ℕ) : Type 0 where
  pub rest : List ℕ
  pub pieces : List PieceCert
  pub says : cert_of (bytes ++ rest) ≡ Ok pieces

-- The line of the given number is the first bad line. Some certificate begins with the lines before
-- it. None begins with these and that line, unless the text ends within the line.
pub record IsFirstBadLine (text : List ℕ) (number : ℕ) : Type 0 where
  pub from : 1 ≤ number
  pub to : number ≤ length (parts_between 10 text)
  pub before : IsCertificatePrefix (first_lines (number - 1) text)
  pub here : number < length (parts_between 10 text) → IsCertificatePrefix (first_lines number text)
      → ⊥

-- The number that a reader reports is that of the first bad line.
abbrev pub ReportsFirstBadLine : Type 0
ReportsFirstBadLine = (text : List ℕ) (number : ℕ) → cert_of text ≡ Err number
    → IsFirstBadLine text number
