-- Lines that aren't the first bad one of a text, and what the theorems on certificate texts exclude.
use Rattle.std.proofs.Common.{◌≡◌, ◌≢◌, ℕ, ◌-◌, ◌<◌, ◌≤◌, List, [], ◌∷◌, ◌++◌, All, Result, Ok, Err, codes, length, refl, arith}
use Rattle.certificate_text.proofs.Names.{PieceCert, Cut, HasCanonicalText, certificate_text, AreFew, HasFewItems, HasSmallNumbers, IsCertificatePrefix, IsFirstBadLine, cert_of, first_lines, parts_between, PiecesHaveOneText, ReadPiecesCanBePrinted, ReportsFirstBadLine, TextOfPiecesIsRead}
use Rattle.certificate_text.specs.ReadCertificates.{ReadsCert}
use Rattle.certificate_text.specs.declared.reading.CertFault.TheVariants as fault
use Rattle.odd_cuts.specs.declared.certificate.Cert.{Cert}

-- a first line, a line of another kind, and an end
abbrev text : List ℕ
text = codes "redwork-certificate 1" ++ 10 ∷ (codes "walk 1" ++ 10 ∷ (codes "end" ++ 10 ∷ []))

-- the first line begins the text of a certificate without pieces
first_line_begins : IsCertificatePrefix (first_lines 1 text)
first_line_begins = record { rest = codes "end" ++ 10 ∷ []; pieces = []; says = refl }

-- the first line isn't the bad one, since a certificate begins with it
pub known_good_line : IsFirstBadLine text 1 → ⊥
known_good_line bad = bad.here (omega arith) first_line_begins

-- the bad line is one of the lines, which count from 1
pub known_from_one : IsFirstBadLine text 0 → ⊥
known_from_one bad = none bad.from
  where
    none : 1 ≤ 0 → ⊥
    none is = omega (arith, is)

pub known_beyond : IsFirstBadLine text 5 → ⊥
known_beyond bad = beyond bad.to
  where
    beyond : 5 ≤ 4 → ⊥
    beyond is = omega (arith, is)

-- what a reported line is: a certificate begins with the lines before it, and none with that line too
pub known_reported : ReportsFirstBadLine → (text : List ℕ) (number : ℕ) → cert_of text ≡ Err number
    → (number ≡ 0 → ⊥) × (number ≤ length (parts_between 10 text)) × IsCertificatePrefix (first_lines (number - 1) text)
    × (number < length (parts_between 10 text)
    → (rest : List ℕ) (pieces : List PieceCert) → cert_of (first_lines number text ++ rest) ≡ Ok pieces → ⊥)
known_reported law text number is = let bad = law text number is in (
  λ none. omega (arith, none, bad.from),
  bad.to,
  bad.before,
  λ below rest pieces says. bad.here below (record { rest = rest; pieces = pieces; says = says }),
)

-- each certificate with a text is read from it, and no other text is read as it
pub known_read : TextOfPiecesIsRead → (pieces : List PieceCert) → All HasCanonicalText pieces → All HasSmallNumbers pieces
    → cert_of (certificate_text pieces) ≡ Ok pieces
known_read law pieces canonical small = law pieces canonical small

pub known_one_text : PiecesHaveOneText → (text : List ℕ) (pieces : List PieceCert) → text ≢ certificate_text pieces
    → cert_of text ≡ Ok pieces → ⊥
known_one_text law text pieces other is = other (law text pieces is)

pub known_printed : ReadPiecesCanBePrinted → (text : List ℕ) (pieces : List PieceCert) → cert_of text ≡ Ok pieces
    → All HasCanonicalText pieces × All HasSmallNumbers pieces
known_printed law text pieces is = ((law text pieces is).0, (law text pieces is).1)

-- numbers of 32 bits are small, and no greater ones; lists have fewer items than the greatest of them
pub known_small : (c : PieceCert) → HasSmallNumbers c → (c.retraced ≡ 4294967296 → ⊥) × All (λ (cut : Cut). cut.weight < 4294967296) c.cuts
known_small c small = (λ is. omega (arith, is, small.retraced), small.weights)

pub known_greatest : (c : PieceCert) → c.retraced ≡ 4294967295 → All (λ (cut : Cut). cut.weight < 4294967296) c.cuts → HasSmallNumbers c
known_greatest c is weights = record { retraced = omega (arith, is); weights = weights }

pub known_few : (pieces : List PieceCert) → AreFew pieces → (length pieces ≡ 4294967295 → ⊥) × All HasFewItems pieces
known_few pieces are = (λ is. omega (arith, is, are.few), are.each)

pub known_few_items : (c : PieceCert) → HasFewItems c → (length c.walk ≡ 4294967295 → ⊥) × (length c.cuts ≡ 4294967295 → ⊥)
    × All (λ (cut : Cut). length cut.members < 4294967295) c.cuts
known_few_items c has = (λ is. omega (arith, is, has.passes), λ is. omega (arith, is, has.cuts), has.members)

-- a reader returns the pieces that the text denotes, or its first bad line, and nothing else but a lack of memory
pub known_reads : (pieces : List PieceCert) (number : ℕ) (cert : Cert)
    → (ReadsCert (Ok pieces) (Ok cert) → ◌≡◌ {A = Result (List PieceCert) ℕ} (Ok pieces) (Ok cert.pieces))
    × (ReadsCert (Err 3) (Err (fault.BadLine number)) → ◌≡◌ {A = Result (List PieceCert) ℕ} (Err 3) (Err number))
    × ReadsCert (Ok pieces) (Err fault.Memory)
known_reads pieces number cert = (λ reads. reads, λ reads. reads, tt)

pub known_not_read : (pieces : List PieceCert) (cert : Cert) → (ReadsCert (Ok pieces) (Err (fault.BadLine 3)) → ⊥)
    × (ReadsCert (Err 3) (Ok cert) → ⊥)
known_not_read pieces cert = (λ reads. bad reads, λ reads. good reads)
  where
    bad : ◌≡◌ {A = Result (List PieceCert) ℕ} (Ok pieces) (Err 3) → ⊥
    bad is = cc

    good : ◌≡◌ {A = Result (List PieceCert) ℕ} (Err 3) (Ok cert.pieces) → ⊥
    good is = cc
