-- The lines of a certificate text, judged one after another.
use Rattle.std.proofs.Common.{◌≡◌, ◌≢◌, ℕ, ◌+◌, List, [], ◌∷◌, Option, None, Some, Result, Err, ap, sym, refl, ◌∙◌, arith}
use Rattle.certificate_text.proofs.Names.{nat_tests, ok_or, and_then, PieceCert, CertDraft, parts_between, cert_of, draft_with_text_line, pieces_after_lines, some_part}

-- the result after the next line
abbrev pub goes_on : ℕ → Option CertDraft → List (List ℕ) → Result (List PieceCert) ℕ
goes_on number new rest = and_then (ok_or new number) (λ said. pieces_after_lines (number + 1) said rest)

-- by the parts after it
line_of_more : (number : ℕ) (said : CertDraft) (line : List ℕ) (rest : List (List ℕ)) → rest ≢ []
    → pieces_after_lines number said (line ∷ rest) ≡ goes_on number (draft_with_text_line said line) rest
line_of_more number said line [] some = absurd (some refl)
line_of_more number said line (next ∷ rest) some = refl

-- the next line is read, and then those after it
pub line_judged : (number : ℕ) (said : CertDraft) (text line after : List ℕ) → parts_between 10 text ≡ line ∷ parts_between 10 after
    → pieces_after_lines number said (parts_between 10 text) ≡ goes_on number (draft_with_text_line said line) (parts_between 10 after)
line_judged number said text line after are = grind (arith, nat_tests, line_of_more, some_part)

-- the lines so far are judged, so all depends on those that are left
pub record ReadsOn (text rest : List ℕ) (number : ℕ) (said : CertDraft) : Type 0 where
  pub whole : cert_of text ≡ pieces_after_lines number said (parts_between 10 rest)

-- a line that fits
pub reads_more : (text rest line after : List ℕ) (number : ℕ) (said new : CertDraft) → ReadsOn text rest number said
    → parts_between 10 rest ≡ line ∷ parts_between 10 after → Some new ≡ draft_with_text_line said line
    → ReadsOn text after (number + 1) new
reads_more text rest line after number said new so are fits =
    grind (
      arith,
      nat_tests,
      line_judged number said rest line after are ∙ ap
          (λ (one : Option CertDraft). goes_on number one (parts_between 10 after)) (sym fits),
    )

-- a line that doesn't fit
pub reads_no_more : (text rest line after : List ℕ) (number : ℕ) (said : CertDraft) → ReadsOn text rest number said
    → parts_between 10 rest ≡ line ∷ parts_between 10 after → None ≡ draft_with_text_line said line → cert_of text ≡ Err number
reads_no_more text rest line after number said so are unfit =
    so.whole ∙ (line_judged number said rest line after are
    ∙ ap (λ (one : Option CertDraft). goes_on number one (parts_between 10 after)) (sym unfit))
