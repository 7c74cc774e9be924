-- The reported line is the first bad line.
use Rattle.std.proofs.Common.{◌≡◌, ◌≢◌, ℕ, suc, ◌+◌, ◌-◌, ◌<◌, ◌==◌, Bool, true, false, List, [], ◌∷◌, ◌++◌, Option, None, Some, Err, All, length, get_or, take, subst, ap, sym, refl, ◌∙◌, append_assoc, arith}
use Rattle.certificate_text.proofs.Names.{nat_tests, All-cons, All-head, All-nil, All-tail, flat_map, option_and_then, Pass, PieceCert, CertDraft, CertLine, parts_between, IsCertificatePrefix, IsFirstBadLine, pieces_at_end, cert_of, draft_with_text_line, first_lines, draft_with_line, pieces_after_lines, some_part, flat_map_more, take_more, All-take, onto_first}
use Rattle.certificate_text.specs.declared.draft.CertDraft.TheVariants as draft
use Rattle.certificate_text.specs.declared.lines.CertLine.TheVariants as line
use Rattle.certificate_text.proofs.ItemWords.{HasPass}
use Rattle.certificate_text.proofs.LineTexts.{HasLine, line_bytes, some_item}
use Rattle.certificate_text.proofs.NumberWords.{then_some}
use Rattle.certificate_text.proofs.ReadTexts.{Lacks, SayOn, line_before, next_judged}
use Rattle.certificate_text.proofs.ReadingLemmas.{goes_on}

-- the parts of a text have no line end
onto_lacks : (b : ℕ) (parts : List (List ℕ)) → (b == 10) ≡ false → All Lacks parts → All Lacks (onto_first b parts)
onto_lacks b [] test lack = grind (arith, nat_tests)
onto_lacks b (part ∷ parts) test lack = grind (arith, nat_tests, All-head Lacks part parts lack, All-tail Lacks part parts lack)

-- by the test of the first byte
next_lacks : (end : Bool) (b : ℕ) (text : List ℕ) → (b == 10) ≡ end → All Lacks (parts_between 10 text)
    → All Lacks (parts_between 10 (b ∷ text))
next_lacks true b text is lack = grind (arith, nat_tests)
next_lacks false b text is lack = rw is (onto_lacks b (parts_between 10 text) is lack)

-- so none of them has one
parts_lack : (text : List ℕ) → All Lacks (parts_between 10 text)
parts_lack [] = All-cons Lacks [] [] (All-nil (λ (c : ℕ). (c == 10) ≡ false)) (All-nil Lacks)
parts_lack (b ∷ text) = next_lacks (b == 10) b text refl (parts_lack text)

-- lines with their ends
abbrev ended : List (List ℕ) → List ℕ
ended lines = flat_map (λ (bytes : List ℕ). bytes ++ 10 ∷ []) lines

-- the draft after lines, if all of them may follow
abbrev runs : CertDraft → List (List ℕ) → Option CertDraft
runs said [] = Some said
runs said (bytes ∷ lines) = option_and_then (λ new. runs new lines) (draft_with_text_line said bytes)

-- lines that fit, before a text
run_on : (lines : List (List ℕ)) (said new : CertDraft) (text : List ℕ) (number : ℕ) → All Lacks lines → runs said lines ≡ Some new
    → pieces_after_lines number said (parts_between 10 (ended lines ++ text))
    ≡ pieces_after_lines (number + length lines) new (parts_between 10 text)
run_on [] said new text number lack fit = grind (arith, nat_tests)
run_on (bytes ∷ lines) said new text number lack fit =
    then_some (λ one. runs one lines) (draft_with_text_line said bytes) new fit (λ one first rest.
    let behind : List ℕ = ended lines ++ text in
    let parts : ended (bytes ∷ lines) ++ text ≡ bytes ++ 10 ∷ behind =
    append_assoc (bytes ++ 10 ∷ []) (ended lines) text ∙ append_assoc bytes (10 ∷ []) behind in
    let count : number + 1 + length lines ≡ number + length (bytes ∷ lines) = omega arith in
    ap (λ (t : List ℕ). pieces_after_lines number said (parts_between 10 t)) parts
    ∙ (next_judged number said bytes behind (All-head Lacks bytes lines lack)
    ∙ (ap (λ (answer : Option CertDraft). goes_on number answer (parts_between 10 behind)) first
    ∙ (run_on lines one new text (number + 1) (All-tail Lacks bytes lines lack) rest
    ∙ ap (λ (n : ℕ). pieces_after_lines n new (parts_between 10 text)) count))))

-- each draft can become a certificate
record Completes (said : CertDraft) : Type 0 where
  rest : List ℕ
  pieces : List PieceCert
  says : SayOn said rest pieces

-- by one more line
complete_by : (said new : CertDraft) (l : CertLine) → HasLine l → draft_with_line said l ≡ Some new → Completes new → Completes said
complete_by said new l has fits by = record {
  rest = line_bytes l ++ 10 ∷ by.rest;
  pieces = by.pieces;
  says = line_before said new l by.rest by.pieces has fits by.says;
}

-- no line is left
complete_ended : (pieces : List PieceCert) → Completes (draft.Complete pieces)
complete_ended pieces = record { rest = []; pieces = pieces; says = λ number. refl }

-- the end is left
complete_headed : Completes draft.Headed
complete_headed = complete_by draft.Headed (draft.Complete []) line.End tt refl (complete_ended [])

-- the lines that complete a draft after a piece
complete_within : (done : List PieceCert) (piece : PieceCert) → Completes (draft.InPiece done piece)
complete_within done piece =
    complete_by (draft.InPiece done piece) (draft.Complete (done ++ piece ∷ [])) line.End tt refl (complete_ended (done ++ piece ∷ []))

-- a walk of one pass
abbrev one_pass : List Pass
one_pass = record { line = 0; back = false } ∷ []

-- by cases on the draft
complete : (said : CertDraft) → Completes said
complete draft.Empty = complete_by draft.Empty draft.Headed line.Head tt refl complete_headed
complete draft.Headed = complete_headed
complete (draft.AwaitingWalk done retraced) =
    let piece : PieceCert = record { retraced = retraced; walk = one_pass; cuts = [] } in
    complete_by (draft.AwaitingWalk done retraced) (draft.InPiece done piece) (line.Walk one_pass)
    (some_item _ _, All-cons HasPass _ [] (omega arith) (All-nil HasPass)) refl (complete_within done piece)
complete (draft.InPiece done piece) = complete_within done piece
complete (draft.Complete pieces) = complete_ended pieces

-- the first n lines are good, and the next one, if it is ended, is bad
record Stops (said : CertDraft) (parts : List (List ℕ)) (number told : ℕ) : Type 0 where
  fit : ℕ
  is : told ≡ number + fit
  there : fit < length parts
  new : CertDraft
  run : runs said (take fit parts) ≡ Some new
  unfit : fit + 1 < length parts → draft_with_text_line new (get_or parts fit []) ≡ None

-- a fault after the last line is reported with the number of the next line
end_told : (number : ℕ) (said : CertDraft) (rest : List ℕ) (told : ℕ) → pieces_at_end number said rest ≡ Err told → told ≡ number
end_told number (draft.Complete pieces) [] told says = absurd (grind (arith, nat_tests))
end_told number said rest told says = grind (arith, nat_tests)

-- the next line is the one
stop_here : (said : CertDraft) (bytes next : List ℕ) (more : List (List ℕ)) (number told : ℕ) → draft_with_text_line said bytes ≡ None
    → told ≡ number → Stops said (bytes ∷ next ∷ more) number told
stop_here said bytes next more number told none is = grind (arith, nat_tests)

-- the number is one more after the next line
stop_later : (said one : CertDraft) (bytes next : List ℕ) (more : List (List ℕ)) (number told : ℕ)
    → draft_with_text_line said bytes ≡ Some one → Stops one (next ∷ more) (number + 1) told → Stops said (bytes ∷ next ∷ more) number told
stop_later said one bytes next more number told first by = record {
  fit = suc by.fit;
  is = omega (arith, by.is);
  there = omega (arith, by.there);
  new = by.new;
  run = ap (λ (answer : Option CertDraft). option_and_then (λ new. runs new (take by.fit (next ∷ more))) answer) first ∙ by.run;
  unfit = λ ended. by.unfit (omega (arith, ended));
}

-- a refusal stops at a line
stops : (parts : List (List ℕ)) (said : CertDraft) (number told : ℕ) → parts ≢ [] → pieces_after_lines number said parts ≡ Err told
    → Stops said parts number told
stops [] said number told some says = absurd (some refl)
stops (rest ∷ []) said number told some says = record {
  fit = 0;
  is = omega (arith, end_told number said rest told says);
  there = omega arith;
  new = said;
  run = refl;
  unfit = λ ended. absurd (omega (arith, ended));
}
stops (bytes ∷ next ∷ more) said number told some says =
    by_answer (draft_with_text_line said bytes) refl (λ one. stops (next ∷ more) one (number + 1) told (some_item next more)) where
      by_answer : (answer : Option CertDraft) → draft_with_text_line said bytes ≡ answer
          → ((one : CertDraft) → pieces_after_lines (number + 1) one (next ∷ more) ≡ Err told → Stops one (next ∷ more) (number + 1) told)
          → Stops said (bytes ∷ next ∷ more) number told
      by_answer None is later = stop_here said bytes next more number told is (grind (arith, nat_tests, (rw is at says)))
      by_answer (Some one) is later = stop_later said one bytes next more number told is (later one (rw is at says))

-- a certificate begins with lines that fit
begins_with : (lines : List (List ℕ)) (new : CertDraft) → All Lacks lines → runs draft.Empty lines ≡ Some new
    → IsCertificatePrefix (ended lines)
begins_with lines new lack fit =
    let by = complete new in
    record {
      rest = by.rest;
      pieces = by.pieces;
      says = run_on lines draft.Empty new by.rest 1 lack fit ∙ by.says (1 + length lines);
    }

-- no certificate begins with a bad line after these
begins_no_more : (lines : List (List ℕ)) (bytes : List ℕ) (new : CertDraft) → All Lacks lines → Lacks bytes
    → runs draft.Empty lines ≡ Some new → draft_with_text_line new bytes ≡ None → IsCertificatePrefix (ended lines ++ (bytes ++ 10 ∷ []))
    → ⊥
begins_no_more lines bytes new lack lacks fit unfit begins =
    let parts : (ended lines ++ (bytes ++ 10 ∷ [])) ++ begins.rest ≡ ended lines ++ (bytes ++ 10 ∷ begins.rest) = append_assoc
    (ended lines) (bytes ++ 10 ∷ []) begins.rest ∙ ap (λ (t : List ℕ). ended lines ++ t) (append_assoc bytes (10 ∷ []) begins.rest) in
    let says : cert_of ((ended lines ++ (bytes ++ 10 ∷ [])) ++ begins.rest) ≡ Err (1 + length lines) = ap cert_of parts ∙ (run_on
    lines draft.Empty new (bytes ++ 10 ∷ begins.rest) 1 lack fit ∙ (next_judged (1 + length lines) new bytes begins.rest lacks ∙ ap
    (λ (answer : Option CertDraft). goes_on (1 + length lines) answer (parts_between 10 begins.rest)) unfit)) in
    grind (arith, nat_tests, parts, says)

-- one line more of the first ones
one_more : (parts : List (List ℕ)) (i : ℕ) → i < length parts
    → ended (take (i + 1) parts) ≡ ended (take i parts) ++ (get_or parts i [] ++ 10 ∷ [])
one_more parts i there =
    rw (take_more parts i [] there, flat_map_more (λ (bytes : List ℕ). bytes ++ 10 ∷ []) [] (take i parts) (get_or parts i [])) refl

-- the reported number is that of the first bad line
pub told_is_first : (text : List ℕ) (number : ℕ) → cert_of text ≡ Err number → IsFirstBadLine text number
told_is_first text number says =
    let parts : List (List ℕ) = parts_between 10 text in
    let lack : All Lacks parts = parts_lack text in
    let by = stops parts draft.Empty 1 number (some_part 10 text) says in
    let before : number - 1 ≡ by.fit = omega (arith, by.is) in
    let here : number ≡ by.fit + 1 = omega (arith, by.is) in
    let kept : All Lacks (take by.fit parts) = All-take Lacks by.fit parts lack in
    record {
      from = omega (arith, by.is);
      to = omega (arith, by.is, by.there);
      before = subst (λ (n : ℕ). IsCertificatePrefix (first_lines n text)) (sym before)
          (begins_with (take by.fit parts) by.new kept by.run);
      here = λ ends. λ begins. begins_no_more (take by.fit parts) (get_or parts by.fit []) by.new kept (lack by.fit [] by.there)
          by.run (by.unfit (omega (arith, ends, here)))
          (subst (λ (t : List ℕ). IsCertificatePrefix t) (ap (λ (n : ℕ). first_lines n text) here ∙ one_more parts by.fit by.there) begins);
    }
