-- Puts one after another.
use Rattle.std.proofs.Common.{IsErrAnd, ◌≡◌, ◌++◌, ℕ, List, [], Option, Some, None, Result, Ok, Err, sym, ap, refl, subst, ◌∙◌, append_assoc, append-nil, take, drop}
use Rattle.program_shell.proofs.Names.{Failed, with_bytes_taken, Rose, PutFailed, Puts, with_bytes_put, SinkView, take-append-drop}
use Rattle.program_shell.specs.PutSteps.{Gathers}

-- what a sink shows, by its parts
abbrev seen_sink : Option (List ℕ) → ℕ → SinkView
seen_sink taken faults = record { taken = taken; faults = faults }

-- bytes added twice are added at once
pub with_bytes_taken-append : (old : Option (List ℕ)) (a b : List ℕ)
    → with_bytes_taken (with_bytes_taken old a) b ≡ with_bytes_taken old (a ++ b)
with_bytes_taken-append None a b = refl
with_bytes_taken-append (Some held) a b = ap Some (append_assoc held a b)

-- a put that broke breaks what goes on after it
pub broke-more : (before after : SinkView) (a b : List ℕ) → PutFailed before after a → PutFailed before after (a ++ b)
broke-more before after a b broke = record {
  first = broke.first;
  rest = broke.rest ++ b;
  split = sym (append_assoc broke.first broke.rest b) ∙ ap (λ (xs : List ℕ). xs ++ b) broke.split;
  taken = broke.taken;
  rose = broke.rose;
}

-- what broke after some bytes were taken broke on the way of them all
pub broke-after : (before mid after : SinkView) (a b : List ℕ) → mid ≡ with_bytes_put before a → PutFailed mid after b
    → PutFailed before after (a ++ b)
broke-after before mid after a b taken broke = record {
  first = a ++ broke.first;
  rest = broke.rest;
  split = append_assoc a broke.first broke.rest ∙ ap (λ (xs : List ℕ). a ++ xs) broke.split;
  taken = broke.taken ∙ (ap (λ (s : SinkView). with_bytes_taken s.taken broke.first) taken
      ∙ with_bytes_taken-append before.taken a broke.first);
  rose = subst (λ (s : SinkView). Rose s.faults after.faults) taken broke.rose;
}

-- what was taken after other bytes was taken with them
pub with_bytes_put-append : (before mid after : SinkView) (a b : List ℕ) → mid ≡ with_bytes_put before a → after ≡ with_bytes_put mid b
    → after ≡ with_bytes_put before (a ++ b)
with_bytes_put-append before mid after a b first second =
    second ∙ (ap (λ (s : SinkView). with_bytes_put s b) first
    ∙ ap (λ (t : Option (List ℕ)). seen_sink t before.faults) (with_bytes_taken-append before.taken a b))

-- A failed put, in terms of views.
pub broke_of : (before after : SinkView) (bytes : List ℕ) → (count : ℕ) × (after.taken ≡ with_bytes_taken before.taken (take count bytes))
    → Rose before.faults after.faults → PutFailed before after bytes
broke_of before after bytes (count, taken) rose = record {
  first = take count bytes;
  rest = drop count bytes;
  split = take-append-drop count bytes;
  taken = taken;
  rose = rose;
}

-- Some parts of a text were put: the entire text is put once the remaining parts are, and fails if one of them does.
pub record PutsOn (whole left : List ℕ) (before now : SinkView) : Type 0 where
  pub ok : (after : SinkView) → after ≡ with_bytes_put now left → after ≡ with_bytes_put before whole
  pub err : (after : SinkView) → PutFailed now after left → PutFailed before after whole

pub puts_on : (whole left part rest : List ℕ) (before now next : SinkView) → PutsOn whole left before now
    → left ≡ part ++ rest → next ≡ with_bytes_put now part → PutsOn whole rest before next
puts_on whole left part rest before now next on is taken = record {
  ok = λ after more. on.ok after (subst (λ (xs : List ℕ). after ≡ with_bytes_put now xs) (sym is)
      (with_bytes_put-append now next after part rest taken more));
  err = λ after broke. on.err after (subst (λ (xs : List ℕ). PutFailed now after xs) (sym is)
      (broke-after now next after part rest taken broke));
}

pub puts_broke : (whole left part rest : List ℕ) (before now next : SinkView) → PutsOn whole left before now
    → left ≡ part ++ rest → PutFailed now next part → PutFailed before next whole
puts_broke whole left part rest before now next on is broke =
    on.err next (subst (λ (xs : List ℕ). PutFailed now next xs) (sym is) (broke-more now next part rest broke))

-- a part is gathered, and then what is left is
pub gathers_on : (whole left part rest line next_line first : List ℕ) (before now next : SinkView) → PutsOn whole (line ++ left) before now
    → left ≡ part ++ rest → first ++ next_line ≡ line ++ part → next ≡ with_bytes_put now first
    → PutsOn whole (next_line ++ rest) before next
gathers_on whole left part rest line next_line first before now next on is parts taken =
    puts_on whole (line ++ left) first (next_line ++ rest) before now next on
    (ap (λ (xs : List ℕ). line ++ xs) is ∙ (sym (append_assoc line part rest)
    ∙ (ap (λ (xs : List ℕ). xs ++ rest) (sym parts) ∙ append_assoc first next_line rest))) taken

-- a put failed while a part was gathered
pub gathers_broke : (whole left part rest line : List ℕ) (before now next : SinkView) → PutsOn whole (line ++ left) before now
    → left ≡ part ++ rest → PutFailed now next (line ++ part) → PutFailed before next whole
gathers_broke whole left part rest line before now next on is broke =
    puts_broke whole (line ++ left) (line ++ part) rest before now next on
    (ap (λ (xs : List ℕ). line ++ xs) is ∙ sym (append_assoc line part rest)) broke

-- the last line is put
pub gathers_all : {T : Type 0} (whole left line text : List ℕ) (before now after : SinkView) (result : Result T Failed)
    → PutsOn whole (line ++ left) before now → left ≡ [] → text ≡ line → Puts text now after result → Puts whole before after result
gathers_all whole left line text before now after (Ok _) on none is puts = record {
  ok = on.ok after (subst (λ (xs : List ℕ). after ≡ with_bytes_put now xs)
      (is ∙ sym (ap (λ (xs : List ℕ). line ++ xs) none ∙ append-nil line)) puts.ok);
  err = tt;
}
gathers_all whole left line text before now after (Err _) on none is puts = record {
  ok = tt;
  err = on.err after (subst (λ (xs : List ℕ). PutFailed now after xs)
      (is ∙ sym (ap (λ (xs : List ℕ). line ++ xs) none ∙ append-nil line)) puts.err);
}

-- a put that broke is answered by its fault
pub puts_err : {T : Type 0} (bytes : List ℕ) (before after : SinkView) (fault : Failed) (result : Result T Failed)
    → IsErrAnd result (λ (f : Failed). f ≡ fault) → PutFailed before after bytes → Puts bytes before after result
puts_err bytes before after fault (Ok _) never broke = absurd never
puts_err bytes before after fault (Err _) is broke = record { ok = tt; err = broke }

-- The line could not be put: then the part was not put.
pub gather_broke : {T : Type 0} (text line part new_line : List ℕ) (before after : SinkView) (fault : Failed) (result : Result T Failed)
    → IsErrAnd result (λ (f : Failed). f ≡ fault) → text ≡ line → PutFailed before after text
    → Gathers (line ++ part) new_line before after result
gather_broke text line part new_line before after fault (Ok _) never same broke = absurd never
gather_broke text line part new_line before after fault (Err _) is same broke = record {
  ok = tt;
  err = broke-more before after line part (subst (λ (xs : List ℕ). PutFailed before after xs) same broke);
}

-- the line is put, and then the part
pub gather_put : {T : Type 0} (text line part new_line : List ℕ) (before mid after : SinkView) (result : Result T Failed) → text ≡ line
    → new_line ≡ [] → mid ≡ with_bytes_put before text → Puts part mid after result → Gathers (line ++ part) new_line before after result
gather_put text line part new_line before mid after (Ok _) is none taken puts = record {
  ok = (
    line ++ part,
    ap (λ (xs : List ℕ). (line ++ part) ++ xs) none ∙ append-nil (line ++ part),
    with_bytes_put-append before mid after line part (subst (λ (xs : List ℕ). mid ≡ with_bytes_put before xs) is taken) puts.ok,
  );
  err = tt;
}
gather_put text line part new_line before mid after (Err _) is none taken puts = record {
  ok = tt;
  err = broke-after before mid after line part (subst (λ (xs : List ℕ). mid ≡ with_bytes_put before xs) is taken) puts.err;
}
