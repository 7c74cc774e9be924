-- Reading texts, and items one by one.
use Rattle.std.proofs.Common.{◌≡◌, ◌<◌, ◌-◌, ℕ, zero, suc, Bool, true, false, List, [], ◌∷◌, ◌++◌, map, Option, Some, Result, Ok, Err, IsErrAnd, if◌then◌else◌, arith, refl, subst, sym}
use Rattle.std.specs.Str.{IsUtf8, is_utf8}
use Rattle.std.proofs.lemmas.Str.{IsUtf8-from_is_utf8, is_utf8-from_IsUtf8}
use Rattle.std.proofs.lemmas.List.{append_assoc, map-append}
use Rattle.task_runs.specs.TaskReading.{Read, item_then, items_in, part_in, text_in, text_of, with_first}
use Rattle.design_model.specs.OutOfMemory.{UnlessOutOfMemory}
use Rattle.task_runs.specs.TaskValues.{IsReadAs, joined, task_is_out_of_memory}
use Rattle.task_runs.specs.declared.task_fault.TaskFault.{TaskFault}
use Rattle.task_runs.specs.declared.task_fault.TaskFault.TheVariants as fault

if_true : {T : Type 0} (b : Bool) (here there : T) → b ≡ true → (if b then here else there) ≡ here
if_true true here there is = refl
if_true false here there is = absurd (cc)

if_false : {T : Type 0} (b : Bool) (here there : T) → (b ≡ true → ⊥) → (if b then here else there) ≡ there
if_false true here there never = absurd (never refl)
if_false false here there never = refl

-- a whole part that is UTF-8 is a text
pub text_read : (bytes text part rest : List ℕ) → part_in bytes ≡ Some (record { value = part; rest = rest }) → text ≡ part
    → IsUtf8 part → text_in bytes ≡ Ok (record { value = text; rest = rest })
text_read bytes text part rest is same utf8 =
    subst (λ (t : List ℕ). text_in bytes ≡ Ok (record { value = t; rest = rest })) (sym same)
    (subst (λ (p : Option (Read (List ℕ))). text_of p ≡ Ok (record { value = part; rest = rest })) (sym is)
    (if_true (is_utf8 part) _ _ (is_utf8-from_IsUtf8 part utf8)))

-- one that isn't UTF-8 is none
pub no_text : (bytes part rest : List ℕ) → part_in bytes ≡ Some (record { value = part; rest = rest }) → (IsUtf8 part → ⊥)
    → text_in bytes ≡ Err fault.NotText
no_text bytes part rest is never =
    subst (λ (p : Option (Read (List ℕ))). text_of p ≡ Err fault.NotText) (sym is)
    (if_false (is_utf8 part) _ _ (λ yes. never (IsUtf8-from_is_utf8 part yes)))

-- one more item was read, or none could be
module _ {T : Type 0} (item : List ℕ → Result (Read T) TaskFault) where
  joined_first : (before : List T) (value : T) (said : Result (Read (List T)) TaskFault)
      → joined before (with_first value said) ≡ joined (before ++ value ∷ []) said
  joined_first before value (Ok read) = let same = append_assoc before (value ∷ []) read.value in cc
  joined_first before value (Err why) = refl

  pub next_item : (before : List T) (n : ℕ) (bytes rest : List ℕ) (value : T) → 0 < n
      → item bytes ≡ Ok (record { value = value; rest = rest })
      → joined before (items_in item n bytes) ≡ joined (before ++ value ∷ []) (items_in item (n - 1) rest)
  next_item before zero bytes rest value some is = absurd (omega (arith, some))
  next_item before (suc n) bytes rest value some is =
      let less : suc n - 1 ≡ n = omega arith in
      subst (λ (k : ℕ). joined before (items_in item (suc n) bytes) ≡ joined (before ++ value ∷ []) (items_in item k rest)) (sym less)
      (subst (λ (r : Result (Read T) TaskFault). joined before (item_then r (items_in item n))
      ≡ joined (before ++ value ∷ []) (items_in item n rest)) (sym is) (joined_first before value (items_in item n rest)))

  pub no_item : (before : List T) (n : ℕ) (bytes : List ℕ) (why : TaskFault) → 0 < n → item bytes ≡ Err why
      → joined before (items_in item n bytes) ≡ Err why
  no_item before zero bytes why some is = absurd (omega (arith, some))
  no_item before (suc n) bytes why some is =
      subst (λ (r : Result (Read T) TaskFault). joined before (item_then r (items_in item n)) ≡ Err why) (sym is) refl

-- the loop goes on after one more item, or ends with its fault
module _ {A T : Type 0} (f : A → T) (item : List ℕ → Result (Read T) TaskFault) where
  pub item_kept : (said : Result (Read (List T)) TaskFault) (before after : List A) (a : A) (n : ℕ) (bytes rest : List ℕ) (value : T)
      → said ≡ joined (map f before) (items_in item n bytes) → after ≡ before ++ a ∷ [] → f a ≡ value → 0 < n
      → item bytes ≡ Ok (record { value = value; rest = rest }) → said ≡ joined (map f after) (items_in item (n - 1) rest)
  item_kept said before after a n bytes rest value so_far longer same some is =
      let next = next_item item (map f before) n bytes rest value some is in
      let mapped : map f after ≡ map f before ++ value ∷ [] = rw (longer, map-append f before (a ∷ []), same) refl in
      rw (so_far, next, mapped) refl

  pub item_refused : (said : Result (Read (List T)) TaskFault) (before : List A) (n : ℕ) (bytes : List ℕ) (why : TaskFault)
      → said ≡ joined (map f before) (items_in item n bytes) → 0 < n → item bytes ≡ Err why → said ≡ Err why
  item_refused said before n bytes why so_far some is = rw (so_far, no_item item (map f before) n bytes why some is) refl

-- a result that is the specified fault
pub read_refused : {A V : Type 0} (seen : A → V) (said : Result V TaskFault) (result : Result A TaskFault) (why : TaskFault)
    → said ≡ Err why → IsErrAnd result (λ found. found ≡ why) → IsReadAs seen said result
read_refused seen said (Ok a) why is same = absurd same
read_refused {A} {V} seen said (Err found) why is same = unless (task_is_out_of_memory found) (said ≡ Err found)
    (subst (λ (f : TaskFault). said ≡ Err f) (sym same) is)
  where
    unless : (b : Bool) (P : Type 0) → P → UnlessOutOfMemory b P
    unless true P p = tt
    unless false P p = p
