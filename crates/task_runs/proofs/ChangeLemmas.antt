-- Each file that a run left and that wasn't given so is among those of a list of all names.
use Rattle.std.proofs.Common.{refl, ◌≡◌, ℕ, Bool, true, false, [], ◌∷◌, ◌++◌, List, Option, Some, None}
use Rattle.std.proofs.lemmas.List.{append_assoc}
use Rattle.std.proofs.lemmas.Slice.Eq.{bytes_eq-Decides}
use Rattle.std.specs.Str.{bytes_eq}
use Rattle.outside_io.specs.Files.{Files}
use Rattle.program_shell.specs.Products.{ChangesOnlyFiles}
use Rattle.task_runs.specs.Packing.{FileValue}
use Rattle.task_runs.specs.NameLists.{is_listed}
use Rattle.task_runs.specs.Replies.{EachChangeIsListed, IsAmong, changed_file, changed_files, is_given}
use Rattle.task_runs.specs.FileLists.{content_in}

is_changed : (given : List FileValue) (left : Files) (names : List (List ℕ)) (name content : List ℕ) → is_listed names name ≡ true
    → left name ≡ Some content → is_given (content_in given name) content ≡ false
    → IsAmong (record { name = name; content = content }) (changed_files given left names)
is_changed given left [] name content listed is new = absurd (cc)
is_changed given left (first ∷ rest) name content listed is new =
    by_test (bytes_eq first name) refl (λ later. is_changed given left rest name content later is new)
  where
    by_test : (b : Bool) → bytes_eq first name ≡ b
        → (is_listed rest name ≡ true → IsAmong (record { name = name; content = content }) (changed_files given left rest))
        → IsAmong (record { name = name; content = content }) (changed_files given left (first ∷ rest))
    by_test true same next =
        let name_is : first ≡ name = (bytes_eq-Decides first name).0 same in
        ([], changed_files given left rest, rw (name_is, is, new) refl)
    by_test false apart next =
        let more = next (rw (apart) at listed) in
        let before = changed_file (content_in given first) first (left first) in
        (before ++ more.0, more.1, rw (append_assoc before more.0 (record { name = name; content = content } ∷ more.1), more.2) refl)

pub each_change : EachChangeIsListed
each_change given left names name content lists is new = by_test (is_listed names name) refl
  where
    by_test : (b : Bool) → is_listed names name ≡ b
        → IsAmong (record { name = name; content = content }) (changed_files given left names)
    by_test true has = is_changed given left names name content has is new
    by_test false lacks = let none = lists name lacks in absurd (cc)

-- a file that is as it was given isn't changed
same_file : (given : Option (List ℕ)) (name : List ℕ) → changed_file given name given ≡ []
same_file None name = refl
same_file (Some content) name = rw ((bytes_eq-Decides content content).1 refl) refl

-- files that are left alone aren't changed
pub none_changed : (given : List FileValue) (left : Files) (names : List (List ℕ))
    → ChangesOnlyFiles [] (Some (content_in given)) (Some left) → changed_files given left names ≡ []
none_changed given left [] same = refl
none_changed given left (name ∷ rest) same =
    rw (same name tt, same_file (content_in given name) name, none_changed given left rest same) refl
