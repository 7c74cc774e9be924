-- Near needles that are left out.
use Rattle.std.proofs.Common.{◌≡◌, ℕ, Bool, true, false, not, ◌&&◌, ◌||◌, List, [], ◌∷◌, Option, Some, None, is_none, refl, ap, ◌∙◌}
use Rattle.design_model.specs.declared.act.Act.TheVariants as act
use Rattle.sewing_edits.proofs.Names.{Act, Point, are_in_order, are_long_enough, is_nearer, is_thread_end, merged_from, thread_ends, if◌then◌else◌}

-- the test whether a needle goes
abbrev pub goes : ℕ → Option Point → Point → List Act → Bool
goes limit before p rest = is_nearer limit before p && not (is_thread_end rest)

-- a thread goes on after the kept needles where it went on before
end_same : (limit : ℕ) (before : Option Point) (rest : List Act) → is_thread_end (merged_from limit before rest) ≡ is_thread_end rest
end_same limit before [] = refl
end_same limit before (act.Needle p float ∷ rest) = by_test (goes limit before p rest) refl (end_same limit before rest)
  where
    second : (near ends : Bool) → (near && not ends) ≡ true → ends ≡ false
    second true true is = cc
    second true false is = refl
    second false ends is = cc

    by_test : (test : Bool) → goes limit before p rest ≡ test → is_thread_end (merged_from limit before rest) ≡ is_thread_end rest
        → is_thread_end (if test then merged_from limit before rest else act.Needle p float ∷ merged_from limit (Some p) rest) ≡ false
    by_test true is same = same ∙ second (is_nearer limit before p) (is_thread_end rest) is
    by_test false is same = refl
end_same limit before (act.Trim ∷ rest) = refl
end_same limit before (act.Stop ∷ rest) = refl

pub merged_long : (limit : ℕ) (before : Option Point) (acts : List Act)
    → are_long_enough limit before (merged_from limit before acts) ≡ true
merged_long limit before [] = refl
merged_long limit before (act.Needle p float ∷ rest) =
    by_test (goes limit before p rest) refl (merged_long limit before rest) (merged_long limit (Some p) rest)
  where
    either : (near ends : Bool) → (near && not ends) ≡ false → (not near || ends) ≡ true
    either true true is = refl
    either true false is = cc
    either false ends is = refl

    by_test : (test : Bool) → goes limit before p rest ≡ test → are_long_enough limit before (merged_from limit before rest) ≡ true
        → are_long_enough limit (Some p) (merged_from limit (Some p) rest) ≡ true
        → are_long_enough limit before (if test then merged_from limit before rest
        else act.Needle p float ∷ merged_from limit (Some p) rest) ≡ true
    by_test true is left kept = left
    by_test false is left kept =
        rw (end_same limit (Some p) rest, either (is_nearer limit before p) (is_thread_end rest) is) kept
merged_long limit before (act.Trim ∷ rest) = merged_long limit None rest
merged_long limit before (act.Stop ∷ rest) = merged_long limit None rest

pub merged_order : (limit : ℕ) (before : Option Point) (acts : List Act) → are_in_order (is_none before) acts ≡ true
    → are_in_order (is_none before) (merged_from limit before acts) ≡ true
merged_order limit before [] ordered = refl
merged_order limit None (act.Needle p true ∷ rest) ordered = cc
merged_order limit None (act.Needle p false ∷ rest) ordered = merged_order limit (Some p) rest ordered
merged_order limit (Some b) (act.Needle p float ∷ rest) ordered =
    by_test (goes limit (Some b) p rest) (merged_order limit (Some b) rest ordered) (merged_order limit (Some p) rest ordered)
  where
    by_test : (test : Bool) → are_in_order false (merged_from limit (Some b) rest) ≡ true
        → are_in_order false (merged_from limit (Some p) rest) ≡ true
        → are_in_order false (if test then merged_from limit (Some b) rest else act.Needle p float ∷ merged_from limit (Some p) rest) ≡ true
    by_test true left kept = left
    by_test false left kept = kept
merged_order limit None (act.Trim ∷ rest) ordered = cc
merged_order limit (Some b) (act.Trim ∷ rest) ordered = merged_order limit None rest ordered
merged_order limit None (act.Stop ∷ rest) ordered = merged_order limit None rest ordered
merged_order limit (Some b) (act.Stop ∷ rest) ordered = merged_order limit None rest ordered

-- inside a thread, the needle before makes no difference to the ends that follow
ends_alike : (a b : Point) (acts : List Act) → thread_ends (Some a) acts ≡ thread_ends (Some b) acts
ends_alike a b [] = refl
ends_alike a b (act.Needle p float ∷ rest) = refl
ends_alike a b (act.Trim ∷ rest) = refl
ends_alike a b (act.Stop ∷ rest) = refl

pub merged_ends : (limit : ℕ) (before : Option Point) (acts : List Act)
    → thread_ends before (merged_from limit before acts) ≡ thread_ends before acts
merged_ends limit before [] = refl
merged_ends limit None (act.Needle p float ∷ rest) = ap (λ xs. act.Needle p float ∷ xs) (merged_ends limit (Some p) rest)
merged_ends limit (Some b) (act.Needle p float ∷ rest) =
    by_test (goes limit (Some b) p rest) refl (merged_ends limit (Some b) rest) (merged_ends limit (Some p) rest)
  where
    second : (near ends : Bool) → (near && not ends) ≡ true → ends ≡ false
    second true true is = cc
    second true false is = refl
    second false ends is = cc

    by_test : (test : Bool) → goes limit (Some b) p rest ≡ test
        → thread_ends (Some b) (merged_from limit (Some b) rest) ≡ thread_ends (Some b) rest
        → thread_ends (Some p) (merged_from limit (Some p) rest) ≡ thread_ends (Some p) rest
        → thread_ends (Some b) (if test then merged_from limit (Some b) rest else act.Needle p float ∷ merged_from limit (Some p) rest)
        ≡ (if is_thread_end rest then act.Needle p float ∷ thread_ends (Some p) rest else thread_ends (Some p) rest)
    by_test true is left kept = rw (second (is_nearer limit (Some b) p) (is_thread_end rest) is) (left ∙ ends_alike b p rest)
    by_test false is left kept = rw (end_same limit (Some p) rest, kept) refl
merged_ends limit None (act.Trim ∷ rest) = ap (λ xs. act.Trim ∷ xs) (merged_ends limit None rest)
merged_ends limit (Some b) (act.Trim ∷ rest) = ap (λ xs. act.Trim ∷ xs) (merged_ends limit None rest)
merged_ends limit None (act.Stop ∷ rest) = ap (λ xs. act.Stop ∷ xs) (merged_ends limit None rest)
merged_ends limit (Some b) (act.Stop ∷ rest) = ap (λ xs. act.Stop ∷ xs) (merged_ends limit None rest)
