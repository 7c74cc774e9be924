-- Formats at places of a list.
use Rattle.std.proofs.Common.{◌≡◌, ℕ, zero, suc, ◌<◌, false, List, [], ◌∷◌, length, map, Some, Result, bytes_eq, slice_get, refl, ap, ◌∙◌, arith}
use Rattle.std.specs.Option.{option_and_then}
use Rattle.stitch_cli.proofs.Names.{Change, Meaning, StoreView, Failure, Product, stitch, rewriting, RewriteOrder, option_map, RunsRequest, RunsPlan, complete_rewrite, rewrite_plan}
use Rattle.format_traits.specs.Endings.{format_index, format_of}

-- The element at an index of a list.
at_place : {A : Type 0} (f : A → Meaning) (xs : List A) (place : ℕ) → place < length xs
    → (m : Meaning) × (slice_get (map f xs) place ≡ Some m)
at_place f [] place there = absurd (let no : ⊥ = omega (arith, there) in no)
at_place f (x ∷ xs) zero there = (f x, refl)
at_place f (x ∷ xs) (suc place) there = at_place f xs place (omega (arith, there))

-- both formats of a rewriting are found
pub rewriting_found : {A : Type 0} (f : A → Meaning) (xs : List A) (input output : List ℕ) (changes : List Change)
    (source target : ℕ) (store store' : StoreView) (result : Result Product Failure) → format_index (map f xs) input ≡ Some source
    → format_index (map f xs) output ≡ Some target → source < length xs → target < length xs → bytes_eq input output ≡ false
    → ((s t : Meaning) → slice_get (map f xs) source ≡ Some s → slice_get (map f xs) target ≡ Some t
    → let order : RewriteOrder = record { input = input; output = output; source = s; target = t; changes = changes } in
    RunsPlan (rewrite_plan order) store store' result)
    → RunsRequest stitch (option_map (λ o. rewriting o)
    (complete_rewrite input output changes (format_of (map f xs) input) (format_of (map f xs) output))) store store' result
rewriting_found f xs input output changes source target store store' result found_source found_target in_source in_target apart prepares =
    let s = at_place f xs source in_source in
    let t = at_place f xs target in_target in
    let is_source : format_of (map f xs) input ≡ Some s.0 =
    ap (option_and_then (λ place. slice_get (map f xs) place)) found_source ∙ s.1 in
    let is_target : format_of (map f xs) output ≡ Some t.0 =
    ap (option_and_then (λ place. slice_get (map f xs) place)) found_target ∙ t.1 in
    rw (is_source, is_target, apart) (prepares s.0 t.0 s.1 t.1)
