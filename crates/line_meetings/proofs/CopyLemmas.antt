-- A map of first copies, with one more part.
use Rattle.std.proofs.Common.{◌≡◌, ◌++◌, Bool, true, false, cond, List, [], ◌∷◌, Option, Some, None, if◌then◌else◌, refl, ap, sym, ◌∙◌, arith}
use Rattle.line_meetings.specs.declared.part_key.PartKey.{PartKey}
use Rattle.line_meetings.specs.Parts.{is_same_key, key_of, part_at}
use Rattle.line_meetings.specs.Sorting.{HasFirsts}
use Rattle.line_meetings.proofs.Names.{nat_tests, LineSegment}

same_key : (k l : PartKey) → is_same_key k l ≡ is_same_key l k
same_key k l = grind (arith, nat_tests)

-- a part with the same key as one that no part has
found_last : (key : PartKey) (s : LineSegment) (kept : List LineSegment) → part_at key kept ≡ None
    → is_same_key key (key_of s) ≡ true → part_at key (kept ++ s ∷ []) ≡ Some s
found_last key s [] none is = ap (λ (b : Bool). if b then Some s else None) is
found_last key s (t ∷ rest) none is = grind (arith, nat_tests, (found_last key s rest))

missed_last : (key : PartKey) (s : LineSegment) (kept : List LineSegment) → is_same_key key (key_of s) ≡ false
    → part_at key (kept ++ s ∷ []) ≡ part_at key kept
missed_last key s [] missed = ap (λ (b : Bool). if b then Some s else None) missed
missed_last key s (t ∷ rest) missed = grind (arith, nat_tests, (missed_last key s rest missed))

-- keys that are the same find the same part
same_found : (k l : PartKey) (kept : List LineSegment) → is_same_key k l ≡ true → part_at l kept ≡ part_at k kept
same_found k l [] is = refl
same_found k l (t ∷ rest) is = grind (arith, nat_tests, (same_found k l rest is))

pub first_added : (key : PartKey) (s : LineSegment) (kept more : List LineSegment) (old new : PartKey → Option LineSegment)
    → key ≡ key_of s → HasFirsts kept old → old key ≡ None → more ≡ kept ++ s ∷ []
    → ((other : PartKey) → new other ≡ cond (is_same_key key other) (Some s) (old other)) → HasFirsts more new
first_added key s kept more old new is has none longer updates other =
    by_test (is_same_key key other) refl ∙ ap (part_at other) (sym longer)
  where
    turned : is_same_key other (key_of s) ≡ is_same_key key other
    turned = ap (is_same_key other) (sym is) ∙ same_key other key

    by_test : (t : Bool) → is_same_key key other ≡ t → new other ≡ part_at other (kept ++ s ∷ [])
    by_test true same =
        updates other ∙ ap (λ (t : Bool). cond t (Some s) (old other)) same
        ∙ sym (found_last other s kept (same_found key other kept same ∙ sym (has key) ∙ none) (turned ∙ same))
    by_test false differs =
        updates other ∙ ap (λ (t : Bool). cond t (Some s) (old other)) differs ∙ has other
        ∙ sym (missed_last other s kept (turned ∙ differs))
