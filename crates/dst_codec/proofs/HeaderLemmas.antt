-- The fields of a header take 124 bytes and the header 512, where its numbers fit their places.
use Rattle.std.proofs.Common.{◌≡◌, ℕ, ◌+◌, ◌^◌, ◌<◌, ◌≤◌, ℤ, pos, neg_ℤ, suc, unsigned_abs, IsTrue, List, [], ◌∷◌, ◌++◌, length, decimal, codes, refl, ap, arith, length-append, lit<}
use Rattle.std.proofs.lemmas.Fmt.{length-decimal-le}
use Rattle.dst_codec.proofs.Names.{nat_tests, NumberedAct, MAX_LABEL, Point, is_point_within, origin, label_field, needle_position_along, HeaderNumbers, HEADER_LENGTH, FitsFields, size_above_zero, size_below_zero, max_measure, field, dst_header_of, within_parts, length-replicate, padded_left, needle_position_after, stops_of, number_field, signed_field, fields_of, numbers_of, are_in_range, length-padded_right}
use Rattle.design_model.specs.declared.point.TheConstants.{NEEDLE_LIMIT}
use Rattle.design_model.proofs.ListLemmas.{size-neg}

length-padded_left : (places : ℕ) (text : List ℕ) → length text ≤ places → length (padded_left places text) ≡ places
length-padded_left places text fits = grind (arith, nat_tests, length-replicate, length-append)

length-number_field : (name : List ℕ) (places n : ℕ) → length name ≡ 3 → 0 < places
    → n < 10 ^ places → n < 2 ^ 64 → length (number_field name places n) ≡ 3 + places + 1
length-number_field name places n is some fits small =
    grind (arith, nat_tests, length-append, (length-padded_left places (decimal n) (length-decimal-le places n some fits small)))

length-signed_field : (name : List ℕ) (z : ℤ) → length name ≡ 3 → unsigned_abs z < 10 ^ 5 → length (signed_field name z) ≡ 10
length-signed_field name z is fits =
    let digits = length-padded_left 5 (decimal (unsigned_abs z))
    (length-decimal-le 5 (unsigned_abs z) (lit< tt) fits (omega (arith, fits))) in
    grind (arith, nat_tests, length-append, (ap suc digits))

lengths : (a b c d e f g h i j k l : List ℕ) → length a ≡ 20 → length b ≡ 11 → length c ≡ 7 → length d ≡ 9 → length e ≡ 9 → length f ≡ 9
    → length g ≡ 9 → length h ≡ 10 → length i ≡ 10 → length j ≡ 10 → length k ≡ 10 → length l ≡ 10
    → length (a ++ b ++ c ++ d ++ e ++ f ++ g ++ h ++ i ++ j ++ k ++ l) ≡ 124
lengths a b c d e f g h i j k l ha hb hc hd he hf hg hh hi hj hk hl = simp length-append
    (omega (arith, ha, hb, hc, hd, he, hf, hg, hh, hi, hj, hk, hl))

pub length-fields_of : (label : List ℕ) (numbers : HeaderNumbers) → length label ≤ MAX_LABEL
    → FitsFields numbers → length (fields_of label numbers) ≡ 124
length-fields_of label numbers short fits = lengths
    (field (codes "LA:") (label_field label))
    (number_field (codes "ST:") 7 numbers.records)
    (number_field (codes "CO:") 3 numbers.stops)
    (number_field (codes "+X:") 5 numbers.extents.right)
    (number_field (codes "-X:") 5 numbers.extents.left)
    (number_field (codes "+Y:") 5 numbers.extents.up)
    (number_field (codes "-Y:") 5 numbers.extents.down)
    (signed_field (codes "AX:") numbers.last.x)
    (signed_field (codes "AY:") (neg_ℤ numbers.last.y))
    (signed_field (codes "MX:") (pos 0))
    (signed_field (codes "MY:") (pos 0))
    (field (codes "PD:") (codes "******"))
    (grind (arith, nat_tests, length-append, (codes "LA:"), (length-padded_right MAX_LABEL label short)))
    (length-number_field (codes "ST:") 7 numbers.records refl (lit< tt) fits.records (omega (arith, fits.records)))
    (length-number_field (codes "CO:") 3 numbers.stops refl (lit< tt) fits.stops (omega (arith, fits.stops)))
    (length-number_field (codes "+X:") 5 numbers.extents.right refl (lit< tt) fits.right (omega (arith, fits.right)))
    (length-number_field (codes "-X:") 5 numbers.extents.left refl (lit< tt) fits.left (omega (arith, fits.left)))
    (length-number_field (codes "+Y:") 5 numbers.extents.up refl (lit< tt) fits.up (omega (arith, fits.up)))
    (length-number_field (codes "-Y:") 5 numbers.extents.down refl (lit< tt) fits.down (omega (arith, fits.down)))
    (length-signed_field (codes "AX:") numbers.last.x refl fits.x)
    (length-signed_field (codes "AY:") (neg_ℤ numbers.last.y) refl (rw (size-neg numbers.last.y) fits.y))
    (length-signed_field (codes "MX:") (pos 0) refl (lit< tt))
    (length-signed_field (codes "MY:") (pos 0) refl (lit< tt))
    refl

pub length-dst_header_of : (label : List ℕ) (numbers : HeaderNumbers) → length label ≤ MAX_LABEL
    → FitsFields numbers → length (dst_header_of label numbers) ≡ HEADER_LENGTH
length-dst_header_of label numbers short fits = grind (arith, nat_tests, length-fields_of, length-append, length-padded_right)

-- a measure of needles in range is at most their limit
greatest_small : (measure : Point → ℕ) → ((p : Point) → IsTrue (is_point_within NEEDLE_LIMIT p) → measure p ≤ NEEDLE_LIMIT)
    → (acts : List NumberedAct) → IsTrue (are_in_range acts) → max_measure measure acts ≤ NEEDLE_LIMIT
greatest_small measure small [] all = omega arith
greatest_small measure small (a ∷ rest) all = grind (arith, nat_tests, a.act, small, (greatest_small measure small rest))

-- the place after acts in range is in range
place_in_range : (place : Point) (acts : List NumberedAct) → IsTrue (is_point_within NEEDLE_LIMIT place)
    → IsTrue (are_in_range acts) → IsTrue (is_point_within NEEDLE_LIMIT (needle_position_along place acts))
place_in_range place [] here all = here
place_in_range place (a ∷ rest) here all =
    grind (arith, nat_tests, a.act, (place_in_range (needle_position_after place a.act) rest))

-- the numbers of acts in range fit, where there are not too many records and stops
pub numbers_fit : (acts : List NumberedAct) (count : ℕ) → IsTrue (are_in_range acts)
    → count < 10 ^ 7 → stops_of acts < 10 ^ 3 → FitsFields (numbers_of acts count)
numbers_fit acts count all few few_stops =
    let last = within_parts NEEDLE_LIMIT (needle_position_along origin acts) (place_in_range origin acts refl all) in
    let right = greatest_small (λ p. size_above_zero p.x) (λ p here. grind (arith, nat_tests, (within_parts NEEDLE_LIMIT p here).0))
    acts
    all in
    let left = greatest_small (λ p. size_below_zero p.x) (λ p here. grind (arith, nat_tests, (within_parts NEEDLE_LIMIT p here).0))
    acts
    all in
    let up = greatest_small (λ p. size_below_zero p.y) (λ p here. grind (arith, nat_tests, (within_parts NEEDLE_LIMIT p here).1)) acts
    all in
    let down = greatest_small (λ p. size_above_zero p.y) (λ p here. grind (arith, nat_tests, (within_parts NEEDLE_LIMIT p here).1))
    acts
    all in
    record {
      records = few;
      stops = few_stops;
      right = omega (arith, right);
      left = omega (arith, left);
      up = omega (arith, up);
      down = omega (arith, down);
      x = omega (arith, last.0);
      y = omega (arith, last.1);
    }
