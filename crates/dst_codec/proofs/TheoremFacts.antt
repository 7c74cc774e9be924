-- What the theorems on DST exclude, and the records that have one encoding.
use Rattle.std.proofs.Common.{◌≡◌, ℕ, ◌<◌, ◌≤◌, List, [], ◌∷◌, Result, Ok, Err, IfOk, IsOkAnd, refl, arith, subst}
use Rattle.dst_codec.proofs.Names.{DesignValue, KeepsLimits, ReadFault, WriteFault, Loaded, dst_move_of, LabelRoundTrips, ReadMovesAreWritable, dst_stitch_record, IsCanonicalByte, IsCanonicalThird, dst_reads, dst_writes, MovesHaveOneEncoding}
use Rattle.format_traits.specs.declared.fault.WriteFault.TheVariants as write

-- each part forwards, or each backwards, is canonical, and no part in both directions
pub known_forwards : IsCanonicalByte 85
known_forwards = record {
  small = omega arith;
  x_lesser = omega arith;
  x_greater = omega arith;
  y_greater = omega arith;
  y_lesser = omega arith;
}

pub known_backwards : IsCanonicalByte 170
known_backwards = record {
  small = omega arith;
  x_lesser = omega arith;
  x_greater = omega arith;
  y_greater = omega arith;
  y_lesser = omega arith;
}

abbrev IsTwo : ℕ → Type 0
IsTwo n = n ≤ 1 → ⊥

two : IsTwo 2
two is = omega (arith, is)

pub known_both : (IsCanonicalByte 3 → ⊥) × (IsCanonicalByte 12 → ⊥) × (IsCanonicalByte 48 → ⊥) × (IsCanonicalByte 192 → ⊥)
known_both = (λ is. two is.x_lesser, λ is. two is.x_greater, λ is. two is.y_greater, λ is. two is.y_lesser)

-- a third byte has both low bits and no flag
pub known_third : IsCanonicalThird 23
known_third = record { small = omega arith; set = refl; x = omega arith; y = omega arith }

pub known_other_third : IsCanonicalThird 43
known_other_third = record { small = omega arith; set = refl; x = omega arith; y = omega arith }

pub known_both_third : (IsCanonicalThird 15 → ⊥) × (IsCanonicalThird 51 → ⊥)
known_both_third = (λ is. two is.x, λ is. two is.y)

pub known_flag : IsCanonicalThird 67 → ⊥
known_flag is = flag is.small
  where
    flag : 67 < 64 → ⊥
    flag below = omega (arith, below)

pub known_low : IsCanonicalThird 1 → ⊥
known_low is = low is.set
  where
    low : ◌≡◌ {A = ℕ} 1 3 → ⊥
    low same = omega (arith, same)

-- such a record is the one that encodes its move
pub known_record : MovesHaveOneEncoding → dst_stitch_record (dst_move_of 85 170 43) ≡ 85 ∷ 170 ∷ 43 ∷ []
known_record law = law 85 170 43 known_forwards known_backwards known_other_third

-- an encoded design is read, with its label
pub known_label : LabelRoundTrips → (d : DesignValue) (bytes : List ℕ) (l : Loaded) → KeepsLimits d → dst_writes d ≡ Ok bytes
    → dst_reads bytes ≡ Ok l → l.design.label ≡ d.label
known_label law d bytes l limits written read =
    subst (λ (r : Result Loaded ReadFault). IsOkAnd r (λ loaded. loaded.design.label ≡ d.label)) read
    (subst (λ (w : Result (List ℕ) WriteFault). IfOk w (λ bytes. IsOkAnd (dst_reads bytes) (λ loaded. loaded.design.label ≡ d.label)))
    written (law d limits))

pub known_unread : LabelRoundTrips → (d : DesignValue) (bytes : List ℕ) (why : ReadFault) → KeepsLimits d → dst_writes d ≡ Ok bytes
    → dst_reads bytes ≡ Err why → ⊥
known_unread law d bytes why limits written read =
    subst (λ (r : Result Loaded ReadFault). IsOkAnd r (λ loaded. loaded.design.label ≡ d.label)) read
    (subst (λ (w : Result (List ℕ) WriteFault). IfOk w (λ bytes. IsOkAnd (dst_reads bytes) (λ loaded. loaded.design.label ≡ d.label)))
    written (law d limits))

-- a design that was read is refused neither for a stitch nor for a float
abbrev Writable : Result Loaded ReadFault → Type 0
Writable read = IfOk read (λ loaded. (number : ℕ) → (dst_writes loaded.design ≡ Err (write.StitchTooLong number) → ⊥)
    × (dst_writes loaded.design ≡ Err (write.FloatTooLong number) → ⊥))

pub known_writable : ReadMovesAreWritable → (bytes : List ℕ) (l : Loaded) (number : ℕ) → dst_reads bytes ≡ Ok l
    → (dst_writes l.design ≡ Err (write.StitchTooLong number) → ⊥) × (dst_writes l.design ≡ Err (write.FloatTooLong number) → ⊥)
known_writable law bytes l number read = (λ long. (both number).0 long, λ long. (both number).1 long)
  where
    both : (number : ℕ) → (dst_writes l.design ≡ Err (write.StitchTooLong number) → ⊥)
        × (dst_writes l.design ≡ Err (write.FloatTooLong number) → ⊥)
    both = subst Writable read (law bytes)
