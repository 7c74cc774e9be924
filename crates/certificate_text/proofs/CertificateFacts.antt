-- Worked values of certificate texts and of their certificates.
use Rattle.std.proofs.Common.{◌≡◌, ℕ, true, false, List, [], ◌∷◌, ◌++◌, None, Some, Ok, Err, codes, refl}
use Rattle.std.specs.Fmt.{digits}
use Rattle.certificate_text.proofs.Names.{flat_map, PieceCert, parsed_cert_number, parsed_pass, words_in, certificate_text, cert_of, first_lines}

-- the text of these lines, each with its end
abbrev ended : List (List ℕ) → List ℕ
ended lines = flat_map (λ (line : List ℕ). line ++ 10 ∷ []) lines

-- texts after the first line of a certificate
abbrev headed : List (List ℕ) → List ℕ
headed lines = ended (codes "redwork-certificate 1" ∷ lines)

-- the certificate of these lines after the first one, and the first bad line
abbrev Says : List (List ℕ) → List PieceCert → Type 0
Says lines pieces = cert_of (headed lines) ≡ Ok pieces

abbrev Fails : List (List ℕ) → ℕ → Type 0
Fails lines number = cert_of (headed lines) ≡ Err number

-- two pieces, one with two cuts: a cut without members, and one of two junctions
abbrev first_piece : PieceCert
first_piece = record {
  retraced = 12;
  walk = record { line = 0; back = false } ∷ record { line = 1; back = true } ∷ [];
  cuts = record { weight = 1; members = [] } ∷ record { weight = 20; members = 0 ∷ 2 ∷ [] } ∷ [];
}

-- one without cuts
abbrev second_piece : PieceCert
second_piece = record { retraced = 0; walk = record { line = 9; back = false } ∷ []; cuts = [] }

-- the lines with these meanings
abbrev two_pieces : List (List ℕ)
two_pieces = codes "piece 12" ∷ codes "walk 1 -2" ∷ codes "cut 1" ∷ codes "cut 20 1 3" ∷ codes "piece 0"
    ∷ codes "walk 10" ∷ codes "end" ∷ []

-- their text
pub known_text : certificate_text (first_piece ∷ second_piece ∷ []) ≡ headed two_pieces
unfolding digits
known_text = refl

-- the certificate of the text
pub known_pieces : Says two_pieces (first_piece ∷ second_piece ∷ [])
known_pieces = refl

-- no piece at all
pub known_empty : certificate_text [] ≡ headed (codes "end" ∷ []) × Says (codes "end" ∷ []) []
known_empty = (refl, refl)

-- numbers as words: none, zero, a zero before a digit, the greatest and the one above it, a letter, a sign
pub known_numbers : (parsed_cert_number [] ≡ None) × (parsed_cert_number (codes "0") ≡ Some 0) × (parsed_cert_number (codes "00") ≡ None)
    × (parsed_cert_number (codes "07") ≡ None) × (parsed_cert_number (codes "70") ≡ Some 70)
    × (parsed_cert_number (codes "4294967295") ≡ Some 4294967295) × (parsed_cert_number (codes "4294967296") ≡ None)
    × (parsed_cert_number (codes "7a") ≡ None) × (parsed_cert_number (codes "/") ≡ None) × (parsed_cert_number (codes ":") ≡ None)
    × (parsed_cert_number (codes "+7") ≡ None)
known_numbers = (refl, refl, refl, refl, refl, refl, refl, refl, refl, refl, refl)

-- passes: the greatest index is one below the greatest number
pub known_passes : (parsed_pass (codes "4294967295") ≡ Some (record { line = 4294967294; back = false }))
    × (parsed_pass (codes "-3") ≡ Some (record { line = 2; back = true }))
    × (parsed_pass (codes "0") ≡ None) × (parsed_pass (codes "-0") ≡ None) × (parsed_pass (codes "-") ≡ None)
    × (parsed_pass (codes "--1") ≡ None) × (parsed_pass (codes "4294967296") ≡ None)
known_passes = (refl, refl, refl, refl, refl, refl, refl)

-- words: each space parts two, which may be empty
pub known_words : (words_in (codes "a  b ") ≡ codes "a" ∷ [] ∷ codes "b" ∷ [] ∷ []) × (words_in [] ≡ [] ∷ [])
known_words = (refl, refl)

-- the first line
pub known_heads : (cert_of [] ≡ Err 1) × (cert_of (codes "redwork-certificate 1") ≡ Err 1)
    × (cert_of (ended (codes "redwork-certificate 2" ∷ codes "end" ∷ [])) ≡ Err 1)
    × (cert_of (ended (codes "redwork-certificate  1" ∷ codes "end" ∷ [])) ≡ Err 1)
    × (cert_of (ended (codes "end" ∷ [])) ≡ Err 1)
known_heads = (refl, refl, refl, refl, refl)

-- numbers and words that don't fit
pub known_words_failed : Fails (codes "piece 01" ∷ codes "walk 1" ∷ codes "end" ∷ []) 2
    × Fails (codes "piece 4294967296" ∷ codes "walk 1" ∷ codes "end" ∷ []) 2
    × Fails (codes "piece" ∷ codes "walk 1" ∷ codes "end" ∷ []) 2
    × Fails (codes "piece 1 2" ∷ codes "walk 1" ∷ codes "end" ∷ []) 2
    × Fails (codes "piece 0" ∷ codes "walk" ∷ codes "end" ∷ []) 3
    × Fails (codes "piece 0" ∷ codes "walk 0" ∷ codes "end" ∷ []) 3
    × Fails (codes "piece 0" ∷ codes "walk 1 " ∷ codes "end" ∷ []) 3
    × Fails (codes "piece 0" ∷ codes "walk 1" ∷ codes "cut 0 1" ∷ codes "end" ∷ []) 4
    × Fails (codes "piece 0" ∷ codes "walk 1" ∷ codes "cut" ∷ codes "end" ∷ []) 4
    × Fails (codes "piece 0" ∷ codes "walk 1" ∷ codes "cut 1 2 1" ∷ codes "end" ∷ []) 4
    × Fails (codes "piece 0" ∷ codes "walk 1" ∷ codes "cut 1 1 1" ∷ codes "end" ∷ []) 4
    × Fails (codes "piece 0" ∷ codes "walk 1" ∷ codes "cut 1 0" ∷ codes "end" ∷ []) 4
    × Fails (codes "piece 0" ∷ codes "walk 1" ∷ codes "hem 1" ∷ codes "end" ∷ []) 4
    × Fails ([] ∷ codes "end" ∷ []) 2
known_words_failed = (refl, refl, refl, refl, refl, refl, refl, refl, refl, refl, refl, refl, refl, refl)

-- lines that may not stand where they do
pub known_order_failed : Fails (codes "redwork-certificate 1" ∷ codes "end" ∷ []) 2
    × Fails (codes "walk 1" ∷ codes "end" ∷ []) 2
    × Fails (codes "cut 1" ∷ codes "end" ∷ []) 2
    × Fails (codes "piece 0" ∷ codes "cut 1" ∷ codes "walk 1" ∷ codes "end" ∷ []) 3
    × Fails (codes "piece 0" ∷ codes "piece 0" ∷ codes "walk 1" ∷ codes "end" ∷ []) 3
    × Fails (codes "piece 0" ∷ codes "end" ∷ []) 3
    × Fails (codes "piece 0" ∷ codes "walk 1" ∷ codes "walk 1" ∷ codes "end" ∷ []) 4
    × Fails (codes "piece 0" ∷ codes "walk 1" ∷ []) 4
    × Fails (codes "end" ∷ codes "end" ∷ []) 3
    × Fails (codes "end" ∷ [] ∷ []) 3
    × Fails (codes "end" ∷ codes "piece 0" ∷ codes "walk 1" ∷ codes "end" ∷ []) 3
    × Fails (codes "piece 0" ∷ codes "redwork-certificate 1" ∷ codes "walk 1" ∷ codes "end" ∷ []) 3
    × Fails (codes "piece 0" ∷ codes "walk 1" ∷ codes "redwork-certificate 1" ∷ codes "end" ∷ []) 4
known_order_failed = (refl, refl, refl, refl, refl, refl, refl, refl, refl, refl, refl, refl, refl)

-- bytes after the last line end
pub known_rests_failed : (cert_of (headed (codes "piece 0" ∷ []) ++ codes "walk 1") ≡ Err 3)
    × (cert_of (headed (codes "end" ∷ []) ++ codes " ") ≡ Err 3)
    × (cert_of (headed [] ++ codes "end") ≡ Err 2)
known_rests_failed = (refl, refl, refl)

-- the first lines of a text of two lines and a byte
pub known_first_lines : (first_lines 0 (97 ∷ 10 ∷ 10 ∷ 98 ∷ []) ≡ [])
    × (first_lines 1 (97 ∷ 10 ∷ 10 ∷ 98 ∷ []) ≡ 97 ∷ 10 ∷ [])
    × (first_lines 2 (97 ∷ 10 ∷ 10 ∷ 98 ∷ []) ≡ 97 ∷ 10 ∷ 10 ∷ [])
known_first_lines = (refl, refl, refl)
