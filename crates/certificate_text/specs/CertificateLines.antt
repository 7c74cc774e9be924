-- The meaning of one line of a certificate text, as its bytes without the 10 that ends it. Own
-- text: words are separated by one space. Lines of a drawing and junctions of a piece have numbers
-- from 1.
use Rattle.std.specs.Prelude.{ℕ, ◌-◌, ◌==◌, ◌^◌, ◌&&◌, Bool, true, false, not, nat_lt, List, [], ◌∷◌, Option, Some, None, bytes_eq, codes, option_map, if◌then◌else◌}
use Rattle.std.specs.Char.{is_ascii_digit}
use Rattle.std.specs.Option.{option_and_then}
use Rattle.std.specs.Str.{all_ascii_digits}
use Rattle.std.specs.Str.Parse.{digits_value}
use Rattle.certificate_text.specs.declared.lines.CertLine.{CertLine}
use Rattle.certificate_text.specs.declared.lines.CertLine.TheVariants as line
use Rattle.odd_cuts.specs.declared.cut.Cut.{Cut}
use Rattle.line_graph.specs.declared.pass.Pass.{Pass}
use Rattle.text_parts.specs.Parts.{words_in}

-- A numeral without leading zeros: decimal digits, where the first is 0 only if it is the only one.
abbrev pub is_canonical_numeral : List ℕ → Bool
is_canonical_numeral [] = false
is_canonical_numeral (b ∷ []) = is_ascii_digit b
is_canonical_numeral (b ∷ c ∷ rest) = not (b == 48) && all_ascii_digits (b ∷ c ∷ rest)

-- A number, if it is below 2 ^ 32.
abbrev pub small_number : ℕ → Option ℕ
small_number number = if nat_lt number (2 ^ 32) then Some number else None

-- The number that a word denotes, if it is a numeral without leading zeros below 2 ^ 32.
abbrev pub parsed_cert_number : List ℕ → Option ℕ
parsed_cert_number word = if is_canonical_numeral word then small_number (digits_value 10 word)
    else None

-- The number that the only word denotes, if there is one word and it is a number.
abbrev pub only_number : List (List ℕ) → Option ℕ
only_number (word ∷ []) = parsed_cert_number word
only_number words = None

-- The number that a word denotes, if it is greater than the given one.
abbrev pub parsed_number_above : ℕ → List ℕ → Option ℕ
parsed_number_above least word =
    option_and_then (λ number. if nat_lt least number then Some number else None)
    (parsed_cert_number word)

-- The pass along the line whose number a word denotes.
abbrev pub parsed_pass_along : Bool → List ℕ → Option Pass
parsed_pass_along back word =
    option_map (λ number. record { line = number - 1; back = back }) (parsed_number_above 0 word)

-- The pass that a word denotes. A minus sign (45) marks a pass that goes backwards.
abbrev pub parsed_pass : List ℕ → Option Pass
parsed_pass [] = None
parsed_pass (b ∷ rest) = if b == 45 then parsed_pass_along true rest else parsed_pass_along false
    (b ∷ rest)

-- The passes that words denote.
abbrev pub parsed_passes : List (List ℕ) → Option (List Pass)
parsed_passes [] = Some []
parsed_passes (word ∷ rest) =
    option_and_then (λ pass. option_map (λ passes. pass ∷ passes) (parsed_passes rest))
    (parsed_pass word)

-- The passes that one or more words denote.
abbrev pub parsed_walk : List (List ℕ) → Option (List Pass)
parsed_walk [] = None
parsed_walk (word ∷ rest) = parsed_passes (word ∷ rest)

-- The members of a cut that words denote, each by a number greater than the one before.
abbrev pub parsed_members_after : ℕ → List (List ℕ) → Option (List ℕ)
parsed_members_after before [] = Some []
parsed_members_after before (word ∷ rest) =
    option_and_then
    (λ number. option_map (λ members. (number - 1) ∷ members) (parsed_members_after number rest))
    (parsed_number_above before word)

-- The cut that words denote: a weight of at least one half, and the members.
abbrev pub parsed_cut : List (List ℕ) → Option Cut
parsed_cut [] = None
parsed_cut (word ∷ rest) =
    option_and_then (λ weight. option_map (λ members. record { weight = weight; members = members })
    (parsed_members_after 0 rest)) (parsed_number_above 0 word)

-- The meaning of the words of a line, if there is one. The first word decides the kind of line.
abbrev pub parsed_cert_words : List (List ℕ) → Option CertLine
parsed_cert_words [] = None
parsed_cert_words (word ∷ rest) =
    if bytes_eq word (codes "piece") then option_map line.Piece (only_number rest)
    else if bytes_eq word (codes "walk") then option_map line.Walk (parsed_walk rest)
    else if bytes_eq word (codes "cut") then option_map line.Cut (parsed_cut rest)
    else None

-- The meaning of a line, if there is one.
abbrev pub parsed_cert_line : List ℕ → Option CertLine
parsed_cert_line bytes =
    if bytes_eq bytes (codes "redwork-certificate 1") then Some line.Head
    else if bytes_eq bytes (codes "end") then Some line.End
    else parsed_cert_words (words_in bytes)
