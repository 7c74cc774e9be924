-- Worked values of the lookup of a name's format.
use Rattle.std.proofs.Common.{◌≡◌, ℕ, true, false, List, [], ◌∷◌, map, Some, None, Ok, refl, codes}
use Rattle.format_traits.proofs.Names.{ending_in, Meaning, format_index, is_ending_byte}

-- a format with that ending, of no further interest
abbrev pub named : List ℕ → Meaning
named ending = record {
  ending = ending;
  limit = 121;
  reads = λ bytes. Ok (record { design = record { label = []; threads = []; commands = [] }; ended = true });
  writes = λ d. Ok [];
  moves = λ bytes. [];
  shown = λ bytes. [];
}

-- the part after the last dot, which may be empty
pub known_ending_in : (ending_in (codes "a.b.dst") ≡ Some (codes "dst"))
    × (ending_in (codes "a.") ≡ Some [])
    × (ending_in (codes "dst") ≡ None)
known_ending_in = (refl, refl, refl)

-- capitals are read as small letters, the first of two equal endings is found, and no other ending is
pub known_format_index : (format_index (named (codes "exp") ∷ named (codes "dst") ∷ named (codes "dst") ∷ []) (codes "sq.DST") ≡ Some 1)
    × (format_index (named (codes "dst") ∷ []) (codes "a.b.dst") ≡ Some 0)
    × (format_index (named (codes "dst") ∷ []) (codes ".dst") ≡ Some 0)
    × (format_index (named (codes "dst") ∷ []) (codes "a.jef") ≡ None)
    × (format_index (named (codes "dst") ∷ []) (codes "dst") ≡ None)
    × (format_index (named (codes "dst") ∷ []) (codes "a.") ≡ None)
known_format_index = (refl, refl, refl, refl, refl, refl)

-- a, z, 0 and 9 may stand in an ending, and what lies next to them and capitals may not
pub known_ending_bytes : (map is_ending_byte (97 ∷ 122 ∷ 48 ∷ 57 ∷ []) ≡ true ∷ true ∷ true ∷ true ∷ [])
    × (map is_ending_byte (96 ∷ 123 ∷ 47 ∷ 58 ∷ 65 ∷ 90 ∷ [])
    ≡ false ∷ false ∷ false ∷ false ∷ false ∷ false ∷ [])
known_ending_bytes = (refl, refl)
