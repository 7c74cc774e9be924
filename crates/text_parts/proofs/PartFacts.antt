-- Worked values of the parts of texts.
use Rattle.std.proofs.Common.{◌≡◌, [], ◌∷◌, None, Some, codes, refl}
use Rattle.text_parts.specs.Parts.{parts_between, split_at_byte, words_in}

-- one part more than marks, and an empty one beside a mark at an end
pub known_parts_between : (parts_between 44 (codes "12,,-7,") ≡ codes "12" ∷ [] ∷ codes "-7" ∷ [] ∷ [])
    × (parts_between 44 [] ≡ [] ∷ [])
known_parts_between = (refl, refl)

-- the first mark splits, and an empty part may stand beside it
pub known_split : (split_at_byte 44 (codes "12,-7,3") ≡ Some (codes "12", codes "-7,3"))
    × (split_at_byte 44 (codes ",") ≡ Some ([], []))
    × (split_at_byte 44 (codes "12") ≡ None)
known_split = (refl, refl, refl)

-- two spaces have an empty word between them, and a tab parts no words
pub known_words : words_in (codes "cut 2  9\t10") ≡ codes "cut" ∷ codes "2" ∷ [] ∷ codes "9\t10" ∷ []
known_words = refl
