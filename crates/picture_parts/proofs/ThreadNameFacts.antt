-- The 64 names of the palette, as pyembroidery lists them in `EmbThreadPec.py`.
use Rattle.std.proofs.Common.{◌≡◌, [], ◌∷◌, codes, map, refl, length, ◌++◌}
use Rattle.std.specs.List.{range_with_len}
use Rattle.picture_parts.specs.ThreadNames.{name_of_thread, thread_names, without_end_white_space}

-- The threads 1 to 64, four a line.
pub known_names : map name_of_thread (range_with_len 1 64) ≡
    codes "Prussian Blue" ∷ codes "Blue" ∷ codes "Teal Green" ∷ codes "Cornflower Blue"
    ∷ codes "Red" ∷ codes "Reddish Brown" ∷ codes "Magenta" ∷ codes "Light Lilac"
    ∷ codes "Lilac" ∷ codes "Mint Green" ∷ codes "Deep Gold" ∷ codes "Orange"
    ∷ codes "Yellow" ∷ codes "Lime Green" ∷ codes "Brass" ∷ codes "Silver"
    ∷ codes "Russet Brown" ∷ codes "Cream Brown" ∷ codes "Pewter" ∷ codes "Black"
    ∷ codes "Ultramarine" ∷ codes "Royal Purple" ∷ codes "Dark Gray" ∷ codes "Dark Brown"
    ∷ codes "Deep Rose" ∷ codes "Light Brown" ∷ codes "Salmon Pink" ∷ codes "Vermilion"
    ∷ codes "White" ∷ codes "Violet" ∷ codes "Seacrest" ∷ codes "Sky Blue"
    ∷ codes "Pumpkin" ∷ codes "Cream Yellow" ∷ codes "Khaki" ∷ codes "Clay Brown"
    ∷ codes "Leaf Green" ∷ codes "Peacock Blue" ∷ codes "Gray" ∷ codes "Warm Gray"
    ∷ codes "Dark Olive" ∷ codes "Flesh Pink" ∷ codes "Pink" ∷ codes "Deep Green"
    ∷ codes "Lavender" ∷ codes "Wisteria Violet" ∷ codes "Beige" ∷ codes "Carmine"
    ∷ codes "Amber Red" ∷ codes "Olive Green" ∷ codes "Dark Fuchsia" ∷ codes "Tangerine"
    ∷ codes "Light Blue" ∷ codes "Emerald Green" ∷ codes "Purple" ∷ codes "Moss Green"
    ∷ codes "Flesh Pink" ∷ codes "Harvest Gold" ∷ codes "Electric Blue" ∷ codes "Lemon Yellow"
    ∷ codes "Fresh Green" ∷ codes "Orange" ∷ codes "Cream Yellow" ∷ codes "Applique" ∷ []
unfolding name_of_thread
known_names = refl

-- The numbers 0 and 65 to 255 repeat the palette.
pub known_repeats : map name_of_thread (0 ∷ 65 ∷ 255 ∷ []) ≡ codes "Applique" ∷ codes "Prussian Blue" ∷ codes "Cream Yellow" ∷ []
unfolding name_of_thread
known_repeats = refl

-- 64 names of fifteen characters
pub known_length : length thread_names ≡ 960
known_length = refl

-- white space inside and at the beginning stays
pub known_end : map without_end_white_space (codes " Light Lilac    " ∷ (codes "a" ++ 9 ∷ 10 ∷ []) ∷ codes "   " ∷ [])
    ≡ codes " Light Lilac" ∷ codes "a" ∷ [] ∷ []
known_end = refl
