-- The 64 colours of the palette, in red, green and blue from 0 to 255, as pyembroidery lists them in `EmbThreadPec.py`.
use Rattle.std.proofs.Common.{◌≡◌, ℕ, List, [], ◌∷◌, ◌++◌, codes, map, refl, length}
use Rattle.std.specs.List.{range_with_len}
use Rattle.std.specs.Prelude.{◌/◌, ◌%◌, drop, take}
use Rattle.picture_parts.specs.Colours.{colour_of_thread, thread_colours}

-- The hexadecimal digit of a number below 16.
abbrev hex_digit : ℕ → List ℕ
hex_digit n = take 1 (drop n (codes "0123456789abcdef"))

-- A number below 256 in two hexadecimal digits.
abbrev hex_pair : ℕ → List ℕ
hex_pair n = hex_digit (n / 16) ++ hex_digit (n % 16)

-- A colour in SVG, by its red, green and blue.
abbrev rgb : (red green blue : ℕ) → List ℕ
rgb red green blue = codes "#" ++ (hex_pair red ++ (hex_pair green ++ hex_pair blue))

-- The threads 1 to 64, from Prussian Blue to Applique, four a line.
pub known_palette : map colour_of_thread (range_with_len 1 64) ≡
    rgb 14 31 124 ∷ rgb 10 85 163 ∷ rgb 0 135 119 ∷ rgb 75 107 175
    ∷ rgb 237 23 31 ∷ rgb 209 92 0 ∷ rgb 145 54 151 ∷ rgb 228 154 203
    ∷ rgb 145 95 172 ∷ rgb 158 214 125 ∷ rgb 232 169 0 ∷ rgb 254 186 53
    ∷ rgb 255 255 0 ∷ rgb 112 188 31 ∷ rgb 186 152 0 ∷ rgb 168 168 168
    ∷ rgb 125 111 0 ∷ rgb 255 255 179 ∷ rgb 79 85 86 ∷ rgb 0 0 0
    ∷ rgb 11 61 145 ∷ rgb 119 1 118 ∷ rgb 41 49 51 ∷ rgb 42 19 1
    ∷ rgb 246 74 138 ∷ rgb 178 118 36 ∷ rgb 252 187 197 ∷ rgb 254 55 15
    ∷ rgb 240 240 240 ∷ rgb 106 28 138 ∷ rgb 168 221 196 ∷ rgb 37 132 187
    ∷ rgb 254 179 67 ∷ rgb 255 243 107 ∷ rgb 208 166 96 ∷ rgb 209 84 0
    ∷ rgb 102 186 73 ∷ rgb 19 74 70 ∷ rgb 135 135 135 ∷ rgb 216 204 198
    ∷ rgb 67 86 7 ∷ rgb 253 217 222 ∷ rgb 249 147 188 ∷ rgb 0 56 34
    ∷ rgb 178 175 212 ∷ rgb 104 106 176 ∷ rgb 239 227 185 ∷ rgb 247 56 102
    ∷ rgb 181 75 100 ∷ rgb 19 43 26 ∷ rgb 199 1 86 ∷ rgb 254 158 50
    ∷ rgb 168 222 235 ∷ rgb 0 103 62 ∷ rgb 78 41 144 ∷ rgb 47 126 32
    ∷ rgb 255 204 204 ∷ rgb 255 217 17 ∷ rgb 9 91 166 ∷ rgb 240 249 112
    ∷ rgb 227 243 91 ∷ rgb 255 153 0 ∷ rgb 255 240 141 ∷ rgb 255 200 200 ∷ []
unfolding colour_of_thread
known_palette = refl

-- The numbers 0 and 65 to 255 repeat the palette: 0, 128 and 192 are Applique, 65 is Prussian Blue, and 255 is 63, Cream Yellow.
pub known_repeats : map colour_of_thread (0 ∷ 128 ∷ 192 ∷ 65 ∷ 255 ∷ [])
    ≡ rgb 255 200 200 ∷ rgb 255 200 200 ∷ rgb 255 200 200 ∷ rgb 14 31 124 ∷ rgb 255 240 141 ∷ []
unfolding colour_of_thread
known_repeats = refl

-- 64 colours of seven characters
pub known_length : (length thread_colours ≡ 448) × (take 7 (drop 28 thread_colours) ≡ codes "#ed171f")
known_length = (refl, refl)
