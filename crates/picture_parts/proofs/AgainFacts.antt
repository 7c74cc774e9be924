-- The colours of what is sewn again, of all 64 threads and of numbers beyond them, computed from the palette outside of this project.
use Rattle.std.proofs.Common.{◌≡◌, ℕ, true, List, [], ◌∷◌, codes, map, refl}
use Rattle.std.specs.List.{list_all, range_with_len}
use Rattle.std.specs.Prelude.{◌*◌, nat_le}
use Rattle.picture_parts.specs.AgainColours.{again_colour_of, channel_of, colour_distance}
use Rattle.picture_parts.specs.Colours.{colour_of_thread}

abbrev blue : List ℕ
blue = codes "#1d3bd1"

abbrev orange : List ℕ
orange = codes "#ff6a00"

-- The threads 1 to 64, eight a line: orange on blue, violet, green and dark threads, blue on red, yellow and light ones.
pub known_again : map again_colour_of (range_with_len 1 64) ≡
    orange ∷ orange ∷ orange ∷ orange ∷ blue ∷ blue ∷ orange ∷ blue
    ∷ orange ∷ blue ∷ blue ∷ blue ∷ blue ∷ blue ∷ blue ∷ orange
    ∷ blue ∷ blue ∷ orange ∷ orange ∷ orange ∷ orange ∷ orange ∷ orange
    ∷ blue ∷ blue ∷ blue ∷ blue ∷ blue ∷ orange ∷ orange ∷ orange
    ∷ blue ∷ blue ∷ blue ∷ blue ∷ blue ∷ orange ∷ orange ∷ blue
    ∷ blue ∷ blue ∷ blue ∷ orange ∷ orange ∷ orange ∷ blue ∷ blue
    ∷ blue ∷ orange ∷ blue ∷ blue ∷ orange ∷ orange ∷ orange ∷ orange
    ∷ blue ∷ blue ∷ orange ∷ blue ∷ blue ∷ blue ∷ blue ∷ blue ∷ []
unfolding again_colour_of colour_of_thread
known_again = refl

-- The numbers 0 and 65 are those of 64 and 1.
pub known_again_beyond : map again_colour_of (0 ∷ 65 ∷ []) ≡ blue ∷ orange ∷ []
unfolding again_colour_of colour_of_thread
known_again_beyond = refl

-- Red, green and blue of the thread 2, Blue: 10, 85 and 163; and the square of its distance from the blue, 29, 59 and 209, is 361, 676
-- and 2116 together.
pub known_channels : map (channel_of (codes "#0a55a3")) (1 ∷ 3 ∷ 5 ∷ []) ≡ 10 ∷ 85 ∷ 163 ∷ []
known_channels = refl

pub known_distance : colour_distance (codes "#0a55a3") blue ≡ 3153
known_distance = refl

-- No thread is nearer than 182 to the colour of what is sewn again with it: the nearest is Gray, 39.
pub known_contrast : list_all (λ n. nat_le (182 * 182) (colour_distance (colour_of_thread n) (again_colour_of n))) (range_with_len 1 64)
    ≡ true
unfolding again_colour_of colour_of_thread
known_contrast = refl
