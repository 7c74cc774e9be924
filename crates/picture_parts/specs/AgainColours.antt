-- The colour of what is sewn again: of blue and orange the one that is farther from the thread's
-- colour, so that it is seen on every thread (own).
use Rattle.std.specs.Prelude.{ℕ, ◌+◌, ◌-◌, ◌*◌, max, min, nat_le, List, Option, Some, None, codes, slice_get, if◌then◌else◌}
use Rattle.picture_parts.specs.Colours.{colour_of_thread}

-- The two colours of what is sewn again.
abbrev pub again_blue : List ℕ
again_blue = codes "#1d3bd1"

abbrev pub again_orange : List ℕ
again_orange = codes "#ff6a00"

-- The number of a hexadecimal digit, in small letters.
abbrev pub digit_value : ℕ → ℕ
digit_value code = if nat_le 97 code then code - 87 else code - 48

-- The number of a digit that a colour has, or 0.
abbrev pub digit_if_there : Option ℕ → ℕ
digit_if_there None = 0
digit_if_there (Some code) = digit_value code

-- Red, green or blue of a colour, whose two digits begin at an index.
abbrev pub channel_of : List ℕ → ℕ → ℕ
channel_of colour index = 16 * digit_if_there (slice_get colour index)
    + digit_if_there (slice_get colour (index + 1))

-- The square of the difference of two numbers.
abbrev pub difference_squared : ℕ → ℕ → ℕ
difference_squared a b = (max a b - min a b) * (max a b - min a b)

-- The square of the distance of two colours, in red, green and blue from 0 to 255.
abbrev pub colour_distance : List ℕ → List ℕ → ℕ
colour_distance a b = difference_squared (channel_of a 1) (channel_of b 1)
    + (difference_squared (channel_of a 3) (channel_of b 3)
    + difference_squared (channel_of a 5) (channel_of b 5))

-- The colour of what is sewn again with a thread.
unfoldable pub again_colour_of : ℕ → List ℕ
again_colour_of thread =
    if nat_le (colour_distance (colour_of_thread thread) again_orange)
    (colour_distance (colour_of_thread thread) again_blue)
    then again_blue else again_orange
