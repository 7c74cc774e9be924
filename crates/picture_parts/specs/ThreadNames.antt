-- The names of threads by their numbers in the palette of Brother's PEC format, as public programs
-- list them: libembroidery, `thread-color.c`, and pyembroidery, `EmbThreadPec.py`.
use Rattle.std.specs.Prelude.{ℕ, ◌+◌, ◌-◌, ◌*◌, ◌%◌, List, ◌++◌, codes, drop, length, take}
use Rattle.std.specs.Char.{is_ascii_whitespace}
use Rattle.std.specs.List.{suffix_len}

-- The names of the threads 1 to 64, fifteen characters each, with spaces at their ends.
abbrev pub thread_names : List ℕ
thread_names =
    codes "Prussian Blue  Blue           Teal Green     Cornflower Blue"
    ++ (codes "Red            Reddish Brown  Magenta        Light Lilac    "
    ++ (codes "Lilac          Mint Green     Deep Gold      Orange         "
    ++ (codes "Yellow         Lime Green     Brass          Silver         "
    ++ (codes "Russet Brown   Cream Brown    Pewter         Black          "
    ++ (codes "Ultramarine    Royal Purple   Dark Gray      Dark Brown     "
    ++ (codes "Deep Rose      Light Brown    Salmon Pink    Vermilion      "
    ++ (codes "White          Violet         Seacrest       Sky Blue       "
    ++ (codes "Pumpkin        Cream Yellow   Khaki          Clay Brown     "
    ++ (codes "Leaf Green     Peacock Blue   Gray           Warm Gray      "
    ++ (codes "Dark Olive     Flesh Pink     Pink           Deep Green     "
    ++ (codes "Lavender       Wisteria VioletBeige          Carmine        "
    ++ (codes "Amber Red      Olive Green    Dark Fuchsia   Tangerine      "
    ++ (codes "Light Blue     Emerald Green  Purple         Moss Green     "
    ++ (codes "Flesh Pink     Harvest Gold   Electric Blue  Lemon Yellow   "
    ++ codes "Fresh Green    Orange         Cream Yellow   Applique       "))))))))))))))

-- A text without the white space at its end.
abbrev pub without_end_white_space : List ℕ → List ℕ
without_end_white_space text = take (length text - suffix_len is_ascii_whitespace text) text

-- The name of a thread. Beyond the 64 numbers of the palette the names repeat.
unfoldable pub name_of_thread : ℕ → List ℕ
name_of_thread thread =
    without_end_white_space (take 15 (drop (15 * ((thread + 63) % 64)) thread_names))
