-- The colours of threads by their numbers in the palette of Brother's PEC format, as public
-- programs list it: libembroidery, `thread-color.c`, and pyembroidery, `EmbThreadPec.py`.
use Rattle.std.specs.Prelude.{ℕ, ◌+◌, ◌*◌, ◌%◌, List, ◌++◌, codes, drop, take}

-- The colours of the threads 1 to 64, seven characters each.
abbrev pub thread_colours : List ℕ
thread_colours =
    codes "#0e1f7c#0a55a3#008777#4b6baf#ed171f#d15c00#913697#e49acb#915fac#9ed67d#e8a900#feba35"
    ++ (codes "#ffff00#70bc1f#ba9800#a8a8a8#7d6f00#ffffb3#4f5556#000000#0b3d91#770176#293133#2a1301"
    ++ (codes "#f64a8a#b27624#fcbbc5#fe370f#f0f0f0#6a1c8a#a8ddc4#2584bb#feb343#fff36b#d0a660#d15400"
    ++ (codes "#66ba49#134a46#878787#d8ccc6#435607#fdd9de#f993bc#003822#b2afd4#686ab0#efe3b9#f73866"
    ++ (codes "#b54b64#132b1a#c70156#fe9e32#a8deeb#00673e#4e2990#2f7e20#ffcccc#ffd911#095ba6#f0f970"
    ++ codes "#e3f35b#ff9900#fff08d#ffc8c8"))))

-- The colour of a thread. Beyond the 64 numbers of the palette the colours repeat.
unfoldable pub colour_of_thread : ℕ → List ℕ
colour_of_thread thread = take 7 (drop (7 * ((thread + 63) % 64)) thread_colours)
