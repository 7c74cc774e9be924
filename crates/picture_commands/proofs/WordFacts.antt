-- Worked values of requests, of mistakes, and of orders.
use Rattle.std.proofs.Common.{◌≡◌, ℕ, List, true, false, [], ◌∷◌, Option, Some, None, Ok, Err, codes, map, replicate, refl}
use Rattle.program_texts.specs.MistakenWords.{mistaken}
use Rattle.format_traits.specs.Meanings.{Meaning}
use Rattle.picture_commands.specs.Orders.{drawing, picture_mistake, picture_order, proving, showing}
use Rattle.picture_parts.specs.declared.sizes.PictureSize.{PictureSize}
use Rattle.picture_commands.specs.Names.{has_svg_ending, is_hex_digit, side_word}
use Rattle.picture_commands.specs.ParsedWords.{parsed_picture_words}
use Rattle.picture_commands.specs.SizeWords.{size_in_text}
use Rattle.picture_commands.specs.Words.{help, picture, proof, version}

-- A picture's name ends in `.svg`, in small letters.
pub known_pictures : (map has_svg_ending (codes "a.svg" ∷ codes "a.SVG" ∷ codes "svg" ∷ codes "a.svg.pes" ∷ codes "a.svgz" ∷ [])
    ≡ true ∷ false ∷ false ∷ false ∷ false ∷ [])
    -- Two names request a picture, the input first; with two sides it has a hoop, the width first. Three names request a proof.
    × (map parsed_picture_words ((codes "a.pes" ∷ codes "b.svg" ∷ []) ∷
    (codes "a.pes" ∷ codes "b.svg" ∷ codes "1" ∷ codes "20" ∷ []) ∷ (codes "a" ∷ codes "b" ∷ codes "c.svg" ∷ [])
    ∷ (codes "--help" ∷ []) ∷ (codes "--version" ∷ []) ∷ [] ∷ [])
    ≡ Ok (picture (record { input = codes "a.pes"; output = codes "b.svg"; hoop = None; cloth = None; size = None }))
    ∷ Ok (picture (record {
      input = codes "a.pes";
      output = codes "b.svg";
      hoop = Some (record { width = 1; height = 20 });
      cloth = None;
      size = None;
    }))
    ∷ Ok (proof (record { drawing = codes "a"; cert = codes "b"; output = codes "c.svg"; size = None }))
    ∷ Ok help ∷ Ok version ∷ Err None ∷ [])
    -- A side is a number from 1 to 100000.
    × (map side_word (codes "1" ∷ codes "100000" ∷ codes "0" ∷ codes "100001" ∷ codes "-5" ∷ codes "x" ∷ codes "9999999999" ∷ [])
    ≡ Some 1 ∷ Some 100000 ∷ None ∷ None ∷ None ∷ None ∷ None ∷ [])
known_pictures = (refl, refl, refl)

-- arguments of which one isn't understood, over no format
abbrev IsMistaken : List (List ℕ) → (word why : List ℕ) → Type 0
IsMistaken words word why = (picture_order [] words ≡ None) × (picture_mistake [] words ≡ Some (mistaken word why))

-- The first argument that isn't understood is named, with what is wrong with it.
pub known_names : IsMistaken (codes "a.pes" ∷ []) (codes "a.pes") (codes "needs the name of a picture")
    × IsMistaken (codes "--hlp" ∷ []) (codes "--hlp") (codes "needs the name of a picture")
    × IsMistaken ([] ∷ codes "b.svg" ∷ []) [] (codes "not a file name")
    × IsMistaken (codes "a.pes" ∷ [] ∷ []) [] (codes "not a file name")
    × IsMistaken (codes "a.svg" ∷ codes "b.pes" ∷ []) (codes "b.pes") (codes "needs the ending .svg")
    × IsMistaken (codes "b.svg" ∷ codes "b.svg" ∷ []) (codes "b.svg") (codes "is an input")
known_names = ((refl, refl), (refl, refl), (refl, refl), (refl, refl), (refl, refl), (refl, refl))

-- Those of a proof.
pub known_proof_names : IsMistaken (codes "c.svg" ∷ codes "b" ∷ codes "c.svg" ∷ []) (codes "c.svg") (codes "is an input")
    × IsMistaken (codes "a" ∷ codes "c.svg" ∷ codes "c.svg" ∷ []) (codes "c.svg") (codes "is an input")
    × IsMistaken ([] ∷ codes "b" ∷ codes "c" ∷ []) [] (codes "not a file name")
    × IsMistaken (codes "a" ∷ [] ∷ codes "c" ∷ []) [] (codes "not a file name")
    × IsMistaken (codes "a" ∷ codes "b" ∷ codes "c" ∷ []) (codes "c") (codes "needs the ending .svg")
known_proof_names = ((refl, refl), (refl, refl), (refl, refl), (refl, refl), (refl, refl))

-- Those of a hoop, which no drawing has.
pub known_hoops : IsMistaken (codes "a.pes" ∷ codes "b.pes" ∷ codes "0" ∷ codes "0" ∷ []) (codes "b.pes") (codes "needs the ending .svg")
    × IsMistaken (codes "a.pes" ∷ codes "b.svg" ∷ codes "0" ∷ codes "x" ∷ []) (codes "0") (codes "from 1 to 100000")
    × IsMistaken (codes "a.pes" ∷ codes "b.svg" ∷ codes "9" ∷ codes "x" ∷ []) (codes "x") (codes "from 1 to 100000")
    × IsMistaken (codes "a.pes" ∷ codes "b.svg" ∷ codes "9" ∷ codes "9" ∷ codes "8" ∷ codes "7" ∷ []) (codes "8") (codes "not understood")
    × IsMistaken (codes "a.rw" ∷ codes "b.svg" ∷ codes "9" ∷ codes "9" ∷ []) (codes "a.rw") (codes "no format has this ending")
known_hoops = ((refl, refl), (refl, refl), (refl, refl), (refl, refl), (refl, refl))

-- A plain picture is on white or on the colour of six digits, and no proof; `plain` alone is no name of a picture.
pub known_plain : (map parsed_picture_words ((codes "a.pes" ∷ codes "b.svg" ∷ codes "plain" ∷ [])
    ∷ (codes "a.pes" ∷ codes "b.svg" ∷ codes "plain=09aFAf" ∷ []) ∷ (codes "a" ∷ codes "plain" ∷ codes "c.svg" ∷ []) ∷ [])
    ≡ Ok (picture (record { input = codes "a.pes"; output = codes "b.svg"; hoop = None; cloth = Some (codes "ffffff"); size = None }))
    ∷ Ok (picture (record { input = codes "a.pes"; output = codes "b.svg"; hoop = None; cloth = Some (codes "09aFAf"); size = None }))
    ∷ Ok (proof (record { drawing = codes "a"; cert = codes "plain"; output = codes "c.svg"; size = None })) ∷ [])
    × (map is_hex_digit (47 ∷ 48 ∷ 57 ∷ 58 ∷ 64 ∷ 65 ∷ 70 ∷ 71 ∷ 96 ∷ 97 ∷ 102 ∷ 103 ∷ [])
    ≡ false ∷ true ∷ true ∷ false ∷ false ∷ true ∷ true ∷ false ∷ false ∷ true ∷ true ∷ false ∷ [])
known_plain = (refl, refl)

-- A colour has six digits, and no drawing is plain.
pub known_colours : IsMistaken (codes "a.pes" ∷ codes "b.svg" ∷ codes "plain=fffff" ∷ []) (codes "plain=fffff")
    (codes "needs six hexadecimal digits")
    × IsMistaken (codes "a.pes" ∷ codes "b.svg" ∷ codes "plain=fffffff" ∷ []) (codes "plain=fffffff") (codes "needs six hexadecimal digits")
    × IsMistaken (codes "a.pes" ∷ codes "b.svg" ∷ codes "plain=ffgfff" ∷ []) (codes "plain=ffgfff") (codes "needs six hexadecimal digits")
    × IsMistaken (codes "a.pes" ∷ codes "b.pes" ∷ codes "plain=" ∷ []) (codes "b.pes") (codes "needs the ending .svg")
    × IsMistaken (codes "a.pes" ∷ codes "b.svg" ∷ codes "plane" ∷ []) (codes "plane") (codes "needs the ending .svg")
    × IsMistaken (codes "a.rw" ∷ codes "b.svg" ∷ codes "plain" ∷ []) (codes "a.rw") (codes "no format has this ending")
known_colours = ((refl, refl), (refl, refl), (refl, refl), (refl, refl), (refl, refl), (refl, refl))

-- a size of whole millimetres
abbrev in_size : ℕ → ℕ → Option PictureSize
in_size width height = Some (record { width = width; height = height })

-- A size is the last argument: of a design, with a hoop, on a colour, or of a proof.
pub known_sizes : map parsed_picture_words ((codes "a.pes" ∷ codes "b.svg" ∷ codes "size=210x297" ∷ [])
    ∷ (codes "a.pes" ∷ codes "b.svg" ∷ codes "1" ∷ codes "20" ∷ codes "size=10x2000" ∷ [])
    ∷ (codes "a.pes" ∷ codes "b.svg" ∷ codes "plain" ∷ codes "size=2000x10" ∷ [])
    ∷ (codes "a" ∷ codes "b" ∷ codes "c.svg" ∷ codes "size=30x40" ∷ []) ∷ [])
    ≡ Ok (picture (record { input = codes "a.pes"; output = codes "b.svg"; hoop = None; cloth = None; size = in_size 210 297 }))
    ∷ Ok (picture (record {
      input = codes "a.pes";
      output = codes "b.svg";
      hoop = Some (record { width = 1; height = 20 });
      cloth = None;
      size = in_size 10 2000;
    }))
    ∷ Ok (picture (record {
      input = codes "a.pes";
      output = codes "b.svg";
      hoop = None;
      cloth = Some (codes "ffffff");
      size = in_size 2000 10;
    }))
    ∷ Ok (proof (record { drawing = codes "a"; cert = codes "b"; output = codes "c.svg"; size = in_size 30 40 })) ∷ []
known_sizes = refl

-- Two sides have an `x` between them, each from 10 to 2000.
pub known_size_texts : map size_in_text (codes "10x2000" ∷ codes "9x10" ∷ codes "10x9" ∷ codes "2001x10" ∷ codes "10x2001"
    ∷ codes "10" ∷ codes "10x" ∷ codes "x10" ∷ codes "10x10x10" ∷ codes "10X10" ∷ codes "-10x10" ∷ codes "10.5x10" ∷ [] ∷ [])
    ≡ in_size 10 2000 ∷ replicate 12 None
known_size_texts = refl

-- The mistakes of names come first, and a size is nothing but the last argument.
pub known_size_mistakes : IsMistaken (codes "a.pes" ∷ codes "b.svg" ∷ codes "size=9x9" ∷ []) (codes "size=9x9")
    (codes "needs WxH, each from 10 to 2000")
    × IsMistaken (codes "a.pes" ∷ codes "b.pes" ∷ codes "size=9x9" ∷ []) (codes "b.pes") (codes "needs the ending .svg")
    × IsMistaken (codes "a" ∷ codes "b" ∷ codes "c.svg" ∷ codes "size=" ∷ []) (codes "size=") (codes "needs WxH, each from 10 to 2000")
    × IsMistaken (codes "a.pes" ∷ codes "b.svg" ∷ codes "9" ∷ codes "9" ∷ codes "size=1x" ∷ []) (codes "size=1x")
    (codes "needs WxH, each from 10 to 2000")
    × IsMistaken (codes "a.pes" ∷ codes "b.svg" ∷ codes "9" ∷ codes "9" ∷ codes "sizes=10x10" ∷ []) (codes "sizes=10x10")
    (codes "not understood")
    × IsMistaken (codes "a.pes" ∷ codes "b.svg" ∷ codes "size=10x10" ∷ codes "plain" ∷ []) (codes "size=10x10") (codes "from 1 to 100000")
    × IsMistaken (codes "a.rw" ∷ codes "b.svg" ∷ codes "plain" ∷ codes "size=10x10" ∷ []) (codes "a.rw") (codes "no format has this ending")
known_size_mistakes = ((refl, refl), (refl, refl), (refl, refl), (refl, refl), (refl, refl), (refl, refl), (refl, refl))

-- a format with another ending
abbrev ending_as : Meaning → List ℕ → Meaning
ending_as format ending = record format { ending = ending }

-- The format is that of the input's ending, and a file of no format is a drawing, which has no hoop. A proof needs no format.
pub known_orders : (m : Meaning) → map (picture_order (ending_as m (codes "dst") ∷ ending_as m (codes "exp") ∷ []))
    ((codes "a.exp" ∷ codes "b.svg" ∷ []) ∷ (codes "a.rw" ∷ codes "b.svg" ∷ [])
    ∷ (codes "a" ∷ codes "b" ∷ codes "c.svg" ∷ []) ∷ (codes "a.exp" ∷ codes "b.svg" ∷ codes "size=10x20" ∷ [])
    ∷ (codes "a.rw" ∷ codes "b.svg" ∷ codes "size=10x20" ∷ []) ∷ [])
    ≡ Some (showing (record {
      format = ending_as m (codes "exp");
      input = codes "a.exp";
      output = codes "b.svg";
      hoop = None;
      cloth = None;
      size = None;
    }))
    ∷ Some (drawing (record { drawing = codes "a.rw"; output = codes "b.svg"; size = None }))
    ∷ Some (proving (record { drawing = codes "a"; cert = codes "b"; output = codes "c.svg"; size = None }))
    ∷ Some (showing (record {
      format = ending_as m (codes "exp");
      input = codes "a.exp";
      output = codes "b.svg";
      hoop = None;
      cloth = None;
      size = in_size 10 20;
    }))
    ∷ Some (drawing (record { drawing = codes "a.rw"; output = codes "b.svg"; size = in_size 10 20 })) ∷ []
known_orders m = refl

-- An order has no mistake.
pub known_right : (m : Meaning) → map (picture_mistake (ending_as m (codes "dst") ∷ []))
    ((codes "a.dst" ∷ codes "b.svg" ∷ codes "1" ∷ codes "20" ∷ []) ∷ (codes "a.rw" ∷ codes "b.svg" ∷ [])
    ∷ (codes "a" ∷ codes "b" ∷ codes "c.svg" ∷ []) ∷ (codes "--help" ∷ []) ∷ [] ∷ [])
    ≡ replicate 5 None
known_right m = refl
