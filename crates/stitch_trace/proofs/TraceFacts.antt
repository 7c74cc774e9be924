-- Worked values of links, chains and traced drawings.
use Rattle.std.proofs.Common.{◌≡◌, ◌∷◌, [], ℕ, true, false, pos, codes, List, Ok, Err, refl}
use Rattle.stitch_trace.proofs.Names.{Command, Point, DesignValue, LineValue, DrawingValue, acts_of, blocks_of, Link, BlockLink, IsCountLimit, are_distinct, drawn_links, is_one_step, sewn_links, label_first_word, traced}
use Rattle.design_model.specs.declared.command.Command.TheVariants as command
use Rattle.line_graph.specs.declared.draw_kind.DrawKind.TheVariants as kind
use Rattle.stitch_trace.specs.declared.trace_fault.TraceFault.TheVariants as fault

-- a place on the cloth
abbrev at : ℕ → ℕ → Point
at x y = record { x = pos x; y = pos y }

abbrev stitch : ℕ → ℕ → Command
stitch x y = command.Stitch (at x y)

-- a design of these commands, whose first block has thread 9
abbrev sewing : List Command → DesignValue
sewing commands = record { label = codes "old rose"; threads = 9 ∷ []; commands = commands }

-- a drawing of that step with these threads and lines
abbrev drawn : ℕ → List ℕ → List LineValue → DrawingValue
drawn step threads lines =
    record { label = codes "old"; step = step; threads = threads; lines = lines; starts = []; ends = [] }

abbrev line : ℕ → List Point → LineValue
line block points = record { block = block; points = points }

-- a square is one closed chain, and its greatest link is the step
pub known_traced : (traced (sewing (stitch 0 0 ∷ stitch 30 0 ∷ stitch 30 20 ∷ stitch 0 20 ∷ stitch 0 0 ∷ command.Trim ∷ []))
    ≡ Ok (drawn 30 (9 ∷ []) (line 0 (at 0 0 ∷ at 30 0 ∷ at 30 20 ∷ at 0 20 ∷ at 0 0 ∷ []) ∷ [])))
    -- a line there and back has each link once
    × (traced (sewing (stitch 0 0 ∷ stitch 10 0 ∷ stitch 20 0 ∷ stitch 10 0 ∷ stitch 0 0 ∷ command.Trim ∷ []))
    ≡ Ok (drawn 10 (9 ∷ []) (line 0 (at 0 0 ∷ at 10 0 ∷ at 20 0 ∷ []) ∷ [])))
    -- so has one that is sewn twice the same way, after a trim
    × (traced (sewing (stitch 0 0 ∷ stitch 10 0 ∷ command.Trim ∷ stitch 0 0 ∷ stitch 10 0 ∷ stitch 20 0 ∷ []))
    ≡ Ok (drawn 10 (9 ∷ []) (line 0 (at 0 0 ∷ at 10 0 ∷ []) ∷ line 0 (at 10 0 ∷ at 20 0 ∷ []) ∷ [])))
    -- a needle at the same point breaks no chain, and a link that was sewn before does; a chain is cut where its block has a
    -- needle point again
    × (traced (sewing (stitch 0 0 ∷ stitch 10 0 ∷ stitch 10 0 ∷ stitch 20 0 ∷ stitch 10 0 ∷ stitch 10 10 ∷ []))
    ≡ Ok (drawn 10 (9 ∷ []) (line 0 (at 0 0 ∷ at 10 0 ∷ []) ∷ line 0 (at 10 0 ∷ at 20 0 ∷ [])
    ∷ line 0 (at 10 0 ∷ at 10 10 ∷ []) ∷ [])))
    -- links that cross where no needle goes down stay whole
    × (traced (sewing (stitch 0 0 ∷ stitch 10 10 ∷ command.Trim ∷ stitch 0 10 ∷ stitch 10 0 ∷ []))
    ≡ Ok (drawn 10 (9 ∷ []) (line 0 (at 0 0 ∷ at 10 10 ∷ []) ∷ line 0 (at 0 10 ∷ at 10 0 ∷ []) ∷ [])))
known_traced = (refl, refl, refl, refl, refl)

-- nothing is sewn to a float, but from it; where it stays at its point the chain continues
pub known_floats : (traced (sewing (stitch 0 0 ∷ stitch 10 0 ∷ command.Jump (at 40 0) ∷ stitch 40 0 ∷ stitch 40 5 ∷ []))
    ≡ Ok (drawn 10 (9 ∷ []) (line 0 (at 0 0 ∷ at 10 0 ∷ []) ∷ line 0 (at 40 0 ∷ at 40 5 ∷ []) ∷ [])))
    × (traced (sewing (stitch 0 0 ∷ stitch 10 0 ∷ command.Jump (at 40 0) ∷ stitch 10 0 ∷ stitch 15 0 ∷ []))
    ≡ Ok (drawn 10 (9 ∷ []) (line 0 (at 0 0 ∷ at 10 0 ∷ at 15 0 ∷ []) ∷ [])))
known_floats = (refl, refl)

-- a block without a link has no block, and each block has its own links; block 2 has thread 3 by its place
pub known_blocks : (traced (sewing (stitch 0 0 ∷ stitch 7 0 ∷ command.Stop ∷ stitch 3 3 ∷ command.Stop ∷ stitch 7 0 ∷ stitch 0 0 ∷ []))
    ≡ Ok (drawn 7 (9 ∷ 3 ∷ []) (line 0 (at 0 0 ∷ at 7 0 ∷ []) ∷ line 1 (at 7 0 ∷ at 0 0 ∷ []) ∷ [])))
    -- a needle that stays sews nothing
    × (traced (sewing (stitch 5 0 ∷ stitch 5 0 ∷ command.Trim ∷ stitch 9 0 ∷ [])) ≡ Err fault.NoLinks)
known_blocks = (refl, refl)

-- the first link that is longer than the limit, down or across, has the command of its second needle
pub known_long : (traced (sewing (stitch 0 0 ∷ stitch 0 2047 ∷ [])) ≡ Ok (drawn 2047 (9 ∷ []) (line 0 (at 0 0 ∷ at 0 2047 ∷ []) ∷ [])))
    × (traced (sewing (command.Trim ∷ stitch 0 0 ∷ stitch 5 0 ∷ stitch 5 2048 ∷ stitch 9999 0 ∷ [])) ≡ Err (fault.LinkTooLong 4))
known_long = (refl, refl)

-- a label up to its first space
pub known_words : (label_first_word (codes "rose") ≡ codes "rose") × (label_first_word (codes " rose") ≡ []) × (label_first_word [] ≡ [])
known_words = (refl, refl, refl)

abbrev link : Point → Point → Link
link p q = record { from = p; to = q }

abbrev link_in : ℕ → Point → Point → BlockLink
link_in block p q = record { block = block; link = link p q }

-- the links along lines, from the first point of each
pub known_drawn_links : drawn_links (line 0 (at 0 0 ∷ at 7 0 ∷ at 7 5 ∷ []) ∷ line 2 (at 7 5 ∷ at 0 0 ∷ []) ∷ [])
    ≡ link_in 0 (at 0 0) (at 7 0) ∷ link_in 0 (at 7 0) (at 7 5) ∷ link_in 2 (at 7 5) (at 0 0) ∷ []
known_drawn_links = refl

-- the middle one of three blocks has no link, and the last one is the second that has
pub known_sewn_links : sewn_links 0 (blocks_of (acts_of (sewing (stitch 0 0 ∷ stitch 7 0 ∷ command.Stop ∷ stitch 3 3 ∷ command.Stop
    ∷ stitch 7 0 ∷ stitch 0 0 ∷ []))))
    ≡ link_in 0 (at 0 0) (at 7 0) ∷ link_in 1 (at 7 0) (at 0 0) ∷ []
known_sewn_links = refl

-- a link of ten is one step of ten; one of eleven isn't, and neither is a place
pub known_one_step : (is_one_step 10 (link_in 0 (at 0 0) (at 3 10)) ≡ true) × (is_one_step 10 (link_in 0 (at 0 0) (at 3 11)) ≡ false)
    × (is_one_step 10 (link_in 0 (at 3 3) (at 3 3)) ≡ false)
known_one_step = (refl, refl, refl)

-- two links between the same points are the same link, either way
pub known_distinct : (are_distinct (link (at 0 0) (at 7 0) ∷ link (at 7 0) (at 7 5) ∷ link (at 7 5) (at 0 0) ∷ []) ≡ true)
    × (are_distinct (link (at 0 0) (at 7 0) ∷ link (at 7 0) (at 7 5) ∷ link (at 0 0) (at 7 0) ∷ []) ≡ false)
    × (are_distinct (link (at 0 0) (at 7 0) ∷ link (at 7 0) (at 7 5) ∷ link (at 7 5) (at 7 0) ∷ []) ≡ false)
known_distinct = (refl, refl, refl)

-- the theorem on limits is about blocks, lines and points, and not about cost
pub known_counts : IsCountLimit kind.TooManyBlocks × IsCountLimit kind.TooManyLines × IsCountLimit kind.TooManyPoints
    × (IsCountLimit kind.TooMuchCost → ⊥)
known_counts = (tt, tt, tt, λ count. count)
