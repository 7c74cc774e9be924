-- A drawing that strands are added to has their links, and so have its sections.
use Rattle.std.proofs.Common.{◌≡◌, ℕ, ◌+◌, ◌-◌, ◌==◌, Bool, true, false, not, cond, nat_lt, List, [], ◌∷◌, ◌++◌, length, map, flat_map, Result, Ok, Err, ap, sym, subst, ◌∙◌, refl, append_assoc, append-nil, length-append, arith}
use Rattle.stitch_trace.proofs.Names.{nat_tests, ap₂, flat_map-append, map-append, NumberedAct, Point, acts_of, blocks_of, DesignValue, thread_of, LineValue, SectionsKeepSegments, DrawKind, DrawingValue, and_then, all_in_needle_range, block_added, empty_drawing, finished_drawing, is_last_empty, line_added, point_count, with_new_block, with_new_line, joined_drawing, Link, Strand, TraceFault, chains_of, has_links, new_links_of, BlockLink, drawn_block_count, drawn_links, in_block, link_between, links_along, sewn_links, needle_moves_of, chains_added, drawing_with_strands, label_first_word, with_limit_fault, and_then_trace, trace_step, strand_added, strand_of, strands_added, strands_from, strands_of, all_sections, is_shared_point, line_sections, lines_through, sections_of, segments_of, steps_with_line, LinksAreDrawn}
use Rattle.line_graph.specs.declared.draw_kind.DrawKind.TheVariants as kind
use Rattle.stitch_trace.proofs.LinkedLemmas.{chains_links, chains_where_links, has_chains}

-- what is Ok is one thing, and no Err
pub ok_same : {A F : Type 0} (a b : A) → ◌≡◌ {A = Result A F} (Ok a) (Ok b) → a ≡ b
ok_same a b is = cc

-- a step after a result
pub record GoesOn {A B : Type 0} (said : Result A DrawKind) (next : A → Result B DrawKind) (b : B) : Type 0 where
  pub mid : A
  pub first : said ≡ Ok mid
  pub then : next mid ≡ Ok b

pub goes_on : {A B : Type 0} (said : Result A DrawKind) (next : A → Result B DrawKind) (b : B) → and_then said next ≡ Ok b
    → GoesOn said next b
goes_on (Ok a) next b is = record { mid = a; first = refl; then = is }
goes_on (Err why) next b is = absurd cc

-- a line more
pub line_is : (d e : DrawingValue) (points : List Point) → line_added d points ≡ Ok e → e ≡ with_new_line d points
line_is d e points is = by_tests (length d.threads == 0) (not (all_in_needle_range points)) (steps_with_line d points) is
  where
    by_tests : (none out : Bool) (steps : Result ℕ DrawKind)
        → cond none (Err kind.NoBlock) (cond out (Err kind.OutOfRange) (and_then steps (λ steps. Ok (with_new_line d points)))) ≡ Ok e
        → e ≡ with_new_line d points
    by_tests true out steps is = absurd cc
    by_tests false true steps is = absurd cc
    by_tests false false (Err why) is = absurd cc
    by_tests false false (Ok steps) is = sym (ok_same (with_new_line d points) e is)

-- a block more
pub block_is : (d e : DrawingValue) (thread : ℕ) → block_added d thread ≡ Ok e → e ≡ with_new_block d thread
block_is d e thread is = by_tests (is_last_empty d) (length d.threads == 255) is
  where
    by_tests : (empty full : Bool) → cond empty (Err kind.EmptyBlock) (cond full (Err kind.TooManyBlocks) (Ok (with_new_block d thread)))
        ≡ Ok e
        → e ≡ with_new_block d thread
    by_tests true full is = absurd cc
    by_tests false true is = absurd cc
    by_tests false false is = sym (ok_same (with_new_block d thread) e is)

-- what chains add
record HasChains (d e : DrawingValue) (chains : List (List Point)) : Type 0 where
  threads : e.threads ≡ d.threads
  links : drawn_links e.lines ≡ drawn_links d.lines ++ in_block (length d.threads - 1) (flat_map links_along chains)

chains_drawn : (d e : DrawingValue) (chains : List (List Point)) → chains_added d chains ≡ Ok e → HasChains d e chains
chains_drawn d e [] is = grind (arith, nat_tests, ok_same d e is, append-nil (drawn_links d.lines))
chains_drawn d e (chain ∷ rest) is = onwards (goes_on (line_added d chain) (λ more. chains_added more rest) e is)
    (λ mid more. chains_drawn mid e rest more)
  where
    onwards : GoesOn (line_added d chain) (λ more. chains_added more rest) e
        → ((mid : DrawingValue) → chains_added mid rest ≡ Ok e → HasChains mid e rest) → HasChains d e (chain ∷ rest)
    onwards steps later =
        let is_line : steps.mid ≡ with_new_line d chain = line_is d steps.mid chain steps.first in
        let has : HasChains (with_new_line d chain) e rest =
        subst (λ (mid : DrawingValue). HasChains mid e rest) is_line (later steps.mid steps.then) in
        let block : ℕ = length d.threads - 1 in
        let here : drawn_links (with_new_line d chain).lines ≡ drawn_links d.lines ++ in_block block (links_along chain) =
        flat_map-append (λ (line : LineValue). in_block line.block (links_along line.points)) d.lines
        (record { block = block; points = chain } ∷ [])
        ∙ ap (λ (links : List BlockLink). drawn_links d.lines ++ links) (append-nil (in_block block (links_along chain))) in
        record {
          threads = has.threads;
          links = has.links
              ∙ (ap (λ (links : List BlockLink). links ++ in_block block (flat_map links_along rest)) here
              ∙ (append_assoc (drawn_links d.lines) (in_block block (links_along chain)) (in_block block (flat_map links_along rest))
              ∙ ap (λ (links : List BlockLink). drawn_links d.lines ++ links)
              (sym (map-append (λ (link : Link). record { block = block; link = link }) (links_along chain) (flat_map links_along rest)))));
        }

-- the links of strands, of which the first is in the block with that index
abbrev strand_links : ℕ → List Strand → List BlockLink
strand_links block [] = []
strand_links block (strand ∷ rest) = in_block block (flat_map links_along strand.chains) ++ strand_links (block + 1) rest

strands_drawn : (d e : DrawingValue) (strands : List Strand) → strands_added d strands ≡ Ok e
    → drawn_links e.lines ≡ drawn_links d.lines ++ strand_links (length d.threads) strands
strands_drawn d e [] is = grind (arith, nat_tests, ok_same d e is, append-nil (drawn_links d.lines))
strands_drawn d e (strand ∷ rest) is = onwards (goes_on (strand_added d strand) (λ more. strands_added more rest) e is)
    (λ mid more. strands_drawn mid e rest more)
  where
    onwards : GoesOn (strand_added d strand) (λ more. strands_added more rest) e
        → ((mid : DrawingValue) → strands_added mid rest ≡ Ok e
        → drawn_links e.lines ≡ drawn_links mid.lines ++ strand_links (length mid.threads) rest)
        → drawn_links e.lines ≡ drawn_links d.lines ++ strand_links (length d.threads) (strand ∷ rest)
    onwards steps later =
        let inner = goes_on (block_added d strand.thread) (λ more. chains_added more strand.chains) steps.mid steps.first in
        let is_block : inner.mid ≡ with_new_block d strand.thread = block_is d inner.mid strand.thread inner.first in
        let has : HasChains (with_new_block d strand.thread) steps.mid strand.chains =
        subst (λ (mid : DrawingValue). HasChains mid steps.mid strand.chains) is_block
        (chains_drawn inner.mid steps.mid strand.chains inner.then) in
        let more : length (d.threads ++ strand.thread ∷ []) ≡ length d.threads + 1 = omega (
          arith,
          length-append d.threads
              (strand.thread ∷ []),
        ) in
        let last : length (d.threads ++ strand.thread ∷ []) - 1 ≡ length d.threads = omega (arith, more) in
        let links : List Link = flat_map links_along strand.chains in
        later steps.mid steps.then
        ∙ (ap₂ (λ (first rest : List BlockLink). first ++ rest)
        (has.links ∙ ap (λ (block : ℕ). drawn_links d.lines ++ in_block block links) last)
        (ap (λ (count : ℕ). strand_links count rest) (ap length has.threads ∙ more))
        ∙ append_assoc (drawn_links d.lines) (in_block (length d.threads) links) (strand_links (length d.threads + 1) rest))

-- the links of a design's strands are its new links
one_strand : (block thread : ℕ) (chains : List (List Point)) (links : List Link) (later : List Strand) (sewn : ℕ → List BlockLink)
    → flat_map links_along chains ≡ links → has_chains chains ≡ has_links links → ((b : ℕ) → strand_links b later ≡ sewn b)
    → strand_links block (strand_of thread chains ++ later) ≡ in_block block links ++ sewn (block + drawn_block_count links)
one_strand block thread [] links later sewn are some rest = grind (arith, nat_tests, ap₂)
one_strand block thread (chain ∷ chains) links later sewn are some rest = grind (arith, nat_tests, ap₂)

strands_sewn : (d : DesignValue) (n block : ℕ) (blocks : List (List NumberedAct))
    → strand_links block (strands_from d n blocks) ≡ sewn_links block blocks
strands_sewn d n block [] = refl
strands_sewn d n block (acts ∷ later) =
    one_strand block (thread_of d n) (chains_of acts) (new_links_of acts) (strands_from d (n + 1) later) (λ b. sewn_links b later)
    (chains_links acts) (chains_where_links acts) (λ b. strands_sewn d (n + 1) b later)

-- sections have the links of their lines
through_links : (block : ℕ) (sections : List (List Point))
    → drawn_links (lines_through block sections) ≡ in_block block (map link_between (flat_map segments_of sections))
through_links block [] = refl
through_links block (section ∷ rest) = grind (arith, nat_tests, through_links block rest, map-append, map-append link_between)

sections_drawn : SectionsKeepSegments → (all some : List LineValue) → drawn_links (flat_map (line_sections all) some) ≡ drawn_links some
sections_drawn keep all [] = refl
sections_drawn keep all (line ∷ rest) =
    let block_links : LineValue → List BlockLink = λ one. in_block one.block (links_along one.points) in
    flat_map-append block_links (line_sections all line) (flat_map (line_sections all) rest)
    ∙ ap₂ (λ (first later : List BlockLink). first ++ later)
    (through_links line.block (sections_of (is_shared_point all line.block) line.points)
    ∙ ap (λ (ends : List (Point × Point)). in_block line.block (map link_between ends)) (keep (is_shared_point all line.block) line.points))
    (sections_drawn keep all rest)

joined_links : SectionsKeepSegments → (d e : DrawingValue) → joined_drawing d ≡ Ok e → drawn_links e.lines ≡ drawn_links d.lines
joined_links keep d e is = by_tests (nat_lt 1024 (length (all_sections d.lines))) (nat_lt 65536 (point_count (all_sections d.lines))) is
  where
    by_tests : (many long : Bool)
        → cond many (Err kind.TooManyLines) (cond long (Err kind.TooManyPoints) (Ok (record d { lines = all_sections d.lines }))) ≡ Ok e
        → drawn_links e.lines ≡ drawn_links d.lines
    by_tests true long is = absurd cc
    by_tests false true is = absurd cc
    by_tests false false is =
        ap (λ (f : DrawingValue). drawn_links f.lines) (sym (ok_same (record d { lines = all_sections d.lines }) e is))
        ∙ sections_drawn keep d.lines d.lines

pub finished_is : (d e : DrawingValue) → finished_drawing d ≡ Ok e → d ≡ e
finished_is d e is = by_tests (length d.threads == 0) (is_last_empty d) is
  where
    by_tests : (none empty : Bool) → cond none (Err kind.NoBlock) (cond empty (Err kind.EmptyBlock) (Ok d)) ≡ Ok e → d ≡ e
    by_tests true empty is = absurd cc
    by_tests false true is = absurd cc
    by_tests false false is = ok_same d e is

-- a traced drawing has the new links
through_drawn : SectionsKeepSegments → (d : DesignValue) (step : ℕ) (e : DrawingValue)
    → drawing_with_strands d.label step (strands_of d) ≡ Ok e → drawn_links e.lines ≡ sewn_links 0 (blocks_of (acts_of d))
through_drawn keep d step e is =
    let begun : DrawingValue = empty_drawing (label_first_word d.label) step in
    let outer = goes_on (and_then (strands_added begun (strands_of d)) finished_drawing) joined_drawing e is in
    let inner = goes_on (strands_added begun (strands_of d)) finished_drawing outer.mid outer.first in
    joined_links keep outer.mid e outer.then
    ∙ (ap (λ (f : DrawingValue). drawn_links f.lines) (sym (finished_is inner.mid outer.mid inner.then))
    ∙ (strands_drawn begun inner.mid (strands_of d) inner.first ∙ strands_sewn d 0 0 (blocks_of (acts_of d))))

pub links_drawn : SectionsKeepSegments → LinksAreDrawn
links_drawn keep d drawing is = by_step (trace_step (needle_moves_of (acts_of d))) is
  where
    unlimited : (step : ℕ) (said : Result DrawingValue DrawKind) → drawing_with_strands d.label step (strands_of d) ≡ said
        → with_limit_fault said ≡ Ok drawing → drawn_links drawing.lines ≡ sewn_links 0 (blocks_of (acts_of d))
    unlimited step (Ok e) through is =
        subst (λ (f : DrawingValue). drawn_links f.lines ≡ sewn_links 0 (blocks_of (acts_of d))) (ok_same e drawing is)
        (through_drawn keep d step e through)
    unlimited step (Err why) through is = absurd cc

    by_step : (said : Result ℕ TraceFault) → and_then_trace said
        (λ step. with_limit_fault (drawing_with_strands d.label step (strands_of d))) ≡ Ok drawing
        → drawn_links drawing.lines ≡ sewn_links 0 (blocks_of (acts_of d))
    by_step (Ok step) is = unlimited step (drawing_with_strands d.label step (strands_of d)) refl is
    by_step (Err why) is = absurd cc
