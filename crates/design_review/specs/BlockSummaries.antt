-- What each block of a design sews: its needles, and the thread between them. A span is the thread
-- from a needle to the next one, where it isn't cut: a stitch, or a float. Lengths are straight, in
-- thousandths of a millimetre, rounded down.
use Rattle.std.specs.Prelude.{ℕ, ◌+◌, Bool, not, List, [], ◌∷◌, ◌++◌, Option, Some, None, count_by, filter, fold, map, max, min}
use Rattle.design_model.specs.declared.act.Act.{Act}
use Rattle.design_model.specs.declared.act.Act.TheVariants as act
use Rattle.design_model.specs.declared.act.NumberedAct.{NumberedAct}
use Rattle.design_model.specs.declared.point.Point.{Point}
use Rattle.design_model.specs.ActKinds.{is_needle}
use Rattle.design_model.specs.Acts.{acts_of}
use Rattle.design_model.specs.Blocks.{blocks_of}
use Rattle.design_model.specs.Designs.{DesignValue}
use Rattle.design_model.specs.Lengths.{length_of}
use Rattle.design_review.specs.declared.open_block.BlockSummary.{BlockSummary}

-- A span: whether it is a float, and its length.
pub record Span : Type 0 where
  pub float : Bool
  pub length : ℕ

-- The needle that the thread comes from after an act, or none where it is loose.
abbrev pub needle_before_next : Act → Option Point
needle_before_next (act.Needle p float) = Some p
needle_before_next act.Trim = None
needle_before_next act.Stop = None

-- The span to a needle, if the thread comes from another one.
abbrev pub span_to : Option Point → Point → Bool → List Span
span_to None p float = []
span_to (Some before) p float = record { float = float; length = length_of before p } ∷ []

-- The span that ends with an act, if there is one.
abbrev pub span_of_act : Option Point → Act → List Span
span_of_act before (act.Needle p float) = span_to before p float
span_of_act before act.Trim = []
span_of_act before act.Stop = []

-- The spans of acts, where the thread comes from a needle or is loose.
abbrev pub spans_after : Option Point → List NumberedAct → List Span
spans_after before [] = []
spans_after before (a ∷ rest) = span_of_act before a.act
    ++ spans_after (needle_before_next a.act) rest

-- The lengths of those spans that are stitches.
abbrev pub lengths_of_stitches : List Span → List ℕ
lengths_of_stitches spans = map (λ s. s.length) (filter (λ s. not s.float) spans)

-- The lesser of two lengths, of which the first may be missing.
abbrev pub lesser_length : Option ℕ → ℕ → Option ℕ
lesser_length None length = Some length
lesser_length (Some least) length = Some (min least length)

-- The summary of a block: its needles, the length of its thread, and the shortest and the longest
-- of its stitches. Without a stitch there is no shortest one, and the longest is 0.
abbrev pub summary_of_block : List NumberedAct → BlockSummary
summary_of_block acts = record {
  needles = count_by is_needle acts;
  length = fold (λ sum s. sum + s.length) 0 (spans_after None acts);
  shortest = fold lesser_length None (lengths_of_stitches (spans_after None acts));
  longest = fold max 0 (lengths_of_stitches (spans_after None acts));
}

-- The summaries of the blocks of a design.
abbrev pub summaries_of_blocks : DesignValue → List BlockSummary
summaries_of_blocks d = map summary_of_block (blocks_of (acts_of d))
