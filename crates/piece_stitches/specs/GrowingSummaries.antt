-- Summaries that grow stitch by stitch. No public clause cites this file.
use Rattle.std.specs.Prelude.{ℕ, ◌+◌, ◌*◌, ◌^◌, ◌≤◌, ◌==◌, max, min, List, [], ◌∷◌, if◌then◌else◌}
use Rattle.piece_stitches.specs.declared.stitch_summary.StitchSummary.{StitchSummary}
use Rattle.piece_stitches.specs.StitchSummaries.{is_short}

-- The summary of no stitches. Its shortest and its longest stitch are 0.
abbrev pub no_stitches : StitchSummary
no_stitches = record { stitches = 0; shortest = 0; longest = 0; short = 0; thread = 0 }

-- The shorter of two lengths, of which there is no first one yet where the count is 0.
abbrev pub shorter : (count best length : ℕ) → ℕ
shorter count best length = if count == 0 then length else min best length

-- A summary with one more stitch, of the given length.
abbrev pub with_stitch : StitchSummary → ℕ → StitchSummary
with_stitch s length = record {
  stitches = s.stitches + 1;
  shortest = shorter s.stitches s.shortest length;
  longest = max s.longest length;
  short = if is_short length then s.short + 1 else s.short;
  thread = s.thread + length;
}

-- A summary with stitches of the given lengths.
abbrev pub with_stitches : StitchSummary → List ℕ → StitchSummary
with_stitches s [] = s
with_stitches s (length ∷ rest) = with_stitches (with_stitch s length) rest

-- A summary that holds together: no more stitches are short than there are, and none is as long as
-- 2 ^ 64.
pub record IsSummary (s : StitchSummary) : Type 0 where
  pub short : s.short ≤ s.stitches
  pub thread : s.thread ≤ s.stitches * 2 ^ 64
