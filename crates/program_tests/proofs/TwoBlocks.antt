-- A drawing of two blocks, with the design and the certificate that `stitch route` writes of it. The piece of the first has a
-- closed line with a tail, which is sewn again. That of the second is a T with a given start and end, whose stem is sewn again.
-- By hand: the tail has one step of four, the stem one of four, so each thread has 4 + 1 + 1 needle points.
use Rattle.std.proofs.Common.{◌≡◌, ◌<◌, ◌≢◌, ℕ, zero, suc, pos, false, true, List, [], ◌∷◌, ◌++◌, All, Contains, codes, arith, refl, ap, sym, ◌∙◌}
use Rattle.std.specs.List.Sorted.{IsStrictlyIncreasing}
use Rattle.std.proofs.lemmas.List.Elements.{All-cons, All-nil}
use Rattle.std.proofs.lemmas.List.Kept.{AllPairs-cons}
use Rattle.std.proofs.lemmas.Bool.{and_parts}
use Rattle.design_model.proofs.ListLemmas.{same_number}
use Rattle.design_model.specs.Designs.{DesignValue}
use Rattle.design_model.specs.declared.command.Command.TheVariants.{Stitch, Stop, Trim}
use Rattle.design_model.specs.declared.point.Point.{Point}
use Rattle.line_graph.specs.Drawings.{DrawingValue, block_of, optional_line_block}
use Rattle.line_graph.specs.Pieces.{AreConnected, ArePieces, IsPathOfLines, LinesTouch, first_line}
use Rattle.line_graph.specs.declared.pass.Pass.{Pass}
use Rattle.line_sections.specs.Lines.{LineValue}
use Rattle.odd_cuts.specs.declared.certificate.PieceCert.{PieceCert}
use Rattle.odd_cuts.specs.declared.cut.Cut.{Cut}

abbrev pub at : ℕ → ℕ → Point
at x y = record { x = pos x; y = pos y }

abbrev line : ℕ → List Point → LineValue
line block points = record { block = block; points = points }

abbrev tail : LineValue
tail = line 0 (at 0 0 ∷ at 10 0 ∷ [])

abbrev loop : LineValue
loop = line 0 (at 10 0 ∷ at 20 0 ∷ at 20 10 ∷ at 10 0 ∷ [])

abbrev left : LineValue
left = line 1 (at 100 0 ∷ at 110 0 ∷ [])

abbrev right : LineValue
right = line 1 (at 110 0 ∷ at 130 0 ∷ [])

abbrev stem : LineValue
stem = line 1 (at 110 0 ∷ at 110 10 ∷ [])

-- the drawing's lines as they are sewn: the line of the second block that lists the point 110 0 inside is cut there
abbrev pub drawing : DrawingValue
drawing = record {
  label = [];
  step = 10;
  threads = 5 ∷ 7 ∷ [];
  lines = tail ∷ loop ∷ left ∷ right ∷ stem ∷ [];
  starts = record { block = 1; at = at 100 0 } ∷ [];
  ends = record { block = 1; at = at 130 0 } ∷ [];
}

abbrev pub tailed : List ℕ
tailed = 0 ∷ 1 ∷ []

abbrev pub stemmed : List ℕ
stemmed = 2 ∷ 3 ∷ 4 ∷ []

abbrev forth : ℕ → Pass
forth line = record { line = line; back = false }

abbrev back : ℕ → Pass
back line = record { line = line; back = true }

abbrev pub cut : ℕ → Cut
cut junction = record { weight = 1; members = junction ∷ [] }

abbrev pub tail_cert : PieceCert
tail_cert = record { retraced = 1; walk = forth 0 ∷ forth 1 ∷ back 0 ∷ []; cuts = cut 0 ∷ cut 1 ∷ [] }

abbrev pub stem_cert : PieceCert
stem_cert = record { retraced = 1; walk = forth 2 ∷ forth 4 ∷ back 4 ∷ forth 3 ∷ []; cuts = cut 1 ∷ cut 3 ∷ [] }

abbrev pub design : DesignValue
design = record {
  label = [];
  threads = 5 ∷ 7 ∷ [];
  commands = Stitch (at 0 0) ∷ Stitch (at 10 0) ∷ Stitch (at 20 0) ∷ Stitch (at 20 10) ∷ Stitch (at 10 0) ∷ Stitch (at 0 0) ∷ Trim
      ∷ Stop ∷ Stitch (at 100 0) ∷ Stitch (at 110 0) ∷ Stitch (at 110 10) ∷ Stitch (at 110 0) ∷ Stitch (at 120 0)
      ∷ Stitch (at 130 0) ∷ Trim ∷ [];
}

-- the three files, as they were written
abbrev pub drawing_file : List ℕ
drawing_file = codes "redwork 3\nstep 10\ncolor 5\nline 0 0 10 0\nline 10 0 20 0 20 10 10 0\n"
    ++ codes "color 7\nline 100 0 110 0 130 0\nline 110 0 110 10\nstart 100 0\nend 130 0\n"

abbrev pub design_file : List ℕ
design_file = codes "stitch-list 1\nlabel []\nblock 5\nneedle 0 0\nneedle 10 0\nneedle 20 0\nneedle 20 10\nneedle 10 0\nneedle 0 0\n"
    ++ codes "trim\nblock 7\nneedle 100 0\nneedle 110 0\nneedle 110 10\nneedle 110 0\nneedle 120 0\nneedle 130 0\ntrim\nend\n"

abbrev pub cert_file : List ℕ
cert_file = codes "redwork-certificate 1\npiece 1\nwalk 1 2 -1\ncut 1 1\ncut 1 2\npiece 1\nwalk 3 5 -5 4\ncut 1 2\ncut 1 4\nend\n"

-- each line is in a piece
abbrev There : ℕ → Type 0
There line = line < 5

covered : (line : ℕ) → line < 5 → Contains (0 ∷ 1 ∷ 2 ∷ 3 ∷ 4 ∷ []) line
covered zero less = (0, omega arith, refl)
covered (suc zero) less = (1, omega arith, refl)
covered (suc (suc zero)) less = (2, omega arith, refl)
covered (suc (suc (suc zero))) less = (3, omega arith, refl)
covered (suc (suc (suc (suc zero)))) less = (4, omega arith, refl)
covered (suc (suc (suc (suc (suc n))))) less = absurd (omega (arith, less))

-- lines that touch are in one block, so a path from the first line doesn't leave its block
block_stays : (i k : ℕ) → LinesTouch drawing i k → block_of drawing i ≡ block_of drawing k
block_stays i k touch =
    let same : touch.one.block ≡ touch.other.block = same_number touch.one.block touch.other.block (and_parts _ _ touch.touch).0 in
    ap optional_line_block touch.one_is ∙ same
    ∙ sym (ap optional_line_block touch.other_is)

path_stays : (i : ℕ) (chain : List ℕ) (j : ℕ) → IsPathOfLines drawing i chain j → block_of drawing i ≡ block_of drawing j
path_stays i [] j is = ap (block_of drawing) is
path_stays i (k ∷ rest) j is = block_stays i k is.0 ∙ path_stays k rest j is.1

apart : AreConnected drawing 0 2 → ⊥
apart path = differ (path_stays 0 path.0 2 path.1)
  where
    differ : ◌≡◌ {A = ℕ} 0 1 → ⊥
    differ is = omega (arith, is)

rise_two : (a b : ℕ) → a < b → IsStrictlyIncreasing (a ∷ b ∷ [])
rise_two a b less zero more = less
rise_two a b less (suc k) more = absurd (omega (arith, more))

rise_three : (a b c : ℕ) → a < b → b < c → IsStrictlyIncreasing (a ∷ b ∷ c ∷ [])
rise_three a b c one two zero more = one
rise_three a b c one two (suc zero) more = two
rise_three a b c one two (suc (suc k)) more = absurd (omega (arith, more))

touching : (i j : ℕ) → LinesTouch drawing i j → AreConnected drawing i j
touching i j touch = (j ∷ [], (touch, refl))

abbrev Filled : List ℕ → Type 0
Filled lines = lines ≢ []

abbrev Joined : List ℕ → Type 0
Joined lines = All (AreConnected drawing (first_line lines)) lines

abbrev Apart : List ℕ → List ℕ → Type 0
Apart a b = AreConnected drawing (first_line a) (first_line b) → ⊥

tail_joined : Joined tailed
tail_joined = All-cons (AreConnected drawing 0) 0 (1 ∷ []) ([], refl) (All-cons (AreConnected drawing 0) 1 []
    (touching 0 1 (record { one = tail; other = loop; one_is = refl; other_is = refl; touch = refl })) (All-nil (AreConnected drawing 0)))

stem_joined : Joined stemmed
stem_joined = All-cons (AreConnected drawing 2) 2 (3 ∷ 4 ∷ []) ([], refl) (All-cons (AreConnected drawing 2) 3 (4 ∷ [])
    (touching 2 3 (record { one = left; other = right; one_is = refl; other_is = refl; touch = refl }))
    (All-cons (AreConnected drawing 2) 4 []
    (touching 2 4 (record { one = left; other = stem; one_is = refl; other_is = refl; touch = refl }))
    (All-nil (AreConnected drawing 2))))

pub pieces_are : ArePieces drawing (tailed ∷ stemmed ∷ [])
pieces_are = record {
  filled = All-cons Filled tailed (stemmed ∷ []) (λ is. cc) (All-cons Filled stemmed [] (λ is. cc) (All-nil Filled));
  there = All-cons There 0 (1 ∷ 2 ∷ 3 ∷ 4 ∷ []) (omega arith) (All-cons There 1 (2 ∷ 3 ∷ 4 ∷ []) (omega arith)
      (All-cons There 2 (3 ∷ 4 ∷ []) (omega arith) (All-cons There 3 (4 ∷ []) (omega arith)
      (All-cons There 4 [] (omega arith) (All-nil There)))));
  covered = covered;
  joined = All-cons Joined tailed (stemmed ∷ []) tail_joined (All-cons Joined stemmed [] stem_joined (All-nil Joined));
  apart = AllPairs-cons Apart tailed (stemmed ∷ []) (All-cons (Apart tailed) stemmed [] apart (All-nil (Apart tailed)))
      (AllPairs-cons Apart stemmed [] (All-nil (Apart stemmed)) (λ i j default before there. absurd (none j there)));
  rising = All-cons IsStrictlyIncreasing tailed (stemmed ∷ []) (rise_two 0 1 (omega arith))
      (All-cons IsStrictlyIncreasing stemmed [] (rise_three 2 3 4 (omega arith) (omega arith)) (All-nil IsStrictlyIncreasing));
  ordered = rise_two 0 2 (omega arith);
}
  where
    none : (j : ℕ) → j < 0 → ⊥
    none j there = omega (arith, there)
