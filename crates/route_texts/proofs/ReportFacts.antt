-- Worked values of what reports print of pieces and drawings.
use Rattle.std.proofs.Common.{◌≡◌, List, [], ◌∷◌, ◌++◌, refl}
use Rattle.std.specs.Fmt.{digits}
use Rattle.std.specs.Prelude.{codes}
use Rattle.route_texts.specs.declared.sewing_reports.PieceReport.{PieceReport}
use Rattle.route_texts.specs.declared.summary.Summary.{Summary}
use Rattle.route_verdict.specs.declared.sewing_ways.Sewing.TheVariants as sewing
use Rattle.route_texts.specs.SewingReports.{sewing_report}
use Rattle.route_texts.specs.Summaries.{summary_text}
use Rattle.design_model.specs.TextLines.{newline}

-- two pieces, of which each walk makes twelve and five steps, and then four more and none
abbrev pieces : List PieceReport
pieces = record { block = 1; piece = 1; lines = 3; cost = 12; retraced = 4 }
    ∷ record { block = 2; piece = 2; lines = 1; cost = 5; retraced = 0 } ∷ []

-- the needle goes down once more often than a walk makes steps
pub known_route : sewing_report sewing.Route pieces
    ≡ codes "block 1 piece 1 lines 3 cost 12 retraced 4 penetrations 17" ++ (newline
    ++ (codes "block 2 piece 2 lines 1 cost 5 retraced 0 penetrations 6" ++ (newline
    ++ (codes "pieces 2 penetrations 23" ++ newline))))
unfolding digits
known_route = refl

-- the needle goes down once more often than twice the cost
pub known_double : sewing_report sewing.Double (record { block = 1; piece = 1; lines = 3; cost = 12; retraced = 12 }
    ∷ record { block = 2; piece = 2; lines = 1; cost = 4; retraced = 4 } ∷ [])
    ≡ codes "block 1 piece 1 lines 3 cost 12 penetrations 25" ++ (newline
    ++ (codes "block 2 piece 2 lines 1 cost 4 penetrations 9" ++ (newline
    ++ (codes "pieces 2 penetrations 34" ++ newline))))
unfolding digits
known_double = refl

-- Distinct numbers, which cannot be exchanged unnoticed.
abbrev sample : Summary
sample = record {
  number = 7;
  lines = 4;
  junctions = 3;
  odd = 2;
  pieces = 1;
  cost = 13;
  retraced = 5;
  penetrations = 19;
  cuts = 10;
}

pub known_sample : summary_text sample
    ≡ codes "sample 7" ++ (newline
    ++ (codes "lines 4" ++ (newline ++ (codes "junctions 3" ++ (newline
    ++ (codes "odd 2" ++ (newline ++ (codes "pieces 1" ++ (newline
    ++ (codes "cost 13" ++ (newline ++ (codes "retraced 5" ++ (newline
    ++ (codes "penetrations 19" ++ (newline ++ (codes "cuts 10" ++ newline))))))))))))))))
unfolding digits
known_sample = refl
