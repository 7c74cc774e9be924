-- The report of `sample`: a line for each number of the summary.
use Rattle.std.specs.Prelude.{ℕ, List, ◌++◌, codes, decimal}
use Rattle.design_model.specs.TextLines.{newline}
use Rattle.route_texts.specs.declared.summary.Summary.{Summary}

-- The lines about a sample drawing: its number, and how much it has of what.
abbrev pub summary_counts : Summary → List ℕ
summary_counts s = codes "sample " ++ (decimal s.number
    ++ (newline ++ (codes "lines " ++ (decimal s.lines
    ++ (newline ++ (codes "junctions " ++ (decimal s.junctions
    ++ (newline ++ (codes "odd " ++ (decimal s.odd
    ++ (newline ++ (codes "pieces " ++ (decimal s.pieces ++ newline)))))))))))))

-- The lines about the costs of a route.
abbrev pub summary_costs : Summary → List ℕ
summary_costs s = codes "cost " ++ (decimal s.cost
    ++ (newline ++ (codes "retraced " ++ (decimal s.retraced
    ++ (newline ++ (codes "penetrations " ++ (decimal s.penetrations
    ++ (newline ++ (codes "cuts " ++ (decimal s.cuts ++ newline))))))))))

-- The report of a sample: a line for each number.
abbrev pub summary_text : Summary → List ℕ
summary_text s = summary_counts s ++ summary_costs s
