-- The report of `migrate`.
use Rattle.std.specs.Prelude.{ℕ, List, ◌++◌, codes, decimal}
use Rattle.design_model.specs.TextLines.{newline}

-- The report of a migration: the number of lines, the number of pieces, and the cost in steps.
abbrev pub migrate_report : (lines pieces cost : ℕ) → List ℕ
migrate_report lines pieces cost = codes "lines " ++ (decimal lines ++ (codes " pieces "
    ++ (decimal pieces ++ (codes " cost " ++ (decimal cost ++ newline)))))
