-- The edits that are written as a key and a number, and the ranges of these numbers.
use Rattle.std.specs.Prelude.{ℕ, List, Option, Some, None, bytes_eq, codes, if◌then◌else◌}
use Rattle.edited_designs.specs.declared.edit_keys.EditKey.{EditKey}
use Rattle.edited_designs.specs.declared.edit_keys.EditKey.TheVariants as key
use Rattle.edited_designs.specs.declared.edit_keys.TheConstants.{MAX_MERGE}
use Rattle.edited_designs.specs.DesignChanges.{DesignChange, beaned, carried, cut, merged, scaled, tied}
use Rattle.sewing_edits.specs.declared.beans.TheConstants.{MAX_BEAN}
use Rattle.sewing_edits.specs.declared.float_cuts.TheConstants.{MAX_REACH}
use Rattle.sewing_edits.specs.declared.scales.TheConstants.{MAX_SCALE}
use Rattle.sewing_edits.specs.declared.tie_points.TheConstants.{MIN_TIE, MAX_TIE}

-- The key of that name, if there is one.
abbrev pub named_key : List ℕ → Option EditKey
named_key name =
    if bytes_eq name (codes "tie") then Some key.Tie
    else (if bytes_eq name (codes "cut") then Some key.Cut
    else (if bytes_eq name (codes "float") then Some key.Float
    else (if bytes_eq name (codes "merge") then Some key.Merge
    else (if bytes_eq name (codes "bean") then Some key.Bean
    else (if bytes_eq name (codes "scale") then Some key.Scale
    else None)))))

-- The least number of a key.
abbrev pub least_of : EditKey → ℕ
least_of key.Tie = MIN_TIE
least_of key.Cut = 0
least_of key.Float = 1
least_of key.Merge = 1
least_of key.Bean = 1
least_of key.Scale = 1

-- The greatest number of a key.
abbrev pub most_of : EditKey → ℕ
most_of key.Tie = MAX_TIE
most_of key.Cut = MAX_REACH
most_of key.Float = MAX_REACH
most_of key.Merge = MAX_MERGE
most_of key.Bean = MAX_BEAN
most_of key.Scale = MAX_SCALE

-- The change by a key and a number.
abbrev pub change_by : EditKey → ℕ → DesignChange
change_by key.Tie number = tied number
change_by key.Cut number = cut number
change_by key.Float number = carried number
change_by key.Merge number = merged number
change_by key.Bean number = beaned number
change_by key.Scale number = scaled number
