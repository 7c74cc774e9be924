-- The commands `convert` and `edit`: a design is read, changed and written.
use Rattle.std.specs.Prelude.{◌≡◌, ℕ, List, Option, Some, None, Result, Ok, Err, bytes_eq, codes, if◌then◌else◌}
use Rattle.design_model.specs.Counts.{counts_of}
use Rattle.design_model.specs.Designs.{DesignValue}
use Rattle.format_traits.specs.declared.fault.ReadFault.{ReadFault}
use Rattle.format_traits.specs.declared.fault.WriteFault.{WriteFault}
use Rattle.format_traits.specs.declared.loaded.Loaded.{Loaded}
use Rattle.format_traits.specs.Laws.{MovesWithin, RoundTrips}
use Rattle.format_traits.specs.Meanings.{Meaning}
use Rattle.program_texts.specs.DesignReports.{written_report}
use Rattle.command_words.specs.declared.names.FileNames.{FileNames}
use Rattle.command_words.specs.Changes.{Change}
use Rattle.stitch_cli.specs.declared.change_faults.ChangeFault.{ChangeFault}
use Rattle.stitch_cli.specs.declared.change_faults.ChangeFault.TheVariants as change
use Rattle.stitch_cli.specs.ChangedDesigns.{BecomesAll}
use Rattle.program_shell.specs.Plans.{Plan, satisfies, reads, refuses}
use Rattle.program_shell.specs.Products.{ProductValue, one_file_product}
use Rattle.program_shell.specs.FileTexts.{read_fault_text}
use Rattle.program_texts.specs.DesignTexts.{command_text, no_colour_place_text, write_fault_text}

-- The order of `convert` or `edit`: the design to read, the file to write, their formats, and the
-- changes to make.
pub record RewriteOrder : Type 0 where
  pub input : List ℕ
  pub output : List ℕ
  pub source : Meaning
  pub target : Meaning
  pub changes : List Change

-- The order of `convert` or `edit`, from its names, the formats and the changes.
abbrev pub rewrite_order : FileNames → Meaning → Meaning → List Change → RewriteOrder
rewrite_order names source target changes = record {
  input = names.input.now;
  output = names.output.now;
  source = source;
  target = target;
  changes = changes;
}

-- The order, if both formats are known and the names differ.
abbrev pub complete_rewrite : (input output : List ℕ) → List Change → Option Meaning
    → Option Meaning
    → Option RewriteOrder
complete_rewrite input output changes None target = None
complete_rewrite input output changes (Some source) None = None
complete_rewrite input output changes (Some source) (Some target) =
    if bytes_eq input output then None
    else Some (record {
      input = input;
      output = output;
      source = source;
      target = target;
      changes = changes;
    })

-- The text about a refused change of a design.
abbrev pub change_text : (input output : List ℕ) → ChangeFault → List ℕ
change_text input output (change.RefitTooMany number) =
    command_text output number (codes "too many commands")
change_text input output (change.MovedOut number) =
    command_text input number (codes "moved out of range")
change_text input output (change.NoPlace place count) = no_colour_place_text input place count

-- The product of a rewritten design: the changes make another design, and the file of that is
-- written. Read again, the file has the same acts, and no record moves farther than the limit of
-- the format.
pub record IsRewritten (order : RewriteOrder) (loaded : Loaded)
    (product : ProductValue) : Type 0 where
  pub design : DesignValue
  pub becomes : BecomesAll order.target.limit order.changes loaded.design (Ok design)
  pub out : List ℕ
  pub written : order.target.writes design ≡ Ok out
  pub again : RoundTrips order.target design out
  pub within : MovesWithin order.target out
  pub made : product ≡ one_file_product order.output out (written_report (counts_of design))

-- The reason for which a design is not rewritten: a change is refused, or the output format cannot
-- encode the changed design.
pub data IsNotRewritten (order : RewriteOrder) (loaded : Loaded) (text : List ℕ) : Type 0 where
  not_changed : (fault : ChangeFault) → text ≡ change_text order.input order.output fault
      → BecomesAll order.target.limit order.changes loaded.design (Err fault)
      → IsNotRewritten order loaded text
  not_written : (design : DesignValue) (fault : WriteFault)
      → text ≡ write_fault_text order.output order.target.limit fault
      → BecomesAll order.target.limit order.changes loaded.design (Ok design)
      → order.target.writes design ≡ Err fault → IsNotRewritten order loaded text

-- The result of rewriting a design that was read.
abbrev pub IsRewriteResult : RewriteOrder → Loaded → Result ProductValue (List ℕ) → Type 0
IsRewriteResult order loaded (Ok product) = IsRewritten order loaded product
IsRewriteResult order loaded (Err text) = IsNotRewritten order loaded text

-- The plan for the result of reading the design: a design is rewritten, and a fault is refused.
abbrev pub rewrite_read : RewriteOrder → Result Loaded ReadFault → Plan
rewrite_read order (Ok loaded) = satisfies (IsRewriteResult order loaded)
rewrite_read order (Err fault) = refuses (read_fault_text order.input fault)

-- The plan of `convert` or `edit`: read the design, then rewrite it.
abbrev pub rewrite_plan : RewriteOrder → Plan
rewrite_plan order = reads order.input (λ bytes. rewrite_read order (order.source.reads bytes))
