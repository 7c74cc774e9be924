-- Products: the contents of the files that a command writes, and its report.
use Rattle.std.specs.Prelude.{◌≡◌, ◌≢◌, ℕ, List, [], ◌∷◌, ◌++◌, map, Option, Some, None}
use Rattle.outside_io.specs.Blames.{write_call}
use Rattle.outside_io.specs.Causes.{CallFailed}
use Rattle.outside_io.specs.Files.{Files, FileHolds, IsFileName}
use Rattle.outside_io.specs.Views.{StoreView}
use Rattle.program_shell.specs.declared.product.Output.{Output}
use Rattle.program_shell.specs.declared.product.Product.{Product}

-- An output: the name of a file, and the content to write to it.
pub record OutputValue : Type 0 where
  pub name : List ℕ
  pub content : List ℕ

-- A product: the outputs in the order in which they are written, and the report for the standard
-- output.
pub record ProductValue : Type 0 where
  pub outputs : List OutputValue
  pub report : List ℕ

-- The name and content of an output of the program.
abbrev pub output_value : Output → OutputValue
output_value output = record { name = output.name.now; content = output.content }

-- The names and contents of outputs of the program.
abbrev pub output_values : List Output → List OutputValue
output_values outputs = map output_value outputs

-- The outputs and the report of a product of the program.
abbrev pub product_value : Product → ProductValue
product_value product = record { outputs = output_values product.outputs; report = product.report }

-- The product of a command that writes no file.
abbrev pub report_product : List ℕ → ProductValue
report_product report = record { outputs = []; report = report }

-- The product of a command that writes one file.
abbrev pub one_file_product : List ℕ → List ℕ → List ℕ → ProductValue
one_file_product name content report = record {
  outputs = (record { name = name; content = content }) ∷ [];
  report = report;
}

-- The product of a command that writes two files, in this order.
abbrev pub two_file_product : (first second : OutputValue) → List ℕ → ProductValue
two_file_product first second report = record { outputs = first ∷ second ∷ []; report = report }

-- The names of outputs.
abbrev pub output_names : List OutputValue → List (List ℕ)
output_names outputs = map (λ o. o.name) outputs

-- The file of each output contains its content, if files are visible.
abbrev pub AllFilesHold : Option Files → List OutputValue → Type 0
AllFilesHold files [] = Unit {0}
AllFilesHold files (o ∷ rest) = FileHolds files o.name o.content × AllFilesHold files rest

-- A name that differs from each name of a list.
abbrev pub IsNoneOf : List (List ℕ) → List ℕ → Type 0
IsNoneOf [] name = Unit {0}
IsNoneOf (other ∷ rest) name = (name ≢ other) × IsNoneOf rest name

-- Outputs with distinct names.
abbrev pub HaveDistinctNames : List OutputValue → Type 0
HaveDistinctNames [] = Unit {0}
HaveDistinctNames (o ∷ rest) = IsNoneOf (output_names rest) o.name × HaveDistinctNames rest

-- Every file except the named ones is unchanged. Visible files remain visible, hidden ones hidden.
abbrev pub ChangesOnlyFiles : List (List ℕ) → Option Files → Option Files → Type 0
ChangesOnlyFiles names None None = Unit {0}
ChangesOnlyFiles names (Some old) (Some new) = (name : List ℕ) → IsNoneOf names name → new name
    ≡ old name
ChangesOnlyFiles names None (Some new) = ⊥
ChangesOnlyFiles names (Some old) None = ⊥

-- Outputs whose names are file names.
abbrev pub HaveFileNames : List OutputValue → Type 0
HaveFileNames [] = Unit {0}
HaveFileNames (o ∷ rest) = IsFileName o.name × HaveFileNames rest

-- All outputs are written, the other files are unchanged, and no call failed.
pub record WroteAll (outputs : List OutputValue) (before after : StoreView) : Type 0 where
  pub held : AllFilesHold after.files outputs
  pub others : ChangesOnlyFiles (output_names outputs) before.files after.files
  pub faults : after.faults ≡ before.faults
  pub blame : after.blame ≡ before.blame

-- The write of one output failed: the outputs before it are written, and those after it are not.
pub record WroteUpTo (outputs : List OutputValue) (name : List ℕ)
    (before after : StoreView) : Type 0 where
  pub done : List OutputValue
  pub lost : OutputValue
  pub left : List OutputValue
  pub split : done ++ lost ∷ left ≡ outputs
  pub same : lost.name ≡ name
  pub fault : CallFailed before after (write_call name)
  pub held : AllFilesHold after.files done
  pub others : ChangesOnlyFiles (output_names (done ++ lost ∷ [])) before.files after.files
