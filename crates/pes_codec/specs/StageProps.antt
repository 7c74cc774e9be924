-- A proof that KeepsStage is a proposition, so that a type can have it as a field.
use Rattle.std.specs.Prelude.{ℕ, List}
use Rattle.std.proofs.Props.{props}
use Rattle.format_traits.specs.Feeding.{FeedState}
use Rattle.pes_codec.specs.declared.file_stage.FileStage.{FileStage}
use Rattle.pes_codec.specs.declared.file_stage.FileStage.TheVariants as stage
use Rattle.pes_codec.specs.FileStates.{KeepsStage}
use Rattle.pes_codec.specs.Fronts.{FrontLayout}

pub keeps_stage-prop : (front_layout : FrontLayout) (front : List ℕ) (taken skip : ℕ)
    (block : FeedState) (at : FileStage)
    → IsProp (KeepsStage front_layout front taken skip block at)
keeps_stage-prop front_layout front taken skip block stage.Front = hlevel props
keeps_stage-prop front_layout front taken skip block stage.Refused = hlevel props
keeps_stage-prop front_layout front taken skip block stage.Behind = hlevel props
