-- What the relations on edits of a drawing exclude.
use Rattle.std.proofs.Common.{◌≡◌, ℕ, ℤ, pos, negsuc, ◌<◌, [], ◌∷◌, true, false, Result, Ok, Err, IsTrue, map, length, refl, arith, All}
use Rattle.design_edits.specs.Motions.{is_small_motion}
use Rattle.design_edits.specs.declared.motion.Motion.TheVariants as motion
use Rattle.design_model.specs.declared.bounds.Extent.{Extent}
use Rattle.drawing_edits.proofs.Names.{DrawingValue, DrawKind, first_line}
use Rattle.drawing_edits.specs.EditFaults.{edit_is_out_of_memory}
use Rattle.drawing_edits.specs.EditedDrawings.{IsDrawingEdit}
use Rattle.drawing_edits.specs.MovedDrawings.{IsNeedleExtent}
use Rattle.drawing_edits.specs.PieceOrders.{IsPieceOf}
use Rattle.drawing_edits.specs.RedrawnDrawings.{AddsAsSpecified}
use Rattle.drawing_edits.specs.declared.drawing_edit.DrawingEdit.TheVariants as edit
use Rattle.drawing_edits.specs.declared.edit_fault.EditFault.TheVariants as fault
use Rattle.line_graph.specs.Drawings.{block_of}
use Rattle.line_graph.specs.declared.draw_kind.DrawKind.TheVariants as kind
use Rattle.line_graph.specs.declared.piece.Piece.{Piece}

-- a shift is within the limit of shifts on both axes
pub known_far : (IsDrawingEdit (edit.Move (motion.Shift (pos 60001) (pos 0))) → ⊥)
    × (IsDrawingEdit (edit.Move (motion.Shift (pos 0) (negsuc 60000))) → ⊥)
    × IsDrawingEdit (edit.Move (motion.Turn 3))
known_far = (λ is. far is, λ is. far_down is, refl)
  where
    far : IsTrue (is_small_motion (motion.Shift (pos 60001) (pos 0))) → ⊥
    far is = cc

    far_down : IsTrue (is_small_motion (motion.Shift (pos 0) (negsuc 60000))) → ⊥
    far_down is = cc

-- a step is from 1 to 2047, and pieces are numbered from 1
pub known_steps : (IsDrawingEdit (edit.Step 0) → ⊥) × (IsDrawingEdit (edit.Step 2048) → ⊥)
known_steps = (λ is. omega (arith, is.0), λ is. omega (arith, is.1))

pub known_numbers : (IsDrawingEdit (edit.Order 0 1) → ⊥) × (IsDrawingEdit (edit.Order 1 0) → ⊥)
known_numbers = (λ is. omega (arith, is.0), λ is. omega (arith, is.1))

-- out of memory is the fault of a drawing, and no other
pub known_out_of_memory : map edit_is_out_of_memory (fault.Draw kind.Memory ∷ fault.Draw kind.EmptyBlock ∷ fault.TwoBlocks
    ∷ fault.NoPiece 3 ∷ fault.SamePiece ∷ fault.OtherBlock ∷ []) ≡ true ∷ false ∷ false ∷ false ∷ false ∷ false ∷ []
known_out_of_memory = refl

-- both corners of an extent are within reach of the needle
abbrev extent : (from to : ℤ) → Extent
extent from to = record { min = record { x = from; y = pos 0 }; max = record { x = pos 0; y = to } }

pub known_extent : IsNeedleExtent (extent (negsuc 29999) (pos 30000))
known_extent = record { min = refl; max = refl }

pub known_outside : (IsNeedleExtent (extent (negsuc 30000) (pos 0)) → ⊥) × (IsNeedleExtent (extent (pos 0) (pos 30001)) → ⊥)
known_outside = (λ is. least is.min, λ is. greatest is.max)
  where
    least : false ≡ true → ⊥
    least is = cc

    greatest : false ≡ true → ⊥
    greatest is = cc

-- a piece has the block of its first line, and its lines are lines of the drawing
pub known_piece : (d : DrawingValue) (p : Piece) → IsPieceOf d p
    → (p.block ≡ block_of d (first_line p.lines)) × All (λ (line : ℕ). line < length d.lines) p.lines
known_piece d p is = (is.block, is.there)

-- a call adds what is specified, and fails only with the fault that is, unless it is out of memory
abbrev Adds : Result ℕ DrawKind → Result ℕ DrawKind → ℕ → Type 0
Adds said result new = AddsAsSpecified said result new

pub known_added : (Adds (Ok 3) (Ok 0) 4 → ⊥) × (Adds (Err kind.EmptyBlock) (Ok 0) 3 → ⊥)
    × (Adds (Ok 3) (Err kind.EmptyBlock) 3 → ⊥) × (Adds (Err kind.NoBlock) (Err kind.EmptyBlock) 3 → ⊥)
known_added = (λ is. other is, λ is. fault is, λ is. value is, λ is. another is)
  where
    other : ◌≡◌ {A = Result ℕ DrawKind} (Ok 3) (Ok 4) → ⊥
    other is = cc

    fault : ◌≡◌ {A = Result ℕ DrawKind} (Err kind.EmptyBlock) (Ok 3) → ⊥
    fault is = cc

    value : ◌≡◌ {A = Result ℕ DrawKind} (Ok 3) (Err kind.EmptyBlock) → ⊥
    value is = cc

    another : ◌≡◌ {A = Result ℕ DrawKind} (Err kind.NoBlock) (Err kind.EmptyBlock) → ⊥
    another is = cc

pub known_no_memory : Adds (Ok 3) (Err kind.Memory) 3
known_no_memory = tt
