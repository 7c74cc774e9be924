-- Read EditedDesigns first: what each edit makes of a design.
pub mod DesignChanges
pub mod EditedDesigns
pub mod EditedInOrder
pub mod EditKeys
pub mod EditArguments
pub mod EditMistakes
