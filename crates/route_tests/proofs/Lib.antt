mod LensFacts
mod LiftableMoats
mod TreeFacts
mod LoadFacts
