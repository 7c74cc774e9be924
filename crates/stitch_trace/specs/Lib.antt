-- Read these in order: links, the chains of new links, and the traced drawing.
pub mod Links
pub mod Chains
pub mod Traces
-- Theorems about traced drawings.
pub mod TraceTheorems
-- Used only inside this crate.
pub mod Tracing
