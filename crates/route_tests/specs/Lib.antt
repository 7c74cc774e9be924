pub mod MoatLoads
