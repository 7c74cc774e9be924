pub mod ProgramClauses
