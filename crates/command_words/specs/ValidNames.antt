-- The file names that the program reads from arguments.
use Rattle.std.specs.Prelude.{ℕ, List}
use Rattle.outside_io.specs.Files.{IsFileName}
use Rattle.command_words.specs.declared.names.FileNames.{FileNames}
use Rattle.command_words.specs.declared.names.RouteNames.{RouteNames}

-- The bytes of two names.
abbrev pub file_names_value : FileNames → List ℕ × List ℕ
file_names_value names = (names.input.now, names.output.now)

-- The bytes of three names.
abbrev pub route_names_value : RouteNames → List ℕ × List ℕ × List ℕ
route_names_value names = (names.drawing.now, names.design.now, names.cert.now)

-- Both names are file names.
pub record AreFileNames (names : FileNames) : Type 0 where
  pub input : IsFileName names.input.now
  pub output : IsFileName names.output.now

-- All three names are file names.
pub record AreRouteNames (names : RouteNames) : Type 0 where
  pub drawing : IsFileName names.drawing.now
  pub design : IsFileName names.design.now
  pub cert : IsFileName names.cert.now
