-- The requests of the program as values, and the conditions that their arguments satisfy.
use Rattle.std.specs.Prelude.{ℕ, ◌≤◌, List, map, IsSome, string_bytes}
use Rattle.outside_io.specs.Files.{IsFileName}
use Rattle.command_words.specs.declared.request_words.TheConstants.{MAX_SAMPLE}
use Rattle.command_words.specs.declared.requests.Request.{Request}
use Rattle.command_words.specs.declared.requests.Request.TheVariants as request
use Rattle.command_words.specs.Requests.{RequestValue, check, convert, double, edit, hoop, migrate, route, sample, show, trace}
use Rattle.command_words.specs.Arguments.{parsed_edits}

-- The value of a request: names and edits as bytes.
abbrev pub request_value : Request → RequestValue
request_value (request.Route drawing out cert) = route drawing.now out.now cert.now
request_value (request.Check drawing file cert) = check drawing.now file.now cert.now
request_value (request.Convert input output splits cuts) = convert input.now output.now splits cuts
request_value (request.Show file) = show file.now
request_value (request.Edit input output edits) = edit input.now output.now
    (map (λ word. string_bytes word) edits.now)
request_value (request.Hoop file w h) = hoop file.now w h
request_value (request.Sample n drawing) = sample n drawing.now
request_value (request.Migrate input output) = migrate input.now output.now
request_value (request.Trace file drawing) = trace file.now drawing.now
request_value (request.Double drawing out cert) = double drawing.now out.now cert.now

-- Arguments that are edits.
abbrev pub AreEdits : List (List ℕ) → Type 0
AreEdits words = IsSome (parsed_edits words)

-- A valid request: its file names are within the limits, and its edits and numbers are valid.
abbrev pub IsValidRequest : Request → Type 0
IsValidRequest (request.Route drawing out cert) =
    IsFileName drawing.now × IsFileName out.now × IsFileName cert.now
IsValidRequest (request.Check drawing file cert) =
    IsFileName drawing.now × IsFileName file.now × IsFileName cert.now
IsValidRequest (request.Convert input output splits cuts) =
    IsFileName input.now × IsFileName output.now
IsValidRequest (request.Show file) = IsFileName file.now
IsValidRequest (request.Edit input output edits) = IsFileName input.now × IsFileName output.now
    × AreEdits (map (λ word. string_bytes word) edits.now)
IsValidRequest (request.Hoop file w h) = IsFileName file.now
IsValidRequest (request.Sample n drawing) = (1 ≤ n) × (n ≤ MAX_SAMPLE) × IsFileName drawing.now
IsValidRequest (request.Migrate input output) = IsFileName input.now × IsFileName output.now
IsValidRequest (request.Trace file drawing) = IsFileName file.now × IsFileName drawing.now
IsValidRequest (request.Double drawing out cert) =
    IsFileName drawing.now × IsFileName out.now × IsFileName cert.now
