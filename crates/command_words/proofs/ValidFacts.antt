-- What valid requests and edits exclude, and their values.
use Rattle.std.proofs.Common.{◌≡◌, pos, negsuc, true, false, [], ◌∷◌, length, map, string_bytes, ap, refl, sym, arith, true≢false}
use Rattle.std.specs.Prelude.{codes}
use Rattle.command_words.specs.Changes.{move, thread}
use Rattle.command_words.specs.Edits.{IsEditInBounds, change_of_edit}
use Rattle.command_words.specs.Requests.{check, convert, double, edit, hoop, migrate, route, sample, show, trace}
use Rattle.command_words.specs.ValidNames.{AreFileNames, AreRouteNames, file_names_value, route_names_value}
use Rattle.command_words.specs.ValidRequests.{AreEdits, IsValidRequest, request_value}
use Rattle.command_words.specs.declared.edit_words.Edit.TheVariants as one
use Rattle.command_words.specs.declared.names.FileNames.{FileNames}
use Rattle.command_words.specs.declared.names.RouteNames.{RouteNames}
use Rattle.command_words.specs.declared.requests.Request.TheVariants as request
use Rattle.design_edits.specs.declared.motion.Motion.TheVariants as motion
use Rattle.outside_io.specs.Files.{IsFileName}

-- the change of each edit
pub known_changes : map change_of_edit (one.Move (motion.Turn 3) ∷ one.Thread 2 7 ∷ []) ≡ move (motion.Turn 3) ∷ thread 2 7 ∷ []
known_changes = refl

-- shifts go up to 60,000, turns up to three quarters, and blocks are numbered from 1 to 255
pub known_bounds : (IsEditInBounds (one.Move (motion.Shift (pos 60001) (pos 0))) → ⊥)
    × (IsEditInBounds (one.Move (motion.Shift (pos 0) (negsuc 60000))) → ⊥) × (IsEditInBounds (one.Move (motion.Turn 4)) → ⊥)
    × (IsEditInBounds (one.Thread 0 7) → ⊥) × (IsEditInBounds (one.Thread 256 7) → ⊥)
known_bounds =
    (λ is. omega (arith, is.0), λ is. omega (arith, is.1), λ is. omega (arith, is), λ is. omega (arith, is.0), λ is. omega (arith, is.1))

-- the bytes of names
pub known_names : (two : FileNames) (three : RouteNames) → (file_names_value two ≡ (two.input.now, two.output.now))
    × (route_names_value three ≡ (three.drawing.now, three.design.now, three.cert.now))
known_names two three = (refl, refl)

-- an empty name is no file name
empty : (name : _) → name ≡ [] → IsFileName name → ⊥
empty name none is = let length_is : length name ≡ 0 = ap length none in omega (arith, is.some, length_is)

pub known_empty_names : (two : FileNames) → (two.input.now ≡ [] → AreFileNames two → ⊥) × (two.output.now ≡ [] → AreFileNames two → ⊥)
known_empty_names two = (λ none are. empty _ none are.input, λ none are. empty _ none are.output)

pub known_empty_route_names : (three : RouteNames) → (three.drawing.now ≡ [] → AreRouteNames three → ⊥)
    × (three.design.now ≡ [] → AreRouteNames three → ⊥) × (three.cert.now ≡ [] → AreRouteNames three → ⊥)
known_empty_route_names three =
    (λ none are. empty _ none are.drawing, λ none are. empty _ none are.design, λ none are. empty _ none are.cert)

-- each request with its names as bytes
pub known_requests : (a b c : _) → (request_value (request.Route a b c) ≡ route a.now b.now c.now)
    × (request_value (request.Check a b c) ≡ check a.now b.now c.now)
    × (request_value (request.Convert a b true false) ≡ convert a.now b.now true false)
    × (request_value (request.Show a) ≡ show a.now) × (request_value (request.Hoop a 3 4) ≡ hoop a.now 3 4)
    × (request_value (request.Sample 7 a) ≡ sample 7 a.now) × (request_value (request.Migrate a b) ≡ migrate a.now b.now)
    × (request_value (request.Trace a b) ≡ trace a.now b.now) × (request_value (request.Double a b c) ≡ double a.now b.now c.now)
known_requests a b c = (refl, refl, refl, refl, refl, refl, refl, refl, refl)

pub known_edit_request : (a b : _) (edits : _) → request_value (request.Edit a b edits)
    ≡ edit a.now b.now (map (λ word. string_bytes word) edits.now)
known_edit_request a b edits = refl

-- arguments of which one is no edit aren't edits
pub known_no_edits : AreEdits (codes "turn=3" ∷ codes "turn=4" ∷ []) → ⊥
known_no_edits are = true≢false (sym are)

-- all names of a valid request are file names, its edits are edits, and the number of a sample is from 1 to 999,999
pub known_valid : (a b c : _) → (IsValidRequest (request.Route a b c) → IsFileName a.now × IsFileName b.now × IsFileName c.now)
    × (IsValidRequest (request.Check a b c) → IsFileName a.now × IsFileName b.now × IsFileName c.now)
    × (IsValidRequest (request.Convert a b true true) → IsFileName a.now × IsFileName b.now)
    × (IsValidRequest (request.Show a) → IsFileName a.now) × (IsValidRequest (request.Hoop a 3 4) → IsFileName a.now)
    × (IsValidRequest (request.Migrate a b) → IsFileName a.now × IsFileName b.now)
    × (IsValidRequest (request.Trace a b) → IsFileName a.now × IsFileName b.now)
    × (IsValidRequest (request.Double a b c) → IsFileName a.now × IsFileName b.now × IsFileName c.now)
known_valid a b c = (λ is. is, λ is. is, λ is. is, λ is. is, λ is. is, λ is. is, λ is. is, λ is. is)

pub known_valid_edit : (a b : _) (edits : _) → IsValidRequest (request.Edit a b edits) → IsFileName a.now × IsFileName b.now
    × AreEdits (map (λ word. string_bytes word) edits.now)
known_valid_edit a b edits is = is

pub known_samples : (a : _) → (IsValidRequest (request.Sample 0 a) → ⊥) × (IsValidRequest (request.Sample 1000000 a) → ⊥)
    × (IsValidRequest (request.Sample 999999 a) → IsFileName a.now)
known_samples a = (λ is. omega (arith, is.0), λ is. omega (arith, is.1), λ is. is.2)
