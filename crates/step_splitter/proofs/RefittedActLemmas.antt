-- The commands of refitted acts have these acts again.
use Rattle.std.proofs.Common.{arith, ◌≡◌, ℕ, ◌+◌, Bool, true, false, not, ◌&&◌, List, [], ◌∷◌, ◌++◌, refl}
use Rattle.step_splitter.proofs.Names.{nat_tests, if◌then◌else◌, Act, Command, Point, acts_along, acts_without_numbers, origin, RefitMode, commands_of_acts, needles_at, refitted_acts, refitted_from, acts_from}
use Rattle.design_model.specs.declared.act.Act.TheVariants as act
use Rattle.design_model.specs.declared.command.Command.TheVariants as command
use Rattle.step_splitter.specs.declared.refitting.RefitMode.TheVariants as mode

-- no float and no trim where the thread is loose
abbrev pub Follows : Bool → List Act → Type 0
Follows loose [] = Unit {0}
Follows loose (act.Needle p true ∷ rest) = (loose ≡ false) × Follows false rest
Follows loose (act.Needle p false ∷ rest) = Follows false rest
Follows loose (act.Trim ∷ rest) = (loose ≡ false) × Follows true rest
Follows loose (act.Stop ∷ rest) = Follows true rest

-- the acts of commands are such
follows_told : (n : ℕ) (loose jumped : Bool) (commands : List Command)
    → Follows loose (acts_without_numbers (acts_from n loose jumped commands))
follows_told n loose jumped [] = tt
follows_told n true true (command.Stitch p ∷ rest) = follows_told (n + 1) false false rest
follows_told n true false (command.Stitch p ∷ rest) = follows_told (n + 1) false false rest
follows_told n false true (command.Stitch p ∷ rest) = (refl, follows_told (n + 1) false false rest)
follows_told n false false (command.Stitch p ∷ rest) = follows_told (n + 1) false false rest
follows_told n loose jumped (command.Jump p ∷ rest) = follows_told (n + 1) loose true rest
follows_told n true jumped (command.Trim ∷ rest) = follows_told (n + 1) true jumped rest
follows_told n false jumped (command.Trim ∷ rest) = (refl, follows_told (n + 1) true false rest)
follows_told n loose jumped (command.Stop ∷ rest) = follows_told (n + 1) true false rest

-- the commands of such acts have these acts again
told_again : (n : ℕ) (loose : Bool) (acts : List Act) → Follows loose acts
    → acts_without_numbers (acts_from n loose false (commands_of_acts acts)) ≡ acts
told_again n loose [] follows = refl
told_again n true (act.Needle p true ∷ rest) follows = cc
told_again n false (act.Needle p true ∷ rest) follows = grind (arith, nat_tests, told_again (n + 1 + 1) false rest follows.1)
told_again n loose (act.Needle p false ∷ rest) follows = grind (arith, nat_tests, told_again (n + 1) false rest follows)
told_again n true (act.Trim ∷ rest) follows = cc
told_again n false (act.Trim ∷ rest) follows = grind (arith, nat_tests, told_again (n + 1) true rest follows.1)
told_again n loose (act.Stop ∷ rest) follows = grind (arith, nat_tests, told_again (n + 1) true rest follows)

-- after needle acts that are no floats the thread isn't loose
follows_needles : (points : List Point) (rest : List Act) → Follows false rest → Follows false (needles_at points ++ rest)
follows_needles [] rest follows = follows
follows_needles (p ∷ points) rest follows = follows_needles points rest follows

follows_split : (loose far : Bool) (p : Point) (points : List Point) (rest : List Act) → Follows false rest
    → Follows loose ((if not loose && far then needles_at points else act.Needle p false ∷ []) ++ rest)
follows_split true far p points rest follows = follows
follows_split false true p points rest follows = follows_needles points rest follows
follows_split false false p points rest follows = follows

-- the acts in the place of such acts are such
follows_refitted : (m : RefitMode) (limit : ℕ) (loose : Bool) (place : Point) (acts : List Act) → Follows loose acts
    → Follows loose (refitted_from m limit loose place acts)
follows_refitted m limit loose place [] follows = tt
follows_refitted mode.Split limit loose place (act.Needle p true ∷ rest) follows =
    (follows.0, follows_refitted mode.Split limit false p rest follows.1)
follows_refitted mode.Split limit loose place (act.Needle p false ∷ rest) follows =
    grind (arith, nat_tests, follows_split, (follows_refitted mode.Split limit false p rest follows))
follows_refitted mode.Cut limit loose place (act.Needle p true ∷ rest) follows =
    (follows.0, follows_refitted mode.Cut limit false p rest follows.1)
follows_refitted mode.Cut limit loose place (act.Needle p false ∷ rest) follows =
    follows_refitted mode.Cut limit false p rest follows
follows_refitted m limit loose place (act.Trim ∷ rest) follows =
    (follows.0, follows_refitted m limit true place rest follows.1)
follows_refitted m limit loose place (act.Stop ∷ rest) follows = grind (arith, nat_tests, follows_refitted m limit true place rest follows)

-- the acts of the commands of refitted acts are the refitted acts
pub refitted_told : (m : RefitMode) (limit : ℕ) (old new : List Command)
    → new ≡ commands_of_acts (refitted_acts m limit (acts_without_numbers (acts_along old)))
    → acts_without_numbers (acts_along new) ≡ refitted_acts m limit (acts_without_numbers (acts_along old))
refitted_told m limit old new is =
    grind (arith, nat_tests, told_again 1 true, follows_refitted m limit true origin, follows_told 1 true false old)
