-- Arguments after the fifth.
use Rattle.std.proofs.Common.{◌≡◌, ◌≤◌, ℕ, List, [], ◌∷◌, Err, length, map, arith, refl}
use Rattle.picture_commands.specs.declared.mistake.Misfit.TheVariants as misfit
use Rattle.picture_commands.specs.Mistakes.{mistake_at}
use Rattle.picture_commands.specs.ParsedWords.{parsed_many}

-- Where an argument follows the fifth, that isn't understood.
pub many_follow : {W : Type 0} (bytes : W → List ℕ) (input output width height fifth : List ℕ) (rest : List W) → 1 ≤ length rest
    → parsed_many input output width height fifth (map bytes rest) ≡ Err (mistake_at fifth misfit.NotUnderstood)
many_follow bytes input output width height fifth [] long = grind (arith, long)
many_follow bytes input output width height fifth (more ∷ rest) long = refl
