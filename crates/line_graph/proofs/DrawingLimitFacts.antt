-- The limits of drawings, in numbers. Costs count steps.
use Rattle.std.proofs.Common.{◌≡◌, refl}
use Rattle.line_graph.specs.declared.limits.TheConstants.{MAX_BLOCKS, MAX_COST, MAX_LINES, MAX_POINTS}

pub known_blocks : (MAX_BLOCKS ≡ 255)
    × (MAX_LINES ≡ 1024)
    × (MAX_POINTS ≡ 65536)
    × (MAX_COST ≡ 200000)
known_blocks = (refl, refl, refl, refl)
