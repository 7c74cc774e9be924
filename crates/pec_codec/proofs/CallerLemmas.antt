-- Lemmas that this crate and those above cite.
use Rattle.std.proofs.Common.{IsOkAnd, Result, arith}
use Rattle.pec_codec.proofs.Names.{nat_tests, ints, DesignValue, ReadFault, Loaded, RestoresDesign, HasSameActs}

pub again_from : (d : DesignValue) (result : Result Loaded ReadFault) → IsOkAnd result (λ loaded. RestoresDesign d loaded)
    → IsOkAnd result (λ loaded. HasSameActs d loaded)
again_from d result h1 = grind (arith, nat_tests, ints)
