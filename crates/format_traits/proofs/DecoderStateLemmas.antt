-- The results of bytes that a decoder takes part by part.
use Rattle.std.proofs.Common.{◌≡◌, ℕ, ◌+◌, ◌≤◌, List, ◌++◌, length, drop, ap, sym, ◌∙◌, arith, length-append, append_assoc}
use Rattle.format_traits.proofs.Names.{ContinuesAs, DecodedSoFar, DecoderState, length-drop, TakesBytes}

-- bytes are taken off those that are pending, and others stand after them
pub passes_on : {old middle new : DecoderState} {so_far : DecodedSoFar} (start at size : ℕ) (whole pending rest left behind : List ℕ)
    → ContinuesAs old middle start at whole (pending ++ rest) → TakesBytes middle new so_far at pending size
    → left ++ behind ≡ drop size pending ++ rest → ContinuesAs old new start (at + size) whole (left ++ behind)
passes_on {old} {middle} {new} start at size whole pending rest left behind on takes same = record {
  rest = λ more. on.rest more
      ∙ rw (same, append_assoc pending rest more, append_assoc (drop size pending) rest more) (takes.on.rest (rest ++ more));
  decoded = λ more. on.decoded more
      ∙ rw (same, append_assoc pending rest more, append_assoc (drop size pending) rest more) (takes.on.decoded (rest ++ more));
}

-- no byte is lost between those that are left and those that are added
pub passes_sum : (start at size : ℕ) (before chunk pending rest left behind : List ℕ)
    → (at + length pending) + length rest ≡ (start + length before) + length chunk → size ≤ length pending
    → left ++ behind ≡ drop size pending ++ rest → ((at + size) + length left) + length behind ≡ (start + length before) + length chunk
passes_sum start at size before chunk pending rest left behind sum there same =
    let parts : length left + length behind ≡ length (drop size pending) + length rest =
    sym (length-append left behind) ∙ ap length same ∙ length-append (drop size pending) rest in
    omega (arith, sum, there, parts, length-drop size pending)
