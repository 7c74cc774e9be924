-- The results of bytes before which a header is taken.
use Rattle.std.proofs.Common.{◌≡◌, ℕ, ◌+◌, List, [], ◌++◌, length, drop, ap, sym, ◌∙◌, subst, arith, length-append, append_assoc}
use Rattle.std.proofs.Math.Seq.{drop-append-add}
use Rattle.record_formats.proofs.Names.{nat_tests, ContinuesAs, IsSameDecoderState, IsAtRecordBoundary, DecodedSoFar, DecoderState, TakesBytes}

-- after no header is the whole file
pub same_behind : (fresh new : DecoderState) (header : ℕ) → header ≡ 0 → ((at : ℕ) → ContinuesAs fresh new at (at + header) [] [])
    → IsSameDecoderState new fresh
same_behind fresh new header none on =
    let here : (at : ℕ) → at + header ≡ at = λ at. omega (arith, none) in
    record {
      rest = λ at bytes. sym ((on at).rest bytes ∙ ap (λ n. new.rest n bytes) (here at));
      decoded = λ at bytes. sym ((on at).decoded bytes ∙ ap (λ n. new.decoded n bytes) (here at));
    }

-- what is taken after a header that is whole
pub takes_behind : (fresh middle new : DecoderState) (so_far : DecodedSoFar) (at least header size : ℕ) (bytes front back : List ℕ)
    → bytes ≡ front ++ back → length front ≡ header → least ≡ header → ContinuesAs fresh middle at (at + least) front []
    → TakesBytes middle new so_far (at + header) back size → TakesBytes fresh new so_far at bytes (header + size)
takes_behind fresh middle new so_far at least header size bytes front back whole of_header of_least entered takes =
    let on : ContinuesAs fresh middle at (at + header) front [] =
    subst (λ n. ContinuesAs fresh middle at (at + n) front []) of_least entered in
    let far : at + (header + size) ≡ (at + header) + size = omega arith in
    let left : drop (header + size) bytes ≡ drop size back = grind (arith, nat_tests, drop-append-add) in
    record {
      there = grind (arith, nat_tests, takes.there, length-append);
      few = grind (arith, nat_tests, takes.few, length-append);
      on = record {
        rest = λ more. rw (left, far, whole, append_assoc front back more, on.rest (back ++ more)) (takes.on.rest more);
        decoded = λ more. rw (left, far, whole, append_assoc front back more, on.decoded (back ++ more)) (takes.on.decoded more);
      };
      settled = subst (λ n. IsAtRecordBoundary new so_far n (drop (header + size) bytes)) (sym far)
          (subst (λ left. IsAtRecordBoundary new so_far ((at + header) + size) left) (sym left) takes.settled);
    }
