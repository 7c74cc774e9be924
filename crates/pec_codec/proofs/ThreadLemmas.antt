-- The threads in a header, whatever is after it.
use Rattle.std.proofs.Common.{◌≡◌, ◌≢◌, ℕ, ◌+◌, ◌-◌, ◌<◌, ◌≤◌, List, [], ◌++◌, length, get_or, take, drop, if◌then◌else◌, ap, sym, ◌∙◌, arith}
use Rattle.pec_codec.proofs.Names.{ne_eqb, drop-append-le, length-drop, HEADER_LENGTH, threads_after, threads_in, get_or_append_left, take-append-le}

pub threads_told : (header more : List ℕ) → length header ≡ HEADER_LENGTH → get_or header 48 0 < 256 → get_or header 48 0 ≢ 255
    → take (50 + get_or header 48 0 - 49) (drop 49 header) ≡ threads_in (header ++ more)
threads_told header more long small other =
    let number = get_or header 48 0 in
    let there : 48 < length header = omega (arith, long) in
    let write_limits : 49 ≤ length header = omega (arith, long) in
    let enough : number + 1 ≤ length (drop 49 header) = omega (arith, long, small, length-drop 49 header) in
    let count : number + 1 ≡ 50 + number - 49 = omega arith in
    sym (ap (λ n. threads_after n (drop 49 (header ++ more))) (get_or_append_left header more 0 48 there)
    ∙ ap (λ b. if b then [] else take (number + 1) (drop 49 (header ++ more))) (ne_eqb number 255 other)
    ∙ ap (take (number + 1)) (drop-append-le 49 header more write_limits)
    ∙ take-append-le (number + 1) (drop 49 header) more enough
    ∙ ap (λ n. take n (drop 49 header)) count)
