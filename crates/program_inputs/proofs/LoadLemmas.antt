-- The bytes of a file that were fed, and the result at its end.
use Rattle.std.proofs.Common.{◌≡◌, ℕ, ◌+◌, ◌≤◌, List, ◌++◌, length, take, Option, Result, ap, sym, subst, ◌∙◌, length-append, append_assoc}
use Rattle.std.proofs.lemmas.List.{length-take-le}
use Rattle.outside_io.specs.FileParts.{IsContentPrefix, IsFilePrefix, IsNextPart}
use Rattle.outside_io.specs.Files.{Files}
use Rattle.format_traits.specs.declared.fault.ReadFault.{ReadFault}
use Rattle.format_traits.specs.declared.loaded.Loaded.{Loaded}
use Rattle.format_traits.specs.Feeding.{FeedState, IsFed}
use Rattle.program_inputs.specs.Loading.{IsFedWith}

-- the first n bytes of the file were fed
pub record IsPartFed (reads : List ℕ → Result Loaded ReadFault) (files : Option Files) (name : List ℕ) (at : ℕ) (f : FeedState) : Type 0
  where
    pub bytes : List ℕ
    pub long : length bytes ≡ at
    pub begun : IsFilePrefix files name bytes
    pub fed : IsFedWith reads bytes f

-- then the next part is
pub more_fed : (reads : List ℕ → Result Loaded ReadFault) (files here : Option Files) (name : List ℕ) (at count : ℕ)
    (buffer piece : List ℕ) (f f' : FeedState) → here ≡ files → IsPartFed reads files name at f → count ≤ length buffer
    → ((before : List ℕ) → length before ≡ at → IsFilePrefix here name before → IsNextPart here name before buffer count)
    → piece ≡ take count buffer → IsFed f piece f' → IsPartFed reads files name (at + count) f'
more_fed reads files here name at count buffer piece f f' same part within next is fed =
    let bytes = part.bytes in
    let read = next bytes part.long (λ told there. part.begun told (sym same ∙ there)) in
    let size : length piece ≡ count = ap length is ∙ length-take-le count buffer within in
    let both : length (bytes ++ piece) ≡ at + count =
    length-append bytes piece ∙ ap (λ n. n + length piece) part.long ∙ ap (λ n. at + n) size in
    record {
      bytes = bytes ++ piece;
      long = both;
      begun = λ told there. subst (λ (p : List ℕ). IsContentPrefix (told name) (bytes ++ p)) (sym is) (read.on told (same ∙ there));
      fed = record {
        sound = fed.sound;
        taken = fed.taken ∙ ap (λ n. n + length piece) part.fed.taken ∙ sym (length-append bytes piece);
        rest = λ more. fed.rest more ∙ part.fed.rest (piece ++ more) ∙ ap reads (sym (append_assoc bytes piece more));
      };
    }
