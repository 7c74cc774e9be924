-- The records of acts, one after the other.
use Rattle.std.proofs.Common.{◌≡◌, ℕ, suc, ◌+◌, ◌-◌, ◌<◌, List, Result, Ok, Err, [], ◌∷◌, ◌++◌, map, refl, ap, sym, ◌∙◌, arith}
use Rattle.std.proofs.lemmas.List.{append_assoc}
use Rattle.record_formats.proofs.Names.{nat_tests, append-nil, concat, NumberedAct, Point, move_between, WriteLimits, EncoderState, part_end, part_moves_from, encoder_state_after, initial_encoder_state, RecordEncoding, records_of_act, records_of_acts_from, AppendsRecords}
use Rattle.format_traits.specs.declared.fault.WriteFault.{WriteFault}
use Rattle.format_traits.specs.ActWriting.{AppendsActs, bytes_of_acts_from}

-- one jump more
pub jump_more : (jump : Point → List ℕ) (out out' total : List ℕ) (m : Point) (n done wanted : ℕ) → done < wanted
    → out' ≡ out ++ jump (move_between (part_end m n done) (part_end m n (done + 1)))
    → out ++ concat (map jump (part_moves_from m n done (wanted - done))) ≡ total
    → out' ++ concat (map jump (part_moves_from m n (done + 1) (wanted - (done + 1)))) ≡ total
jump_more jump out out' total m n done wanted more is all =
    let left : wanted - done ≡ suc (wanted - (done + 1)) = omega (arith, more) in grind (arith, nat_tests, append_assoc, left)

pub concat-append : (xs ys : List (List ℕ)) → concat (xs ++ ys) ≡ concat xs ++ concat ys
concat-append [] ys = refl
concat-append (x ∷ xs) ys = ap (λ bytes. x ++ bytes) (concat-append xs ys) ∙ sym (append_assoc x (concat xs) (concat ys))

-- jumps and a last record
pub jumps_and : (out middle bytes : List ℕ) (jumps : List (List ℕ)) (last : List ℕ)
    → middle ≡ out ++ concat jumps → bytes ≡ middle ++ last → bytes ≡ out ++ concat (jumps ++ last ∷ [])
jumps_and out middle bytes jumps last of_middle of_bytes = grind (arith, nat_tests, append_assoc, concat-append, append-nil)

-- the records of acts, act by act
joined : (encoding : RecordEncoding) (write_limits : WriteLimits) (before : EncoderState) (acts : List NumberedAct)
    → bytes_of_acts_from (λ before act. concat (records_of_act encoding write_limits before act)) write_limits.limit before acts
    ≡ concat (records_of_acts_from encoding write_limits before acts)
joined encoding write_limits before [] = refl
joined encoding write_limits before (a ∷ rest) =
    grind (arith, nat_tests, concat-append, (joined encoding write_limits (encoder_state_after write_limits.limit before a.act) rest))

-- acts that are appended are their records
pub records_put : (encoding : RecordEncoding) (write_limits : WriteLimits) (acts : List NumberedAct) (old new : List ℕ)
    (result : Result EncoderState WriteFault)
    → AppendsActs (λ before act. concat (records_of_act encoding write_limits before act)) write_limits acts old result new
    → AppendsRecords encoding write_limits acts old result new
records_put encoding write_limits acts old new (Ok state) is =
    (is.0, is.1 ∙ ap (λ bytes. old ++ bytes) (joined encoding write_limits initial_encoder_state acts), is.2)
records_put encoding write_limits acts old new (Err f) is = is
