-- Worked values of packed tasks and replies, by hand.
use Rattle.std.proofs.Common.{◌≡◌, [], ◌∷◌, ◌++◌, Ok, Err, refl}
use Rattle.std.specs.Str.{chars, is_utf8}
use Rattle.std.proofs.Math.Utf8.{encode}
use Rattle.task_runs.specs.Packing.{ReplyValue, TaskValue, packed_number, packed_reply, packed_task}
use Rattle.task_runs.specs.TaskReading.{number_of, task_of}
use Rattle.task_runs.specs.declared.task_fault.TaskFault.TheVariants as fault

-- numbers, the low byte first
pub known_numbers : (packed_number 258 ≡ 2 ∷ 1 ∷ 0 ∷ 0 ∷ [])
    × (packed_number 16909060 ≡ 4 ∷ 3 ∷ 2 ∷ 1 ∷ [])
    × (number_of 4 3 2 1 ≡ 16909060)
    × (number_of 255 255 255 255 ≡ 4294967295)
known_numbers = (refl, refl, refl, refl)

-- two arguments, `a` and none, and a file `b` of two bytes
abbrev small : TaskValue
small = record {
  words = (97 ∷ []) ∷ [] ∷ [];
  files = record { name = 98 ∷ []; content = 7 ∷ 8 ∷ [] } ∷ [];
}

pub known_packed_task : packed_task small
    ≡ 2 ∷ 0 ∷ 0 ∷ 0 ∷ 1 ∷ 0 ∷ 0 ∷ 0 ∷ 97 ∷ 0 ∷ 0 ∷ 0 ∷ 0 ∷ 1 ∷ 0 ∷ 0 ∷ 0 ∷ 1 ∷ 0 ∷ 0 ∷ 0 ∷ 98 ∷ 2 ∷ 0 ∷ 0 ∷ 0 ∷ 7 ∷ 8 ∷ []
known_packed_task = refl

-- status 3, `o` printed, nothing reported, and the file `b` of one byte
abbrev reply : ReplyValue
reply = record { outcome = 3; out = 111 ∷ []; err = []; files = record { name = 98 ∷ []; content = 9 ∷ [] } ∷ [] }

pub known_packed_reply : packed_reply reply
    ≡ 3 ∷ 0 ∷ 0 ∷ 0 ∷ 1 ∷ 0 ∷ 0 ∷ 0 ∷ 111 ∷ 0 ∷ 0 ∷ 0 ∷ 0 ∷ 1 ∷ 0 ∷ 0 ∷ 0 ∷ 1 ∷ 0 ∷ 0 ∷ 0 ∷ 98 ∷ 1 ∷ 0 ∷ 0 ∷ 0 ∷ 9 ∷ []
known_packed_reply = refl

-- a packed task is read, and so is an empty one; other bytes have a fault each
pub known_task_of : (task_of (packed_task small) ≡ Ok small)
    × (task_of (0 ∷ 0 ∷ 0 ∷ 0 ∷ 0 ∷ 0 ∷ 0 ∷ 0 ∷ []) ≡ Ok (record { words = []; files = [] }))
    × (task_of [] ≡ Err fault.CutOff)
    × (task_of (0 ∷ 0 ∷ 0 ∷ 0 ∷ 0 ∷ 0 ∷ 0 ∷ []) ≡ Err fault.CutOff)
    × (task_of (1 ∷ 0 ∷ 0 ∷ 0 ∷ 2 ∷ 0 ∷ 0 ∷ 0 ∷ 97 ∷ []) ≡ Err fault.CutOff)
    × (task_of (1 ∷ 0 ∷ 0 ∷ 0 ∷ 1 ∷ 0 ∷ 0 ∷ 0 ∷ 255 ∷ []) ≡ Err fault.NotText)
    × (task_of (packed_task small ++ 0 ∷ []) ≡ Err fault.BytesLeft)
unfolding is_utf8 chars encode
known_task_of = (refl, refl, refl, refl, refl, refl, refl)
