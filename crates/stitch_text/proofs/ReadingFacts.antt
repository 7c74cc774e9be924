-- Worked values of reading.
use Rattle.std.proofs.Common.{◌≡◌, ℕ, ℤ, pos, negsuc, Bool, true, false, List, [], ◌∷◌, ◌++◌, None, Some, Result, Ok, Err, codes, refl}
use Rattle.stitch_text.proofs.Names.{Command, Stitch, Jump, Trim, Stop, Point, ReadFault, Loaded, EncoderState, fault_of_act, list_reads, list_moves, list_shown}
use Rattle.design_model.specs.declared.act.Act.TheVariants as act
use Rattle.format_traits.specs.declared.fault.ReadFault.TheVariants as fault

abbrev pub point : ℤ → ℤ → Point
point x y = record { x = x; y = y }

-- lines, each with its end
abbrev pub lines : List (List ℕ) → List ℕ
lines [] = []
lines (line ∷ rest) = line ++ 10 ∷ lines rest

-- these lines after a first line, an empty label and a block in thread 5, which are 31 bytes
abbrev pub behind_head : List (List ℕ) → List ℕ
behind_head rest = lines (codes "stitch-list 1" ∷ codes "label []" ∷ codes "block 5" ∷ rest)

abbrev pub loaded : List ℕ → List ℕ → List Command → Result Loaded ReadFault
loaded label threads commands = Ok (record {
  design = record { label = label; threads = threads; commands = commands };
  ended = true;
})

-- all kinds of lines
abbrev pub every_line : List ℕ
every_line = lines (codes "stitch-list 1" ∷ codes "label [a] b]" ∷ codes "block 5" ∷ codes "needle -9000 9000"
    ∷ codes "needle -6953 9000" ∷ codes "float 30000 30000" ∷ codes "trim" ∷ codes "needle 0 0" ∷ codes "block 0" ∷ codes "end" ∷ [])

pub known_every_line : list_reads every_line ≡ loaded (codes "a] b") (5 ∷ 0 ∷ []) (Stitch (point (negsuc 8999) (pos 9000))
    ∷ Stitch (point (negsuc 6952) (pos 9000)) ∷ Jump (point (pos 30000) (pos 30000)) ∷ Stitch (point (pos 30000) (pos 30000))
    ∷ Trim ∷ Stitch (point (pos 0) (pos 0)) ∷ Stop ∷ [])
known_every_line = refl

-- a needle that is neither loose nor a float moves, and so it does before a refusal
pub known_list_moves : (list_moves every_line ≡ point (pos 2047) (pos 0) ∷ [])
    × (list_moves (behind_head (codes "needle 1 1" ∷ codes "needle 0 3" ∷ codes "needle" ∷ codes "needle 9 9" ∷ []))
    ≡ point (negsuc 0) (pos 2) ∷ [])
known_list_moves = (refl, refl)

-- the commands are those of the lines that have ended, before a refusal
pub known_list_shown : (list_shown every_line ≡ Stitch (point (negsuc 8999) (pos 9000)) ∷ Stitch (point (negsuc 6952) (pos 9000))
    ∷ Jump (point (pos 30000) (pos 30000)) ∷ Stitch (point (pos 30000) (pos 30000)) ∷ Trim ∷ Stitch (point (pos 0) (pos 0)) ∷ Stop ∷ [])
    × (list_shown (behind_head (codes "needle 1 2" ∷ codes "trim" ∷ codes "trim" ∷ codes "needle 9 9" ∷ []))
    ≡ Stitch (point (pos 1) (pos 2)) ∷ Trim ∷ [])
    × (list_shown (behind_head (codes "needle 1 2" ∷ []) ++ codes "needle 3 4") ≡ Stitch (point (pos 1) (pos 2)) ∷ [])
    × (list_shown (codes "stitch-list 1") ≡ [])
known_list_shown = (refl, refl, refl, refl)

-- a list without acts
pub known_list_reads : (list_reads (behind_head (codes "end" ∷ [])) ≡ loaded [] (5 ∷ []) [])
    -- a trim and a float of a loose thread, at their lines
    × (list_reads (behind_head (codes "trim" ∷ codes "end" ∷ [])) ≡ Err (fault.Control 31))
    × (list_reads (behind_head (codes "needle 0 0" ∷ codes "trim" ∷ codes "trim" ∷ codes "end" ∷ []))
    ≡ Err (fault.Control 47))
    × (list_reads (behind_head (codes "float 1 1" ∷ codes "end" ∷ [])) ≡ Err (fault.Control 31))
    -- a stitch that is too long, and a point out of range, wherever it stands
    × (list_reads (behind_head (codes "needle 0 0" ∷ codes "needle 0 2048" ∷ codes "end" ∷ [])) ≡ Err (fault.Control 42))
    × (list_reads (behind_head (codes "float 0 30001" ∷ codes "end" ∷ [])) ≡ Err (fault.Range 31))
    × (list_reads (behind_head (codes "needle -9999999999 0" ∷ [])) ≡ Err (fault.Range 31))
    -- lines of the head that stand elsewhere, and a line of acts among them
    × (list_reads (behind_head (codes "label []" ∷ [])) ≡ Err (fault.Control 31))
    × (list_reads (behind_head (codes "stitch-list 1" ∷ [])) ≡ Err (fault.Control 31))
    × (list_reads (lines (codes "stitch-list 1" ∷ codes "label []" ∷ codes "needle 99999 0" ∷ [])) ≡ Err (fault.Control 23))
    × (list_reads (lines (codes "stitch-list 1" ∷ codes "block 5" ∷ [])) ≡ Err (fault.Control 14))
    × (list_reads (lines (codes "stitch-list 2" ∷ codes "label []" ∷ [])) ≡ Err (fault.Signature 0))
    -- a text that stops is too short, whatever its last bytes are
    × (list_reads (behind_head []) ≡ Err (fault.Short 31))
    × (list_reads (behind_head [] ++ codes "end") ≡ Err (fault.Short 34))
    × (list_reads (codes "stitch") ≡ Err (fault.Short 6))
    × (list_reads [] ≡ Err (fault.Short 0))
    -- bytes after the last line
    × (list_reads (behind_head (codes "end" ∷ []) ++ codes "end") ≡ Err (fault.Control 35))
known_list_reads = (refl, refl, refl, refl, refl, refl, refl, refl, refl, refl, refl, refl, refl, refl, refl, refl, refl)

-- a state after n stops, with the room of the acts so far
abbrev pub state : Bool → ℕ → ℕ → EncoderState
state loose stops room = record { loose = loose; place = point (pos 0) (pos 0); stops = stops; room = room }

-- block 255, block 256, and an act without room
pub known_fault_of_act : (fault_of_act 9 (state false 253 999999) act.Stop ≡ None)
    × (fault_of_act 9 (state false 254 1000000) act.Stop ≡ Some (fault.Control 9))
    × (fault_of_act 9 (state false 253 999997) act.Trim ≡ Some (fault.TooMany 9))
    × (fault_of_act 9 (state true 253 999997) act.Trim ≡ Some (fault.Control 9))
known_fault_of_act = (refl, refl, refl, refl)
