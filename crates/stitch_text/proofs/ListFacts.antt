-- Worked values of writing.
use Rattle.std.proofs.Common.{◌≡◌, ℕ, ℤ, pos, negsuc, true, List, [], ◌∷◌, ◌++◌, Ok, Err, Some, None, codes, refl}
use Rattle.std.specs.Fmt.{digits}
use Rattle.stitch_text.proofs.Names.{Command, Stitch, Jump, Trim, Stop, Point, numbered, DesignValue, EncoderState, refusal_of_act, LIMIT, list_write_limits, list_writes, MAX_STOPS}
use Rattle.design_model.specs.declared.act.Act.TheVariants as act
use Rattle.format_traits.specs.declared.fault.WriteFault.TheVariants as fault

abbrev pub point : ℤ → ℤ → Point
point x y = record { x = x; y = y }

-- lines, each with its end
abbrev pub lines : List (List ℕ) → List ℕ
lines [] = []
lines (line ∷ rest) = line ++ 10 ∷ lines rest

-- a design without a label, with these threads
abbrev pub sewn : List ℕ → List Command → DesignValue
sewn threads commands = record { label = []; threads = threads; commands = commands }

-- how far a stitch goes on each axis, in tenths of a millimetre, and the stops that may be written
pub known_limit : (LIMIT ≡ 2047)
    × (MAX_STOPS ≡ 254)
known_limit = (refl, refl)

-- a square of 30 in thread 5, and a trim
abbrev pub square : DesignValue
square = sewn (5 ∷ []) (Stitch (point (pos 0) (pos 0)) ∷ Stitch (point (pos 30) (pos 0)) ∷ Stitch (point (pos 30) (pos 30))
    ∷ Stitch (point (pos 0) (pos 30)) ∷ Stitch (point (pos 0) (pos 0)) ∷ Trim ∷ [])

pub known_square : list_writes square ≡ Ok (lines (codes "stitch-list 1" ∷ codes "label []" ∷ codes "block 5" ∷ codes "needle 0 0"
    ∷ codes "needle 30 0" ∷ codes "needle 30 30" ∷ codes "needle 0 30" ∷ codes "needle 0 0" ∷ codes "trim" ∷ codes "end" ∷ []))
unfolding digits
known_square = refl

-- an uncut jump of 400 is a float, whatever jumps it takes; a block has a thread though none is kept
pub known_float : list_writes (sewn [] (Stitch (point (pos 0) (pos 0)) ∷ Jump (point (pos 100) (pos 0)) ∷ Jump (point (pos 400) (pos 0))
    ∷ Stitch (point (pos 400) (pos 0)) ∷ []))
    ≡ Ok (lines (codes "stitch-list 1" ∷ codes "label []" ∷ codes "block 1" ∷ codes "needle 0 0" ∷ codes "float 400 0" ∷ codes "end" ∷ []))
unfolding digits
known_float = refl

-- a label with a bracket, a loose needle far off to the left and downwards, a trim of a loose thread, which is none, and blocks
pub known_blocks : list_writes (record {
  label = codes "a] b";
  threads = 255 ∷ [];
  commands = Jump (point (pos 9) (pos 9)) ∷ Stitch (point (negsuc 29999) (pos 30000)) ∷ Stop ∷ Trim ∷ Stop ∷ [];
}) ≡ Ok (lines (codes "stitch-list 1" ∷ codes "label [a] b]" ∷ codes "block 255" ∷ codes "needle -30000 30000" ∷ codes "block 2"
    ∷ codes "block 3" ∷ codes "end" ∷ []))
unfolding digits
known_blocks = refl

-- the longest stitch, and one that is longer
pub known_longest : list_writes (sewn (5 ∷ []) (Stitch (point (pos 0) (pos 0)) ∷ Stitch (point (pos 2047) (negsuc 2046)) ∷ []))
    ≡ Ok (lines (codes "stitch-list 1" ∷ codes "label []" ∷ codes "block 5" ∷ codes "needle 0 0"
    ∷ codes "needle 2047 -2047" ∷ codes "end" ∷ []))
unfolding digits
known_longest = refl

pub known_long : list_writes (sewn (5 ∷ []) (Stitch (point (pos 0) (pos 0)) ∷ Stitch (point (pos 5) (negsuc 2047)) ∷ []))
    ≡ Err (fault.StitchTooLong 2)
known_long = refl

-- a float of any length is written
pub known_far : list_writes (sewn (5 ∷ []) (Stitch (point (pos 0) (pos 0)) ∷ Jump (point (pos 0) (pos 0))
    ∷ Stitch (point (pos 9000) (pos 0)) ∷ []))
    ≡ Ok (lines (codes "stitch-list 1" ∷ codes "label []" ∷ codes "block 5" ∷ codes "needle 0 0" ∷ codes "float 9000 0" ∷ codes "end" ∷ []))
unfolding digits
known_far = refl

-- a state after n stops, with the room of the acts so far
abbrev pub state : ℕ → ℕ → EncoderState
state stops room = record { loose = true; place = point (pos 0) (pos 0); stops = stops; room = room }

-- stop 254, stop 255, and a stop without room
pub known_refusal_of_act : (refusal_of_act list_write_limits (state 253 999999) (numbered 7 act.Stop) ≡ None)
    × (refusal_of_act list_write_limits (state 254 1000000) (numbered 7 act.Stop) ≡ Some (fault.TooManyStops 7))
    × (refusal_of_act list_write_limits (state 253 1000000) (numbered 7 act.Stop) ≡ Some (fault.TooLong 7))
known_refusal_of_act = (refl, refl, refl)
