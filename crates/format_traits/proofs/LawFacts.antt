-- Violations of each law, and endings.
use Rattle.std.proofs.Common.{◌≡◌, ℕ, pos, true, false, List, [], ◌∷◌, None, Result, Ok, Err, codes, refl, arith, sym, true≢false}
use Rattle.format_traits.proofs.Names.{Stitch, DesignValue, origin, ReadFault, WriteFault, Loaded, HasSameActs, MovesWithin, DecodesTo, Meaning, IsFileEnding, EncodesTo, IsSpecifiedRefusal}
use Rattle.design_model.specs.declared.act.Act.TheVariants as act
use Rattle.design_model.specs.declared.command.Command.TheVariants.{Trim}
use Rattle.format_traits.specs.declared.fault.ReadFault.TheVariants as read
use Rattle.format_traits.specs.declared.fault.WriteFault.TheVariants as write
use Rattle.format_traits.proofs.EndingFacts.{named}

-- an ending has a byte, and no capital
pub known_ending : IsFileEnding (codes "m4")
known_ending = record { some = omega arith; letters = refl }

pub known_no_ending : IsFileEnding [] → ⊥
known_no_ending ending = omega (arith, ending.some)

pub known_capital : IsFileEnding (codes "dsT") → ⊥
known_capital ending = true≢false (sym ending.letters)

-- no result except out of memory is allowed in place of the specified one
abbrev want : Result Loaded ReadFault
want = Err read.Memory

pub known_reads : (DecodesTo want (Err (read.Short 7)) → ⊥) × (DecodesTo want (Err (read.Signature 7)) → ⊥)
    × (DecodesTo want (Err (read.Sequin 7)) → ⊥)
    × (DecodesTo want (Err (read.Control 7)) → ⊥) × (DecodesTo want (Err (read.Range 7)) → ⊥) × (DecodesTo want (Err (read.TooMany 7)) → ⊥)
known_reads = (λ is. cc, λ is. cc, λ is. cc, λ is. cc, λ is. cc, λ is. cc)

abbrev unwritten : Result (List ℕ) WriteFault
unwritten = Err write.Memory

pub known_writes : (EncodesTo unwritten (Ok []) → ⊥) × (EncodesTo unwritten (Err (write.StitchTooLong 7)) → ⊥)
    × (EncodesTo unwritten (Err (write.FloatTooLong 7)) → ⊥) × (EncodesTo unwritten (Err (write.TooManyStops 7)) → ⊥)
    × (EncodesTo unwritten (Err (write.TooLong 7)) → ⊥)
known_writes = (λ is. cc, λ is. cc, λ is. cc, λ is. cc, λ is. cc)

pub known_refused : (IsSpecifiedRefusal None (write.StitchTooLong 7) → ⊥) × (IsSpecifiedRefusal None (write.FloatTooLong 7) → ⊥)
    × (IsSpecifiedRefusal None (write.TooManyStops 7) → ⊥) × (IsSpecifiedRefusal None (write.TooLong 7) → ⊥)
known_refused = (λ is. cc, λ is. cc, λ is. cc, λ is. cc)

-- one stitch, and the same with a trim
abbrev stitch : DesignValue
stitch = record { label = []; threads = []; commands = Stitch origin ∷ [] }

abbrev trimmed : DesignValue
trimmed = record { label = []; threads = []; commands = Stitch origin ∷ Trim ∷ [] }

-- what reads back has all acts, and an end
pub known_lost : HasSameActs trimmed (record { design = stitch; ended = true }) → ⊥
known_lost again = fewer again.acts
  where
    fewer : act.Needle origin false ∷ [] ≡ act.Needle origin false ∷ act.Trim ∷ [] → ⊥
    fewer is = cc

pub known_unended : HasSameActs stitch (record { design = stitch; ended = false }) → ⊥
known_unended again = true≢false (sym again.ended)

-- a format with the limit 121 whose files move by 121, or farther
abbrev moving : ℕ → Meaning
moving x = record (named []) { moves = λ bytes. record { x = pos x; y = pos 0 } ∷ [] }

pub known_within : MovesWithin (moving 121) []
known_within = refl

pub known_beyond : MovesWithin (moving 122) [] → ⊥
known_beyond within = true≢false (sym within)
