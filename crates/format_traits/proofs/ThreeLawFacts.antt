-- The designs that every format encodes, at their limits, and what the laws of a format exclude.
use Rattle.std.proofs.Common.{◌≡◌, ℕ, ◌+◌, true, false, Bool, IsTrue, IsOk, IsOkAnd, IfOk, List, [], ◌∷◌, ◌++◌, None, Some, Result, Ok, Err, arith, subst, sym, true≢false, ◌∙◌}
use Rattle.std.specs.List.{list_all}
use Rattle.format_traits.proofs.Names.{Command, acts_of, DesignValue, origin, WriteLimits, ReadFault, WriteFault, Loaded, AcceptedIsWithinLimits, IsFed, CodecsKeepLaws, HasSameActs, RoundTrips, Meaning, IsPlain, are_plain_from, first_refusal, stops_of, room_of, acts_without_numbers, KeepsLimits, is_point_within, FeedState, Feeds, Finishes, HasNothingFed, IsCodec, KeepsAllLaws, KeepsLaws, MovesWithin, NumberedAct, is_above_max, unless_refused}
use Rattle.design_model.specs.ActPositions.{is_act_in_range}
use Rattle.design_model.specs.declared.memory.Memory.{Memory}
use Rattle.format_traits.specs.declared.fault.ReadFault.TheVariants as read

-- a plain design has up to 254 stops and room for up to a million commands
pub known_largest : (limit : ℕ) (d : DesignValue) → IsTrue (are_plain_from limit true origin (acts_of d))
    → stops_of (acts_of d) ≡ 254 → room_of limit (acts_of d) ≡ 1000000
    → IsPlain limit d
known_largest limit d needles stops room =
    record { needles = needles; stops = omega (arith, stops); room = omega (arith, room) }

pub known_beyond : (limit : ℕ) (d : DesignValue) → IsPlain limit d → (stops_of (acts_of d) ≡ 255 → ⊥)
    × (room_of limit (acts_of d) ≡ 1000001 → ⊥) × (are_plain_from limit true origin (acts_of d) ≡ false → ⊥)
known_beyond limit d plain = (
  λ is. omega (arith, is, plain.stops),
  λ is. omega (arith, is, plain.room),
  λ is. true≢false (sym plain.needles ∙ is),
)

-- a design that is encoded is read again, with its acts and to its end
pub known_unread : (m : Meaning) (d : DesignValue) (bytes : List ℕ) (why : ReadFault) → KeepsLaws m d → m.writes d ≡ Ok bytes
    → m.reads bytes ≡ Err why → ⊥
known_unread m d bytes why laws written unread =
    subst (λ (r : Result Loaded ReadFault). IsOkAnd r (λ loaded. HasSameActs d loaded)) unread
    (subst (λ (r : Result (List ℕ) WriteFault). IfOk r (λ bytes. RoundTrips m d bytes)) written laws.again)

pub known_again : (m : Meaning) (d : DesignValue) (bytes : List ℕ) (l : Loaded) → KeepsLaws m d → m.writes d ≡ Ok bytes
    → m.reads bytes ≡ Ok l
    → (acts_without_numbers (acts_of l.design) ≡ acts_without_numbers (acts_of d)) × (l.ended ≡ true)
known_again m d bytes l laws written is = (same.acts, same.ended)
  where
    same : HasSameActs d l
    same = subst (λ (r : Result Loaded ReadFault). IsOkAnd r (λ loaded. HasSameActs d loaded)) is
        (subst (λ (r : Result (List ℕ) WriteFault). IfOk r (λ bytes. RoundTrips m d bytes)) written laws.again)

-- its records move within the limit
pub known_moves : (m : Meaning) (d : DesignValue) (bytes : List ℕ) → KeepsLaws m d → m.writes d ≡ Ok bytes
    → list_all (λ move. is_point_within m.limit move) (m.moves bytes) ≡ true
known_moves m d bytes laws written =
    subst (λ (r : Result (List ℕ) WriteFault). IfOk r (λ bytes. list_all (λ move. is_point_within m.limit move) (m.moves bytes) ≡ true))
    written laws.within

-- a plain design isn't refused
pub known_plain : (m : Meaning) (d : DesignValue) (why : WriteFault) → KeepsLaws m d → IsPlain m.limit d → m.writes d ≡ Err why → ⊥
known_plain m d why laws plain refused =
    true≢false (sym (subst (λ (r : Result (List ℕ) WriteFault). IsOk r) refused (laws.plain plain)))

-- all designs within their limits are meant, and each codec
pub known_all : (m : Meaning) → KeepsAllLaws m → (d : DesignValue) → KeepsLimits d → KeepsLaws m d
known_all m laws d limits = laws d limits

pub known_codecs : CodecsKeepLaws → (m : Meaning) (l : WriteLimits) (file : DesignValue → List ℕ) (d : DesignValue) → IsCodec m l file
    → KeepsLimits d → KeepsLaws m d
known_codecs law m l file d codec limits = law m l file codec d limits

-- a codec has the format's limit, allows 254 stops, and writes what isn't refused, which is read back and moves within the limit
pub known_codec : (m : Meaning) (l : WriteLimits) (file : DesignValue → List ℕ) (d : DesignValue) → IsCodec m l file → KeepsLimits d
    → (m.limit ≡ l.limit) × (is_above_max l.stops 254 ≡ false) × (m.writes d ≡ unless_refused (first_refusal l (acts_of d)) (file d))
    × (first_refusal l (acts_of d) ≡ None → RoundTrips m d (file d)) × (first_refusal l (acts_of d) ≡ None → MovesWithin m (file d))
known_codec m l file d codec limits =
    (codec.limit, codec.stops 254 (omega arith), codec.writes d, codec.again d limits, codec.within d limits)

-- a design that isn't refused has acts in range, no more stops than the format allows, and room for at most a million commands
pub known_accepted : AcceptedIsWithinLimits → (l : WriteLimits) (d : DesignValue) (most : ℕ) → KeepsLimits d
    → first_refusal l (acts_of d) ≡ None
    → IsTrue (list_all (λ (a : NumberedAct). is_act_in_range a.act) (acts_of d))
    × (room_of l.limit (acts_of d) ≡ 1000001 → ⊥) × (l.stops ≡ Some most → stops_of (acts_of d) ≡ most + 1 → ⊥)
known_accepted law l d most limits none = let within = law l d limits none in
    (within.in_range, λ is. omega (arith, is, within.room), λ max is. omega (arith, is, within.stops most max))

-- a state of 5 bytes, after which a file reads as these results
abbrev fed : Bool → ℕ → FeedState
fed spoiled taken = record { spoiled = spoiled; taken = taken; rest = λ more. Err (read.Short 5); decoded = λ more. [] }

-- bytes that are fed count, whether or not memory runs out
pub known_fed : Feeds {T = ℕ} (fed false 5) (7 ∷ 8 ∷ []) (Ok 0) (fed false 5) → ⊥
known_fed is = other is.taken
  where
    other : ◌≡◌ {A = ℕ} 5 7 → ⊥
    other same = omega (arith, same)

pub known_fed_without_memory : (m : Memory) → Feeds {T = ℕ} (fed false 5) (7 ∷ 8 ∷ []) (Err m) (fed true 5) → ⊥
known_fed_without_memory m is = other is.taken
  where
    other : ◌≡◌ {A = ℕ} 5 7 → ⊥
    other same = omega (arith, same)

-- an object whose memory ran out is spoiled, and no spoiled one is fed
pub known_spoiled : (m : Memory) → Feeds {T = ℕ} (fed false 5) (7 ∷ 8 ∷ []) (Err m) (fed false 7) → ⊥
known_spoiled m is = true≢false (sym is.spoiled)

pub known_not_fed : Feeds {T = ℕ} (fed true 5) (7 ∷ 8 ∷ []) (Ok 0) (fed false 7) → ⊥
known_not_fed is = true≢false is.was

-- a chunk comes before what remains
pub known_chunk : (old new : FeedState) (chunk more : List ℕ) → IsFed old chunk new
    → (new.rest more ≡ old.rest (chunk ++ more)) × (new.decoded more ≡ old.decoded (chunk ++ more)) × (new.spoiled ≡ false)
known_chunk old new chunk more is = (is.rest more, is.decoded more, is.sound)

-- what is finished is what was fed, and the next file begins with nothing
pub known_finished : (reads : List ℕ → Result Loaded ReadFault) (shown : List ℕ → List Command) (old new : FeedState) (l : Loaded)
    → Finishes reads shown old (Ok l) new
    → (old.spoiled ≡ false) × (old.rest [] ≡ Ok l) × HasNothingFed reads shown new
known_finished reads shown old new l is = (is.was, is.is, is.fresh)

pub known_nothing : (reads : List ℕ → Result Loaded ReadFault) (shown : List ℕ → List Command) (f : FeedState) (more : List ℕ)
    → HasNothingFed reads shown f
    → (f.spoiled ≡ false) × (f.taken ≡ 0) × (f.rest more ≡ reads more) × (f.decoded more ≡ shown more)
known_nothing reads shown f more nothing = (nothing.sound, nothing.taken, nothing.rest more, nothing.decoded more)
