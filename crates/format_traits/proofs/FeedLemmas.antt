-- The state of a feed after a chunk was passed on.
use Rattle.std.proofs.Common.{◌≡◌, ℕ, ◌+◌, ◌-◌, ◌<◌, ◌≤◌, Bool, false, List, [], ◌∷◌, ◌++◌, length, refl, ap, sym, subst, ◌∙◌, arith, append_assoc, append-nil}
use Rattle.format_traits.proofs.Names.{IsFed, DecodedSoFar, DecoderState, IsSameDecoderState, PassesChunk}
use Rattle.format_traits.specs.FeedStates.{feed_state_of, feed_decoded, feed_rest}

fed_on : (old new : DecoderState) (was now : DecodedSoFar) (start taken : ℕ) (before chunk after : List ℕ) (whether then : Bool)
    → length before ≤ taken → 0 < length chunk → PassesChunk old new now (start + (taken - length before)) before chunk after
    → whether ≡ false → then ≡ false
    → IsFed (feed_state_of old was start taken before whether) chunk (feed_state_of new now start (taken + length chunk) after then)
fed_on old new was now start taken before [] after whether then fits some passes sound still =
    absurd (let no : ⊥ = omega (arith, some) in no)
fed_on old new was now start taken before (byte ∷ bytes) after whether then fits some passes sound still = record {
  was = sound;
  sound = still;
  taken = refl;
  rest = rest;
  decoded = decoded;
} where
  chunk : List ℕ
  chunk = byte ∷ bytes

  at : ℕ
  at = start + (taken - length before)

  there : ℕ
  there = start + ((taken + length chunk) - length after)

  here : there + length after ≡ at + length before + length chunk
  here = let few = passes.few in omega (arith, fits, few)

  rest : (more : List ℕ) → feed_rest new now there after more ≡ feed_rest old was at before (chunk ++ more)
  rest [] = sym (passes.settled there here).answer ∙ ap (new.rest there) (sym (append-nil after))
      ∙ sym ((passes.on there here).rest []) ∙ ap (old.rest at) (append_assoc before chunk [])
  rest (m ∷ more) = sym ((passes.on there here).rest (m ∷ more)) ∙ ap (old.rest at) (append_assoc before chunk (m ∷ more))

  decoded : (more : List ℕ) → feed_decoded new now there after more ≡ feed_decoded old was at before (chunk ++ more)
  decoded [] = sym (passes.settled there here).commands ∙ ap (new.decoded there) (sym (append-nil after))
      ∙ sym ((passes.on there here).decoded []) ∙ ap (old.decoded at) (append_assoc before chunk [])
  decoded (m ∷ more) = sym ((passes.on there here).decoded (m ∷ more)) ∙ ap (old.decoded at) (append_assoc before chunk (m ∷ more))

-- the number of pending bytes is the result of a call
pub is_fed : (old new : DecoderState) (was now : DecodedSoFar) (start taken count : ℕ) (before chunk after : List ℕ) (whether : Bool)
    → length before ≤ taken → count ≡ length before → 0 < length chunk
    → PassesChunk old new now (start + (taken - count)) before chunk after → whether ≡ false
    → IsFed (feed_state_of old was start taken before whether) chunk (feed_state_of new now start (taken + length chunk) after whether)
is_fed old new was now start taken count before chunk after whether fits told some passes sound =
    fed_on old new was now start taken before chunk after whether whether fits some
    (subst (λ n. PassesChunk old new now (start + (taken - n)) before chunk after) told passes) sound sound

-- a chunk that is the whole file
pub passes_whole : (fresh old new : DecoderState) (so_far : DecodedSoFar) (start : ℕ) (before bytes after : List ℕ) → before ≡ []
    → IsSameDecoderState old fresh → PassesChunk old new so_far start before bytes after → fresh.rest start bytes ≡ so_far.answer
passes_whole fresh old new so_far start before bytes after none same passes =
    let few = passes.few in
    let nothing : length before ≡ 0 = ap length none in
    let there = start + (length bytes - length after) in
    let here : there + length after ≡ start + length before + length bytes = omega (arith, few, nothing) in
    sym (same.rest start bytes) ∙ ap (λ before. old.rest start (before ++ bytes)) (sym none)
    ∙ ap (old.rest start) (sym (append-nil (before ++ bytes))) ∙ (passes.on there here).rest []
    ∙ ap (new.rest there) (append-nil after) ∙ (passes.settled there here).answer
