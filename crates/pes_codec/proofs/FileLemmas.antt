-- What the bytes of a file give, up to its block and from there on.
use Rattle.std.proofs.lemmas.Bool.{false≢true}
use Rattle.std.proofs.lemmas.Bool.Decides.{nat_tests}
use Rattle.std.proofs.Common.{◌≡◌, ℕ, ◌+◌, ◌-◌, ◌<◌, ◌≤◌, Bool, true, false, List, [], ◌++◌, length, drop, Result, Ok, Err, IsErr, OnErr, refl, sym, ap, subst, ◌∙◌, arith, length-append}
use Rattle.std.proofs.Math.Seq.{drop-append-add}
use Rattle.std.proofs.lemmas.List.{append-nil, append_assoc}
use Rattle.pes_codec.proofs.Names.{ReadFault, layout_reads, pec_block_layout, pec_block_reads, layout_decoded, FrontLayout, after_skip, from_front, front_layout_of}
use Rattle.design_model.specs.declared.memory.Memory.{Memory}
use Rattle.format_traits.specs.declared.fault.ReadFault.TheVariants as fault
use Rattle.format_traits.specs.Feeding.{FeedState, Feeds, HasNothingFed, IsFed}
use Rattle.pes_codec.specs.declared.file_stage.FileStage.TheVariants as stage
use Rattle.pes_codec.specs.declared.file_kind.FileKind.{FileKind}
use Rattle.pes_codec.specs.FileStates.{IsBehindFront, IsInFront, block_feed_state, file_feed_state}

module _ {A : Type 0} (none : ReadFault → A) (block : ℕ → List ℕ → A) where
  -- the front is whole and known
  known_front : (front_layout : FrontLayout) (skip : ℕ) (bytes : List ℕ) → front_layout.known bytes ≡ true
      → front_layout.length ≤ length bytes → front_layout.block bytes ≡ skip
      → from_front none block front_layout bytes ≡ after_skip none block skip 0 bytes
  known_front front_layout skip bytes known long is = grind (arith, nat_tests)

  other_front : (front_layout : FrontLayout) (bytes : List ℕ) → front_layout.known bytes ≡ false
      → from_front none block front_layout bytes ≡ none (fault.Signature 0)
  other_front front_layout bytes other = rw other refl

  -- fewer bytes than are before the block
  before_on : (at skip : ℕ) (bytes more : List ℕ) → length bytes < skip
      → after_skip none block skip at (bytes ++ more) ≡ after_skip none block (skip - length bytes) (at + length bytes) more
  before_on at skip bytes more less =
      grind (arith, nat_tests, length-append, (drop-append-add bytes more (skip - length bytes)))

  -- what a reader gives to which nothing of the block was fed
  same_block : (begun : List ℕ → A) (skip : ℕ) (bytes : List ℕ) → ((more : List ℕ) → begun more ≡ block skip more)
      → after_skip none (λ _. begun) skip 0 bytes ≡ after_skip none block skip 0 bytes
  same_block begun skip bytes same = grind (arith, nat_tests, (same (drop skip bytes)))

  -- the front and the bytes behind it, before the block is read
  begins_block : (front_layout : FrontLayout) (front chunk whole behind more : List ℕ) (skip : ℕ) (begun : List ℕ → A)
      → whole ++ behind ≡ front ++ chunk → front_layout.length ≤ length whole
      → ((more : List ℕ) → front_layout.known (whole ++ more) ≡ true) → ((more : List ℕ) → front_layout.block (whole ++ more) ≡ skip)
      → ((more : List ℕ) → begun more ≡ block skip more)
      → after_skip none (λ _. begun) skip 0 (whole ++ (behind ++ more))
      ≡ from_front none block front_layout (front ++ (chunk ++ more))
  begins_block front_layout front chunk whole behind more skip begun all long known is same =
      same_block begun skip (whole ++ (behind ++ more)) same
      ∙ sym (known_front front_layout skip (whole ++ (behind ++ more)) (known (behind ++ more))
      (omega (arith, long, length-append whole (behind ++ more))) (is (behind ++ more)))
      ∙ ap (from_front none block front_layout) (joined front chunk whole behind more all)
    where
      joined : (front chunk whole behind more : List ℕ) → whole ++ behind ≡ front ++ chunk
          → whole ++ (behind ++ more) ≡ front ++ (chunk ++ more)
      joined front chunk whole behind more all =
          sym (append_assoc whole behind more) ∙ ap (λ (bytes : List ℕ). bytes ++ more) all ∙ append_assoc front chunk more

-- fewer bytes than are before the block
pub passes_short : (skip taken : ℕ) (block : FeedState) (bytes : List ℕ) → length bytes < skip → block.spoiled ≡ false
    → IsFed (block_feed_state skip taken block) bytes (block_feed_state (skip - length bytes) (taken + length bytes) block)
passes_short skip taken block bytes less sound = record {
  was = sound;
  sound = sound;
  taken = refl;
  rest = λ more. sym (before_on Err (λ _. block.rest) taken skip bytes more less);
  decoded = λ more. sym (before_on (λ _. []) (λ _. block.decoded) taken skip bytes more less);
}

-- a chunk that ends in the front
pub stays_in_front : (front_layout : FrontLayout) (front chunk new behind : List ℕ) (taken skip : ℕ) (block : FeedState)
    → IsInFront front_layout front taken block → new ++ behind ≡ front ++ chunk → behind ≡ []
    → IsFed (file_feed_state front_layout front taken skip block stage.Front) chunk
    (file_feed_state front_layout new (taken + length chunk) skip block stage.Front)
stays_in_front front_layout front chunk new behind taken skip block k all none =
    let joined : (more : List ℕ) → new ++ more ≡ front ++ (chunk ++ more) =
    λ more. ap (λ (bytes : List ℕ). new ++ (bytes ++ more)) (sym none) ∙ sym (append_assoc new behind more)
    ∙ ap (λ (bytes : List ℕ). bytes ++ more) all ∙ append_assoc front chunk more in
    record {
      was = k.sound;
      sound = k.sound;
      taken = refl;
      rest = λ more. ap (from_front Err (layout_reads pec_block_layout) front_layout) (joined more);
      decoded = λ more. ap (from_front (λ _. []) (layout_decoded pec_block_layout) front_layout) (joined more);
    }

-- a front that isn't known
pub refuses_front : (front_layout : FrontLayout) (front chunk new behind : List ℕ) (taken skip : ℕ) (block : FeedState)
    → IsInFront front_layout front taken block → new ++ behind ≡ front ++ chunk
    → ((more : List ℕ) → front_layout.known (new ++ more) ≡ false)
    → IsFed (file_feed_state front_layout front taken skip block stage.Front) chunk
    (file_feed_state front_layout new (taken + length chunk) skip block stage.Refused)
refuses_front front_layout front chunk new behind taken skip block k all other =
    let joined : (more : List ℕ) → front ++ (chunk ++ more) ≡ new ++ (behind ++ more) =
    λ more. sym (append_assoc front chunk more) ∙ ap (λ (bytes : List ℕ). bytes ++ more) (sym all) ∙ append_assoc new behind more in
    record {
      was = k.sound;
      sound = k.sound;
      taken = refl;
      rest = λ more. sym (ap (from_front Err (layout_reads pec_block_layout) front_layout) (joined more)
          ∙ other_front Err (layout_reads pec_block_layout) front_layout (new ++ (behind ++ more)) (other (behind ++ more)));
      decoded = λ more. sym (ap (from_front (λ _. []) (layout_decoded pec_block_layout) front_layout) (joined more)
          ∙ other_front (λ _. []) (layout_decoded pec_block_layout) front_layout (new ++ (behind ++ more)) (other (behind ++ more)));
    }

-- a whole front, and what is behind it
pub feeds_behind : {T : Type 0} (front_layout : FrontLayout) (front chunk whole behind : List ℕ) (taken was skip after left : ℕ)
    (block begun mid new : FeedState) (result : Result T Memory) → IsInFront front_layout front taken block
    → whole ++ behind ≡ front ++ chunk
    → front_layout.length ≤ length whole → ((more : List ℕ) → front_layout.known (whole ++ more) ≡ true)
    → ((more : List ℕ) → front_layout.block (whole ++ more) ≡ skip)
    → HasNothingFed (layout_reads pec_block_layout skip) (layout_decoded pec_block_layout skip) begun
    → IsFed (block_feed_state skip 0 begun) whole (block_feed_state after (0 + length whole) mid)
    → Feeds (block_feed_state after (0 + length whole) mid) behind result (block_feed_state left (0 + length whole + length behind) new)
    → Feeds (file_feed_state front_layout front taken was block stage.Front) chunk result
    (file_feed_state front_layout whole (taken + length chunk) left new stage.Behind)
feeds_behind front_layout front chunk whole behind taken was skip after left block begun mid new (Err f) k all long known is fresh one two =
    record { spoiled = two.spoiled; taken = refl }
feeds_behind front_layout front chunk whole behind taken was skip after left block begun mid new (Ok r) k all long known is fresh one two =
    let count : taken + length chunk ≡ 0 + length whole + length behind =
    omega (arith, k.all, ap length all, length-append whole behind, length-append front chunk) in
    record {
      was = k.sound;
      sound = two.sound;
      taken = refl;
      rest = λ more. ap (λ n. after_skip Err (λ _. new.rest) left n more) count ∙ two.rest more ∙ one.rest (behind ++ more)
          ∙ begins_block Err (layout_reads pec_block_layout) front_layout front chunk whole behind more skip begun.rest all long known is
          fresh.rest;
      decoded = λ more. ap (λ n. after_skip (λ _. []) (λ _. new.decoded) left n more) count ∙ two.decoded more
          ∙ one.decoded (behind ++ more)
          ∙ begins_block (λ _. []) (layout_decoded pec_block_layout) front_layout front chunk whole behind more skip begun.decoded all long
          known is fresh.decoded;
    }

-- a file that reaches its block reads as the block
pub reads_block : (front_layout : FrontLayout) (at : ℕ) (bytes : List ℕ) → front_layout.known bytes ≡ true
    → front_layout.length ≤ length bytes → ((more : List ℕ) → front_layout.block (bytes ++ more) ≡ at)
    → from_front Err (layout_reads pec_block_layout) front_layout bytes ≡ pec_block_reads at bytes
reads_block front_layout at bytes known long is =
    let all : 0 + length bytes ≡ length bytes = omega arith in
    let here : 0 + at ≡ at = omega arith in
    known_front Err (layout_reads pec_block_layout) front_layout at bytes known long
    (subst (λ (b : List ℕ). front_layout.block b ≡ at) (append-nil bytes) (is []))
    ∙ rw (all, here) refl

-- memory ran out in the front of a block
pub broke_behind : {T : Type 0} (front_layout : FrontLayout) (front chunk whole : List ℕ) (taken was after : ℕ) (block mid : FeedState)
    (result : Result T Memory) → IsErr result → mid.spoiled ≡ true
    → Feeds (file_feed_state front_layout front taken was block stage.Front) chunk result
    (file_feed_state front_layout whole (taken + length chunk) after mid stage.Behind)
broke_behind front_layout front chunk whole taken was after block mid (Ok r) never spoiled = absurd (false≢true never)
broke_behind front_layout front chunk whole taken was after block mid (Err f) broke spoiled = record { spoiled = spoiled; taken = refl }

-- a chunk after the front
pub passes_behind : {T : Type 0} (front_layout : FrontLayout) (front chunk : List ℕ) (taken skip left : ℕ) (old new : FeedState)
    (result : Result T Memory)
    → Feeds (block_feed_state skip taken old) chunk result (block_feed_state left (taken + length chunk) new)
    → Feeds (file_feed_state front_layout front taken skip old stage.Behind) chunk result
    (file_feed_state front_layout front (taken + length chunk) left new stage.Behind)
passes_behind front_layout front chunk taken skip left old new (Ok r) fed = record {
  was = fed.was;
  sound = fed.sound;
  taken = refl;
  rest = λ more. fed.rest more;
  decoded = λ more. fed.decoded more;
}
passes_behind front_layout front chunk taken skip left old new (Err f) fed = record { spoiled = fed.spoiled; taken = refl }

-- memory has run out in the block alone
pub behind_after : {T : Type 0} (chunk : List ℕ) (skip left total : ℕ) (old new : FeedState) (result : Result T Memory)
    → Feeds (block_feed_state skip 0 old) chunk result (block_feed_state left (0 + length chunk) new) → OnErr result (left ≡ 0)
    → new.taken ≤ total → IsBehindFront total left new
behind_after chunk skip left total old new (Ok r) fed there most = record { sound = λ some. fed.sound; most = most }
behind_after chunk skip left total old new (Err f) fed there most = record {
  sound = λ some. absurd (omega (arith, some, there));
  most = most;
}

-- the answer on a front stays for any bytes that follow
pub stays_known : (kind is : FileKind) (told known : Bool) (bytes items : List ℕ) → kind ≡ is → bytes ≡ items → told ≡ known
    → ((front_layout_of kind).length ≤ length bytes → (more : List ℕ) → (front_layout_of kind).known (bytes ++ more) ≡ told)
    → (front_layout_of is).length ≤ length items → (more : List ℕ) → (front_layout_of is).known (items ++ more) ≡ known
stays_known kind is told known bytes items e f same stays long =
    subst (λ (k : FileKind). (front_layout_of k).length ≤ length items → (more : List ℕ)
    → (front_layout_of k).known (items ++ more) ≡ known) e
    (subst (λ (b : List ℕ). (front_layout_of kind).length ≤ length b → (more : List ℕ) → (front_layout_of kind).known (b ++ more) ≡ known) f
    (λ long more. stays long more ∙ same)) long

pub stays_at : (kind is : FileKind) (at : ℕ) (bytes items : List ℕ) → kind ≡ is → bytes ≡ items
    → ((more : List ℕ) → (front_layout_of kind).block (bytes ++ more) ≡ at)
    → (more : List ℕ) → (front_layout_of is).block (items ++ more) ≡ at
stays_at kind is at bytes items e f stays =
    subst (λ (k : FileKind). (more : List ℕ) → (front_layout_of k).block (items ++ more) ≡ at) e
    (subst (λ (b : List ℕ). (more : List ℕ) → (front_layout_of kind).block (b ++ more) ≡ at) f stays)
