-- What refuses a traced drawing is one of its counts.
use Rattle.std.proofs.Common.{◌≡◌, ℕ, ◌+◌, ◌-◌, ◌==◌, ◌≤◌, true, false, not, List, [], ◌∷◌, length, Result, Ok, Err, ap, subst, refl, length-append, arith}
use Rattle.std.proofs.lemmas.List.Sums.{sum_by-append}
use Rattle.stitch_trace.proofs.Names.{nat_tests, Point, LineValue, DrawKind, DrawingValue, and_then, block_added, is_last_empty, line_added, point_count, with_new_block, with_new_line, steps_of_line, Strand, IsCountLimit, chains_added, strand_added, strands_added, list_any-append, step_count, and_false}
use Rattle.stitch_trace.proofs.DrawnLemmas.{GoesOn, block_is, goes_on, line_is, ok_same}
use Rattle.stitch_trace.proofs.FitLemmas.{AllFit, Fits}
use Rattle.stitch_trace.proofs.LinkedLemmas.{has_chains}

-- a count, where it is what refuses
pub counted : {A : Type 0} (a b : DrawKind) → IsCountLimit a → ◌≡◌ {A = Result A DrawKind} (Err a) (Err b) → IsCountLimit b
counted a b count is = subst IsCountLimit (grind (arith, nat_tests)) count

-- a drawing of that step, with no more steps than points
pub record IsReady (step : ℕ) (d : DrawingValue) : Type 0 where
  pub stepped : d.step ≡ step
  pub cost : step_count step d.lines ≤ point_count d.lines

line_ready : (step : ℕ) (d : DrawingValue) (points : List Point) → IsReady step d → Fits step points → IsReady step (with_new_line d points)
line_ready step d points ready fits =
    let line : LineValue = record { block = length d.threads - 1; points = points } in
    record {
      stepped = ready.stepped;
      cost = omega (
        arith,
        ready.cost,
        fits.cost,
        sum_by-append (λ (l : LineValue). steps_of_line step l.points) d.lines (line ∷ []),
        sum_by-append (λ (l : LineValue). length l.points) d.lines (line ∷ []),
      );
    }

line_used : (d : DrawingValue) (points : List Point) → is_last_empty (with_new_line d points) ≡ false
line_used d points = grind (arith, nat_tests, list_any-append, and_false (not (length d.threads == 0)))

-- chains are refused for a count alone
chains_refused : (step : ℕ) (d : DrawingValue) (chains : List (List Point)) (why : DrawKind) → (length d.threads == 0) ≡ false
    → IsReady step d → AllFit step chains → chains_added d chains ≡ Err why → IsCountLimit why
chains_refused step d [] why some ready fit is = absurd cc
chains_refused step d (chain ∷ rest) why some ready fit is = by_line (line_added d chain) refl is
    (λ later. chains_refused step (with_new_line d chain) rest why some (line_ready step d chain ready fit.0) fit.1 later)
  where
    by_line : (said : Result DrawingValue DrawKind) → line_added d chain ≡ said → and_then said (λ more. chains_added more rest) ≡ Err why
        → (chains_added (with_new_line d chain) rest ≡ Err why → IsCountLimit why) → IsCountLimit why
    by_line (Ok mid) line is later =
        later (subst (λ (e : DrawingValue). chains_added e rest ≡ Err why) (line_is d mid chain line) is)
    by_line (Err other) line is later = counted other why (grind (arith, nat_tests, fit.0)) is

-- the room left after chains
record IsAfter (step : ℕ) (d e : DrawingValue) : Type 0 where
  threads : e.threads ≡ d.threads
  ready : IsReady step e
  used : is_last_empty e ≡ false

after_chains : (step : ℕ) (d e : DrawingValue) (chains : List (List Point)) → IsReady step d → AllFit step chains
    → is_last_empty d ≡ false → chains_added d chains ≡ Ok e → IsAfter step d e
after_chains step d e [] ready fit used is = grind (arith, nat_tests, ok_same d e is)
after_chains step d e (chain ∷ rest) ready fit used is =
    onwards (goes_on (line_added d chain) (λ more. chains_added more rest) e is)
    (λ later. after_chains step (with_new_line d chain) e rest (line_ready step d chain ready fit.0) fit.1 (line_used d chain) later)
  where
    onwards : GoesOn (line_added d chain) (λ more. chains_added more rest) e
        → (chains_added (with_new_line d chain) rest ≡ Ok e → IsAfter step (with_new_line d chain) e) → IsAfter step d e
    onwards steps later =
        let after = later (subst (λ (mid : DrawingValue). chains_added mid rest ≡ Ok e)
        (line_is d steps.mid chain steps.first) steps.then) in
        record { threads = after.threads; ready = after.ready; used = after.used }

some_after : (step : ℕ) (d e : DrawingValue) (chains : List (List Point)) → has_chains chains ≡ true → IsReady step d
    → AllFit step chains → chains_added d chains ≡ Ok e → IsAfter step d e
some_after step d e [] some ready fit is = absurd cc
some_after step d e (chain ∷ rest) some ready fit is =
    let steps = goes_on (line_added d chain) (λ more. chains_added more rest) e is in
    let after = after_chains step (with_new_line d chain) e rest (line_ready step d chain ready fit.0) fit.1 (line_used d chain)
    (subst (λ (mid : DrawingValue). chains_added mid rest ≡ Ok e) (line_is d steps.mid chain steps.first) steps.then) in
    record { threads = after.threads; ready = after.ready; used = after.used }

-- strands with chains that fit
abbrev pub StrandsFit : ℕ → List Strand → Type 0
StrandsFit step [] = Unit {0}
StrandsFit step (strand ∷ rest) = (has_chains strand.chains ≡ true) × AllFit step strand.chains × StrandsFit step rest

module _ (step : ℕ) where
  block_ready : (d : DrawingValue) (thread : ℕ) → IsReady step d → IsReady step (with_new_block d thread)
  block_ready d thread ready = record { stepped = ready.stepped; cost = ready.cost }

  block_some : (d : DrawingValue) (thread : ℕ) → (length (with_new_block d thread).threads == 0) ≡ false
  block_some d thread = grind (arith, nat_tests, length-append d.threads (thread ∷ []))

  strand_refused : (d : DrawingValue) (strand : Strand) (why : DrawKind) → is_last_empty d ≡ false → IsReady step d
      → AllFit step strand.chains → strand_added d strand ≡ Err why → IsCountLimit why
  strand_refused d strand why used ready fit is = by_block (block_added d strand.thread) refl is
    where
      by_block : (said : Result DrawingValue DrawKind) → block_added d strand.thread ≡ said
          → and_then said (λ more. chains_added more strand.chains) ≡ Err why → IsCountLimit why
      by_block (Ok mid) block is =
          chains_refused step (with_new_block d strand.thread) strand.chains why (block_some d strand.thread)
          (block_ready d strand.thread ready) fit
          (subst (λ (e : DrawingValue). chains_added e strand.chains ≡ Err why) (block_is d mid strand.thread block) is)
      by_block (Err other) block is = counted other why (grind (arith, nat_tests, strand.thread)) is

  strand_after : (d e : DrawingValue) (strand : Strand) → IsReady step d → has_chains strand.chains ≡ true → AllFit step strand.chains
      → strand_added d strand ≡ Ok e → IsAfter step (with_new_block d strand.thread) e
  strand_after d e strand ready some fit is =
      let steps = goes_on (block_added d strand.thread) (λ more. chains_added more strand.chains) e is in
      some_after step (with_new_block d strand.thread) e strand.chains some (block_ready d strand.thread ready) fit
      (subst (λ (mid : DrawingValue). chains_added mid strand.chains ≡ Ok e) (block_is d steps.mid strand.thread steps.first) steps.then)

  pub strands_refused : (d : DrawingValue) (strands : List Strand) (why : DrawKind) → is_last_empty d ≡ false → IsReady step d
      → StrandsFit step strands → strands_added d strands ≡ Err why → IsCountLimit why
  strands_refused d [] why used ready fit is = absurd cc
  strands_refused d (strand ∷ rest) why used ready fit is = by_strand (strand_added d strand) refl is
      (λ mid after. strands_refused mid rest why (IsAfter.used after) (IsAfter.ready after) fit.2)
    where
      by_strand : (said : Result DrawingValue DrawKind) → strand_added d strand ≡ said
          → and_then said (λ more. strands_added more rest) ≡ Err why
          → ((mid : DrawingValue) → IsAfter step (with_new_block d strand.thread) mid → strands_added mid rest ≡ Err why → IsCountLimit why)
          → IsCountLimit why
      by_strand (Ok mid) added is later = later mid (strand_after d mid strand ready fit.0 fit.1 added) is
      by_strand (Err other) added is later = counted other why (strand_refused d strand other used ready fit.1 added) is

  -- and may end where there is one
  pub record MayEnd (d e : DrawingValue) (strands : List Strand) : Type 0 where
    pub used : is_last_empty e ≡ false
    pub some : 1 ≤ length d.threads + length strands → 1 ≤ length e.threads

  pub strands_end : (d e : DrawingValue) (strands : List Strand) → is_last_empty d ≡ false → IsReady step d → StrandsFit step strands
      → strands_added d strands ≡ Ok e → MayEnd d e strands
  strands_end d e [] used ready fit is =
      subst (λ (f : DrawingValue). MayEnd d f []) (ok_same d e is) (record { used = used; some = λ some. omega (arith, some) })
  strands_end d e (strand ∷ rest) used ready fit is =
      onwards (goes_on (strand_added d strand) (λ more. strands_added more rest) e is)
      (λ mid after. strands_end mid e rest (IsAfter.used after) (IsAfter.ready after) fit.2)
    where
      onwards : GoesOn (strand_added d strand) (λ more. strands_added more rest) e
          → ((mid : DrawingValue) → IsAfter step (with_new_block d strand.thread) mid → strands_added mid rest ≡ Ok e → MayEnd mid e rest)
          → MayEnd d e (strand ∷ rest)
      onwards steps later =
          let after = strand_after d steps.mid strand ready fit.0 fit.1 steps.first in
          let end = later steps.mid after steps.then in
          record {
            used = end.used;
            some = λ some. end.some (omega (arith, ap length after.threads, length-append d.threads (strand.thread ∷ [])));
          }
