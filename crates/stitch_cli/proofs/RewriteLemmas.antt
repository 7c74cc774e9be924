-- The result of rewriting, from the results of its steps.
use Rattle.std.proofs.Common.{◌≡◌, ℕ, Result, Ok, Err, refl, subst, sym}
use Rattle.stitch_cli.proofs.Names.{DesignValue, Loaded, StoreView, Failure, Product, RunsPurePlan, satisfies, IsRewriteResult, RewriteOrder, not_changed, not_written, IsPlanResult, IsChangesResult}
use Rattle.stitch_cli.specs.declared.change_faults.ChangeFailure.{ChangeFailure}
use Rattle.stitch_cli.specs.declared.change_faults.ChangeFailure.TheVariants as change_failure
use Rattle.program_shell.specs.declared.failure.Failure.TheVariants as failure
use Rattle.stitch_cli.specs.RewriteSteps.{IsChangeFailure, IsEncodeResult}

-- a changed design is written, or can't be
written_of : (order : RewriteOrder) (loaded : Loaded) (d : DesignValue)
    (store store' : StoreView) (result : Result Product Failure) → IsChangesResult order.target.limit order.changes loaded.design (Ok d)
    → IsPlanResult (satisfies (IsEncodeResult order.output order.target d)) store store' result
    → IsPlanResult (satisfies (IsRewriteResult order loaded)) store store' result
written_of order loaded d store store' (Ok product) becomes (is, fit, same) = (
  record {
    design = d;
    becomes = becomes;
    out = is.out;
    written = is.written;
    again = is.again;
    within = is.within;
    made = is.made;
  },
  fit,
  same,
)
written_of order loaded d store store' (Err failure.BadArguments) becomes never = never
written_of order loaded d store store' (Err (failure.MissingInput name)) becomes (misses, same) = absurd (misses.attempted)
written_of order loaded d store store' (Err (failure.ReadFailed name)) becomes (never, fault, files) = absurd never
written_of order loaded d store store' (Err (failure.Refused why)) becomes (is, same) =
    (not_written d is.fault is.is becomes is.refuses, same)
written_of order loaded d store store' (Err failure.Memory) becomes same = same

pub settles_written : (order : RewriteOrder) (loaded : Loaded) (d : DesignValue)
    (limit : ℕ) (result : Result Product Failure) → limit ≡ order.target.limit → IsChangesResult limit order.changes loaded.design (Ok d)
    → RunsPurePlan (satisfies (IsEncodeResult order.output order.target d)) result
    → RunsPurePlan (satisfies (IsRewriteResult order loaded)) result
settles_written order loaded d limit result at becomes settles = record {
  at = λ store. written_of order loaded d store store result
      (subst (λ (n : ℕ). IsChangesResult n order.changes loaded.design (Ok d)) at becomes) (settles.at store);
}

-- a design was not changed
unchanged_of : (order : RewriteOrder) (loaded : Loaded) (fault : ChangeFailure) (store : StoreView) (why : Failure)
    → IsChangesResult order.target.limit order.changes loaded.design (Err fault) → IsChangeFailure order.input order.output fault why
    → IsPlanResult (satisfies (IsRewriteResult order loaded)) store store (Err why)
unchanged_of order loaded change_failure.Memory store why becomes is =
    subst (λ (w : Failure). IsPlanResult (satisfies (IsRewriteResult order loaded)) store store (Err w)) (sym is) refl
unchanged_of order loaded (change_failure.Refused fault) store failure.BadArguments becomes never = absurd never
unchanged_of order loaded (change_failure.Refused fault) store (failure.MissingInput name) becomes never = absurd never
unchanged_of order loaded (change_failure.Refused fault) store (failure.ReadFailed name) becomes never = absurd never
unchanged_of order loaded (change_failure.Refused fault) store (failure.Refused why) becomes is =
    (not_changed fault is becomes, refl)
unchanged_of order loaded (change_failure.Refused fault) store failure.Memory becomes is = refl

pub settles_unchanged : (order : RewriteOrder) (loaded : Loaded) (fault : ChangeFailure) (limit : ℕ) (why : Failure)
    → limit ≡ order.target.limit → IsChangesResult limit order.changes loaded.design (Err fault)
    → IsChangeFailure order.input order.output fault why → RunsPurePlan (satisfies (IsRewriteResult order loaded)) (Err why)
settles_unchanged order loaded fault limit why at becomes is = record {
  at = λ store. unchanged_of order loaded fault store why
      (subst (λ (n : ℕ). IsChangesResult n order.changes loaded.design (Err fault)) at becomes) is;
}
