-- Changes decide: they make one design of another, or are refused.
use Rattle.std.proofs.Common.{◌≡◌, ℕ, inl, inr, List, [], ◌∷◌, Result, Ok, Err, sym, ◌∙◌, subst, arith}
use Rattle.stitch_cli.proofs.Names.{Change, cut, split, move, DesignValue, Loaded, ProductValue, IsRewriteResult, RewriteOrder, not_changed, not_written, thread}
use Rattle.step_splitter.specs.declared.refitting.RefitMode.{RefitMode}
use Rattle.step_splitter.specs.declared.refitting.RefitMode.TheVariants as mode
use Rattle.stitch_cli.specs.declared.change_faults.ChangeFault.{ChangeFault}
use Rattle.stitch_cli.specs.declared.change_faults.ChangeFault.TheVariants as reason
use Rattle.stitch_cli.specs.ChangedDesigns.{Becomes, BecomesAll, RefitsTo}

-- one value is one design, and not a refusal
same_value : (r : Result DesignValue ChangeFault) (a b : DesignValue) → Ok a ≡ r → Ok b ≡ r → a ≡ b
same_value r a b one other = cc

not_value : (r : Result DesignValue ChangeFault) (a : DesignValue) (why : ChangeFault) → Ok a ≡ r → Err why ≡ r → ⊥
not_value r a why one other = cc

-- a change makes one design
becomes_once : (limit : ℕ) (change : Change) (d a b : DesignValue) → Becomes limit change d (Ok a) → Becomes limit change d (Ok b) → a ≡ b
becomes_once limit split d a b (short, one) (shorter, other) = one ∙ sym other
becomes_once limit cut d a b (short, one) (shorter, other) = one ∙ sym other
becomes_once limit (move by) d a b one other = same_value _ a b one other
becomes_once limit (thread place number) d a b one other = same_value _ a b one other

-- a refit that fits is not refused
refit_not_both : (m : RefitMode) (limit : ℕ) (d a : DesignValue) (why : ChangeFault) → RefitsTo m limit d (Ok a)
    → RefitsTo m limit d (Err why) → ⊥
refit_not_both m limit d a (reason.RefitTooMany number) (short, is) (long, first) = omega (arith, short, long)
refit_not_both m limit d a (reason.MovedOut number) fits never = never
refit_not_both m limit d a (reason.NoPlace place count) fits never = never

-- a change that is made is not refused
becomes_not_both : (limit : ℕ) (change : Change) (d a : DesignValue) (why : ChangeFault) → Becomes limit change d (Ok a)
    → Becomes limit change d (Err why) → ⊥
becomes_not_both limit split d a why one other = refit_not_both mode.Split limit d a why one other
becomes_not_both limit cut d a why one other = refit_not_both mode.Cut limit d a why one other
becomes_not_both limit (move by) d a why one other = not_value _ a why one other
becomes_not_both limit (thread place number) d a why one other = not_value _ a why one other

-- changes in order make one design
all_once : (limit : ℕ) (changes : List Change) (d a b : DesignValue) → BecomesAll limit changes d (Ok a)
    → BecomesAll limit changes d (Ok b) → a ≡ b
all_once limit [] d a b one other = same_value _ a b one other
all_once limit (change ∷ later) d a b (inl (mid, first, rest)) (inl (mid', first', rest')) =
    all_once limit later mid a b rest
    (subst (λ (m : DesignValue). BecomesAll limit later m (Ok b)) (sym (becomes_once limit change d mid mid' first first')) rest')
all_once limit (change ∷ later) d a b (inr (why, first, is)) other = absurd (let no : ⊥ = cc in no)
all_once limit (change ∷ later) d a b (inl one) (inr (why, first, is)) = absurd (let no : ⊥ = cc in no)

-- changes in order that are made are not refused
all_not_both : (limit : ℕ) (changes : List Change) (d a : DesignValue) (why : ChangeFault) → BecomesAll limit changes d (Ok a)
    → BecomesAll limit changes d (Err why) → ⊥
all_not_both limit [] d a why one other = cc
all_not_both limit (change ∷ later) d a why (inl (mid, first, rest)) (inl (mid', first', rest')) =
    all_not_both limit later mid a why rest
    (subst (λ (m : DesignValue). BecomesAll limit later m (Err why)) (sym (becomes_once limit change d mid mid' first first')) rest')
all_not_both limit (change ∷ later) d a why (inl (mid, first, rest)) (inr (other, refused, is)) =
    becomes_not_both limit change d mid other first refused
all_not_both limit (change ∷ later) d a why (inr (other, first, is)) refused = absurd (let no : ⊥ = cc in no)

-- a design that is rewritten is not refused
pub rewritten_not_both : (order : RewriteOrder) (loaded : Loaded) (product : ProductValue) (why : List ℕ)
    → IsRewriteResult order loaded (Ok product) → IsRewriteResult order loaded (Err why) → ⊥
rewritten_not_both order loaded product why is (not_changed fault same refused) =
    all_not_both order.target.limit order.changes loaded.design is.design fault is.becomes refused
rewritten_not_both order loaded product why is (not_written design fault same becomes refuses) =
    let one : design ≡ is.design = all_once order.target.limit order.changes loaded.design design is.design becomes is.becomes in
    cc (is.written)
