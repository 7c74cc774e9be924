-- The texts of items, put one after another, where each item is found to keep a fact.
use Rattle.std.proofs.Common.{◌≡◌, ℕ, ◌+◌, ◌<◌, ◌≤◌, List, ◌++◌, All, length, get_or, take, drop, subst, ap, sym, ◌∙◌, append_assoc}
use Rattle.certificate_text.proofs.Names.{flat_map, at_drop_more, take_all, All-more}

-- the texts so far, and those of the items that are left; the items so far keep the fact
pub record PutsOn {X : Type 0} (f : X → List ℕ) (Keeps : X → Type 0) (items : List X) (i : ℕ) (text whole : List ℕ) : Type 0 where
  pub text_is : text ++ flat_map f (drop i items) ≡ whole
  pub kept : All Keeps (take i items)

-- one item more
pub put_more : {X : Type 0} (f : X → List ℕ) (Keeps : X → Type 0) (items : List X) (i : ℕ) (x : X) (text next whole : List ℕ)
    → PutsOn f Keeps items i text whole → i < length items → x ≡ get_or items i x → next ≡ text ++ f x → Keeps x
    → PutsOn f Keeps items (i + 1) next whole
put_more f Keeps items i x text next whole so there is put keeps = record {
  text_is = ap (λ (t : List ℕ). t ++ flat_map f (drop (i + 1) items)) put
      ∙ (append_assoc text (f x) (flat_map f (drop (i + 1) items))
      ∙ (ap (λ one. text ++ (f one ++ flat_map f (drop (i + 1) items))) is
      ∙ (sym (at_drop_more (λ left. text ++ flat_map f left) items i x there) ∙ so.text_is)));
  kept = All-more Keeps items i x there so.kept (subst Keeps is keeps);
}

-- all items
pub all_kept : {X : Type 0} (f : X → List ℕ) (Keeps : X → Type 0) (items : List X) (i : ℕ) (text whole : List ℕ)
    → PutsOn f Keeps items i text whole → length items ≤ i → All Keeps items
all_kept f Keeps items i text whole so end = subst (λ all. All Keeps all) (take_all i items end) so.kept
