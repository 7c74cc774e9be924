-- Proofs that IsSet is a proposition, so that a type can have it as a field.
use Rattle.std.specs.Prelude.{ℕ, zero, suc, List, [], ◌∷◌}
use Rattle.std.proofs.Props.{props}
use Rattle.odd_sets.specs.Lists.{Each}
use Rattle.odd_sets.specs.DualSets.{DualSet, IsOddSet, IsOutside, NoneHold}
use Rattle.odd_sets.specs.Blossoms.{IsPartCycle, IsVertexOrBlossom, IsBlossom, IsPartPath}
use Rattle.odd_sets.specs.Slots.{parts_at, AreSlacksOf, IsSet, IsSetToDepth, Slots}
use Rattle.odd_sets.specs.Values.{PartValue}
use Rattle.odd_sets.specs.declared.odd_set.BlossomPart.{BlossomPart}

each-prop : {X : Type 0} (P : X → Type 0) → ((x : X) → IsProp (P x)) → (xs : List X)
    → IsProp (Each P xs)
each-prop P each [] = hlevel props
each-prop P each (x ∷ xs) = hlevel (props, each x, each-prop P each xs)

none_hold-prop : (x : ℕ) (bs : List DualSet) → IsProp (NoneHold x bs)
none_hold-prop x bs = each-prop (IsOutside x) (λ b. hlevel props) bs

linked-prop : (p : PartValue) (ps : List PartValue) → IsProp (IsPartPath p ps)
linked-prop p [] = hlevel props
linked-prop p (q ∷ qs) = hlevel (props, linked-prop q qs)

linked_blossom-prop : (ps : List PartValue) → IsProp (IsPartCycle ps)
linked_blossom-prop [] = hlevel props
linked_blossom-prop (p ∷ ps) = linked-prop p _

kept-prop : (p : PartValue) → IsProp (IsOddSet p.odd_set)
kept-prop p = hlevel (props, none_hold-prop)

blossom-prop : (ps : List PartValue) → IsProp (IsBlossom ps)
blossom-prop ps =
    hlevel (
      props,
      linked_blossom-prop ps,
      each-prop (λ (p : PartValue). IsOddSet p.odd_set)
          kept-prop ps,
    )

made-prop : (ms : List ℕ) (ps : List PartValue) → IsProp (IsVertexOrBlossom ms ps)
made-prop ms [] = hlevel props
made-prop ms (p ∷ ps) = hlevel (props, blossom-prop (p ∷ ps))

row-prop : (near : List ℕ) (ps : List PartValue) → IsProp (AreSlacksOf near ps)
row-prop near [] = hlevel props
row-prop near (p ∷ ps) = hlevel props

set_to-prop : (n : ℕ) (sets : Slots) (key : ℕ) → IsProp (IsSetToDepth n sets key)
set_to-prop zero sets key = hlevel props
set_to-prop (suc n) sets key =
    hlevel (
      props,
      made-prop,
      row-prop,
      each-prop (λ (p : BlossomPart). IsSetToDepth n sets p.handle.key)
          (λ p. set_to-prop n sets p.handle.key)
          (parts_at sets key),
    )

pub set-prop : (sets : Slots) (key : ℕ) → IsProp (IsSet sets key)
set-prop sets key = hlevel (props, set_to-prop)
