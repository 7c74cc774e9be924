use Rattle.std.proofs.Common.{◌≡◌, ◌+◌, ◌*◌, ◌<◌, sym, subst}
use Rattle.odd_sets.proofs.Names.{TableValue, entry, after_set}
use Rattle.odd_sets.proofs.TableLemmas.{entry-set_at, set_at, set_at_stored}
use Rattle.odd_sets.proofs.table.DistTable.set.Goals as goal

pub invariant_of-self : goal.invariant_of-self
invariant_of-self c =
    let is = sym c.self.view_is in
    let a = c.args.a in
    let b = c.args.b in
    set_at_stored (record { places = c.self.inside.places; cells = c.self.inside.cells.items }) c.self.invariant a b c.args.d
    c.cell-at.result c.cell-back.result c.requires.differ
    (subst (λ (v : TableValue). c.cell-at.result ≡ a * v.places + b) is c.cell-at.ensures.value)
    (subst (λ (v : TableValue). c.cell-back.result ≡ b * v.places + a) is c.cell-back.ensures.value)
    (subst (λ (v : TableValue). a < v.places) is c.requires.a_in) (subst (λ (v : TableValue). b < v.places) is c.requires.b_in)
    c.requires.short

pub returns-clause-entries : goal.returns-clause-entries
returns-clause-entries c = λ x y lx ly.
    let t : TableValue = record { places = c.self.inside.places; cells = c.self.inside.cells.items } in
    let is = sym c.self.view_is in
    let a = c.args.a in
    let b = c.args.b in
    let at = subst (λ (v : TableValue). c.cell-at.result ≡ a * v.places + b) is c.cell-at.ensures.value in
    let back = subst (λ (v : TableValue). c.cell-back.result ≡ b * v.places + a) is c.cell-back.ensures.value in
    let la = subst (λ (v : TableValue). a < v.places) is c.requires.a_in in
    let lb = subst (λ (v : TableValue). b < v.places) is c.requires.b_in in
    subst (λ (v : TableValue). entry (set_at t c.cell-at.result c.cell-back.result c.args.d) x y ≡ after_set v a b c.args.d x y)
    c.self.view_is (entry-set_at t c.self.invariant.table a b c.args.d c.cell-at.result c.cell-back.result x y at back la lb lx ly)
