-- `application::inner::get` meets its contract. A peer without a slot has the table without entries. Assumes nothing.
use Rattle.std.proofs.lemmas.Result.{err_from_is_err_and}
use Rattle.std.specs.Prelude.{Some, Ok, Err}
use mathlib.Core.Path.{◌≡◌, sym, ◌∙◌}
use Rattle.attribute.specs.Lookup.{place_of}
use Rattle.attribute_walk.proofs.Halves.{ascending}
use Rattle.model.specs.View.{table_at}
use Rattle.model.proofs.Leaving.{listed}
use Rattle.storing.proofs.Tables.{table_there, table_none, own_table_lem, empty_table}
use Rattle.application.proofs.Calls.{fetched}
use Rattle.application.proofs.inner.get.Goals as goal
use Rattle.application.proofs.inner.get.Goals.{In-Some, After-copy_value, in-Some-slot, in-None}

at : (c : In-Some) → place_of c.args.hub.list.now c.args.handle ≡ Some c.in-Some.i
at c = sym c.find_listed.ensures ∙ c.in-Some.is

pub find_listed-requires : goal.find_listed-requires
find_listed-requires c = ascending _ _ c.requires.right

pub invariant_of-copy_value : goal.invariant_of-copy_value
invariant_of-copy_value c =
    elim c.match-slot.branch [
      | in-Some-slot w ↦ rw w.table-is (record { ready = own_table_lem _ _ _ _ c.requires _ w.in-Some-slot.is })
      | in-None w ↦ rw w.table-is (record { ready = empty_table _ _ _ _ c.requires })
    ]

pub copy_value-requires : goal.copy_value-requires
copy_value-requires c = listed _ _ _ (at (goal.at.copy_value-requires c).In-Some)

own : (c : After-copy_value) → c.match-slot.table.now ≡ table_at c.args.hub.tables.now c.args.slot
own c =
    elim c.match-slot.branch [
      | in-Some-slot w ↦ rw w.table-is (table_there _ _ _ w.in-Some-slot.is)
      | in-None w ↦ rw w.table-is (table_none _ _ w.in-None.is)
    ]

pub returns-in_err-n : goal.returns-in_err-n
returns-in_err-n c =
    let a = c.args.hub in
    let p = err_from_is_err_and c.from_residual.result c.from_residual.ensures.1 in
    rw (p.1, p.2)
    (fetched a.list.now a.store.now (table_at a.tables.now c.args.slot) _ c.args.out.now _ (at (goal.at.returns-in_err-n c).In-Some) _
    (own (goal.at.returns-in_err-n c).After-copy_value) (Err c.in_err-n.field-0.0) _ (sym c.in_err-n.was ∙ c.copy_value.ensures.0, c.copy_value.ensures.1))

pub returns : goal.returns
returns c =
    let a = c.args.hub in
    fetched a.list.now a.store.now (table_at a.tables.now c.args.slot) _ c.args.out.now _ (at (goal.at.returns c).In-Some) _
    (own (goal.at.returns c).After-copy_value) (Ok c.in_ok-n.n) _ (sym c.in_ok-n.was ∙ c.copy_value.ensures.0, c.copy_value.ensures.1)
