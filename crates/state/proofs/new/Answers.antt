-- `state::new` meets its contract. A law for each answer; what is laid out is the fresh table. Assumes nothing.
use mathlib.Core.Bool.{true}
use mathlib.Core.Path.{◌≡◌, refl, sym, ◌∙◌}
use borrow.Author.Tests.{leb-true, leb-false}
use lib.ListN.{length}
use Rattle.wire.specs.Size.{table_bytes}
use Rattle.attribute.specs.Rules.{list_ok}
use Rattle.peers.proofs.Rows.{length_row}
use Rattle.state.proofs.Answers.{empty_row_lem, new_other_row, new_other_count, new_bad_list, new_too_long, new_done}
use Rattle.state.proofs.new.Goals as goal
use Rattle.state.proofs.new.Goals.{
  Else-not-is_list,
  then-row-ne-SLOTS-via-then-row-ne-SLOTS,
  then-row-ne-SLOTS-via-else-row-ne-SLOTS+then-tables-ne-SLOTS,
  then-row-ne-SLOTS-via-else-row-ne-SLOTS+else-tables-ne-SLOTS+then-not-is_list,
}

right : (c : Else-not-is_list) →
    list_ok c.args.list.now (length c.args.store.now) ≡ true
right c = sym c.is_list.ensures ∙ c.if-not-is_list.false

pub returns-then-row-ne-SLOTS : goal.returns-then-row-ne-SLOTS
returns-then-row-ne-SLOTS c = elim c.then-row-ne-SLOTS.branch [
  | then-row-ne-SLOTS-via-then-row-ne-SLOTS w ↦ new_other_row _ (λ e. w.if-row-ne-SLOTS.true (sym (length_row c.args.row.now) ∙ e))
  | then-row-ne-SLOTS-via-else-row-ne-SLOTS+then-tables-ne-SLOTS w ↦ new_other_count _ w.if-tables-ne-SLOTS.true
  | then-row-ne-SLOTS-via-else-row-ne-SLOTS+else-tables-ne-SLOTS+then-not-is_list w ↦ new_bad_list _ (sym w.is_list.ensures ∙ w.if-not-is_list.true)
]

pub lay_out-requires : goal.lay_out-requires
lay_out-requires c = (right (goal.at.lay_out-requires c).Else-not-is_list, refl)

pub returns-then-not-lay_out : goal.returns-then-not-lay_out
returns-then-not-lay_out c =
    new_too_long _ (length_row c.args.row.now ∙ c.if-row-ne-SLOTS.false) c.if-tables-ne-SLOTS.false (right (goal.at.returns-then-not-lay_out c).Else-not-is_list)
    (leb-false _ table_bytes (sym c.lay_out.ensures.0 ∙ c.if-not-lay_out.true))

pub returns : goal.returns
returns c =
    let y = c.if-not-lay_out.false in
    new_done _ _ _ _ (c.lay_out.ensures.1 y) (length_row c.args.row.now ∙ c.if-row-ne-SLOTS.false) c.if-tables-ne-SLOTS.false
    (right (goal.at.returns c).Else-not-is_list) (leb-true _ table_bytes (sym c.lay_out.ensures.0 ∙ y))
    (empty_row_lem _ _ c.fill-2.ensures c.if-row-ne-SLOTS.false) c.fill.ensures
