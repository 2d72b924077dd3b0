-- `state::is_valid` meets its contract. A law for each answer; what is laid out is the fresh table. Assumes nothing.
use mathlib.Core.Bool.{true}
use mathlib.Core.Path.{◌≡◌, refl, sym, ◌∙◌}
use borrow.Author.Tests.{leb-true, leb-false}
use lib.ListN.{length}
use Rattle.wire.specs.Size.{table_bytes}
use Rattle.attribute.specs.Rules.{list_ok}
use Rattle.peers.proofs.Rows.{length_row}
use Rattle.state.proofs.Answers.{laid_builder, other_row, other_count, bad_list, too_long_lem, by_slots}
use Rattle.state.proofs.is_valid.Goals as goal
use Rattle.state.proofs.is_valid.Goals.{
  Else-not-is_list,
  then-row-ne-SLOTS-via-then-row-ne-SLOTS,
  then-row-ne-SLOTS-via-else-row-ne-SLOTS+then-tables-ne-SLOTS,
  then-row-ne-SLOTS-via-else-row-ne-SLOTS+else-tables-ne-SLOTS+then-not-is_list,
}

right : (c : Else-not-is_list) →
    list_ok c.args.hub.list.now (length c.args.hub.store.now) ≡ true
right c = sym c.is_list.ensures ∙ c.if-not-is_list.false

pub returns-then-row-ne-SLOTS : goal.returns-then-row-ne-SLOTS
returns-then-row-ne-SLOTS c = elim c.then-row-ne-SLOTS.branch [
  | then-row-ne-SLOTS-via-then-row-ne-SLOTS w ↦ other_row _ (λ e. w.if-row-ne-SLOTS.true (sym (length_row c.args.hub.row.now) ∙ e))
  | then-row-ne-SLOTS-via-else-row-ne-SLOTS+then-tables-ne-SLOTS w ↦ other_count _ w.if-tables-ne-SLOTS.true
  | then-row-ne-SLOTS-via-else-row-ne-SLOTS+else-tables-ne-SLOTS+then-not-is_list w ↦ bad_list _ (sym w.is_list.ensures ∙ w.if-not-is_list.true)
]

pub lay_out-requires : goal.lay_out-requires
lay_out-requires c = (right (goal.at.lay_out-requires c).Else-not-is_list, refl)

pub slots_ok-requires : goal.slots_ok-requires
slots_ok-requires c = (
  c.if-tables-ne-SLOTS.false,
  rw (c.lay_out.ensures.1 c.if-lay_out.true) (laid_builder _),
  c.if-row-ne-SLOTS.false,
)

pub returns-then-lay_out : goal.returns-then-lay_out
returns-then-lay_out c =
    let y = c.if-lay_out.true in
    c.slots_ok.ensures ∙ by_slots _ _ (c.lay_out.ensures.1 y) c.if-tables-ne-SLOTS.false (right (goal.at.returns-then-lay_out c).Else-not-is_list)
    (leb-true _ table_bytes (sym c.lay_out.ensures.0 ∙ y))

pub returns-else-lay_out : goal.returns-else-lay_out
returns-else-lay_out c =
    let y = c.if-lay_out.false in
    y ∙ too_long_lem _ (leb-false _ table_bytes (sym c.lay_out.ensures.0 ∙ y))
