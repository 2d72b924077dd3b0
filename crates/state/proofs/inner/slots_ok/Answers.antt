-- `state::inner::slots_ok` meets its contract. Each test of all tables follows from the slots' test, and the last
-- decides. Assumes nothing.
use Rattle.state.proofs.Testing.{fronts, tails, values, not_slots, by_clears}
use Rattle.eight_tables.specs.Tables.{every, sized, agrees}
use Rattle.table_builder.proofs.Laws.{is_table}
use Rattle.table_view.proofs.Shape.{long, fits}
use Rattle.table_view.specs.Layout.{base_of, end_of}
use lib.ListN.{length}
use Rattle.wire.specs.Size.{slot_count, table_bytes}
use Rattle.peers.specs.Bytes.{row_of}
use Rattle.peers.proofs.Rows.{length_row}
use Prim.Native.Nat.{◌-◌}
use mathlib.Core.List.{[]}
use mathlib.Core.Bool.{true}
use mathlib.Core.Path.{◌≡◌, refl, sym, ◌∙◌}
use native.Mathlib.Omega.{arith}
use Rattle.state.proofs.inner.slots_ok.Goals as goal
use Rattle.state.proofs.inner.slots_ok.Goals.{After-same_front, After-values_base-arg-1, After-zero_from, Start}

row-long : (c : Start) → length (row_of c.args.row.now) ≡ slot_count
row-long c = length_row c.args.row.now ∙ c.requires.2

fresh-long : (c : After-values_base-arg-1) → length c.args.fresh.now ≡ table_bytes
fresh-long c = search c.values_base-arg-1.given

sizes : (c : After-same_front) →
    every sized c.args.all.now ≡ true
sizes c = c.same_front.ensures.1 (omega (arith, c.values_base-base.ensures.0))

front : (c : After-same_front) →
    c.same_front.result ≡ every (agrees c.args.fresh.now (base_of c.args.fresh.now) 0)
    c.args.all.now
front c = c.same_front.ensures.0 ∙ rw c.values_base-base.ensures.0 refl

tail : (c : After-zero_from) →
    c.zero_from.result ≡ every (agrees [] (table_bytes - end_of c.args.fresh.now) (end_of c.args.fresh.now))
    c.args.all.now
tail c = c.zero_from.ensures ∙ rw c.values_end-end.ensures.0 refl

pub values_base-base-requires : goal.values_base-base-requires
values_base-base-requires c = long _ (is_table _ c.requires.1)

pub same_front-requires : goal.same_front-requires
same_front-requires c =
    (c.requires.0, omega (arith, fits _ (is_table _ c.requires.1), fresh-long (goal.at.same_front-requires c).After-values_base-arg-1, c.values_base-base.ensures.0))

pub returns-then-not-same_front : goal.returns-then-not-same_front
returns-then-not-same_front c =
    not_slots c.args.fresh.now (row_of c.args.row.now) c.args.all.now (fresh-long (goal.at.returns-then-not-same_front c).After-values_base-arg-1)
    c.requires.1 (row-long (goal.at.returns-then-not-same_front c).Start) c.requires.0 (sizes (goal.at.returns-then-not-same_front c).After-same_front) _
    (fronts c.args.fresh.now (row_of c.args.row.now) c.args.all.now (fresh-long (goal.at.returns-then-not-same_front c).After-values_base-arg-1)
    c.requires.1 (row-long (goal.at.returns-then-not-same_front c).Start) c.requires.0 (sizes (goal.at.returns-then-not-same_front c).After-same_front))
    (sym (front (goal.at.returns-then-not-same_front c).After-same_front) ∙ c.if-not-same_front.true)

pub values_end-end-requires : goal.values_end-end-requires
values_end-end-requires c =
    long _ (is_table _ c.requires.1)

pub zero_from-requires : goal.zero_from-requires
zero_from-requires c =
    (c.requires.0, omega (arith, fits _ (is_table _ c.requires.1), fresh-long (goal.at.zero_from-requires c).After-values_base-arg-1, c.values_end-end.ensures.0))

pub returns-then-not-zero_from : goal.returns-then-not-zero_from
returns-then-not-zero_from c =
    not_slots c.args.fresh.now (row_of c.args.row.now) c.args.all.now (fresh-long (goal.at.returns-then-not-zero_from c).After-values_base-arg-1)
    c.requires.1 (row-long (goal.at.returns-then-not-zero_from c).Start) c.requires.0 (sizes (goal.at.returns-then-not-zero_from c).After-same_front) _
    (tails c.args.fresh.now (row_of c.args.row.now) c.args.all.now (fresh-long (goal.at.returns-then-not-zero_from c).After-values_base-arg-1)
    c.requires.1 (row-long (goal.at.returns-then-not-zero_from c).Start) c.requires.0 (sizes (goal.at.returns-then-not-zero_from c).After-same_front)) (sym (tail (goal.at.returns-then-not-zero_from c).After-zero_from) ∙ c.if-not-zero_from.true)

pub values_ok-requires : goal.values_ok-requires
values_ok-requires c = record { tables_len = (c.requires.0, fresh-long (goal.at.values_ok-requires c).After-values_base-arg-1, c.requires.1); tables_value = (sizes (goal.at.values_ok-requires c).After-same_front, (sym (front (goal.at.values_ok-requires c).After-same_front) ∙ c.if-not-same_front.false)) }

pub returns-then-not-values_ok : goal.returns-then-not-values_ok
returns-then-not-values_ok c =
    not_slots c.args.fresh.now (row_of c.args.row.now) c.args.all.now (fresh-long (goal.at.returns-then-not-values_ok c).After-values_base-arg-1)
    c.requires.1 (row-long (goal.at.returns-then-not-values_ok c).Start) c.requires.0 (sizes (goal.at.returns-then-not-values_ok c).After-same_front) _
    (values c.args.fresh.now (row_of c.args.row.now) c.args.all.now (fresh-long (goal.at.returns-then-not-values_ok c).After-values_base-arg-1)
    c.requires.1 (row-long (goal.at.returns-then-not-values_ok c).Start) c.requires.0 (sizes (goal.at.returns-then-not-values_ok c).After-same_front))
    (sym c.values_ok.ensures ∙ c.if-not-values_ok.true)

pub clears_ok-requires : goal.clears_ok-requires
clears_ok-requires c = (
  c.requires.0,
  omega (arith, c.values_base-base.ensures.0, c.values_end-end.ensures.0),
  omega (arith, fits _ (is_table _ c.requires.1), fresh-long (goal.at.clears_ok-requires c).After-values_base-arg-1, c.values_end-end.ensures.0),
  c.requires.2,
)

pub returns : goal.returns
returns c =
    c.clears_ok.ensures ∙ rw (c.values_base-base.ensures.0, c.values_end-end.ensures.0)
    (by_clears c.args.fresh.now (row_of c.args.row.now) c.args.all.now (fresh-long (goal.at.returns c).After-values_base-arg-1)
    c.requires.1 (row-long (goal.at.returns c).Start) c.requires.0 (sizes (goal.at.returns c).After-same_front)
    (sym (front (goal.at.returns c).After-same_front) ∙ c.if-not-same_front.false) (sym (tail (goal.at.returns c).After-zero_from) ∙ c.if-not-zero_from.false)
    (sym c.values_ok.ensures ∙ c.if-not-values_ok.false))
