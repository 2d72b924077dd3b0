-- `reading_by_type::inner::row` meets its contract. No room, no value, another length, or the lead and the value behind
-- it. Assumes nothing.
use mathlib.Core.Path.{◌≡◌, refl, ap, ◌∙◌}
use mathlib.Core.List.{[]}
use Prim.Native.Nat.{ℕ, ◌+◌, ◌-◌, ◌≤◌}
use native.Mathlib.Omega.{arith}
use lib.ListN.{length, get_or, drop}
use Rattle.attribute.specs.Record.{entry_of}
use Rattle.attribute.specs.Lookup.{entries_of}
use Rattle.model.specs.Rows.{any_entry, value_turn}
use Rattle.model.proofs.Running.{row_stopped, row_written}
use Rattle.values.specs.Locate.{contents_of, side_of}
use Rattle.values.proofs.Meaning.{at_got, at_inside}
use Rattle.reading_by_type.specs.Turns.{cut_to, row_at}
use Rattle.reading_by_type.proofs.Lists.{turn_full, turn_value, no_value, other_size, row_is, cut_le, some_bytes, span_inside}
use Rattle.reading_by_type.proofs.inner.row.Goals as goal
use Rattle.reading_by_type.proofs.inner.row.Goals.{After-locate_at, In-Ok, After-cut}

-- the turn is that of what was located
turn : (c : After-locate_at) →
    value_turn c.args.form c.args.size (entry_of (get_or c.args.v.list.now c.args.i []))
    (entries_of (drop (c.args.i + 1) c.args.v.list.now)) (length c.args.out.now - c.args.c.len)
    (contents_of c.args.v.store.now c.args.v.table.now c.locate_at.result)
    ≡ row_at c.args.form c.args.link c.args.v.store.now c.args.v.table.now any_entry c.args.size
    (get_or c.args.v.list.now c.args.i []) (drop (c.args.i + 1) c.args.v.list.now)
    (length c.args.out.now - c.args.c.len)
turn c =
    turn_value _ _ _ _ any_entry c.args.size _ (drop (c.args.i + 1) c.args.v.list.now) _ refl
    (omega (arith, c.if-room-size.false, c.available-room.ensures, c.extra.ensures.0)) _
    (ap (contents_of _ _) c.locate_at.ensures ∙ at_got _ _ _ _)

-- the span lies in its bytes
inside : (c : In-Ok) →
    c.in-Ok.s.start + c.in-Ok.s.len ≤ length (side_of c.args.v.store.now c.args.v.table.now c.in-Ok.s)
inside c =
    span_inside _ _ _ _ c.in-Ok.is (rw c.locate_at.ensures
    (at_inside _ _ c.args.v.ready.table _ c.args.v.ready.right _ c.requires.i_in_bounds _))

-- what goes in is what the cut leaves
left : (c : After-cut) →
    c.cut.result ≡ cut_to c.args.form (length c.args.out.now - c.args.c.len) c.in-Ok.s.len
left c =
    c.cut.ensures ∙ ap (λ (x : ℕ). cut_to c.args.form x c.in-Ok.s.len) c.available-room.ensures

pub locate_at-requires : goal.locate_at-requires
locate_at-requires c = (c.requires.i_in_bounds, c.args.v.ready.table)

pub returns-then-room-size : goal.returns-then-room-size
returns-then-room-size c =
    row_stopped _ _ _ c.requires.len_in_bounds.0 (turn_full _ _ _ _ any_entry c.args.size _
    (drop (c.args.i + 1) c.args.v.list.now) (length c.args.out.now - c.args.c.len) refl
    (omega (arith, c.if-room-size.true, c.available-room.ensures, c.extra.ensures.0)))

pub returns-in_default : goal.returns-in_default
returns-in_default c =
    let t = turn (goal.at.returns-in_default c).After-locate_at in
    row_stopped _ _ _ c.requires.len_in_bounds.0 (no_value _ _ _ _ _ _ _ _ _ c.in_default.is ∙ t)

pub returns-then-cut-size : goal.returns-then-cut-size
returns-then-cut-size c =
    let at = goal.at.returns-then-cut-size c in
    row_stopped _ _ _ c.requires.len_in_bounds.0 (other_size _ _ _ _ _ _ _ _ _ c.in-Ok.is (inside at.In-Ok) _
    (left at.After-cut) (λ x. omega (arith, x, c.if-cut-size.true)) ∙ turn at.After-locate_at)

pub put_value-requires : goal.put_value-requires
put_value-requires c = record {
  i_in_bounds = (
    c.requires.i_in_bounds,
    inside (goal.at.put_value-requires c).In-Ok,
    omega (
      arith,
      cut_le c.args.form c.available-room.result c.in-Ok.s.len,
      c.cut.ensures,
      c.if-cut-size.false,
    ),
  );
  form_in_bounds = omega (arith, c.if-room-size.false, c.available-room.ensures, c.extra.ensures.0, c.requires.len_in_bounds.0);
  end_value = c.requires.end_value;
}

pub returns : goal.returns
returns c =
    let at = goal.at.returns c in
    row_written _ _ _ _ _ _ (row_is _ _ _ _ _ _ _ _ _ c.in-Ok.is (inside at.In-Ok) _ (left at.After-cut)
    c.if-cut-size.false ∙ turn at.After-locate_at) (some_bytes _ _ _ _) c.put_value.ensures
