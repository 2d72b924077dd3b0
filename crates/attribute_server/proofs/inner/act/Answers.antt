-- `attribute_server::inner::act` meets its contract: a refusal leaves everything, and a valid state is ready for the
-- move. Assumes nothing.
use Rattle.std.specs.Prelude.{Option}
use mathlib.Core.Path.{sym, ap, ◌∙◌}
use mathlib.Core.List.{[]}
use Rattle.table_view.specs.Told.{done}
use Rattle.model.specs.Told.{told_answer}
use Rattle.peers.specs.declared.Move.{Move}
use Rattle.std.proofs.lemmas.Result.{err_from_is_err_and}
use native.Mathlib.Omega.{arith}
use Rattle.peers.proofs.Rows.{length_row}
use Rattle.peers.specs.Slots.{tables_moved}
use Rattle.state.specs.State.{State, lent, after_move}
use Rattle.state.proofs.Keeping.{tables_read, eight_slots}
use Rattle.admission.proofs.Admitting.{admitted, told_no, told_yes, left_no, left_yes}
use Rattle.attribute_server.specs.Connection.{if_moved}
use Rattle.attribute_server.proofs.inner.act.Goals as goal
use Rattle.attribute_server.proofs.inner.act.Goals.{Start}

-- the state that is lent
was : (c : Start) → State
was c = lent c.args.list.now c.args.store.now c.args.row.now c.args.tables.now

pub returns-in_err-admit : goal.returns-in_err-admit
unfolding was
returns-in_err-admit c =
    let p = err_from_is_err_and c.from_residual.result c.from_residual.ensures.1 in
    let d = sym c.in_err-admit.was ∙ c.admit.ensures in
    let s = was (goal.at.returns-in_err-admit c).Start in
    rw (p.1, p.2) (told_no _ _ _ (sym d), ap (λ (s : State). s.tables) (left_no _ _ s (after_move s c.args.m) (sym d)))

pub settle-requires : goal.settle-requires
settle-requires c =
    let v = (admitted _ _ _ (sym c.admit.ensures ∙ c.in_ok-admit.was)).right in
    (tables_read _ v, λ h. omega (arith, c.requires _ c.in-Some.is h, length_row c.args.row.now, eight_slots _ v))

pub returns : goal.returns
unfolding was
returns c =
    let d = sym c.in_ok-admit.was ∙ c.admit.ensures in
    let s = was (goal.at.returns c).Start in
    let l = ap (λ (s : State). s.tables) (left_yes _ s (after_move s c.args.m) (sym d)) in (
      ap (λ (m : Option Move). if_moved m done (told_answer [] c.args.stayed)) (sym c.in-Some.is) ∙ told_yes _ _ (sym d),
      c.settle.ensures ∙ ap (tables_moved s.tables) (sym c.in-Some.is) ∙ l,
    )

pub returns-in_default : goal.returns-in_default
unfolding was
returns-in_default c =
    let d = sym c.in_ok-admit.was ∙ c.admit.ensures in
    let s = was (goal.at.returns-in_default c).Start in
    let l = ap (λ (s : State). s.tables) (left_yes _ s (after_move s c.args.m) (sym d)) in (
      ap (λ (m : Option Move). if_moved m done (told_answer [] c.args.stayed)) (sym c.in_default.is) ∙ told_yes _ _ (sym d),
      ap (tables_moved s.tables) (sym c.in_default.is) ∙ l,
    )
