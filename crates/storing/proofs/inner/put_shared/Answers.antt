-- `storing::inner::put_shared` meets its contract. A write that is granted lies within the value, and the value within
-- the store. Assumes nothing.
use Rattle.std.specs.Prelude.{Ok}
use Rattle.std.proofs.lemmas.Result.{err_from_is_err_and}
use mathlib.Core.Path.{◌≡◌, sym}
use native.Mathlib.Omega.{arith}
use lib.ListN.{length}
use Rattle.model.specs.Value.{write_rule}
use Rattle.storing.proofs.Putting.{Room, room, refused, with_length_lem, as_it_is}
use Rattle.storing.proofs.inner.put_shared.Goals as goal
use Rattle.storing.proofs.inner.put_shared.Goals.{In_ok-rule}

granted : (c : In_ok-rule) →
    write_rule c.decode-a.result.len c.decode-a.result.cap c.args.offset (length c.args.d.now)
    ≡ Ok tt
granted c = sym c.in_ok-rule.ensures

space : (c : In_ok-rule) →
    Room c.decode-a.result (length c.args.store.now) c.args.offset (length c.args.d.now)
space c =
    let p = c.requires in
    room _ _ _ p.0 p.1 p.2 _ c.decode-a.ensures _ _ (granted c)

pub returns-in_err-rule : goal.returns-in_err-rule
returns-in_err-rule c =
    let a = c.args in
    let p = err_from_is_err_and c.from_residual.result c.from_residual.ensures.1 in
    rw (p.1, p.2) (refused a.list.now a.store.now _ _ a.d.now _ c.decode-a.ensures _ (sym c.in_err-rule.ensures))

pub overflow_add-a : goal.overflow_add-a
overflow_add-a c = let r = space (goal.at.overflow_add-a c).In_ok-rule in omega (arith, r.value, r.cap, r.inside)

pub copy-requires : goal.copy-requires
copy-requires c = let r = space (goal.at.copy-requires c).In_ok-rule in omega (arith, r.value, r.cap, r.inside)

pub overflow_add-offset : goal.overflow_add-offset
overflow_add-offset c =
    let r = space (goal.at.overflow_add-offset c).In_ok-rule in
    omega (arith, r.value, r.cap)

pub overflow_cast-offset : goal.overflow_cast-offset
overflow_cast-offset c =
    let r = space (goal.at.overflow_cast-offset c).In_ok-rule in
    omega (arith, r.value, r.cap)

pub returns-then-a : goal.returns-then-a
returns-then-a c =
    let a = c.args in
    with_length_lem a.list.now a.store.now _ _ a.d.now _ c.decode-a.ensures (granted (goal.at.returns-then-a c).In_ok-rule) _ c.copy.ensures _
    c.if-a.true c.set_length.ensures

pub returns-else-a : goal.returns-else-a
returns-else-a c =
    let a = c.args in
    as_it_is a.list.now a.store.now _ _ a.d.now _ c.decode-a.ensures (granted (goal.at.returns-else-a c).In_ok-rule) _ c.copy.ensures
    c.if-a.false
