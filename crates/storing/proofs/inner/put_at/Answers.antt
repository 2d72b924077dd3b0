-- `storing::inner::put_at` meets its contract. By whose value it is. Assumes nothing.
use mathlib.Core.Path.{sym, ◌∙◌, ap}
use Rattle.attribute.specs.declared.Attribute.{Attribute}
use Rattle.storing.proofs.Writing.{own_put, shared_put}
use Rattle.storing.proofs.inner.put_at.Goals as goal

pub put_own-requires : goal.put_own-requires
put_own-requires c =
    c.requires.1.own

pub returns-then-a : goal.returns-then-a
returns-then-a c =
    let a = c.args in
    let p = c.put_own.ensures in
    own_put a.list.now a.store.now a.tables.now _ _ _ a.d.now _ c.decode-a.ensures c.if-a.true _ _ p.0
    p.1

pub put_shared-requires : goal.put_shared-requires
put_shared-requires c = (
  c.requires.0,
  c.requires.1.right,
  ap (λ (a : Attribute). a.client) (sym c.decode-a.ensures) ∙ c.if-a.false,
)

pub returns : goal.returns
returns c =
    let a = c.args in
    let p = c.requires in
    shared_put a.list.now a.store.now a.tables.now _ _ _ a.d.now _ c.decode-a.ensures p.0 p.1.right
    c.if-a.false _ _ _ c.put_shared.ensures
