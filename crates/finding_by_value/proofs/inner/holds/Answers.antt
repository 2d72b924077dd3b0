-- `finding_by_value::inner::holds` meets its contract. A client value never is; a shared one lies in the store by rule
-- 1. Assumes nothing.
use mathlib.Core.Path.{◌∙◌}
use native.Mathlib.Omega.{arith}
use Rattle.finding_by_value.proofs.Founds.{in_store, client_holds, shared_holds}
use Rattle.finding_by_value.proofs.inner.holds.Goals as goal

pub returns-then-a : goal.returns-then-a
returns-then-a c = client_holds _ _ _ _ c.decode-a.ensures c.if-a.true

pub slice_bounds-same-end : goal.slice_bounds-same-end
slice_bounds-same-end c =
    omega (
      arith,
      in_store c.args.v.list.now c.args.v.store.now _ _ c.args.v.right c.requires c.decode-a.ensures c.if-a.false,
    )

pub returns : goal.returns
returns c =
    c.same.ensures ∙ shared_holds _ _ _ _ c.decode-a.ensures c.if-a.false
