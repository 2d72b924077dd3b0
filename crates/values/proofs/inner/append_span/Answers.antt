-- `values::inner::append_span` meets its contract. One write of the cursor that has room. Assumes nothing.
use mathlib.Core.Path.{◌≡◌}
use Prim.Native.Nat.{◌+◌, ◌-◌}
use native.Mathlib.Omega.{arith}
use lib.ListN.{length-take, length-drop}
use Rattle.wire.proofs.Written.{wrote, wrote_as}
use Rattle.values.proofs.inner.append_span.Goals as goal

pub returns : goal.returns
returns c =
    let a = c.args in
    let e : (a.from + a.n) - a.from ≡ a.n = omega arith in
    wrote_as _ _ _ _ _ _ (wrote _ _ _ _ _ (simp (length-take, length-drop) (omega arith)) c.append.ensures.0 c.append.ensures.1)
    (rw (e, c.bytes_of-bytes.ensures.0))
