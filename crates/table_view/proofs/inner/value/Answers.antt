-- `table_view::inner::value` meets its contract. A part that is returned.
-- Assumes nothing.
use mathlib.Core.Path.{◌≡◌}
use Prim.Native.Nat.{◌-◌, ◌+◌}
use native.Mathlib.Omega.{arith}
use Rattle.table_view.specs.Layout.{len_at, value_at}
use Rattle.table_view.proofs.Shape.{fits, entry_at}
use Rattle.table_view.proofs.inner.value.Goals as goal

pub value_start-from-requires : goal.value_start-from-requires
value_start-from-requires c = omega (arith, fits _ c.requires.0)

pub value_len-requires : goal.value_len-requires
value_len-requires c =
    let e = entry_at _ c.requires.0 _ c.requires.1 in
    record { t_in_bounds = omega (arith, fits _ c.requires.0); p_in_bounds = omega (arith, fits _ c.requires.0) }

pub slice_bounds-result-end : goal.slice_bounds-result-end
slice_bounds-result-end c =
    let e = entry_at _ c.requires.0 _ c.requires.1 in
    omega (arith, fits _ c.requires.0)

pub returns : goal.returns
unfolding value_at
returns c =
    let e : (c.value_start-from.result + c.value_len.result) - c.value_start-from.result ≡ len_at
    c.args.t.now c.args.p.0 = omega arith in
    rw (e, c.value_start-from.ensures.0)
