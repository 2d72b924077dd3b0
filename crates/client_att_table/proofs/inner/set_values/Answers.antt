use mathlib.Core.List.{List}
use mathlib.Core.Path.{◌≡◌, refl, sym, ◌∙◌}
use Prim.Native.Nat.{ℕ, ◌+◌, ◌<◌}
use native.Mathlib.Omega.{arith}
use Rattle.client_att_table.specs.SetValues.{set_one, set_all}
use Rattle.table_view.specs.Layout.{count_of, key_at}
use Rattle.table_view.specs.Walk.{StopsAt}
use Rattle.client_att_table.proofs.Frame.{kept_index}
use Rattle.client_att_table.proofs.Taking.{took_held, none_set, one_set, all_set, one_kept}
use Rattle.table_view.proofs.Same.{count_same, key_same}
use Rattle.table_view.proofs.Search.{comes_first, comes_by}
use Rattle.table_view.proofs.Shape.{long, fits, ascends}
use Rattle.client_att_table.proofs.inner.set_values.Invariants.{Turn}
use Rattle.client_att_table.proofs.inner.set_values.Goals as goal

turn : (t₀ src : List ℕ) (n : ℕ) (t : List ℕ) (from i key next : ℕ) (out : List ℕ) → Turn t₀ src n t from i → i < n → key ≡ key_at t i
    → StopsAt src key next → out ≡ set_one src t i → Turn t₀ src n out next (i + 1)
turn t₀ src n t from i key next out w h ke s e =
    let hi : i < count_of t = omega (arith, w.count) in
    let k = one_kept src t w.ok i hi in
    let same = kept_index t _ w.ok k in
    rw e (record {
      ok = k.ok;
      count = count_same t _ same ∙ w.count;
      len = k.len ∙ w.len;
      comes =
          λ l.
          let up = ascends t w.ok i (i + 1) (omega arith) (omega (arith, w.count)) in
          rw (key_same t _ same (i + 1) (omega (arith, w.count))) (comes_by src key next (key_at t (i + 1)) s (omega arith));
      rest = one_set src n i t (set_all src (count_of t₀) 0 t₀) h w.rest;
    })

pub count-n-requires : goal.count-n-requires
count-n-requires c =
    long _ c.requires.0

pub loop-i-init : goal.loop-i-init
loop-i-init c =
    record {
      ok = c.requires.0;
      count = sym c.count-n.ensures.0;
      len = refl;
      comes = λ l. comes_first _ _;
      rest = none_set _ _ _ c.count-n.ensures.0;
    }

pub key_at-requires : goal.key_at-requires
key_at-requires c =
    omega (arith, fits _ c.loop-i.invariant.ok, c.loop-i.invariant.count)

pub walk_from-stop-requires : goal.walk_from-stop-requires
walk_from-stop-requires c = record { t_value = c.requires.1; comes_to = rw c.key_at.ensures (c.loop-i.invariant.comes c.loop-i-test.true) }

pub held-requires : goal.held-requires
held-requires c = (c.requires.1, (_, c.ok.ensures.value ∙ c.walk_from-stop.ensures.1))

pub put_value-requires : goal.put_value-requires
put_value-requires c =
    (c.loop-i.invariant.ok, omega (arith, c.loop-i.invariant.count))

pub loop-i-preserved : goal.loop-i-preserved
loop-i-preserved c =
    rw c.stop_of-from.ensures
    (turn _ _ _ _ _ _ _ _ _ c.loop-i.invariant c.loop-i-test.true c.key_at.ensures c.walk_from-stop.ensures.0
    (took_held _ _ _ _ _ _ _ c.key_at.ensures (c.ok.ensures.value ∙ c.walk_from-stop.ensures.1) c.held.ensures
    c.put_value.ensures))

pub shape_of-t : goal.shape_of-t
shape_of-t c = c.loop-i.invariant.len

pub returns : goal.returns
returns c = all_set _ _ _ _ _ (omega (arith, c.loop-i-test.false)) c.loop-i.invariant.rest
