-- `client_att_table::inner::set_values` meets its contract. The invariant: the table is kept, the walk for the next key
-- starts where the last one stopped, and to take what is left gives what taking all gives. Assumes nothing.
use mathlib.Core.Bool.{true}
use mathlib.Core.List.{List}
use mathlib.Core.Path.{◌≡◌}
use Prim.Native.Nat.{ℕ, ◌-◌, ◌<◌}
use lib.ListN.{length}
use Rattle.client_att_table.specs.SetValues.{set_all}
use Rattle.table_view.specs.Layout.{count_of, key_at}
use Rattle.table_view.specs.Rules.{accepts}
use Rattle.table_view.specs.Walk.{ComesTo}
use Rattle.client_att_table.proofs.inner.set_values.Given as goal

pub record Turn (t₀ src : List ℕ) (n : ℕ) (t : List ℕ) (from i : ℕ) : Type 0 where
  pub ok : accepts t ≡ true
  pub count : count_of t ≡ n
  pub len : length t ≡ length t₀
  pub comes : i < n → ComesTo src (key_at t i) from
  pub rest : set_all src (n - i) i t ≡ set_all src (count_of t₀) 0 t₀

abbrev pub invariant-loop-i : goal.invariant-loop-i
invariant-loop-i l = Turn l.initial.t l.src l.n l.t l.from.0 l.i
