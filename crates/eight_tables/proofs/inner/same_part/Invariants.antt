-- `eight_tables::inner::same_part` meets its contract. The invariant: the fold so far and the test of what is left are
-- the test of all. Assumes nothing.
use mathlib.Core.Bool.{true}
use mathlib.Core.List.{List}
use mathlib.Core.Path.{◌≡◌}
use Prim.Native.Nat.{ℕ, ◌<◌, ◌-◌}
use lib.Dec.{eqb}
use Rattle.wire.specs.Test.{both}
use Rattle.eight_tables.specs.Tables.{every, sized, agrees, Gives}
use Rattle.eight_tables.proofs.inner.same_part.Given as goal

abbrev pub invariant-loop-j : goal.invariant-loop-j
invariant-loop-j g l =
    ((f : List ℕ) → Gives (goal.F-post g l.byte) f
    → both (eqb l.acc 0) (every (agrees f (l.to - l.j) l.j) l.tables) ≡ every (agrees f (l.to - l.from) l.from) l.tables)
    × (l.from < l.j → every sized l.tables ≡ true)
