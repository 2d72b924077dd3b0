-- The straight walk for a key, over an index whose keys ascend: where it comes by, where it stops, what it has found.
-- For inner contracts; what a lookup tells is in `Lookup`. Assumes nothing.
use Rattle.std.specs.Prelude.{ℕ, ◌≤◌, ◌<◌, List, Result, Ok, Err}
use Rattle.table_view.specs.Layout.{count_of, key_at}
use Rattle.table_view.specs.declared.Place.{Place}

-- the walk for key k comes to place i: every key before it is below k
pub record ComesTo (bs : List ℕ) (k i : ℕ) : Type 0 where
  pub inside : i ≤ count_of bs
  pub below : (j : ℕ) → j < i → key_at bs j < k

-- and it stops there: the key at i is the first that is not below k, or the index ends
pub record StopsAt (bs : List ℕ) (k i : ℕ) : Type 0 where
  pub comes : ComesTo bs k i
  pub reached : i < count_of bs → k ≤ key_at bs i

-- the place where it stopped, whether the key stands there or not
abbrev pub stop_of : Result Place Place → Place
stop_of (Ok p) = p
stop_of (Err p) = p
