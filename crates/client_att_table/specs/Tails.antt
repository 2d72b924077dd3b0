-- What a variable value has past its length (document 02, K3): nothing of a longer one that stood there. Assumes
-- nothing.
use Rattle.std.specs.Prelude.{ℕ, ◌+◌, ◌≤◌, ◌<◌, ◌≡◌, true, List, get_or}
use Rattle.wire.specs.Run.{after_all}
use Rattle.table_view.specs.Layout.{count_of, var_at, start_at, stop_at, len_at}
use Rattle.table_view.specs.Rules.{accepts}
use Rattle.table_view.specs.Told.{value}
use Rattle.table_view.specs.Read.{raw_told}
use Rattle.client_att_table.specs.AsList.{TableCall, bytes_after}

-- the value at place i: where it is a variable one, every byte past its length, up to the end of its room, is zero
abbrev pub ZeroTail : List ℕ → ℕ → Type 0
ZeroTail bs i = var_at bs i ≡ true → (j : ℕ) → start_at bs i + len_at bs i ≤ j → j < stop_at bs i → get_or bs j 0 ≡ 0

-- and so every value of a table
pub record ZeroTails (bs : List ℕ) : Type 0 where
  pub at : (i : ℕ) → i < count_of bs → ZeroTail bs i

-- the statement: such a table stays one, whatever is called, and so is what `raw` tells of it
pub record StaysSo (bs : List ℕ) (cs : List TableCall) : Type 0 where
  pub table : ZeroTails (after_all bytes_after bs cs)
  pub saved : (out : List ℕ) → raw_told (after_all bytes_after bs cs) ≡ value out → ZeroTails out

abbrev pub TailsStayZero : Type 0
TailsStayZero = (bs : List ℕ) → accepts bs ≡ true → ZeroTails bs → (cs : List TableCall) → StaysSo bs cs
