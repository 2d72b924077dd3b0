-- Valid hubs, and the statement that every hub that calls can reach from a fresh one is valid. Assumes nothing.
use Rattle.std.specs.Prelude.{ℕ, ◌<◌, ◌≡◌, true, List, [], length, get_or}
use Rattle.wire.specs.Size.{record_bytes, slot_count, table_bytes, value_bytes}
use Rattle.wire.specs.Run.{after_all}
use Rattle.table_view.specs.Told.{done}
use Rattle.state.specs.State.{State, waiting}
use Rattle.state.specs.Fresh.{new_told, new_left}
use Rattle.state.specs.Valid.{valid, record_ok}
use Rattle.model.specs.Change.{no_record}
use Rattle.secrecy.specs.Hub.{Hub, Call, step}

-- what the types of the lent bytes say: a record has 32, a table 640
pub record Sized (s : State) : Type 0 where
  pub records : (i : ℕ) → i < length s.list → length (get_or s.list i []) ≡ record_bytes
  pub tables : (i : ℕ) → i < slot_count → length (get_or s.tables i []) ≡ table_bytes

-- the state is valid, and so is what waits at each link: the tests of every call; and a prepared write has 512 bytes
pub record Valid (x : Hub) : Type 0 where
  pub state : valid x.state ≡ true
  pub sized : Sized x.state
  pub waiting : (i : ℕ) → record_ok (x.waiting i).prepared ≡ true
  pub bytes : (i : ℕ) → length (x.waiting i).bytes ≡ value_bytes

-- the hub that `new` makes of what is lent to it, with nothing prepared
abbrev pub fresh : State → (ℕ → List ℕ) → Hub
fresh s bytes = record { state = new_left s; waiting = λ i. waiting no_record (bytes i) }

-- where `new` says done, whatever is called then, by anybody and with anything, the hub stays valid
abbrev pub StaysValid : Type 0
StaysValid =
    (s : State) (bytes : ℕ → List ℕ) → new_told s ≡ done → ((i : ℕ) → i < length s.list → length (get_or s.list i []) ≡ record_bytes) → ((i : ℕ) → length (bytes i) ≡ value_bytes)
    → (calls : List Call) → Valid (after_all step (fresh s bytes) calls)
