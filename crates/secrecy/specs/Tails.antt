-- No letter of an old code is left in a hub (document 02, K3): where it began fresh, and whatever was called since, every
-- byte of a variable client value past its length is zero. Assumes nothing.
use Rattle.std.specs.Prelude.{ℕ, ◌<◌, ◌≡◌, List, [], length, get_or}
use Rattle.wire.specs.Size.{record_bytes, table_bytes, value_bytes}
use Rattle.wire.specs.Run.{after_all}
use Rattle.table_view.specs.Told.{done, value}
use Rattle.table_view.specs.Read.{raw_told}
use Rattle.client_att_table.specs.Tails.{ZeroTails}
use Rattle.peers.specs.declared.Identity.{Identity}
use Rattle.state.specs.State.{State}
use Rattle.state.specs.Fresh.{new_told}
use Rattle.attribute_server.specs.Table.{fetched_told}
use Rattle.numbers.specs.declared.Reply.{Reply}
use Rattle.edge.specs.Served.{Delivered}
use Rattle.secrecy.specs.Hub.{Hub, Call, step}
use Rattle.secrecy.specs.Valid.{fresh}

pub record NothingOld (x : Hub) : Type 0 where
  -- in the table of every slot, connected or not, somebody's or nobody's
  pub slots : (k : ℕ) → ZeroTails (get_or x.state.tables k [])
  -- in the table that `get_client_att_table` tells any tablet, and in the part of it that is saved
  pub told : (who : Identity) (bs : List ℕ) → fetched_told x.state who ≡ value bs → ZeroTails bs
  pub saved : (who : Identity) (bs out : List ℕ) → fetched_told x.state who ≡ value bs → raw_told bs ≡ value out → ZeroTails out
  -- and in the buffer that the exported call was lent, whatever stood there, where it replies that a table is in it
  pub exported : (who : Identity) (old new : List ℕ) (r : Reply) → length old ≡ table_bytes → Delivered old new r (fetched_told x.state who) → r.status ≡ 2 → ZeroTails new

-- after any calls, by anybody and with anything: so after each of them
abbrev pub OldLettersAreGone : Type 0
OldLettersAreGone =
    (s : State) (bytes : ℕ → List ℕ) → new_told s ≡ done → ((i : ℕ) → i < length s.list → length (get_or s.list i []) ≡ record_bytes) → ((i : ℕ) → length (bytes i) ≡ value_bytes)
    → (calls : List Call) → NothingOld (after_all step (fresh s bytes) calls)
