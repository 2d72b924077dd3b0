-- The state that is lent to a call, in one record, and a link's prepared write beside it. Assumes nothing.
use Rattle.std.specs.Prelude.{ℕ, ◌≡◌, List, Option}
use Rattle.peers.specs.Bytes.{row_of}
use Rattle.peers.specs.Slots.{row_moved, tables_moved}
use Rattle.peers.specs.declared.Slot.{Slot}
use Rattle.peers.specs.declared.Move.{Move}
use Rattle.state.specs.declared.Prepared.{Prepared}

-- the attribute list, the store of shared values, the row of slots, and a table a slot
pub record State : Type 0 where
  pub list : List (List ℕ)
  pub store : List ℕ
  pub row : List Slot
  pub tables : List (List ℕ)

abbrev pub state : List (List ℕ) → List ℕ → List Slot → List (List ℕ) → State
state list store row ts = record { list = list; store = store; row = row; tables = ts }

-- the same where the row is lent in bytes
abbrev pub lent : List (List ℕ) → List ℕ → List (List ℕ) → List (List ℕ) → State
lent list store row ts = state list store (row_of row) ts

-- with other tables; and after a tablet came or left
abbrev pub with_tables : State → List (List ℕ) → State
with_tables s ts = state s.list s.store s.row ts

abbrev pub after_move : State → Option Move → State
after_move s m = state s.list s.store (row_moved s.row m) (tables_moved s.tables m)

-- list, store and tables become others, as f says; the row, whatever it is, stays
abbrev pub Becomes : (State → State) → List (List ℕ) → List ℕ → List (List ℕ) → List (List ℕ) → List ℕ → List (List ℕ) → Type 0
Becomes f list store ts list' store' ts' = (row : List Slot) → state list' store' row ts' ≡ f (state list store row ts)

-- what waits at a link: its prepared write, and the bytes that hold the data
pub record Waiting : Type 0 where
  pub prepared : Prepared
  pub bytes : List ℕ

abbrev pub waiting : Prepared → List ℕ → Waiting
waiting p bytes = record { prepared = p; bytes = bytes }
