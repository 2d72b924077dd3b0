-- The application's calls on a valid state (document 01, "Refusals of a call" and "Slots"). Assumes nothing.
use Rattle.std.specs.Prelude.{ℕ, ◌/◌, ◌%◌, Bool, false, cond, not, List, [], eqb, length, take, get_or, set, Option, Some, None}
use Rattle.wire.specs.Att.{code_of}
use Rattle.wire.specs.First.{first}
use Rattle.table_view.specs.Rules.{accepts}
use Rattle.table_view.specs.View.{Item, view, is_of}
use Rattle.table_view.specs.Told.{Told, done, none, value, refused, att}
use Rattle.client_att_table.specs.SetValues.{after_set}
use Rattle.attribute.specs.Record.{attribute_of}
use Rattle.attribute.specs.Needs.{told_access}
use Rattle.attribute.specs.declared.Attribute.{Attribute}
use Rattle.state.specs.State.{State}
use Rattle.model.specs.Value.{Contents, Bytes, Code, read_of, write_of}
use Rattle.model.specs.Change.{put_at}
use Rattle.peers.specs.declared.Seat.{Seat}
use Rattle.application.specs.declared.Bell.{Bell}
use Rattle.application.specs.declared.Bell.TheVariants.{Notify, Indicate}

-- `get`: as much of the value as the buffer can take, or the read rule's code; refusal 8 where the handle is not listed
abbrev pub got_told : ℕ → Contents → Told
got_told room (Bytes v) = value (take room v)
got_told room (Code e) = att (code_of e)

abbrev pub fetch_told : List (List ℕ) → List ℕ → List ℕ → Option ℕ → ℕ → Told
fetch_told list store table None room = refused 8
fetch_told list store table (Some i) room = got_told room (read_of store table (attribute_of (get_or list i [])))

-- `set`: 8; 9 for a fixed value and another length than its capacity; then the write rule at offset 0
unfoldable pub is_wrong_length : Attribute → ℕ → Bool
is_wrong_length a n = cond a.variable false (not (eqb n a.cap))

abbrev pub store_told : List (List ℕ) → List ℕ → List ℕ → Option ℕ → ℕ → Told
store_told list store table None n = refused 8
store_told list store table (Some i) n =
    let a = attribute_of (get_or list i []) in
    cond (is_wrong_length a n) (refused 9) (told_access (write_of store table a 0 n))

abbrev pub store_left : State → Option Seat → Option ℕ → List ℕ → State
store_left s slot None d = s
store_left s slot (Some i) d = cond (is_wrong_length (attribute_of (get_or s.list i [])) (length d)) s (put_at s slot i 0 d)

-- what a peer subscribes to, by its bit
abbrev pub bit_of : Bell → ℕ
bit_of Notify = 1
bit_of Indicate = 2

-- a subscription: the bit is set in a client value of exactly two bytes (1: bit 0, notify; 2: bit 1, indicate)
unfoldable pub has_bit : ℕ → List ℕ → Bool
has_bit bit v = cond (eqb (length v) 2) (eqb (get_or v 0 0 / bit % 2) 1) false

unfoldable pub is_subscribed : List ℕ → ℕ → ℕ → Bool
is_subscribed table h bit = first (is_of h) (λ (x : Item). has_bit bit x.value) false (view table)

-- `get_client_att_table`: the table of the peer's slot, or none
abbrev pub table_told : List (List ℕ) → Option Seat → Told
table_told ts None = none
table_told ts (Some k) = value (get_or ts k.0 [])

-- `set_client_att_table`: refusal 4 for a table that the reading rules do not accept; its values go into the table of
-- the peer's slot
unfoldable pub restore_told : List ℕ → Told
restore_told saved = cond (accepts saved) done (refused 4)

abbrev pub restored_at : List (List ℕ) → Option Seat → List ℕ → List (List ℕ)
restored_at ts None saved = ts
restored_at ts (Some k) saved = set ts k.0 (after_set saved (get_or ts k.0 []))

unfoldable pub restored : List (List ℕ) → Option Seat → List ℕ → List (List ℕ)
restored ts slot saved = cond (accepts saved) (restored_at ts slot saved) ts
