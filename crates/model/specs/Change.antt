-- What the requests and `set` leave, in bytes (document 01, "Client table", "Attributes" and "Handlers"). Every byte
-- that is not named stays. Assumes nothing.
use Rattle.std.specs.Prelude.{ℕ, ◌+◌, cond, List, [], eqb, length, get_or, set, Option, Some, None}
use Rattle.std.proofs.lemmas.List.Edits.{sets}
use Rattle.client_att_table.specs.Write.{after_write}
use Rattle.attribute.specs.Record.{attribute_of, with_length}
use Rattle.attribute.specs.Lookup.{place_of}
use Rattle.attribute.specs.Needs.{may_write, Access}
use Rattle.attribute.specs.declared.Attribute.{Attribute}
use Rattle.attribute.specs.declared.Link.{Link}
use Rattle.state.specs.State.{State}
use Rattle.state.specs.declared.Prepared.{Prepared}
use Rattle.model.specs.Value.{write_rule}
use Rattle.model.specs.View.{Pending, if_met}
use Rattle.model.specs.Answer.{prepare_rule, is_due}
use Rattle.model.specs.declared.Request.{Request}
use Rattle.model.specs.declared.Request.TheVariants as request
use Rattle.model.specs.declared.Change.{Change}
use Rattle.model.specs.declared.Change.TheVariants.{Write, WriteCommand, PrepareWrite, ExecuteWrite}
use Rattle.peers.specs.declared.Seat.{Seat}

abbrev pub if_granted : {A : Type 0} → Access → A → A → A
if_granted a x y = if_met a x (λ c. y)

-- d at an offset of a shared value: it stands in the store, and a variable value's length ends with it
unfoldable pub length_put : List (List ℕ) → ℕ → ℕ → List (List ℕ)
length_put list i n =
    cond (attribute_of (get_or list i [])).variable (set list i (with_length (get_or list i []) n)) list

unfoldable pub shared_list : List (List ℕ) → ℕ → Attribute → ℕ → ℕ → List (List ℕ)
shared_list list i a off n = if_granted (write_rule a.len a.cap off n) (length_put list i (off + n)) list

unfoldable pub shared_store : List ℕ → Attribute → ℕ → List ℕ → List ℕ
shared_store store a off d = if_granted (write_rule a.len a.cap off (length d)) (sets store (a.start + off) d) store

-- d at an offset of a client value, in the table of the peer's slot
unfoldable pub own_tables : List (List ℕ) → Option Seat → ℕ → ℕ → List ℕ → List (List ℕ)
own_tables ts None h off d = ts
own_tables ts (Some k) h off d = set ts k.0 (after_write (get_or ts k.0 []) h off d)

-- d at an offset of the value of the entry at place i
unfoldable pub put_at : State → Option Seat → ℕ → ℕ → List ℕ → State
put_at s slot i off d =
    let a = attribute_of (get_or s.list i []) in
    record {
      list = cond a.client s.list (shared_list s.list i a off (length d));
      store = cond a.client s.store (shared_store s.store a off d);
      row = s.row;
      tables = cond a.client (own_tables s.tables slot a.handle off d) s.tables;
    }

-- the same behind the permission test, by handle
abbrev pub written_at : Link → State → Option Seat → Option ℕ → ℕ → List ℕ → State
written_at link s slot None off d = s
written_at link s slot (Some i) off d = if_granted (may_write (attribute_of (get_or s.list i [])) link) (put_at s slot i off d) s

abbrev pub written : Link → State → Option Seat → ℕ → ℕ → List ℕ → State
written link s slot h off d = written_at link s slot (place_of s.list h) off d

-- the state after a request that may change something: w is what is pending, d what the request brings
unfoldable pub state_after : Link → State → Option Seat → Pending → Change → List ℕ → State
state_after link s slot w (Write h) d = written link s slot h 0 d
state_after link s slot w (WriteCommand h) d = written link s slot h 0 d
state_after link s slot w (PrepareWrite h off) d = s
state_after link s slot w (ExecuteWrite flags) d =
    cond (is_due w flags) (written link s slot w.handle w.offset w.bytes) s

-- the link's prepared write: what Prepare takes is appended; after Execute there is none, whatever it answers
abbrev pub no_record : Prepared
no_record = record { handle = 0; offset = 0; len = 0 }

unfoldable pub longer : Prepared → ℕ → ℕ → ℕ → Prepared
longer p h off n = record { handle = h; offset = cond (eqb p.handle 0) off p.offset; len = p.len + n }

abbrev pub may_prepare : Prepared → ℕ → ℕ → ℕ → Access
may_prepare p h off n = prepare_rule p.handle p.offset p.len h off n

unfoldable pub record_after : Prepared → Change → ℕ → Prepared
record_after p (Write h) n = p
record_after p (WriteCommand h) n = p
record_after p (PrepareWrite h off) n = if_granted (may_prepare p h off n) (longer p h off n) p
record_after p (ExecuteWrite flags) n = no_record

-- and its bytes
unfoldable pub data_after : Prepared → List ℕ → Change → List ℕ → List ℕ
data_after p bytes (Write h) d = bytes
data_after p bytes (WriteCommand h) d = bytes
data_after p bytes (PrepareWrite h off) d = if_granted (may_prepare p h off (length d)) (sets bytes p.len d) bytes
data_after p bytes (ExecuteWrite flags) d = bytes

-- the same of any request: only those that may change something do
unfoldable pub state_by : Link → State → Option Seat → Pending → Request → List ℕ → State
state_by link s slot w (request.Ask a) d = s
state_by link s slot w (request.FindByTypeValue g uuid) d = s
state_by link s slot w (request.Change c) d = state_after link s slot w c d
state_by link s slot w (request.ExchangeMtu mtu) d = s
state_by link s slot w request.Confirmation d = s

unfoldable pub record_by : Prepared → Request → ℕ → Prepared
record_by p (request.Ask a) n = p
record_by p (request.FindByTypeValue g uuid) n = p
record_by p (request.Change c) n = record_after p c n
record_by p (request.ExchangeMtu mtu) n = p
record_by p request.Confirmation n = p

unfoldable pub data_by : Prepared → List ℕ → Request → List ℕ → List ℕ
data_by p bytes (request.Ask a) d = bytes
data_by p bytes (request.FindByTypeValue g uuid) d = bytes
data_by p bytes (request.Change c) d = data_after p bytes c d
data_by p bytes (request.ExchangeMtu mtu) d = bytes
data_by p bytes request.Confirmation d = bytes
