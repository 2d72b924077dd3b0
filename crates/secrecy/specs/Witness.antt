-- Two hubs that agree and are not the same, so that demand 3 is not said of nothing; and without the need that hides a
-- value, they answer otherwise. Each place that agreement leaves open has the number x, and there hub 0 and hub 1 differ.
-- Assumes nothing.
use Rattle.std.specs.Prelude.{ℕ, ◌+◌, ◌≤◌, ◌≡◌, Bool, true, false, not, List, [], ◌∷◌, ◌++◌, eqb, length, get_or, replicate}
use Rattle.wire.specs.Test.{both}
use Rattle.table_view.specs.Told.{Told, value}
use Rattle.attribute.specs.declared.Link.{Link}
use Rattle.attribute.specs.declared.Link.TheVariants.{Plain, Authenticated}
use Rattle.peers.specs.Slots.{nobody, no_slot}
use Rattle.peers.specs.declared.Identity.{Identity}
use Rattle.peers.specs.declared.Slot.{Slot}
use Rattle.state.specs.State.{State, state, waiting}
use Rattle.model.specs.declared.Ask.TheVariants.{Read}
use Rattle.model.specs.declared.Change.TheVariants.{Write, PrepareWrite, ExecuteWrite}
use Rattle.model.specs.declared.Request.{Request}
use Rattle.model.specs.declared.Request.TheVariants as request
use Rattle.secrecy.specs.Hub.{Hub, Process, Connect, Call}
use Rattle.secrecy.specs.Valid.{Valid}
use Rattle.secrecy.specs.Agree.{attribute_at, Agree}
use Rattle.secrecy.specs.Secret.{ever_reaches, heard}

-- a record of the list, of numbers below 256: handle, capacity, start, present length, needs for reading and writing,
-- kind (1 variable, 2 client), and a UUID of two bytes. x fills the padding behind it and the spare bytes
unfoldable pub record_with : ℕ → ℕ → ℕ → ℕ → ℕ → ℕ → ℕ → ℕ → ℕ → ℕ → List ℕ
record_with h cap start len reads writes kind low high x =
    h ∷ 0 ∷ cap ∷ 0 ∷ start ∷ 0 ∷ len ∷ 0 ∷ reads ∷ writes ∷ kind ∷ 2 ∷ low ∷ high ∷ replicate 18 x

-- a shared value for every link, of two bytes where three have room; one for links that meet `need`; and a client value
-- with x in its range fields. The shared ones lie x bytes further on, and the hidden one ends with x
unfoldable pub list_with : ℕ → ℕ → List (List ℕ)
list_with need x =
    record_with 1 3 x 2 1 0 1 0x00 0x28 x
    ∷ record_with 2 4 (x + 3) 4 need 3 1 0x01 0xFF x
    ∷ record_with 3 2 x x 1 1 3 0x02 0x29 x ∷ []

unfoldable pub store_with : ℕ → List ℕ
store_with x = replicate x 0xEE ++ (0x0F ∷ 0xF0 ∷ x ∷ 0x33 ∷ 0x45 ∷ 0x31 ∷ (0x30 + x) ∷ [])

-- the table of a tablet that has kept `len` bytes of its client value, one at most; past them the byte is left over
unfoldable pub table_with : ℕ → ℕ → List ℕ
table_with len byte =
    0x01 ∷ 0x00 ∷ 0x04 ∷ 0x00 ∷ 0x03 ∷ 0x80 ∷ 0x00 ∷ 0x00 ∷ len ∷ 0x00 ∷ byte ∷ 0x00 ∷ replicate 628 0

-- two tablets are connected, Ada and Ben; Ada has kept nothing, Ben the byte 1 or nothing
abbrev pub tablet : ℕ → Identity
tablet n = record { kind = 1; addr = n ∷ 0 ∷ 0 ∷ 0 ∷ 0 ∷ 0 ∷ [] }

abbrev pub ada : Identity
ada = tablet 0xA1

abbrev pub ben : Identity
ben = tablet 0xA2

unfoldable pub state_with : ℕ → ℕ → State
state_with need x =
    let fresh = table_with 0 0 in
    let empty : Slot = record { id = nobody; connected = 0 } in
    state (list_with need x) (store_with x)
    (record { id = ada; connected = 1 + x } ∷ record { id = ben; connected = 1 + x } ∷ replicate 6 empty)
    (table_with 0 x ∷ table_with x x ∷ replicate 6 fresh)

-- nothing is prepared at any link: under handle 0 stands an offset that is stale
unfoldable pub hub_with : ℕ → ℕ → Hub
hub_with need x =
    record { state = state_with need x; waiting = λ i. waiting (record { handle = 0; offset = x; len = 0 }) (replicate 512 x) }

-- Ada asks over a plain link for all three values, and prepares and executes a write of her own; Ben, authenticated,
-- writes the hidden value; and a third tablet connects
abbrev pub asking : Identity → Link → ℕ → Request → List ℕ → Call
asking who level link rq d =
    record { who = who; deed = Process (record { level = level; link = link; request = rq; brings = d; room = 23 }) }

abbrev pub reading : ℕ → Call
reading h = asking ada Plain 0 (request.Ask (Read h)) []

unfoldable pub calls : List Call
calls =
    reading 2 ∷ reading 1
    ∷ asking ada Plain 0 (request.Change (PrepareWrite 3 0)) (0x41 ∷ [])
    ∷ asking ada Plain 0 (request.Change (ExecuteWrite 1)) []
    ∷ reading 3
    ∷ record { who = tablet 0xA3; deed = Connect }
    ∷ asking ben Authenticated 1 (request.Change (Write 2)) (0x39 ∷ [])
    ∷ reading 2 ∷ []

-- what she hears with need 3: an error of code 0x05, the value under handle 1, the echo of what she prepared, that it was
-- written, what she wrote, and the error again
unfoldable pub answers : List Told
answers =
    value (0x01 ∷ 0x0A ∷ 0x02 ∷ 0x00 ∷ 0x05 ∷ [])
    ∷ value (0x0B ∷ 0x0F ∷ 0xF0 ∷ [])
    ∷ value (0x17 ∷ 0x03 ∷ 0x00 ∷ 0x00 ∷ 0x00 ∷ 0x41 ∷ [])
    ∷ value (0x19 ∷ [])
    ∷ value (0x0B ∷ 0x41 ∷ [])
    ∷ value (0x01 ∷ 0x0A ∷ 0x02 ∷ 0x00 ∷ 0x05 ∷ []) ∷ []

-- what stands in the places that agreement leaves open: the padding of a UUID and a spare byte; where the shared values
-- lie, and the range fields of the client entry; how long the store is, the byte past the value of entry 1, and the
-- hidden value's last; the connected bytes; the byte past Ada's value; the length and the byte of Ben's; the stale offset,
-- and a byte past the prepared ones
unfoldable pub open_places : Hub → List ℕ
open_places h =
    let s = h.state in
    get_or (get_or s.list 0 []) 14 0 ∷ get_or (get_or s.list 0 []) 31 0
    ∷ (attribute_at s 0).start ∷ (attribute_at s 1).start ∷ (attribute_at s 2).start ∷ (attribute_at s 2).len
    ∷ length s.store ∷ get_or s.store ((attribute_at s 0).start + 2) 0 ∷ get_or s.store ((attribute_at s 1).start + 3) 0
    ∷ (get_or s.row 0 no_slot).connected ∷ (get_or s.row 1 no_slot).connected
    ∷ get_or (get_or s.tables 0 []) 10 0 ∷ get_or (get_or s.tables 1 []) 8 0 ∷ get_or (get_or s.tables 1 []) 10 0
    ∷ (h.waiting 0).prepared.offset ∷ get_or (h.waiting 0).bytes 0 0 ∷ []

unfoldable pub all_differ : List ℕ → List ℕ → Bool
all_differ [] [] = true
all_differ [] (y ∷ ys) = false
all_differ (x ∷ xs) [] = false
all_differ (x ∷ xs) (y ∷ ys) = both (not (eqb x y)) (all_differ xs ys)

-- the two are valid, under any need; with need 3 they agree for Ada and these calls, so that she hears the same, and
-- they differ in every open place; with need 1, which every link meets, she does not hear the same
pub record Witnessed : Type 0 where
  pub valid : (need : ℕ) → need ≤ 3 → Valid (hub_with need 0) × Valid (hub_with need 1)
  pub agree : Agree ada (ever_reaches ada calls) (hub_with 3 0) (hub_with 3 1)
  pub hears : heard ada (hub_with 3 0) calls ≡ answers
  pub same : heard ada (hub_with 3 0) calls ≡ heard ada (hub_with 3 1) calls
  pub apart : all_differ (open_places (hub_with 3 0)) (open_places (hub_with 3 1)) ≡ true
  pub other : hub_with 3 0 ≡ hub_with 3 1 → ⊥
  pub shown : heard ada (hub_with 1 0) calls ≡ heard ada (hub_with 1 1) calls → ⊥
