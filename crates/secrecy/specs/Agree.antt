-- What two hubs agree on for tablet t: all that t may see, and nothing else. Each part is what is read from the bytes, so
-- that bytes which nobody reads may differ: the spare ones of a list's record, the padding behind a short UUID, where a
-- value lies, and the range fields of a client entry. Assumes nothing.
use Rattle.std.specs.Prelude.{ℕ, ◌<◌, ◌≡◌, Bool, true, false, cond, not, List, [], map, eqb, length, get_or}
use Rattle.table_view.specs.View.{view}
use Rattle.attribute.specs.Record.{Entry, entry_of, attribute_of}
use Rattle.attribute.specs.declared.Attribute.{Attribute}
use Rattle.peers.specs.Slots.{matches, no_slot}
use Rattle.peers.specs.declared.Identity.{Identity}
use Rattle.peers.specs.declared.Slot.{Slot}
use Rattle.state.specs.State.{State, Waiting}
use Rattle.model.specs.Value.{shared_item}
use Rattle.model.specs.View.{Pending, pending_of}
use Rattle.secrecy.specs.Hub.{Hub}

-- what every tablet may know of a record of the list: the entry, and of a shared value how long it is now
pub record Known : Type 0 where
  pub entry : Entry
  pub len : ℕ

unfoldable pub known_of : List ℕ → Known
known_of r = record { entry = entry_of r; len = cond (attribute_of r).client 0 (attribute_of r).len }

-- and of a slot: whose it is, and whether that tablet is connected
pub record Holder : Type 0 where
  pub id : Identity
  pub connected : Bool

unfoldable pub holder_of : Slot → Holder
holder_of s = record { id = s.id; connected = not (eqb s.connected 0) }

-- what is pending at a link: nothing under handle 0, whatever stands beside it; else the handle, the offset, and as
-- many bytes as the length says
abbrev pub nothing : Pending
nothing = record { handle = 0; offset = 0; bytes = [] }

abbrev pub settled : Pending → Pending
settled w = cond (eqb w.handle 0) nothing w

abbrev pub pending_at : Waiting → Pending
pending_at w = settled (pending_of w.prepared w.bytes)

abbrev pub attribute_at : State → ℕ → Attribute
attribute_at s i = attribute_of (get_or s.list i [])

-- two states, where t's links meet the needs of `may`
pub record AgreeOn (t : Identity) (may : ℕ → Bool) (a b : State) : Type 0 where
  -- what every tablet may know of the attribute list
  pub list : map known_of a.list ≡ map known_of b.list
  -- whose each slot is, and who is connected
  pub row : map holder_of a.row ≡ map holder_of b.row
  -- every shared value that t may read, wherever it lies
  pub shared : (i : ℕ) → i < length a.list → (attribute_at a i).client ≡ false → may (attribute_at a i).reads ≡ true
      → shared_item a.store (attribute_at a i) ≡ shared_item b.store (attribute_at b i)
  -- all values kept for t, in every slot of t's
  pub kept : (i : ℕ) → matches t (get_or a.row i no_slot) ≡ true → view (get_or a.tables i []) ≡ view (get_or b.tables i [])

-- two hubs: that, and what is pending at every link
pub record Agree (t : Identity) (may : ℕ → Bool) (a b : Hub) : Type 0 where
  pub state : AgreeOn t may a.state b.state
  pub pending : (i : ℕ) → pending_at (a.waiting i) ≡ pending_at (b.waiting i)
