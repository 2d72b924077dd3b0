-- What one link can see of the hub: the list in which each value that it may not read is replaced by the code of the
-- refusal, and its own prepared write. Answers know of no other permission test. Assumes nothing.
use Rattle.std.specs.Prelude.{ℕ, Bool, List, [], ◌∷◌, map, eqb, take, get_or, Option, Some, None, Result, Ok, Err}
use Rattle.wire.specs.First.{first}
use Rattle.attribute.specs.Record.{Entry, entry_of, attribute_of}
use Rattle.attribute.specs.Needs.{may_read, may_write, Access}
use Rattle.attribute.specs.declared.Link.{Link}
use Rattle.peers.specs.Slots.{slot_of}
use Rattle.peers.specs.declared.Identity.{Identity}
use Rattle.peers.specs.declared.Slot.{Slot}
use Rattle.state.specs.declared.Prepared.{Prepared}
use Rattle.model.specs.Value.{Contents, Code, read_of, write_of}
use Rattle.peers.specs.declared.Seat.{Seat}
use Rattle.wire.specs.declared.att.AttError.TheVariants.{AttributeNotFound}

-- an attribute as a link sees it: the value or a code, and what a write of so many bytes at an offset gets
pub record Seen : Type 0 where
  pub entry : Entry
  pub read : Contents
  pub write : ℕ → ℕ → Access

-- a prepared write; under handle 0 there is none
pub record Pending : Type 0 where
  pub handle : ℕ
  pub offset : ℕ
  pub bytes : List ℕ

pub record View : Type 0 where
  pub attrs : List Seen
  pub pending : Pending

-- what stands behind a permission test, which says why not by an error or a code
abbrev pub if_met : {A C : Type 0} → Result (Unit {0}) C → A → (C → A) → A
if_met (Ok x) a f = a
if_met (Err e) a f = f e

unfoldable pub seen_by : Link → List ℕ → List ℕ → List ℕ → Seen
seen_by link store table r =
    record {
      entry = entry_of r;
      read = if_met (may_read (attribute_of r) link) (read_of store table (attribute_of r)) Code;
      write = λ off n. if_met (may_write (attribute_of r) link) (write_of store table (attribute_of r) off n) Err;
    }

abbrev pub seen_all : Link → List (List ℕ) → List ℕ → List ℕ → List Seen
seen_all link list store table = map (seen_by link store table) list

-- the peer's own table: that of its slot; a peer without one has the table that has no entries
unfoldable pub table_at : List (List ℕ) → Option Seat → List ℕ
table_at ts (Some k) = get_or ts k.0 []
table_at ts None = 0 ∷ 0 ∷ 0 ∷ 0 ∷ []

abbrev pub own_table : List Slot → List (List ℕ) → Identity → List ℕ
own_table row ts who = table_at ts (slot_of row who)

abbrev pub pending_of : Prepared → List ℕ → Pending
pending_of p bytes = record { handle = p.handle; offset = p.offset; bytes = take p.len bytes }

abbrev pub view_of : Link → List (List ℕ) → List ℕ → List ℕ → Pending → View
view_of link list store table w = record { attrs = seen_all link list store table; pending = w }

-- by handle: an absent one is 0x0A
abbrev pub is_seen : ℕ → Seen → Bool
is_seen h s = eqb s.entry.handle h

unfoldable pub read_at : ℕ → List Seen → Contents
read_at h l = first (is_seen h) (λ s. s.read) (Code AttributeNotFound) l

unfoldable pub write_at : ℕ → ℕ → ℕ → List Seen → Access
write_at h off n l = first (is_seen h) (λ s. s.write off n) (Err AttributeNotFound) l
