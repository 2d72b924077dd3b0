-- What no call of another tablet changes. Assumes nothing.
use Rattle.std.specs.Prelude.{ℕ, ◌<◌, ◌≡◌, Bool, true, false, [], eqb, length, get_or}
use Rattle.wire.specs.Test.{both}
use Rattle.attribute.specs.Needs.{may_write}
use Rattle.attribute.specs.declared.Attribute.{Attribute}
use Rattle.peers.specs.Identity.{same_id, is_empty}
use Rattle.peers.specs.Slots.{matches, no_slot}
use Rattle.peers.specs.declared.Identity.{Identity}
use Rattle.state.specs.State.{State}
use Rattle.model.specs.Value.{shared_item}
use Rattle.secrecy.specs.Hub.{Hub, Deed, Process, Connect, Disconnect, Set, SetTable, Looks, Call, step}
use Rattle.secrecy.specs.Valid.{Valid}
use Rattle.secrecy.specs.Agree.{attribute_at}
use Rattle.secrecy.specs.Secret.{is_granted}

-- slot j and every byte of its table stand as they did
pub record SameSlot (s s' : State) (j : ℕ) : Type 0 where
  pub slot : get_or s'.row j no_slot ≡ get_or s.row j no_slot
  pub table : get_or s'.tables j [] ≡ get_or s.tables j []

unfoldable pub is_connect : Deed → Bool
is_connect (Process q) = false
is_connect Connect = true
is_connect (Disconnect bonded) = false
is_connect (Set h d) = false
is_connect (SetTable saved) = false
is_connect (Looks l) = false

-- a slot that is t's after another tablet's call was t's before it, with the same bytes; and no slot of t's is lost,
-- but one that is not connected, to a tablet that connects
pub record Spared (t : Identity) (connects : Bool) (s s' : State) : Type 0 where
  pub had : (j : ℕ) → matches t (get_or s'.row j no_slot) ≡ true → SameSlot s s' j
  pub has : (j : ℕ) → matches t (get_or s.row j no_slot) ≡ true → both connects (eqb (get_or s.row j no_slot).connected 0) ≡ false → SameSlot s s' j

-- t is a tablet, not nobody
abbrev pub KeptApart : Type 0
KeptApart =
    (t : Identity) (x : Hub) (c : Call) → is_empty t ≡ false → same_id c.who t ≡ false
    → Spared t (is_connect c.deed) x.state (step x c).state

-- which calls may change a shared value: a request whose link meets the need for writing; and the application's `set`,
-- which tests none
unfoldable pub may_change : Deed → Attribute → Bool
may_change (Process q) a = is_granted (may_write a q.level)
may_change Connect a = false
may_change (Disconnect bonded) a = false
may_change (Set h d) a = true
may_change (SetTable saved) a = false
may_change (Looks l) a = false

-- any other leaves the entry's record, and with it the value's length, and the value
pub record SameShared (s s' : State) (i : ℕ) : Type 0 where
  pub entry : get_or s'.list i [] ≡ get_or s.list i []
  pub value : (attribute_at s i).client ≡ false → shared_item s'.store (attribute_at s i) ≡ shared_item s.store (attribute_at s i)

abbrev pub WrittenByRight : Type 0
WrittenByRight =
    (x : Hub) (c : Call) → Valid x → (i : ℕ) → i < length x.state.list → may_change c.deed (attribute_at x.state i) ≡ false
    → SameShared x.state (step x c).state i
