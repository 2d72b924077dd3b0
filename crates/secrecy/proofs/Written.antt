-- A shared value, its length and its entry change by a request whose link meets the need for writing, and by `set`: no
-- other call touches them. Assumes nothing.
use Rattle.std.specs.Prelude.{Option, Ok}
use Prim.Native.Nat.{ℕ, ◌<◌}
use mathlib.Core.Path.{◌≡◌, refl}
use mathlib.Core.Bool.{false}
use mathlib.Core.List.{List}
use native.Mathlib.Omega.{arith}
use lib.ListN.{length}
use Rattle.attribute.specs.Needs.{may_write}
use Rattle.attribute.specs.declared.Link.{Link}
use Rattle.peers.specs.Slots.{slot_of}
use Rattle.peers.specs.declared.Identity.{Identity}
use Rattle.peers.specs.declared.Slot.{Slot}
use Rattle.state.specs.State.{State, state}
use Rattle.state.proofs.Keeping.{right_list}
use Rattle.model.specs.Change.{put_at}
use Rattle.model.proofs.Leaving.{request_leaves_lem}
use Rattle.storing.proofs.Shared.{entry_stays, value_stays}
use Rattle.admission.specs.Admission.{admission, left_if, Admission}
use Rattle.attribute_server.specs.Request.{seen_of, let_in}
use Rattle.secrecy.specs.Hub.{Hub, Deed, Process, Connect, Disconnect, Set, SetTable, Looks, query_of, step_by}
use Rattle.secrecy.specs.Valid.{Valid}
use Rattle.secrecy.specs.Agree.{attribute_at}
use Rattle.secrecy.specs.Secret.{is_granted}
use Rattle.secrecy.specs.Untouched.{may_change, SameShared, WrittenByRight}
use Rattle.secrecy.proofs.Sizes.{left_either}
use Rattle.peers.specs.declared.Seat.{Seat}

module _ (x : Hub) (v : Valid x) (i : ℕ) (l : i < length x.state.list) where
  abbrev s : State
  s = x.state

  -- entry i and its value stand, whatever becomes of the row and the tables
  abbrev Same : State → Type 0
  Same s' = SameShared s s' i

  untouched : (row : List Slot) (ts : List (List ℕ)) → Same (state s.list s.store row ts)
  untouched row ts = record { entry = refl; value = λ c. refl }

  -- refused or let in
  left : (d : Admission) (s' : State) → Same s' → Same (left_if d s s')
  left d s' new = left_either Same d s s' (untouched s.row s.tables) new

  -- a link that may not write there: what it writes goes to a place whose need is met, so elsewhere
  module _ (link : Link) (not : is_granted (may_write (attribute_at s i) link) ≡ false) (slot : Option Seat) where
    elsewhere : (j : ℕ) → may_write (attribute_at s j) link ≡ (Ok tt) → i ≡ j → ⊥
    elsewhere j e p =
        let q = rw (p, e) at not in
        let z : ◌≡◌ {A = ℕ} 0 1 = cc in
        absurd (omega arith)

    at_place_lem : (j : ℕ) → j < length s.list → may_write (attribute_at s j) link ≡ (Ok tt) → (off : ℕ) (d : List ℕ) → Same (put_at s slot j off d)
    at_place_lem j m e off d =
        let ok = right_list s v.state in
        record {
          entry = entry_stays s ok v.sized.records slot j m off d i (elsewhere j e);
          value = value_stays s ok v.sized.records slot j m off d i l (elsewhere j e);
        }

  -- any call
  done : (who : Identity) (c : Deed) → may_change c (attribute_at s i) ≡ false → Same (step_by x who c).state
  unfolding step_by may_change
  done who (Process q) not =
      let w = x.waiting q.link in
      let k = query_of who q in
      left (let_in s w k q.room) _
      (request_leaves_lem q.level s (slot_of s.row who) Same (untouched s.row s.tables) (at_place_lem q.level not (slot_of s.row who)) (seen_of s w k).pending q.request q.brings)
  done who Connect not = left (admission s who) _ (untouched _ _)
  done who (Disconnect bonded) not = left (admission s who) _ (untouched _ _)
  done who (Set h d) not = let z : ◌≡◌ {A = ℕ} 0 1 = cc in absurd (omega arith)
  done who (SetTable saved) not = left (admission s who) _ (untouched _ _)
  done who (Looks k) not = untouched s.row s.tables

pub written_by_right : WrittenByRight
written_by_right x c v i l not = done x v i l c.who c.deed not
