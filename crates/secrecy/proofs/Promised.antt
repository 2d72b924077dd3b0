-- The steps are the promises': whatever meets the contract of a call tells what `told` tells, and leaves the hub that
-- `step` leaves. Each law takes the proposition of the call's contract as it stands there; calls that only look are one
-- step of nothing. Assumes nothing.
use Rattle.std.specs.Prelude.{Result}
use mathlib.Core.Path.{◌≡◌, ap, subst}
use mathlib.Core.Bool.{Bool}
use mathlib.Core.List.{List, []}
use Prim.Native.Nat.{ℕ}
use lib.ListN.{length}
use Rattle.table_view.specs.Told.{Told}
use Rattle.attribute.specs.declared.Link.{Link}
use Rattle.attribute.specs.declared.Wish.{Wish}
use Rattle.peers.specs.declared.Identity.{Identity}
use Rattle.state.specs.State.{State}
use Rattle.model.specs.Told.{told_answer, Answered}
use Rattle.attribute_server.specs.Connection.{connect_told, connect_left, disconnect_told, disconnect_left}
use Rattle.attribute_server.specs.Request.{process_told, process_left, process_waits}
use Rattle.attribute_server.specs.Value.{get_told, set_told, set_left, can_told}
use Rattle.attribute_server.specs.Subscription.{subscribed_told}
use Rattle.attribute_server.specs.Table.{fetched_told, restored_told, restored_left}
use Rattle.secrecy.specs.Hub.{Hub, Asked, Deed, Process, Connect, Disconnect, Set, SetTable, Looks, Get, Can, ShouldNotify, ShouldIndicate, GetTable, query_of, told_by, look_told, with_state, with_waiting, step_by}
use Rattle.secrecy.specs.Secret.{RunEnd, Keeps}
use Rattle.model.specs.declared.Answer.{Answer}
use Rattle.model.specs.declared.CallError.{CallError}

module _ (x : Hub) (who : Identity) where
  -- an answer without a buffer, one with a buffer, and an answer with the state that is left
  abbrev pub Tells : Told → Deed → Type 0
  Tells t d = (r : Result Answer CallError) → told_answer [] r ≡ t → told_answer [] r ≡ told_by x who d

  abbrev pub Fills : List ℕ → Told → Deed → Type 0
  Fills out t d = (new : List ℕ) (r : Result Answer CallError) → Answered out new r t → Answered out new r (told_by x who d)

  abbrev pub Leaves : Told → State → Deed → Type 0
  Leaves t left d = (r : Result Answer CallError) (s : State) → (told_answer [] r ≡ t) × (s ≡ left) → (told_answer [] r ≡ told_by x who d) × (with_state x s ≡ step_by x who d)

  pub connect_is : Leaves (connect_told x.state who) (connect_left x.state who) Connect
  unfolding told_by step_by
  connect_is r s p = (p.0, ap (with_state x) p.1)

  pub disconnect_is : (bonded : Bool) → Leaves (disconnect_told x.state who bonded) (disconnect_left x.state who bonded) (Disconnect bonded)
  unfolding told_by step_by
  disconnect_is bonded r s p = (p.0, ap (with_state x) p.1)

  pub set_is : (h : ℕ) (d : List ℕ) → Leaves (set_told x.state who h (length d)) (set_left x.state who h d) (Set h d)
  unfolding told_by step_by
  set_is h d r s p = (p.0, ap (with_state x) p.1)

  pub set_table_is : (saved : List ℕ) → Leaves (restored_told x.state who saved) (restored_left x.state who saved) (SetTable saved)
  unfolding told_by step_by
  set_table_is saved r s p = (p.0, ap (with_state x) p.1)

  -- a request, into a buffer of the length that it says
  pub process_is : (q : Asked) (out : List ℕ) → length out ≡ q.room → (r : RunEnd) → Keeps x who q out r
      → Answered out r.out r.answer (told_by x who (Process q)) × (with_waiting (with_state x r.state) q.link r.waiting ≡ step_by x who (Process q))
  unfolding told_by step_by
  process_is q out n r p =
      let s = x.state in
      let w = x.waiting q.link in
      let k = query_of who q in
      subst
      (λ (room : ℕ).
      Answered out r.out r.answer (process_told s w k room)
      × (with_waiting (with_state x r.state) q.link r.waiting ≡ with_waiting (with_state x (process_left s w k room)) q.link (process_waits s w k room)))
      n
      (p.answer, λ i. with_waiting (with_state x (p.left i)) q.link (p.waits i))

  -- those that only look
  pub get_is : (h : ℕ) (out : List ℕ) → Fills out (get_told x.state who h (length out)) (Looks (Get h (length out)))
  unfolding told_by look_told
  get_is h out new r p = p

  pub get_table_is : (out : List ℕ) → Fills out (fetched_told x.state who) (Looks GetTable)
  unfolding told_by look_told
  get_table_is out new r p = p

  pub can_is : (wish : Wish) (link : Link) (h : ℕ) → Tells (can_told x.state who wish link h) (Looks (Can wish link h))
  unfolding told_by look_told
  can_is wish link h r p = p

  pub notify_is : (h : ℕ) → Tells (subscribed_told x.state who h 1) (Looks (ShouldNotify h))
  unfolding told_by look_told
  notify_is h r p = p

  pub indicate_is : (h : ℕ) → Tells (subscribed_told x.state who h 2) (Looks (ShouldIndicate h))
  unfolding told_by look_told
  indicate_is h r p = p
