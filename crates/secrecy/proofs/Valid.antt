-- Valid in, valid out: every call, by anybody and with anything, keeps a valid hub valid; so does any list of calls,
-- and the hub that `new` makes is valid. Assumes nothing.
use mathlib.Core.Path.{◌≡◌, sym, ◌∙◌}
use mathlib.Core.Bool.{true}
use mathlib.Core.List.{List, [], ◌∷◌}
use Prim.Native.Nat.{ℕ, ◌<◌}
use lib.ListN.{length, get_or}
use lib.Dec.{eqb}
use Rattle.wire.specs.Size.{record_bytes, value_bytes}
use Rattle.wire.specs.Run.{after_all}
use Rattle.table_view.specs.Told.{done}
use Rattle.peers.specs.Slots.{slot_of, connecting, leaving}
use Rattle.peers.specs.declared.Identity.{Identity}
use Rattle.state.specs.State.{State, Waiting}
use Rattle.state.specs.Fresh.{new_told}
use Rattle.state.specs.Valid.{valid, record_ok}
use Rattle.state.proofs.Answers.{by_rest}
use Rattle.state.proofs.Calls.{made, made_valid, made_sized}
use Rattle.admission.specs.Admission.{admission, left_if}
use Rattle.attribute_server.specs.Request.{seen_of, let_in, waiting_by, process_left, process_waits}
use Rattle.attribute_server.proofs.Admitting.{with_record, without_record}
use Rattle.attribute_server.proofs.Valid.{none_ok, connect_valid, disconnect_valid, restore_valid, set_valid, process_valid}
use Rattle.secrecy.specs.Hub.{Hub, Asked, Deed, Process, Connect, Disconnect, Set, SetTable, Looks, Call, query_of, with_state, with_waiting, step_by, step}
use Rattle.secrecy.specs.Valid.{Sized, Valid, fresh, StaysValid}
use Rattle.secrecy.proofs.Sizes.{either, left_either, moved_sized, restored_sized, stored_sized, asked_sized, asked_length}

-- a valid hub with another state, and with something else waiting at a link
module _ (x : Hub) (v : Valid x) where
  with_state_lem : (s : State) → valid s ≡ true → Sized s → Valid (with_state x s)
  with_state_lem s e z = record { state = e; sized = z; waiting = v.waiting; bytes = v.bytes }

  with_waiting_lem : (k : ℕ) (w : Waiting) → record_ok w.prepared ≡ true → length w.bytes ≡ value_bytes → Valid (with_waiting x k w)
  with_waiting_lem k w ok n =
      record {
        state = v.state;
        sized = v.sized;
        waiting = λ i. either (λ y. record_ok y.prepared ≡ true) (eqb i k) w (x.waiting i) ok (v.waiting i);
        bytes = λ i. either (λ y. length y.bytes ≡ value_bytes) (eqb i k) w (x.waiting i) n (v.bytes i);
      }

-- each call
module _ (x : Hub) (v : Valid x) (who : Identity) where
  abbrev s : State
  s = x.state

  after_process : (q : Asked) → Valid (step_by x who (Process q))
  unfolding step_by
  after_process q =
      let w = x.waiting q.link in
      let k = query_of who q in
      let right = sym (by_rest s w.prepared (v.waiting q.link)) ∙ v.state in
      let after = process_valid s w k right v.sized.records v.sized.tables q.room in
      let s' = process_left s w k q.room in
      let w' = process_waits s w k q.room in
      with_waiting_lem (with_state x s')
      (with_state_lem x v s' (without_record s' w'.prepared after)
      (left_either Sized (let_in s w k q.room) s _ v.sized (asked_sized s v.sized (slot_of s.row who) v.state q.level (seen_of s w k).pending q.request q.brings)))
      q.link w' (with_record s' w'.prepared after)
      (left_either (λ y. length y.bytes ≡ value_bytes) (let_in s w k q.room) w (waiting_by s w k q.room) (v.bytes q.link)
      (asked_length w.prepared w.bytes q.brings q.request ∙ v.bytes q.link))

  -- the others: refused or let in
  with_left : (s' : State) → valid (left_if (admission s who) s s') ≡ true → Sized s' → Valid (with_state x (left_if (admission s who) s s'))
  with_left s' e z = with_state_lem x v _ e (left_either Sized (admission s who) s s' v.sized z)

  deed_valid : (d : Deed) → Valid (step_by x who d)
  unfolding step_by
  deed_valid (Process q) = after_process q
  deed_valid Connect =
      with_left _ (connect_valid s v.state v.sized.records v.sized.tables who) (moved_sized s v.sized (connecting s.row who))
  deed_valid (Disconnect bonded) =
      with_left _ (disconnect_valid s v.state v.sized.records v.sized.tables who bonded) (moved_sized s v.sized (leaving s.row who bonded))
  deed_valid (Set h d) =
      with_left _ (set_valid s v.state v.sized.records v.sized.tables who h d) (stored_sized s v.sized (slot_of s.row who) v.state h d)
  deed_valid (SetTable saved) =
      with_left _ (restore_valid s v.state v.sized.records v.sized.tables who saved) (restored_sized s v.sized (slot_of s.row who) saved)
  deed_valid (Looks l) = v

pub step_valid : (x : Hub) (c : Call) → Valid x → Valid (step x c)
step_valid x c v = deed_valid x v c.who c.deed

pub all_valid : (x : Hub) → Valid x → (calls : List Call) → Valid (after_all step x calls)
unfolding after_all
all_valid x v [] = v
all_valid x v (c ∷ cs) = all_valid (step x c) (step_valid x c v) cs

-- the hub that `new` makes
pub fresh_valid : (s : State) (bytes : ℕ → List ℕ) → new_told s ≡ done → ((i : ℕ) → i < length s.list → length (get_or s.list i []) ≡ record_bytes) → ((i : ℕ) → length (bytes i) ≡ value_bytes) → Valid (fresh s bytes)
fresh_valid s bytes e records n =
    record {
      state = made_valid s e;
      sized = record { records = rw (made s e) records; tables = made_sized s e };
      waiting = λ i. none_ok;
      bytes = n;
    }

pub stays_valid : StaysValid
stays_valid s bytes e records n calls = all_valid (fresh s bytes) (fresh_valid s bytes e records n) calls
