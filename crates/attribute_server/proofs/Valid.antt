-- Valid in, valid out: every call that changes something keeps a valid state valid, whether it is let in or refused.
-- Assumes nothing.
use Rattle.std.specs.Prelude.{Ok, Err}
use mathlib.Core.Path.{◌≡◌, refl}
use mathlib.Core.Bool.{Bool, true, false, cond}
use mathlib.Core.List.{List, []}
use Prim.Native.Nat.{ℕ, ◌+◌, ◌<◌}
use lib.ListN.{length, get_or}
use lib.Dec.{eqb}
use borrow.Author.Tests.{le-leb}
use Rattle.wire.specs.Size.{record_bytes, slot_count, table_bytes, value_bytes}
use Rattle.wire.specs.Test.{both}
use Rattle.wire.proofs.Tests.{both_true}
use Rattle.attribute.specs.Lookup.{place_of}
use Rattle.attribute.specs.declared.Link.{Link}
use Rattle.peers.specs.Identity.{is_bad}
use Rattle.peers.specs.Slots.{slot_of, connecting, leaving}
use Rattle.peers.specs.declared.Identity.{Identity}
use Rattle.state.specs.State.{State, Waiting, with_tables, after_move}
use Rattle.state.specs.Valid.{valid, record_ok, valid_with}
use Rattle.state.specs.declared.Prepared.{Prepared}
use Rattle.state.proofs.Calls.{connect_valid as connected-valid, disconnect_valid as parted_valid}
use Rattle.model.specs.View.{Pending}
use Rattle.model.specs.Answer.{prepare_rule}
use Rattle.model.specs.Change.{if_granted, state_by, no_record, longer, may_prepare, record_after, record_by}
use Rattle.model.specs.declared.Request.{Request}
use Rattle.model.specs.declared.Request.TheVariants as request
use Rattle.model.specs.declared.Change.{Change}
use Rattle.model.specs.declared.Change.TheVariants.{Write, WriteCommand, PrepareWrite, ExecuteWrite}
use Rattle.model.proofs.Leaving.{request_leaves_lem}
use Rattle.storing.proofs.Valid.{put_valid}
use Rattle.application.specs.Calls.{store_left, restored}
use Rattle.application.proofs.Valid.{store_valid, restore_valid as taken-in-valid}
use Rattle.preparing.proofs.Preparing.{granted_fits}
use Rattle.admission.specs.Admission.{admission_by, admission, is_bad_buffer, left_if}
use Rattle.attribute_server.specs.Connection.{connect_left, disconnect_left}
use Rattle.attribute_server.specs.Request.{Query, seen_of, waiting_by, process_left, process_waits}
use Rattle.attribute_server.specs.Value.{set_left}
use Rattle.attribute_server.specs.Table.{restored_left}
use Rattle.admission.proofs.Admitting.{Admitted}
use Rattle.attribute_server.proofs.Admitting.{with_record, without_record}
use Rattle.attribute.specs.Needs.{Access}
use Rattle.wire.specs.declared.att.AttError.TheVariants.{InvalidHandle}

-- what holds before a call, and after one that is let in, holds after every call
pub keeps : {A B : Type 0} (v b p : Bool) (P : A → B → Type 0) (x x' : A) (y y' : B) → P x y → (Admitted v b p → P x' y') → P (left_if (admission_by v b p) x x') (left_if (admission_by v b p) y y')
unfolding admission_by
keeps true true p P x x' y y' old new = old
keeps true false true P x x' y y' old new = old
keeps true false false P x x' y y' old new = new (record { right = refl; buffer = refl; peer = refl })
keeps false b p P x x' y y' old new = old

-- the same of one thing that a call leaves
pub keeps_one : {A : Type 0} (v b p : Bool) (P : A → Type 0) (x x' : A) → P x → (Admitted v b p → P x') → P (left_if (admission_by v b p) x x')
keeps_one v b p P x x' old new = keeps v b p (λ s t. P s) x x' x x' old new

-- a state whose lent bytes have the sizes that their types say
module _ (s : State) (v : valid s ≡ true) (records : (i : ℕ) → i < length s.list → length (get_or s.list i []) ≡ record_bytes)
    (sized : (i : ℕ) → i < slot_count → length (get_or s.tables i []) ≡ table_bytes) (who : Identity) where
  -- what holds of the state before, and after it where the peer is let in
  let_in_valid : (s' : State) → (is_bad who ≡ false → valid s' ≡ true) → valid (left_if (admission s who) s s') ≡ true
  let_in_valid s' f = keeps_one (valid s) false (is_bad who) (λ x. valid x ≡ true) s s' v (λ a. f a.peer)

  pub connect_valid : valid (connect_left s who) ≡ true
  connect_valid = let_in_valid (after_move s (connecting s.row who)) (connected-valid s v sized who)

  pub disconnect_valid : (bonded : Bool) → valid (disconnect_left s who bonded) ≡ true
  disconnect_valid bonded = let_in_valid (after_move s (leaving s.row who bonded)) (λ g. parted_valid s v sized who bonded)

  pub restore_valid : (saved : List ℕ) → valid (restored_left s who saved) ≡ true
  restore_valid saved =
      let_in_valid (with_tables s (restored s.tables (slot_of s.row who) saved)) (λ g. taken-in-valid s who v g sized saved)

  pub set_valid : (h : ℕ) (d : List ℕ) → valid (set_left s who h d) ≡ true
  set_valid h d = let_in_valid (store_left s (slot_of s.row who) (place_of s.list h) d) (λ g. store_valid s who v g records sized h d)

  -- `process`: the state after a request
  asked_valid : is_bad who ≡ false → (link : Link) (w : Pending) (d : List ℕ) (rq : Request) → valid (state_by link s (slot_of s.row who) w rq d) ≡ true
  asked_valid g link w d rq =
      request_leaves_lem link s (slot_of s.row who) (λ x. valid x ≡ true) v
      (λ i l m off e. put_valid s who v g records sized i l off e) w rq d

-- and the prepared write: what Prepare takes has a handle and at most 512 bytes
granted_handle : (p : Prepared) (h off n : ℕ) → may_prepare p h off n ≡ (Ok tt) → eqb h 0 ≡ false
unfolding prepare_rule
granted_handle p h off n e = by (eqb h 0) _ e
  where
    by : (t : Bool) (x : Access) → cond t (Err InvalidHandle) x ≡ (Ok tt) → t ≡ false
    by true x e = cc
    by false x e = refl

pub none_ok : record_ok no_record ≡ true
unfolding record_ok both
none_ok = refl

module _ (p : Prepared) (ok : record_ok p ≡ true) where
  longer_ok : (h off n : ℕ) → may_prepare p h off n ≡ (Ok tt) → record_ok (longer p h off n) ≡ true
  unfolding record_ok longer
  longer_ok h off n e = rw (granted_handle p h off n e) (both_true _ _ (le-leb (p.len + n) value_bytes (granted_fits p h off n e)) refl)

  prepared_ok : (h off n : ℕ) (r : Access) → may_prepare p h off n ≡ r → record_ok (if_granted r (longer p h off n) p) ≡ true
  prepared_ok h off n (Ok tt) e = longer_ok h off n e
  prepared_ok h off n (Err c) e = ok

  changed_ok : (c : Change) (n : ℕ) → record_ok (record_after p c n) ≡ true
  unfolding record_after
  changed_ok (Write h) n = ok
  changed_ok (WriteCommand h) n = ok
  changed_ok (PrepareWrite h off) n = prepared_ok h off n (may_prepare p h off n) refl
  changed_ok (ExecuteWrite flags) n = none_ok

  asked_ok : (rq : Request) (n : ℕ) → record_ok (record_by p rq n) ≡ true
  unfolding record_by
  asked_ok (request.Ask a) n = ok
  asked_ok (request.FindByTypeValue g uuid) n = ok
  asked_ok (request.Change c) n = changed_ok c n
  asked_ok (request.ExchangeMtu mtu) n = ok
  asked_ok request.Confirmation n = ok

with_both : (s : State) (p : Prepared) → record_ok p ≡ true → valid s ≡ true → valid_with s p ≡ true
unfolding valid_with
with_both s p r v = both_true _ _ r v

module _ (s : State) (w : Waiting) (q : Query) (v : valid_with s w.prepared ≡ true) (records : (i : ℕ) → i < length s.list → length (get_or s.list i []) ≡ record_bytes)
    (sized : (i : ℕ) → i < slot_count → length (get_or s.tables i []) ≡ table_bytes) (room : ℕ) where
  pub process_valid : valid_with (process_left s w q room) (process_waits s w q room).prepared ≡ true
  process_valid =
      let right = without_record s w.prepared v in
      let ok = with_record s w.prepared v in
      keeps (valid_with s w.prepared) (is_bad_buffer q.request (length q.brings) room) (is_bad q.who)
      (λ x y. valid_with x y.prepared ≡ true)
      s (state_by q.link s (slot_of s.row q.who) (seen_of s w q).pending q.request q.brings)
      w (waiting_by s w q room) v
      (λ a. with_both _ _ (asked_ok w.prepared ok q.request (length q.brings))
      (asked_valid s right records sized q.who a.peer q.link (seen_of s w q).pending q.brings q.request))
