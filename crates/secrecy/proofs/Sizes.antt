-- Sizes are kept: whatever is called, each record and each table is as long as it was, and so are the prepared bytes.
-- Assumes nothing.
use Rattle.std.specs.Prelude.{Option, Some, None, Ok, Err}
use mathlib.Core.Path.{◌≡◌, refl, ◌∙◌}
use mathlib.Core.Bool.{Bool, true, false, cond}
use mathlib.Core.List.{List, [], ◌∷◌}
use Prim.Native.Nat.{ℕ, zero, suc, ◌<◌}
use native.Mathlib.Omega.{arith}
use lib.ListN.{length, get_or, set}
use lib.Seq.{sets, length-sets}
use Rattle.client_att_table.specs.Clear.{cleared}
use Rattle.client_att_table.specs.AsList.{TableCall, bytes_after}
use Rattle.client_att_table.proofs.Clearing.{clear_length}
use Rattle.client_att_table.proofs.AsList.{call_length}
use Rattle.attribute.specs.Lookup.{place_of}
use Rattle.attribute.specs.declared.Link.{Link}
use Rattle.peers.specs.declared.Seat.{Seat}
use Rattle.peers.specs.declared.Slot.{Slot}
use Rattle.peers.specs.declared.Move.{Move}
use Rattle.state.specs.State.{State, state, with_tables, after_move}
use Rattle.state.specs.Valid.{valid}
use Rattle.state.specs.declared.Prepared.{Prepared}
use Rattle.state.proofs.Keeping.{right_list}
use Rattle.storing.proofs.Shared.{put_records}
use Rattle.model.specs.View.{Pending}
use Rattle.model.specs.Change.{if_granted, put_at, state_by, may_prepare, data_after, data_by}
use Rattle.model.specs.declared.Request.{Request}
use Rattle.model.specs.declared.Request.TheVariants as request
use Rattle.model.specs.declared.Change.{Change}
use Rattle.model.specs.declared.Change.TheVariants.{Write, WriteCommand, PrepareWrite, ExecuteWrite}
use Rattle.model.proofs.Leaving.{request_leaves_lem}
use Rattle.application.specs.Calls.{store_left, restored}
use Rattle.application.proofs.Leaving.{set_leaves}
use Rattle.admission.specs.Admission.{left_if, Admission}
use Rattle.secrecy.specs.Valid.{Sized}
use Rattle.secrecy.proofs.Own.{tables_put, tables_restored}
use Rattle.attribute.specs.Needs.{Access}

-- what holds of both ways holds of the one that is taken
module _ {A : Type 0} (P : A → Type 0) where
  pub either : (t : Bool) (x y : A) → P x → P y → P (cond t x y)
  either true x y p q = p
  either false x y p q = q

  granted : (r : Access) (x y : A) → P x → P y → P (if_granted r x y)
  granted (Ok tt) x y p q = p
  granted (Err c) x y p q = q

  pub left_either : (d : Admission) (x y : A) → P x → P y → P (left_if d x y)
  left_either (Ok tt) x y p q = q
  left_either (Err a) x y p q = p

-- each part is as long
abbrev SameSizes : List (List ℕ) → List (List ℕ) → Type 0
SameSizes old new = (j : ℕ) → length (get_or new j []) ≡ length (get_or old j [])

-- one part in another's place: what holds of it there and of the parts before holds of all
pub each_set : (P : ℕ → List ℕ → Type 0) (l : List (List ℕ)) (i : ℕ) (x : List ℕ) → (i < length l → P i x) → ((j : ℕ) → P j (get_or l j [])) → (j : ℕ) → P j (get_or (set l i x) j [])
each_set P [] i x p h j = h j
each_set P (y ∷ l) zero x p h zero = p (omega arith)
each_set P (y ∷ l) zero x p h (suc j) = h (suc j)
each_set P (y ∷ l) (suc i) x p h zero = h zero
each_set P (y ∷ l) (suc i) x p h (suc j) = each_set (λ k. P (suc k)) l i x (λ q. p (omega arith)) (λ k. h (suc k)) j

set_sizes : (l : List (List ℕ)) (i : ℕ) (x : List ℕ) → length x ≡ length (get_or l i []) → SameSizes l (set l i x)
set_sizes l i x e = each_set (λ j y. length y ≡ length (get_or l j [])) l i x (λ q. e) (λ j. refl)

module _ (s : State) (z : Sized s) where
  -- the tables after a tablet came or left, wrote, or gave a saved table back
  other_tables : (row : List Slot) (ts : List (List ℕ)) → SameSizes s.tables ts → Sized (state s.list s.store row ts)
  other_tables row ts e = record { records = z.records; tables = λ i h. e i ∙ z.tables i h }

  pub moved_sized : (m : Option Move) → Sized (after_move s m)
  moved_sized None = z
  moved_sized (Some m) =
      other_tables _ _
      (either (SameSizes s.tables) m.clears _ _ (set_sizes s.tables m.seat.0 (cleared (get_or s.tables m.seat.0 [])) (clear_length (get_or s.tables m.seat.0 []))) (λ j. refl))

  module _ (slot : Option Seat) where
    called : (k : Seat) → slot ≡ Some k → (c : TableCall) → SameSizes s.tables (set s.tables k.0 (bytes_after (get_or s.tables k.0 []) c))
    called k e c = set_sizes s.tables k.0 _ (call_length (get_or s.tables k.0 []) c)

    pub restored_sized : (saved : List ℕ) → Sized (with_tables s (restored s.tables slot saved))
    restored_sized saved =
        other_tables s.row _ (tables_restored s slot (SameSizes s.tables) (λ j. refl) called saved)

    module _ (v : valid s ≡ true) where
      put_sized : (i : ℕ) → i < length s.list → (off : ℕ) (d : List ℕ) → Sized (put_at s slot i off d)
      put_sized i l off d =
          record {
            records = put_records s (right_list s v) z.records slot i l off d;
            tables = λ k h. tables_put s slot (SameSizes s.tables) (λ j. refl) called i off d k ∙ z.tables k h;
          }

      pub stored_sized : (h : ℕ) (d : List ℕ) → Sized (store_left s slot (place_of s.list h) d)
      stored_sized h d = set_leaves s slot d Sized z (λ i l. put_sized i l 0 d) h

      pub asked_sized : (link : Link) (w : Pending) (rq : Request) (d : List ℕ) → Sized (state_by link s slot w rq d)
      asked_sized link w rq d = request_leaves_lem link s slot Sized z (λ i l m off e. put_sized i l off e) w rq d

-- the prepared bytes after a request
module _ (p : Prepared) (bytes d : List ℕ) where
  changed_length : (c : Change) → length (data_after p bytes c d) ≡ length bytes
  unfolding data_after
  changed_length (Write h) = refl
  changed_length (WriteCommand h) = refl
  changed_length (PrepareWrite h off) =
      granted (λ l. length l ≡ length bytes) (may_prepare p h off (length d)) (sets bytes p.len d) bytes (length-sets bytes p.len d) refl
  changed_length (ExecuteWrite flags) = refl

  pub asked_length : (rq : Request) → length (data_by p bytes rq d) ≡ length bytes
  unfolding data_by
  asked_length (request.Ask a) = refl
  asked_length (request.FindByTypeValue g uuid) = refl
  asked_length (request.Change c) = changed_length c
  asked_length (request.ExchangeMtu mtu) = refl
  asked_length request.Confirmation = refl
