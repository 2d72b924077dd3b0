-- Connecting and leaving: what the walks found is the move of the definitions, and a row with the move's slot put is
-- the state after the call. Assumes nothing.
use Rattle.std.specs.Prelude.{Option, Some, None, Result, Ok, Err}
use mathlib.Core.Path.{◌≡◌, refl, sym, ap, subst, ◌∙◌}
use mathlib.Core.Bool.{Bool, true}
use mathlib.Core.List.{List, []}
use Prim.Native.Nat.{ℕ, ◌<◌}
use native.Mathlib.Omega.{arith}
use lib.ListN.{length}
use Rattle.table_view.specs.Told.{Told, done, refused}
use Rattle.model.specs.Told.{told_answer}
use Rattle.model.specs.declared.Answer.{Answer}
use Rattle.model.specs.declared.Answer.TheVariants.{Done}
use Rattle.model.specs.declared.CallError.{CallError}
use Rattle.model.proofs.Telling.{one_answer}
use Rattle.peers.specs.Bytes.{row_of}
use Rattle.peers.specs.Slots.{walk, slot_of, Inside, joined, connecting, parted, leaving, row_moved}
use Rattle.peers.specs.declared.Identity.{Identity}
use Rattle.peers.specs.declared.Slot.{Slot}
use Rattle.peers.specs.declared.Want.TheVariants.{Usable, Free}
use Rattle.peers.specs.declared.Move.{Move}
use Rattle.peers.proofs.Laws.{slot_inside}
use Rattle.peers.proofs.Moves.{InRow, join_in_row, leave_in_row}
use Rattle.peers.proofs.Rows.{length_row}
use Rattle.state.specs.State.{State, state, after_move}
use Rattle.admission.specs.Admission.{Admission, admission, told_if}
use Rattle.admission.proofs.Admitting.{told_yes, left_no, left_yes}
use Rattle.attribute_server.specs.Connection.{if_moved, moved_by, connect_told, disconnect_told, move_left}
use Rattle.peers.specs.declared.Seat.{Seat}

-- what the walks found
module _ (row : List Slot) (who : Identity) where
  pub join_is : (usable free : Option Seat)
      → usable ≡ walk Usable row who → free ≡ walk Free row who → joined who usable free ≡ connecting row who
  unfolding connecting
  join_is usable free u f = rw (u, f)

  pub part_is : (own : Option Seat) (bonded : Bool) → own ≡ slot_of row who → parted row bonded own ≡ leaving row who bonded
  unfolding leaving
  part_is own bonded e = rw e

  found : (f : Option Seat) → slot_of row who ≡ f → Inside f (length row)
  found (Some k) e = slot_inside row who k e
  found None e = tt

  pub found_inside : (own : Option Seat) → own ≡ slot_of row who → Inside own (length row)
  found_inside own e = found own (sym e)

-- a move is of a slot of the row, also where the row is lent in bytes
module _ (es : List (List ℕ)) (who : Identity) (m : Option Move) where
  inside : (k : Move) → InRow (row_of es) m → m ≡ Some k → k.clears ≡ true → k.seat.0 < length es
  inside k w f h =
      let l : k.seat.0 < length (row_of es) = subst (InRow (row_of es)) f w in
      omega (arith, l, length_row es)

  pub joins_inside : m ≡ connecting (row_of es) who → (k : Move) → m ≡ Some k → k.clears ≡ true → k.seat.0 < length es
  joins_inside e k = inside k (rw e (join_in_row (row_of es) who))

  pub leaves_inside : (bonded : Bool) → m ≡ leaving (row_of es) who bonded
      → (k : Move) → m ≡ Some k → k.clears ≡ true → k.seat.0 < length es
  leaves_inside bonded e k = inside k (rw e (leave_in_row (row_of es) who bonded))

-- what is told by the move that the walks found: refusal 7 where a peer that connects has none, done where one leaves
module _ (s : State) (who : Identity) (m : Option Move) where
  pub told_joined : m ≡ connecting s.row who → told_if (admission s who) (if_moved m done (refused 7)) ≡ connect_told s who
  told_joined e = ap (λ (m : Option Move). told_if (admission s who) (if_moved m done (refused 7))) e

  done_anyway : (m : Option Move) → if_moved m done done ≡ done
  done_anyway (Some k) = refl
  done_anyway None = refl

  pub told_parted : (bonded : Bool) → told_if (admission s who) (if_moved m done done) ≡ disconnect_told s who bonded
  told_parted bonded = ap (told_if (admission s who)) (done_anyway m)

-- what a peer that is let in is told: by the move x that the walks found
pub told_moved : (s : State) (who : Identity) (m x : Option Move) → Ok tt ≡ admission s who → m ≡ connecting s.row who → m ≡ x
    → if_moved x done (refused 7) ≡ connect_told s who
told_moved s who m x d e f =
    ap (λ (m : Option Move). if_moved m done (refused 7)) (sym f) ∙ told_yes _ _ (sym d) ∙ told_joined s who m e

-- of a peer that is let in, the move that an answer leaves to be put is the move
put_by_answer : (row : List Slot) (r : Result Answer CallError) (m : Option Move) (stayed : Told) → told_answer [] r ≡ if_moved m done stayed
    → row_moved row (moved_by r m) ≡ row_moved row m
put_by_answer row (Ok a) m stayed q = refl
put_by_answer row (Err e) None stayed q = refl
put_by_answer row (Err e) (Some k) stayed q =
    let z : ◌≡◌ {A = Result Answer CallError} (Err e) (Ok Done) = one_answer [] (Err e) (Ok Done) q in
    absurd (cc)

-- the state after a move, by what is done to the row and to the tables
module _ (s : State) (who : Identity) (m : Option Move) (row : List Slot) (ts : List (List ℕ)) where
  abbrev Left : Type 0
  Left = state s.list s.store row ts ≡ move_left s who m

  module _ (t : ts ≡ (move_left s who m).tables) where
    -- where the row is what the state says, the lent bytes are the state
    put_by : (left : State) → left ≡ move_left s who m → state s.list s.store row left.tables ≡ left → Left
    put_by left l e = ap (state s.list s.store row) (t ∙ ap (λ (z : State). z.tables) (sym l)) ∙ e ∙ l

    with_row : (left : State) → row ≡ left.row → state s.list s.store row left.tables ≡ state s.list s.store left.row left.tables
    with_row left put = ap (λ (row : List Slot). state s.list s.store row left.tables) put

    -- of a peer that is let in, the move's slot is put
    pub put_left : Ok tt ≡ admission s who → row ≡ row_moved s.row m → Left
    put_left d put = put_by (after_move s m) (left_yes _ _ _ (sym d)) (with_row (after_move s m) put)

    -- of another the row stays
    pub stay_left : (e : CallError) → Err e ≡ admission s who → row ≡ s.row → Left
    stay_left e d same = put_by s (left_no _ _ _ _ (sym d)) (with_row s same)

    -- by the answer: the move that it leaves is put
    module _ (r : Result Answer CallError) (stayed : Told) (q : told_answer [] r ≡ told_if (admission s who) (if_moved m done stayed)) where
      pub answer_left : (r' : Result Answer CallError) → r ≡ r' → row ≡ row_moved s.row (moved_by r' m) → Left
      answer_left r' is put = by (admission s who) refl q
        where
          by_move : row ≡ row_moved s.row (moved_by r m)
          by_move = put ∙ ap (λ (r : Result Answer CallError). row_moved s.row (moved_by r m)) (sym is)

          by : (d : Admission) → admission s who ≡ d → told_answer [] r ≡ told_if d (if_moved m done stayed) → Left
          by (Ok tt) e q = put_left (sym e) (by_move ∙ put_by_answer s.row r m stayed q)
          by (Err x) e q = stay_left x (sym e) (by_move ∙ ap (λ (r : Result Answer CallError). row_moved s.row (moved_by r m)) (one_answer [] r (Err x) q))
