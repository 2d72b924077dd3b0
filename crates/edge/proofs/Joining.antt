-- A row that is lent as slots: what the server does to its bytes is done to it, with the move that is handed back put.
-- Assumes nothing.
use Rattle.std.specs.Prelude.{Option, None, Result, Err}
use mathlib.Core.Path.{◌≡◌, refl, sym, ap, ◌∙◌}
use mathlib.Core.List.{List, []}
use Prim.Native.Nat.{ℕ}
use Rattle.table_view.specs.Told.{Told, done}
use Rattle.peers.specs.Slots.{row_moved}
use Rattle.peers.specs.declared.Identity.{Identity}
use Rattle.peers.specs.declared.Move.{Move}
use Rattle.state.specs.State.{State, state}
use Rattle.model.specs.Told.{told_answer}
use Rattle.model.specs.declared.Answer.{Answer}
use Rattle.model.specs.declared.CallError.{CallError}
use Rattle.admission.specs.Admission.{admission, told_if}
use Rattle.admission.proofs.Admitting.{told_no}
use Rattle.attribute_server.specs.Connection.{if_moved, moved_by, move_left}
use Rattle.attribute_server.proofs.Moving.{answer_left}
use Rattle.numbers.specs.Reply.{reply_to, error_reply, reply_of}
use Rattle.numbers.proofs.Telling.{replied}
use Rattle.edge.specs.declared.inner.Joined.{Joined}

-- what `act` told and did, as the reply, the row and the tables
module _ (s : State) (who : Identity) (m : Option Move) (ts : List (List ℕ)) (q : ts ≡ (move_left s who m).tables) where
  pub joined : (a : Result Answer CallError) (stayed t : Told) → told_answer [] a ≡ told_if (admission s who) (if_moved m done stayed)
      → told_if (admission s who) (if_moved m done stayed) ≡ t → (r : Joined) → (r.reply ≡ reply_of a) × (r.m ≡ moved_by a m)
      → (r.reply ≡ reply_to t) × (state s.list s.store (row_moved s.row r.m) ts ≡ move_left s who m)
  joined a stayed t d e r w =
      (replied a r.reply t (d ∙ e) w.0, answer_left s who m _ ts q a stayed d a refl (ap (row_moved s.row) w.1))

  -- a peer that is not let in moves nothing
  pub turned_away : (e : CallError) → Err e ≡ admission s who → (r : Joined) (t : Told)
      → (r.reply ≡ error_reply e) × (r.m ≡ None)
      → (r.reply ≡ reply_to (told_if (admission s who) t)) × (state s.list s.store (row_moved s.row r.m) ts ≡ move_left s who m)
  turned_away e d r t w =
      let no : (t : Told) → told_answer [] (Err e) ≡ told_if (admission s who) t = λ t. told_no _ e t (sym d) in
      joined (Err e) done _ (no (if_moved m done done)) (sym (no (if_moved m done done)) ∙ no t) r w
