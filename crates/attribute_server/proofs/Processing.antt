-- `process`: a request that is refused, and one that is let in. Assumes nothing.
use Rattle.std.specs.Prelude.{Result, Ok, Err}
use mathlib.Core.Path.{◌≡◌, sym, ◌∙◌}
use mathlib.Core.List.{List}
use Prim.Native.Nat.{ℕ}
use lib.ListN.{length}
use Rattle.peers.specs.Slots.{slot_of}
use Rattle.table_view.specs.Told.{Told}
use Rattle.state.specs.State.{State, Waiting, waiting}
use Rattle.state.specs.declared.Prepared.{Prepared}
use Rattle.model.specs.Told.{Answered}
use Rattle.model.specs.Answer.{request_told}
use Rattle.model.specs.Change.{state_by, record_by, data_by}
use Rattle.preparing.specs.declared.Changed.{Changed}
use Rattle.attribute_server.specs.Request.{Query, seen_of, let_in, process_told, waiting_by, Processed}
use Rattle.admission.proofs.Admitting.{no_answer, yes_answer, left_no, left_yes}
use Rattle.model.specs.declared.Answer.{Answer}
use Rattle.model.specs.declared.CallError.{CallError}

same_answer : (old new : List ℕ) (a b : Result Answer CallError) (t : Told) → Answered old new a t → b ≡ a → Answered old new b t
same_answer old new a b t h e = rw (sym e) at h

pub same_waiting : {p p' : Prepared} {b b' : List ℕ} → p ≡ p' → b ≡ b' → waiting p b ≡ waiting p' b'
same_waiting p b = λ i. record { prepared = p i; bytes = b i }

module _ (s : State) (w : Waiting) (q : Query) (out : List ℕ) (r : Changed) where
  pub process_refused : (a : CallError) → let_in s w q (length out) ≡ Err a → r.prepared ≡ w.prepared → r.answer ≡ Err a
      → Processed s w q out r.answer s (waiting r.prepared w.bytes) out
  process_refused a e p k =
      let d = let_in s w q (length out) in
      record {
        answer = same_answer out out (Err a) r.answer (process_told s w q (length out)) (no_answer d a out _ e) k;
        left = left_no d a s _ e;
        waits = same_waiting p (λ i. w.bytes) ∙ left_no d a w _ e;
      }

  pub process_answered : (s' : State) (bytes new : List ℕ) → let_in s w q (length out) ≡ Ok tt
      → r.prepared ≡ record_by w.prepared q.request (length q.brings) → bytes ≡ data_by w.prepared w.bytes q.request q.brings
      → s' ≡ state_by q.link s (slot_of s.row q.who) (seen_of s w q).pending q.request q.brings
      → Answered out new r.answer (request_told (seen_of s w q) s.list s.store (length out) q.request q.brings)
      → Processed s w q out r.answer s' (waiting r.prepared bytes) new
  process_answered s' bytes new e p b l a =
      let d = let_in s w q (length out) in
      record {
        answer = yes_answer d out new r.answer _ e a;
        left = l ∙ left_yes d s _ e;
        waits = same_waiting p b ∙ left_yes d w (waiting_by s w q (length out)) e;
      }
