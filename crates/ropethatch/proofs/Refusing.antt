-- A row of other than eight slots is in no valid state, so that connecting and leaving refuse it by 1 and leave all as
-- it was. Assumes nothing.
use Rattle.std.specs.Prelude.{Err}
use mathlib.Core.Path.{◌≡◌, ap}
use mathlib.Core.Bool.{Bool, false}
use lib.ListN.{length}
use Rattle.wire.specs.Size.{slot_count}
use Rattle.table_view.specs.Told.{Told}
use Rattle.peers.specs.Identity.{is_bad}
use Rattle.peers.specs.declared.Identity.{Identity}
use Rattle.state.specs.State.{State}
use Rattle.state.proofs.Answers.{other_row}
use Rattle.admission.specs.Admission.{admission_by, admission, told_if, left_if, Admission}
use Rattle.attribute_server.specs.Connection.{connect_told, connect_left, disconnect_told, disconnect_left}
use Rattle.numbers.specs.Reply.{as_reply, reply_to}
use Rattle.numbers.specs.declared.Reply.{Reply}
use Rattle.model.specs.declared.CallError.TheVariants.{BadState}

-- the reply of refusal 1
abbrev pub one : Reply
one = as_reply 4 1 0

module _ (s : State) (who : Identity) where
  not_let_in : (length s.row ≡ slot_count → ⊥) → Err BadState ≡ admission s who
  unfolding admission_by
  not_let_in other = ap (λ (v : Bool). admission_by v false (is_bad who)) (other_row s other)

  refuses : (length s.row ≡ slot_count → ⊥) → (t : Told) (new : State) → (one ≡ reply_to (told_if (admission s who) t)) × (s ≡ left_if (admission s who) s new)
  refuses other t new = (ap (λ (v : Admission). reply_to (told_if v t)) (not_let_in other), ap (λ (v : Admission). left_if v s new) (not_let_in other))

  pub not_connected : (length s.row ≡ slot_count → ⊥) → (one ≡ reply_to (connect_told s who)) × (s ≡ connect_left s who)
  not_connected other = refuses other _ _

  pub not_parted : (bonded : Bool) → (length s.row ≡ slot_count → ⊥) → (one ≡ reply_to (disconnect_told s who bonded)) × (s ≡ disconnect_left s who bonded)
  not_parted bonded other = refuses other _ _
