-- Any two results that satisfy a call's promise are equal: its answer, what it hands back, and every lent byte. Assumes
-- nothing. (A state fixes the lent bytes by `one_lent`, state/proofs/Unique.antt.)
use Rattle.std.specs.Prelude.{Result}
use mathlib.Core.Path.{◌≡◌, sym, ◌∙◌}
use mathlib.Core.List.{List, []}
use Prim.Native.Nat.{ℕ}
use Rattle.table_view.specs.Told.{Told}
use Rattle.state.specs.State.{State, Waiting}
use Rattle.model.specs.Told.{told_answer, Answered}
use Rattle.model.proofs.Telling.{Same, one_answer, one_answered}
use Rattle.attribute_server.specs.Request.{Query, Processed}
use Rattle.model.specs.declared.Answer.{Answer}
use Rattle.model.specs.declared.CallError.{CallError}

-- `can_read`, `can_write`, `should_notify`, `should_indicate`: the answer
pub one_told : (t : Told) (a b : Result Answer CallError) → told_answer [] a ≡ t → told_answer [] b ≡ t → a ≡ b
one_told t a b p q = one_answer [] a b (p ∙ sym q)

-- `get`, `get_client_att_table`: the answer and the buffer
pub one_copied : (old new new' : List ℕ) (r r' : Result Answer CallError) (t : Told) → Answered old new r t → Answered old new' r' t → Same new new' r r'
one_copied = one_answered

-- `connect`, `disconnect`, `set`, `set_client_att_table`: the answer and the state
pub one_left : (t : Told) (s : State) (r r' : Result Answer CallError) (s₁ s₂ : State) → told_answer [] r ≡ t → s₁ ≡ s → told_answer [] r' ≡ t → s₂ ≡ s → (r ≡ r') × (s₁ ≡ s₂)
one_left t s r r' s₁ s₂ p a q b = (one_told t r r' p q, a ∙ sym b)

-- `process`: the answer and the buffer, the state, and what waits at the link
pub record SameRequest (a a' : Result Answer CallError) (s s' : State) (w w' : Waiting) (new new' : List ℕ) : Type 0 where
  pub answer : a ≡ a'
  pub state_is : s ≡ s'
  pub waits : w ≡ w'
  pub out : new ≡ new'

pub one_processed : (s : State) (w : Waiting) (q : Query) (out : List ℕ) (a a' : Result Answer CallError) (s₁ s₂ : State) (w₁ w₂ : Waiting) (new new' : List ℕ)
    → Processed s w q out a s₁ w₁ new → Processed s w q out a' s₂ w₂ new' → SameRequest a a' s₁ s₂ w₁ w₂ new new'
one_processed s w q out a a' s₁ s₂ w₁ w₂ new new' x y =
    let b = one_answered out new new' a a' _ x.answer y.answer in
    record { answer = b.answer; state_is = x.left ∙ sym y.left; waits = x.waits ∙ sym y.waits; out = b.out }
