-- Any two results that satisfy a call's promise are equal: the reply, and every lent byte. The row is lent in slots of
-- eight bytes, as its type says. Assumes nothing.
use mathlib.Core.Path.{◌≡◌, sym, ap, ◌∙◌}
use mathlib.Core.List.{List}
use Prim.Native.Nat.{ℕ}
use Rattle.table_view.specs.Told.{Told}
use Rattle.state.specs.State.{State, Waiting, lent, waiting}
use Rattle.state.specs.declared.Prepared.{Prepared}
use Rattle.state.proofs.Unique.{EightEach, SameLent, one_lent}
use Rattle.attribute_server.specs.Request.{Query}
use Rattle.numbers.specs.Reply.{reply_to}
use Rattle.numbers.specs.declared.Reply.{Reply}
use Rattle.numbers.proofs.Unique.{one_reply}
use Rattle.edge.specs.Served.{Delivered, Served}

-- `can_read`, `can_write`, `should_notify`, `should_indicate`, `saved_length`: the reply
pub one_looked : (t : Told) (r r' : Reply) → r ≡ reply_to t → r' ≡ reply_to t → r ≡ r'
one_looked = one_reply

-- `get`, `get_client_att_table`: the reply and the buffer
pub one_delivered : (old new new' : List ℕ) (r r' : Reply) (t : Told) → Delivered old new r t → Delivered old new' r' t → (r ≡ r') × (new ≡ new')
one_delivered old new new' r r' t x y = (one_reply t r r' x.reply y.reply, x.out ∙ sym y.out)

-- `new`, `connect`, `disconnect`, `set`, `set_client_att_table`: the reply, the list, the store, the row and the tables
module _ (t : Told) (s : State) (list list' : List (List ℕ)) (store store' : List ℕ) (row row' : List (List ℕ)) (ts ts' : List (List ℕ)) (r r' : Reply) where
  pub one_left : EightEach row → EightEach row' → (r ≡ reply_to t) × (lent list store row ts ≡ s) → (r' ≡ reply_to t) × (lent list' store' row' ts' ≡ s)
      → (r ≡ r') × SameLent list list' store store' row row' ts ts'
  one_left m n x y =
      (one_reply t r r' x.0 y.0, one_lent list list' store store' row row' ts ts' m n (x.1 ∙ sym y.1))

-- `process`: the reply and the buffer, the list, the store and the tables, the prepared write and its bytes
pub record SameServed (r r' : Reply) (list list' : List (List ℕ)) (store store' : List ℕ) (ts ts' : List (List ℕ)) (p p' : Prepared) (bytes bytes' new new' : List ℕ) : Type 0 where
  pub reply : r ≡ r'
  pub list_is : list ≡ list'
  pub store_is : store ≡ store'
  pub tables_are : ts ≡ ts'
  pub prepared : p ≡ p'
  pub bytes_are : bytes ≡ bytes'
  pub out : new ≡ new'

module _ (s : State) (w : Waiting) (q : Query) (old : List ℕ) (row : List (List ℕ)) (r r' : Reply) (list list' : List (List ℕ)) (store store' : List ℕ) (ts ts' : List (List ℕ)) (p p' : Prepared) (bytes bytes' new new' : List ℕ) where
  pub one_served : Served s w q old r (lent list store row ts) (waiting p bytes) new → Served s w q old r' (lent list' store' row ts') (waiting p' bytes') new'
      → SameServed r r' list list' store store' ts ts' p p' bytes bytes' new new'
  one_served x y =
      let d = one_delivered old new new' r r' _ x.answer y.answer in
      let l : lent list store row ts ≡ lent list' store' row ts' = x.left ∙ sym y.left in
      let k : waiting p bytes ≡ waiting p' bytes' = x.waits ∙ sym y.waits in
      record {
        reply = d.0;
        list_is = ap (λ (z : State). z.list) l;
        store_is = ap (λ (z : State). z.store) l;
        tables_are = ap (λ (z : State). z.tables) l;
        prepared = ap (λ (z : Waiting). z.prepared) k;
        bytes_are = ap (λ (z : Waiting). z.bytes) k;
        out = d.1;
      }
