-- Any two results that satisfy an exported call's promise are equal: the reply, and every lent byte or slot at exit.
-- Assumes nothing.
use mathlib.Core.Path.{◌≡◌, sym, ap, ◌∙◌}
use mathlib.Core.Bool.{Bool}
use mathlib.Core.List.{List}
use Prim.Native.Nat.{ℕ}
use lib.ListN.{length}
use Rattle.table_view.specs.Told.{Told}
use Rattle.table_view.specs.Read.{raw_told}
use Rattle.attribute.specs.declared.Link.{Link}
use Rattle.attribute.specs.declared.Wish.{Wish}
use Rattle.peers.specs.declared.Identity.{Identity}
use Rattle.peers.specs.declared.Slot.{Slot}
use Rattle.state.specs.State.{State, Waiting, state, lent, waiting}
use Rattle.state.specs.Fresh.{new_told, new_left}
use Rattle.state.specs.declared.Prepared.{Prepared}
use Rattle.state.proofs.Unique.{EightEach}
use Rattle.attribute_server.specs.Connection.{connect_told, connect_left, disconnect_told, disconnect_left}
use Rattle.attribute_server.specs.Request.{Query}
use Rattle.attribute_server.specs.Value.{get_told, set_told, set_left, can_told}
use Rattle.attribute_server.specs.Subscription.{subscribed_told}
use Rattle.attribute_server.specs.Table.{fetched_told, restored_told, restored_left}
use Rattle.numbers.specs.Reply.{reply_to}
use Rattle.numbers.specs.declared.Reply.{Reply}
use Rattle.numbers.proofs.Unique.{one_reply}
use Rattle.edge.specs.Served.{Delivered, Served}
use Rattle.edge.proofs.Unique.{SameServed, one_delivered, one_left, one_served}

-- a state at entry, and two replies
module _ (s : State) (r r' : Reply) where
  -- what a call tells and leaves, with these lent at exit: the row as bytes, or as slots
  abbrev Leaves : Told → State → Reply → State → Type 0
  Leaves t left r at_exit = (r ≡ reply_to t) × (at_exit ≡ left)

  -- where the list and the store are lent to be read
  module _ (list : List (List ℕ)) (store : List ℕ) (ts ts' : List (List ℕ)) where
    -- `ropethatch_new`
    pub one_new : (row row' : List (List ℕ)) → EightEach row → EightEach row'
        → Leaves (new_told s) (new_left s) r (lent list store row ts) → Leaves (new_told s) (new_left s) r' (lent list store row' ts') → (r ≡ r') × (row ≡ row') × (ts ≡ ts')
    one_new row row' m n x y =
        let w = one_left (new_told s) (new_left s) list list store store row row' ts ts' r r' m n x y in
        (w.0, w.1.row_is, w.1.tables_are)

    -- a row that is lent as slots is in the state as it is
    by_slots : (t : Told) (left : State) (slots slots' : List Slot) → Leaves t left r (state list store slots ts) → Leaves t left r' (state list store slots' ts')
        → (r ≡ r') × (slots ≡ slots') × (ts ≡ ts')
    by_slots t left slots slots' x y =
        let e = x.1 ∙ sym y.1 in
        (one_reply t r r' x.0 y.0, ap (λ (z : State). z.row) e, ap (λ (z : State). z.tables) e)

    module _ (who : Identity) (slots slots' : List Slot) where
      -- `ropethatch_connect`
      pub one_connect : Leaves (connect_told s who) (connect_left s who) r (state list store slots ts)
          → Leaves (connect_told s who) (connect_left s who) r' (state list store slots' ts') → (r ≡ r') × (slots ≡ slots') × (ts ≡ ts')
      one_connect = by_slots (connect_told s who) (connect_left s who) slots slots'

      -- `ropethatch_disconnect`
      pub one_disconnect : (bonded : Bool) → Leaves (disconnect_told s who bonded) (disconnect_left s who bonded) r (state list store slots ts)
          → Leaves (disconnect_told s who bonded) (disconnect_left s who bonded) r' (state list store slots' ts') → (r ≡ r') × (slots ≡ slots') × (ts ≡ ts')
      one_disconnect bonded = by_slots (disconnect_told s who bonded) (disconnect_left s who bonded) slots slots'

    -- `ropethatch_set_client_att_table`
    pub one_restored : (who : Identity) (saved : List ℕ) (row : List (List ℕ)) → Leaves (restored_told s who saved) (restored_left s who saved) r (lent list store row ts)
        → Leaves (restored_told s who saved) (restored_left s who saved) r' (lent list store row ts') → (r ≡ r') × (ts ≡ ts')
    one_restored who saved row x y = (one_reply (restored_told s who saved) r r' x.0 y.0, ap (λ (z : State). z.tables) (x.1 ∙ sym y.1))

  -- `ropethatch_set`
  pub one_set : (who : Identity) (h : ℕ) (d : List ℕ) (row list list' : List (List ℕ)) (store store' : List ℕ) (ts ts' : List (List ℕ))
      → Leaves (set_told s who h (length d)) (set_left s who h d) r (lent list store row ts) → Leaves (set_told s who h (length d)) (set_left s who h d) r' (lent list' store' row ts')
      → (r ≡ r') × (list ≡ list') × (store ≡ store') × (ts ≡ ts')
  one_set who h d row list list' store store' ts ts' x y =
      let e = x.1 ∙ sym y.1 in (
        one_reply (set_told s who h (length d)) r r' x.0 y.0,
        ap (λ (z : State). z.list) e,
        ap (λ (z : State). z.store) e,
        ap (λ (z : State). z.tables) e,
      )

  -- `ropethatch_process`
  pub one_process : (w : Waiting) (q : Query) (old : List ℕ) (row list list' : List (List ℕ)) (store store' : List ℕ) (ts ts' : List (List ℕ)) (p p' : Prepared) (bytes bytes' new new' : List ℕ)
      → Served s w q old r (lent list store row ts) (waiting p bytes) new → Served s w q old r' (lent list' store' row ts') (waiting p' bytes') new'
      → SameServed r r' list list' store store' ts ts' p p' bytes bytes' new new'
  one_process w q old row list list' store store' ts ts' p p' bytes bytes' new new' =
      one_served s w q old row r r' list list' store store' ts ts' p p' bytes bytes' new new'

  module _ (who : Identity) (old new new' : List ℕ) where
    -- `ropethatch_get`
    pub one_get : (h : ℕ) → Delivered old new r (get_told s who h (length old)) → Delivered old new' r' (get_told s who h (length old)) → (r ≡ r') × (new ≡ new')
    one_get h = one_delivered old new new' r r' (get_told s who h (length old))

    -- `ropethatch_get_client_att_table`
    pub one_fetched : Delivered old new r (fetched_told s who) → Delivered old new' r' (fetched_told s who) → (r ≡ r') × (new ≡ new')
    one_fetched = one_delivered old new new' r r' (fetched_told s who)

  module _ (who : Identity) (h : ℕ) where
    -- `ropethatch_can_read`, `ropethatch_can_write`
    pub one_access : (wish : Wish) (link : Link) → r ≡ reply_to (can_told s who wish link h) → r' ≡ reply_to (can_told s who wish link h) → r ≡ r'
    one_access wish link = one_reply (can_told s who wish link h) r r'

    -- `ropethatch_should_notify`, `ropethatch_should_indicate`
    pub one_subscribed : (bit : ℕ) → r ≡ reply_to (subscribed_told s who h bit) → r' ≡ reply_to (subscribed_told s who h bit) → r ≡ r'
    one_subscribed bit = one_reply (subscribed_told s who h bit) r r'

-- `ropethatch_saved_length`
pub one_saved : (saved : List ℕ) (r r' : Reply) → r ≡ reply_to (raw_told saved) → r' ≡ reply_to (raw_told saved) → r ≡ r'
one_saved saved = one_reply (raw_told saved)
