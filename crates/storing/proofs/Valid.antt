-- Valid in, valid out: a write keeps a valid state valid. A shared value's length stays within its capacity, and a
-- client value's table keeps its header, its index and the zeros after its end. Assumes nothing.
use Rattle.std.specs.Prelude.{Option, Some, None, Ok, Err}
use mathlib.Core.Path.{◌≡◌, refl, ap, ◌∙◌}
use mathlib.Core.Bool.{Bool, true, false, cond}
use mathlib.Core.List.{List, [], ◌∷◌}
use Prim.Native.Nat.{ℕ, zero, suc, ◌+◌, ◌≤◌, ◌<◌}
use native.Mathlib.Omega.{arith}
use lib.ListN.{length, get_or, set, length-set}
use lib.Seq.{sets, length-sets, get_or-set_same}
use Rattle.wire.specs.Size.{slot_count, table_bytes, record_bytes}
use Rattle.wire.proofs.Tests.{both_l, both_r, both_true}
use Rattle.table_view.specs.Rules.{accepts}
use Rattle.client_att_table.specs.Write.{after_write}
use Rattle.client_att_table.specs.AsList.{write, bytes_after}
use Rattle.client_att_table.proofs.Frame.{Kept}
use Rattle.client_att_table.proofs.AsList.{call_kept}
use Rattle.attribute.specs.Record.{attribute_of, with_length}
use Rattle.attribute.specs.declared.Attribute.{Attribute}
use Rattle.attribute.proofs.Kept.{HoldsLength, fields_kept, variable_holds, length_kept}
use Rattle.peers.specs.Identity.{is_empty, is_bad}
use Rattle.peers.specs.Slots.{slot_of, no_slot}
use Rattle.peers.specs.declared.Identity.{Identity}
use Rattle.peers.specs.declared.Seat.{Seat}
use Rattle.peers.specs.declared.Want.TheVariants.{Own}
use Rattle.peers.proofs.Changes.{table_set}
use Rattle.peers.proofs.Identities.{same_is}
use Rattle.peers.proofs.Laws.{own_wanted, walk_placed}
use Rattle.state.specs.State.{State, state, with_tables}
use Rattle.state.specs.Fresh.{clients_of, fresh_table, space_of, entries_size}
use Rattle.state.specs.Valid.{valid}
use Rattle.state.proofs.Answers.{fresh_length, laid_builder}
use Rattle.state.proofs.Each.{slot_changed}
use Rattle.state.proofs.Keeping.{somebody, laid_accepts, kept_laid, eight_tables, eight_slots, right_list, right_slots, laid_at, with_slots}
use Rattle.state.proofs.Calls.{good_somebody}
use Rattle.model.specs.Value.{write_rule}
use Rattle.model.specs.Change.{if_granted, length_put, shared_list, shared_store, own_tables, put_at}
use Rattle.storing.proofs.Putting.{has_room}
use Rattle.attribute.specs.Needs.{Access}

-- a list with another present length of one entry lays out the same table
module _ (n : ℕ) where
  clients_same : (list : List (List ℕ)) (i : ℕ) → length (get_or list i []) ≡ record_bytes → clients_of (set list i (with_length (get_or list i []) n)) ≡ clients_of list
  unfolding clients_of
  clients_same [] i l = refl
  clients_same (r ∷ rs) zero l = rw (fields_kept r n l)
  clients_same (r ∷ rs) (suc i) l = rw (clients_same rs i l)

  size_same : (list : List (List ℕ)) (i : ℕ) → length (get_or list i []) ≡ record_bytes → entries_size (set list i (with_length (get_or list i []) n)) ≡ entries_size list
  unfolding entries_size space_of
  size_same [] i l = refl
  size_same (r ∷ rs) zero l = rw (fields_kept r n l)
  size_same (r ∷ rs) (suc i) l = rw (size_same rs i l)

  fresh_same : (list : List (List ℕ)) (i : ℕ) → length (get_or list i []) ≡ record_bytes → fresh_table (set list i (with_length (get_or list i []) n)) ≡ fresh_table list
  unfolding fresh_table
  fresh_same list i l = rw (clients_same list i l)

table_kept : (t : List ℕ) → accepts t ≡ true → (h off : ℕ) (d : List ℕ) → Kept t (after_write t h off d)
unfolding bytes_after
table_kept t ok h off d = call_kept t ok (write h off d)

abbrev with_list : State → List (List ℕ) → State
with_list s list = state list s.store s.row s.tables

module _ (s : State) (v : valid s ≡ true) where
  -- another present length of an entry
  resized_valid : (i n : ℕ) → length (get_or s.list i []) ≡ record_bytes → HoldsLength (attribute_of (get_or s.list i [])) n
      → valid (with_list s (set s.list i (with_length (get_or s.list i []) n))) ≡ true
  unfolding valid
  resized_valid i n l f =
      both_true _ _ (both_l _ _ v)
      (both_true _ _ (length_kept s.list (length s.store) (right_list s v) i n l f)
      (rw (size_same n s.list i l, fresh_same n s.list i l) (both_r _ _ (both_r _ _ v))))

  put_length_valid : (i n : ℕ) → length (get_or s.list i []) ≡ record_bytes → n ≤ (attribute_of (get_or s.list i [])).cap → valid (with_list s (length_put s.list i n)) ≡ true
  unfolding length_put
  put_length_valid i n l h = by (attribute_of (get_or s.list i [])).variable refl
    where
      by : (t : Bool) → (attribute_of (get_or s.list i [])).variable ≡ t → valid (with_list s (cond t (set s.list i (with_length (get_or s.list i []) n)) s.list)) ≡ true
      by true e = resized_valid i n l (variable_holds (attribute_of (get_or s.list i [])) n e h)
      by false e = v

  shared_valid : (i off n : ℕ) → length (get_or s.list i []) ≡ record_bytes → valid (with_list s (shared_list s.list i (attribute_of (get_or s.list i [])) off n)) ≡ true
  unfolding shared_list
  shared_valid i off n l = by (write_rule (attribute_of (get_or s.list i [])).len (attribute_of (get_or s.list i [])).cap off n) refl
    where
      by : (r : Access) → write_rule (attribute_of (get_or s.list i [])).len (attribute_of (get_or s.list i [])).cap off n ≡ r → valid (with_list s (if_granted r (length_put s.list i (off + n)) s.list)) ≡ true
      by (Ok tt) e = put_length_valid i (off + n) l (has_room _ _ _ _ e)
      by (Err c) e = v

  -- another store of the same length
  other_store : (store : List ℕ) → length store ≡ length s.store → valid (state s.list store s.row s.tables) ≡ true
  unfolding valid
  other_store store e = rw e v

  -- another table of a slot that is somebody's
  module _ (who : Identity) (good : is_bad who ≡ false) (sized : (k : ℕ) → k < slot_count → length (get_or s.tables k []) ≡ table_bytes) where
    pub kept_valid : (k : Seat) → slot_of s.row who ≡ Some k → (out : List ℕ) → (accepts (get_or s.tables k.0 []) ≡ true → Kept (get_or s.tables k.0 []) out)
        → valid (with_tables s (set s.tables k.0 out)) ≡ true
    kept_valid k e out kept =
        let fresh = fresh_table s.list in
        let w = walk_placed s.row who Own k e in
        let m = eight_tables s v in
        let inside : k.0 < slot_count = omega (arith, w.inside, eight_slots s v) in
        let x = get_or s.row k.0 no_slot in
        let t = get_or s.tables k.0 [] in
        let laid = laid_at s v k.0 inside in
        let here = somebody fresh x out (kept_laid fresh (fresh_length s.list) (laid_builder s.list) t (sized k.0 inside) laid out (kept (laid_accepts fresh t laid))) (ap is_empty (same_is x.id who (own_wanted who x ∙ w.passes)) ∙ good_somebody who good) in
        with_slots s v s.row (set s.tables k.0 out) (length-set s.tables k.0 out)
        (slot_changed fresh k.0 s.row s.row s.tables (set s.tables k.0 out) (table_set k.0 s.row s.tables out) (right_slots s v) (rw (get_or-set_same s.tables k.0 out [] (omega arith)) here))

    own_valid : (h off : ℕ) (d : List ℕ) (f : Option Seat) → slot_of s.row who ≡ f → valid (with_tables s (own_tables s.tables f h off d)) ≡ true
    unfolding own_tables
    own_valid h off d None e = v
    own_valid h off d (Some k) e = kept_valid k e _ (λ ok. table_kept (get_or s.tables k.0 []) ok h off d)

store_length : (store : List ℕ) (a : Attribute) (off : ℕ) (d : List ℕ) → length (shared_store store a off d) ≡ length store
unfolding shared_store
store_length store a off d = by (write_rule a.len a.cap off (length d))
  where
    by : (r : Access) → length (if_granted r (sets store (a.start + off) d) store) ≡ length store
    by (Ok tt) = length-sets store (a.start + off) d
    by (Err c) = refl

-- a write by place
module _ (s : State) (who : Identity) (v : valid s ≡ true) (good : is_bad who ≡ false) (records : (i : ℕ) → i < length s.list → length (get_or s.list i []) ≡ record_bytes)
    (sized : (i : ℕ) → i < slot_count → length (get_or s.tables i []) ≡ table_bytes) where
  module _ (i : ℕ) (l : i < length s.list) (off : ℕ) (d : List ℕ) where
    abbrev a : Attribute
    a = attribute_of (get_or s.list i [])

    by : (t : Bool) → valid (state (cond t s.list (shared_list s.list i a off (length d))) (cond t s.store (shared_store s.store a off d)) s.row (cond t (own_tables s.tables (slot_of s.row who) a.handle off d) s.tables)) ≡ true
    by true = own_valid s v who good sized a.handle off d (slot_of s.row who) refl
    by false = other_store (with_list s (shared_list s.list i a off (length d))) (shared_valid s v i off (length d) (records i l)) _ (store_length s.store a off d)

    pub put_valid : valid (put_at s (slot_of s.row who) i off d) ≡ true
    unfolding put_at
    put_valid = by a.client
