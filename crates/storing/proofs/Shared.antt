-- A write to a shared value is a write to an item of a plain list, and it stays there: every other entry's record and
-- every other shared value stand as they did, since the ranges lie apart. Assumes nothing.
use Rattle.std.specs.Prelude.{Option, Ok, Err}
use mathlib.Core.Path.{◌≡◌, refl, ◌∙◌}
use mathlib.Core.Bool.{Bool, true, false, cond}
use mathlib.Core.List.{List, [], ◌∷◌}
use mathlib.Core.Logic.{◌⊎◌, inl, inr, ⊎_elim}
use Prim.Native.Nat.{ℕ, zero, suc, ◌+◌, ◌≤◌, ◌<◌}
use native.Mathlib.Omega.{arith}
use lib.ListN.{length, get_or, set, take, drop, length-set, length-drop}
use lib.Seq.{sets, length-sets, get_or-set_same, get_or-set_other}
use borrow.Author.Tests.{lt-ltb, le-ltb}
use Rattle.wire.specs.Size.{record_bytes}
use Rattle.wire.specs.Number.{word_bytes}
use Rattle.wire.proofs.Tests.{split}
use Rattle.wire.proofs.Sets.{before, past, part_same, drop-sets}
use Rattle.client_att_table.specs.AsList.{new_value, item_told, item_after}
use Rattle.client_att_table.proofs.Writing.{fixed_value, var_value}
use Rattle.attribute.specs.Record.{entry_of, attribute_of, with_length}
use Rattle.attribute.specs.Rules.{list_ok}
use Rattle.attribute.specs.declared.Attribute.{Attribute}
use Rattle.attribute.proofs.Shape.{shared, apart}
use Rattle.attribute.proofs.Kept.{fields_kept, known_kept}
use Rattle.state.specs.State.{State}
use Rattle.model.specs.Value.{shared_item, write_rule}
use Rattle.model.specs.Change.{if_granted, length_put, shared_list, shared_store, put_at}
use Rattle.storing.proofs.Putting.{has_room}
use Rattle.storing.proofs.Writing.{item_length}
use Rattle.attribute.specs.Needs.{Access}
use Rattle.peers.specs.declared.Seat.{Seat}

-- d in a shared value of a store
module _ (store d : List ℕ) (a : Attribute) (off : ℕ) (inside : a.start + a.cap ≤ length store) (o : off ≤ a.len) (h : off + length d ≤ a.cap) where
  from_start : a.cap ≤ length (drop a.start store)
  from_start = rw (length-drop a.start store) (omega arith)

  value_varied : take (off + length d) (drop a.start (sets store (a.start + off) d)) ≡ new_value true (take a.len (drop a.start store)) off d
  value_varied =
      rw (drop-sets a.start d store off) (var_value (drop a.start store) d off a.len (omega (arith, from_start)) o)

  value_fixed : a.len ≡ a.cap → take a.len (drop a.start (sets store (a.start + off) d)) ≡ new_value false (take a.len (drop a.start store)) off d
  value_fixed e =
      rw (drop-sets a.start d store off) (fixed_value (drop a.start store) d off a.len (omega (arith, from_start)) (omega arith))

-- a range that lies before what is written, or after it
untouched : (store d : List ℕ) (at s n : ℕ) → s + n ≤ length store → (s + n ≤ at) ⊎ (at + length d ≤ s) → take n (drop s (sets store at d)) ≡ take n (drop s store)
untouched store d at s n h w =
    part_same (sets store at d) store s n (rw (length-sets store at d) h) h
    (λ j a b. ⊎_elim (λ (p : s + n ≤ at). before d store at j (omega arith)) (λ (p : at + length d ≤ s). past d store at j (omega arith)) w)

-- a record with another length of its value is not longer or shorter
same_size : (n : ℕ) (list : List (List ℕ)) (i k : ℕ) → length (get_or (set list i (with_length (get_or list i []) n)) k []) ≡ length (get_or list k [])
unfolding with_length
same_size n [] i k = refl
same_size n (r ∷ rs) zero zero = length-sets r 6 (word_bytes n)
same_size n (r ∷ rs) zero (suc k) = refl
same_size n (r ∷ rs) (suc i) zero = refl
same_size n (r ∷ rs) (suc i) (suc k) = same_size n rs i k

same_entry : (n : ℕ) (list : List (List ℕ)) (i k : ℕ) → length (get_or list i []) ≡ record_bytes → entry_of (get_or (set list i (with_length (get_or list i []) n)) k []) ≡ entry_of (get_or list k [])
same_entry n [] i k l = refl
same_entry n (r ∷ rs) zero zero l = known_kept r n l
same_entry n (r ∷ rs) zero (suc k) l = refl
same_entry n (r ∷ rs) (suc i) zero l = refl
same_entry n (r ∷ rs) (suc i) (suc k) l = same_entry n rs i k l

by_kind : (t : Bool) → (t ≡ true) ⊎ (t ≡ false)
by_kind true = inl refl
by_kind false = inr refl

module _ (s : State) (ok : list_ok s.list (length s.store) ≡ true) (records : (k : ℕ) → k < length s.list → length (get_or s.list k []) ≡ record_bytes)
    (slot : Option Seat) (i : ℕ) (l : i < length s.list) (off : ℕ) (d : List ℕ) where
  -- the value that is written acts as an item of a plain list
  pub item_put : (attribute_of (get_or s.list i [])).client ≡ false
      → shared_item (put_at s slot i off d).store (attribute_of (get_or (put_at s slot i off d).list i [])) ≡ item_after off d (shared_item s.store (attribute_of (get_or s.list i [])))
  unfolding put_at shared_list shared_store length_put write_rule shared_item item_after item_told
  item_put c =
      let r = get_or s.list i [] in
      let a = attribute_of r in
      let n = off + length d in
      let g = shared s.list (length s.store) ok i l c in
      let m = item_length s.list s.store ok i l c in
      ⊎_elim
      (λ (h : a.len < off). rw (c, m, lt-ltb a.len off h))
      (λ (h : off ≤ a.len).
      ⊎_elim
      (λ (k : a.cap < n). rw (c, m, le-ltb a.len off h, lt-ltb a.cap n k))
      (λ (k : n ≤ a.cap).
      rw (c, m, le-ltb a.len off h, le-ltb a.cap n k)
      (⊎_elim
      (λ (v : a.variable ≡ true).
      rw (v, get_or-set_same s.list i (with_length r n) [] l, fields_kept r n (records i l))
      (λ x. record { key = a.handle; variable = v x; room = a.cap; value = value_varied s.store d a off g.inside h k x }))
      (λ (v : a.variable ≡ false).
      rw v
      (λ x. record { key = a.handle; variable = v x; room = a.cap; value = value_fixed s.store d a off g.inside h k (g.fixed v) x }))
      (by_kind a.variable)))
      (split a.cap n))
      (split a.len off)

  -- the list then: as it was, or with one record changed
  by_list : (P : List (List ℕ) → Type 0) → P s.list → P (set s.list i (with_length (get_or s.list i []) (off + length d))) → P (put_at s slot i off d).list
  unfolding put_at shared_list length_put
  by_list P old new =
      let a = attribute_of (get_or s.list i []) in
      by a.client (write_rule a.len a.cap off (length d)) a.variable
    where
      by : (t : Bool) (r : Access) (v : Bool) → P (cond t s.list (if_granted r (cond v (set s.list i (with_length (get_or s.list i []) (off + length d))) s.list) s.list))
      by true r v = old
      by false (Err c) v = old
      by false (Ok tt) true = new
      by false (Ok tt) false = old

  -- the store then: as it was, or written within the value's range
  by_store : (P : List ℕ → Type 0) → P s.store → ((attribute_of (get_or s.list i [])).client ≡ false → off + length d ≤ (attribute_of (get_or s.list i [])).cap → P (sets s.store ((attribute_of (get_or s.list i [])).start + off) d)) → P (put_at s slot i off d).store
  unfolding put_at shared_store
  by_store P old new =
      let a = attribute_of (get_or s.list i []) in
      by a.client (write_rule a.len a.cap off (length d)) refl refl
    where
      by : (t : Bool) (r : Access) → (attribute_of (get_or s.list i [])).client ≡ t → write_rule (attribute_of (get_or s.list i [])).len (attribute_of (get_or s.list i [])).cap off (length d) ≡ r
          → P (cond t s.store (if_granted r (sets s.store ((attribute_of (get_or s.list i [])).start + off) d) s.store))
      by true r c e = old
      by false (Err x) c e = old
      by false (Ok tt) c e = new c (has_room _ _ _ _ e)

  -- what every link may know of an entry stays
  pub put_entry : (j : ℕ) → entry_of (get_or (put_at s slot i off d).list j []) ≡ entry_of (get_or s.list j [])
  put_entry j = by_list (λ x. entry_of (get_or x j []) ≡ entry_of (get_or s.list j [])) refl (same_entry (off + length d) s.list i j (records i l))

  -- every other entry's record stays
  pub entry_stays : (j : ℕ) → (j ≡ i → ⊥) → get_or (put_at s slot i off d).list j [] ≡ get_or s.list j []
  entry_stays j o = by_list (λ x. get_or x j [] ≡ get_or s.list j []) refl (get_or-set_other s.list i j _ [] o)

  -- and every other shared value
  pub value_stays : (j : ℕ) → j < length s.list → (j ≡ i → ⊥) → (attribute_of (get_or s.list j [])).client ≡ false
      → shared_item (put_at s slot i off d).store (attribute_of (get_or s.list j [])) ≡ shared_item s.store (attribute_of (get_or s.list j []))
  unfolding shared_item
  value_stays j m o c =
      let list = s.list in
      let store = s.store in
      let a = attribute_of (get_or list i []) in
      let b = attribute_of (get_or list j []) in
      let g = shared list (length store) ok j m c in
      by_store (λ x. shared_item x b ≡ shared_item store b) refl
      (λ e h.
      let value = untouched store d (a.start + off) b.start b.len (omega (arith, g.inside, g.len)) (⊎_elim (λ (p : j < i). inl (omega (arith, apart list (length store) ok j i p l c e, g.len))) (λ (p : i ≤ j). inr (omega (arith, apart list (length store) ok i j (omega arith) m e c))) (split j i)) in
      λ x. record { key = b.handle; variable = b.variable; room = b.cap; value = value x })

  -- how many entries there are, and that each record keeps its 32 bytes
  pub put_count : length (put_at s slot i off d).list ≡ length s.list
  put_count = by_list (λ x. length x ≡ length s.list) refl (length-set s.list i _)

  pub put_records : (k : ℕ) → k < length (put_at s slot i off d).list → length (get_or (put_at s slot i off d).list k []) ≡ record_bytes
  put_records k h =
      by_list (λ x. length (get_or x k []) ≡ length (get_or s.list k [])) refl (same_size (off + length d) s.list i k) ∙ records k (omega (arith, put_count))
