-- The test of a slot's table against the fresh one: each way to its answer. Assumes nothing.
use mathlib.Core.Path.{◌≡◌, refl, sym, ◌∙◌}
use mathlib.Core.Bool.{Bool, true, false}
use mathlib.Core.List.{List, [], ◌∷◌}
use mathlib.Core.Logic.{⊎_elim}
use Prim.Native.Nat.{ℕ, zero, suc, ◌+◌, ◌-◌, ◌≤◌, ◌<◌}
use native.Mathlib.Numerals.{add-one}
use native.Mathlib.Omega.{arith}
use lib.ListN.{length, get_or, take, drop, take-append-drop, length-drop, drop_of_length-le}
use lib.Seq.{get_or-take, drop-cons}
use borrow.Author.Tests.{eqb-true}
use Rattle.wire.specs.Size.{slot_count, table_bytes}
use Rattle.wire.specs.Test.{both}
use Rattle.wire.specs.Bytes.{zeros, alike}
use Rattle.wire.proofs.Tests.{both_l, both_r, both_true, same_test, split}
use Rattle.wire.proofs.Fold.{zeros_all, zeros-take, zeros_from, from_zeros, later_zeros, covered, alike_eq, alike_self, front_at}
use Rattle.table_view.specs.Layout.{count_of, base_of, end_of}
use Rattle.table_view.specs.Rules.{index_ok, values_ok, accepts}
use Rattle.table_view.proofs.Reading.{by_values}
use Rattle.table_view.proofs.Shape.{fits}
use Rattle.table_view.proofs.Same.{SameIndex, count_same, end_same, index_kept}
use Rattle.table_builder.specs.Push.{builder}
use Rattle.table_builder.proofs.Laws.{is_table, by_zeros}
use Rattle.eight_tables.specs.Tables.{every, sized, agrees}
use Rattle.eight_tables.proofs.Columns.{every_at, every_by, agrees_at, agrees_by, front_of}
use Rattle.peers.specs.Identity.{is_empty}
use Rattle.peers.specs.Slots.{no_slot}
use Rattle.peers.specs.declared.Slot.{Slot}
use Rattle.state.specs.Valid.{laid_out, slot_ok, slots_ok}
use Rattle.state.specs.Clear.{clear_ok, clears_ok}
use Rattle.state.proofs.Each.{slot_at, slots_by}

-- two lists with the same head and the same rest
pub rejoined : (n : ℕ) (a b : List ℕ) → take n a ≡ take n b → drop n a ≡ drop n b → a ≡ b
rejoined n a b p q = sym (take-append-drop n a) ∙ rw (p, q) (take-append-drop n b)

both_right : (a : Bool) → both a true ≡ a
unfolding both
both_right true = refl
both_right false = refl

both_head : (a : Bool) → both true a ≡ a
unfolding both
both_head a = refl

-- two runs of zeros of one length are the same
zeros_same : (a b : List ℕ) → zeros a ≡ true → zeros b ≡ true → length a ≡ length b → a ≡ b
zeros_same a b p q e = zeros_all a p ∙ rw e (sym (zeros_all b q))

module _ (fresh t : List ℕ) (s : Slot) (lf : length fresh ≡ table_bytes) (lt : length t ≡ table_bytes) (b : builder fresh ≡ true) where
  end_fits : end_of fresh ≤ table_bytes
  end_fits = omega (arith, fits fresh (is_table fresh b))

  rest_zero : zeros (drop (base_of fresh) fresh) ≡ true
  rest_zero = by_zeros fresh (is_table fresh b) ∙ b

  module _ (h : alike (take (base_of fresh) t) (take (base_of fresh) fresh) ≡ true) where
    -- the table has the fresh one's header and index
    pub same_index : SameIndex fresh t
    same_index =
        record {
          room = omega (arith, end_fits);
          bytes = λ j l. sym (get_or-take (base_of fresh) t j 0 l) ∙ rw (alike_eq _ _ h) (get_or-take (base_of fresh) fresh j 0 l);
        }

    index_there : index_ok t (count_of t) 0 0 0 ≡ true
    index_there = index_kept fresh t same_index (is_table fresh b)

    end_there : end_of t ≤ length t
    end_there = omega (arith, end_same fresh t same_index, end_fits)

    -- a slot that is somebody's
    by_lengths : is_empty s.id ≡ false → zeros (drop (end_of fresh) t) ≡ true → values_ok t (count_of t) 0 ≡ slot_ok fresh s t
    unfolding slot_ok laid_out
    by_lengths e z =
        by_values t (omega (arith, end_there)) end_there index_there
        ∙ rw (h, z, e) (sym (both_right _ ∙ both_head _ ∙ both_right _))

    -- an empty one: with zeros after the index it is the fresh table
    same_table : zeros (drop (base_of fresh) t) ≡ true → t ≡ fresh
    same_table z =
        rejoined (base_of fresh) t fresh (alike_eq _ _ h)
        (zeros_same (drop (base_of fresh) t) (drop (base_of fresh) fresh) z rest_zero (simp length-drop (omega arith)))

    fresh_slot : t ≡ fresh → both (laid_out fresh t) (alike t fresh) ≡ true
    unfolding laid_out
    fresh_slot e =
        rw e (both_true _ _
        (both_true _ _ (alike_self _) (both_true _ _ (is_table fresh b) (later_zeros fresh (base_of fresh) (end_of fresh) (omega arith) rest_zero)))
        (alike_self fresh))

    by_clear : is_empty s.id ≡ true → zeros (drop (base_of fresh) t) ≡ slot_ok fresh s t
    unfolding slot_ok
    by_clear e =
        rw e (same_test _ _ (λ z. fresh_slot (same_table z)) (λ w. rw (alike_eq t fresh (both_r _ _ w)) rest_zero))

-- an empty slot, and one that is somebody's
module _ (base end : ℕ) (s : Slot) (t : List ℕ) where
  pub clear_empty : is_empty s.id ≡ true → zeros (take (end - base) (drop base t)) ≡ clear_ok base end s t
  unfolding clear_ok
  clear_empty e = rw e refl

  pub clear_taken : is_empty s.id ≡ false → true ≡ clear_ok base end s t
  unfolding clear_ok
  clear_taken e = rw e refl

-- the walk over the slots and their tables
module _ (base end : ℕ) (row : List Slot) (ts : List (List ℕ)) (i : ℕ) (all : Bool) (inv : clears_ok base end (drop i row) (drop i ts) ≡ all) where
  one_slot : i < length row → i < length ts → both (clear_ok base end (get_or row i no_slot) (get_or ts i [])) (clears_ok base end (drop (i + 1) row) (drop (i + 1) ts)) ≡ all
  unfolding clears_ok
  one_slot h k = rw add-one (rw (drop-cons row i no_slot h, drop-cons ts i [] k) at inv)

  pub next_slot : i < length row → i < length ts → clear_ok base end (get_or row i no_slot) (get_or ts i []) ≡ true → clears_ok base end (drop (i + 1) row) (drop (i + 1) ts) ≡ all
  unfolding both
  next_slot h k t = rw t at (one_slot h k)

  pub bad_slot : i < length row → i < length ts → clear_ok base end (get_or row i no_slot) (get_or ts i []) ≡ false → false ≡ all
  unfolding both
  bad_slot h k t = rw t at (one_slot h k)

  pub last_slot : length row ≤ i → length ts ≤ i → true ≡ all
  unfolding clears_ok
  last_slot h k = rw (drop_of_length-le row h) at inv

-- the slots' test, from the tests of all tables and back
clears_at : (base end : ℕ) (row : List Slot) (ts : List (List ℕ)) → clears_ok base end row ts ≡ true → (i : ℕ) → i < length row → i < length ts → clear_ok base end (get_or row i no_slot) (get_or ts i []) ≡ true
unfolding clears_ok
clears_at base end [] ts h i l m = absurd (omega arith)
clears_at base end (s ∷ ss) [] h i l m = absurd (omega arith)
clears_at base end (s ∷ ss) (t ∷ ts) h zero l m = both_l _ _ h
clears_at base end (s ∷ ss) (t ∷ ts) h (suc i) l m = clears_at base end ss ts (both_r _ _ h) i (omega arith) (omega arith)

clears_by : (base end : ℕ) (row : List Slot) (ts : List (List ℕ)) → ((i : ℕ) → i < length row → i < length ts → clear_ok base end (get_or row i no_slot) (get_or ts i []) ≡ true) → clears_ok base end row ts ≡ true
unfolding clears_ok
clears_by base end [] ts f = refl
clears_by base end (s ∷ ss) [] f = refl
clears_by base end (s ∷ ss) (t ∷ ts) f =
    both_true _ _ (f zero (omega arith) (omega arith))
    (clears_by base end ss ts (λ i l m. f (suc i) (omega arith) (omega arith)))

past : (l : List ℕ) (j : ℕ) → length l ≤ j → get_or l j 0 ≡ 0
past [] j h = refl
past (x ∷ xs) zero h = absurd (omega arith)
past (x ∷ xs) (suc j) h = past xs j (omega arith)

module _ (fresh : List ℕ) (row : List Slot) (ts : List (List ℕ)) (lf : length fresh ≡ table_bytes) (b : builder fresh ≡ true) (lr : length row ≡ slot_count) (l8 : length ts ≡ slot_count)
    (s : every sized ts ≡ true) where
  long : (i : ℕ) → i < length ts → length (get_or ts i []) ≡ table_bytes
  unfolding sized
  long i l = eqb-true (length (get_or ts i [])) table_bytes (every_at sized ts s i l)

  base_of_lem : base_of fresh ≤ table_bytes
  base_of_lem = omega (arith, fits fresh (is_table fresh b))

  module _ (w : slots_ok fresh row ts ≡ true) where
    slot : (i : ℕ) → i < length ts → slot_ok fresh (get_or row i no_slot) (get_or ts i []) ≡ true
    slot i l = slot_at fresh row ts w i (omega arith)

    laid : (i : ℕ) → i < length ts → laid_out fresh (get_or ts i []) ≡ true
    unfolding slot_ok
    laid i l = both_l _ _ (slot i l)

    head : (i : ℕ) → i < length ts → alike (take (base_of fresh) (get_or ts i [])) (take (base_of fresh) fresh) ≡ true
    unfolding laid_out
    head i l = both_l _ _ (laid i l)

    pub fronts : every (agrees fresh (base_of fresh) 0) ts ≡ true
    fronts =
        every_by (agrees fresh (base_of fresh) 0) ts
        (λ i l. agrees_by fresh (base_of fresh) 0 _ (λ j p q. front_at _ fresh (base_of fresh) (alike_eq _ _ (head i l)) j (omega arith)))

    pub tails : every (agrees [] (table_bytes - end_of fresh) (end_of fresh)) ts ≡ true
    unfolding laid_out
    tails =
        every_by (agrees [] (table_bytes - end_of fresh) (end_of fresh)) ts
        (λ i l. agrees_by [] (table_bytes - end_of fresh) (end_of fresh) _ (λ j p q. from_zeros _ (end_of fresh) (both_r _ _ (both_r _ _ (laid i l))) j p))

    pub values : every (λ t. values_ok t (count_of fresh) 0) ts ≡ true
    unfolding laid_out accepts
    values =
        every_by (λ t. values_ok t (count_of fresh) 0) ts
        (λ i l.
        rw (← count_same fresh _ (same_index fresh _ (get_or row i no_slot) lf (long i l) b (head i l)))
        (both_r _ _ (both_r _ _ (both_r _ _ (both_l _ _ (both_r _ _ (laid i l)))))))

    pub clears : clears_ok (base_of fresh) (end_of fresh) row ts ≡ true
    clears = clears_by (base_of fresh) (end_of fresh) row ts (λ i l m. by i m (is_empty (get_or row i no_slot).id) refl)
      where
        by : (i : ℕ) → i < length ts → (e : Bool) → is_empty (get_or row i no_slot).id ≡ e → clear_ok (base_of fresh) (end_of fresh) (get_or row i no_slot) (get_or ts i []) ≡ true
        by i l false e = sym (clear_taken (base_of fresh) (end_of fresh) (get_or row i no_slot) (get_or ts i []) e)
        by i l true e =
            sym (clear_empty (base_of fresh) (end_of fresh) (get_or row i no_slot) (get_or ts i []) e)
            ∙ zeros-take _ (end_of fresh - base_of fresh) (by_clear fresh (get_or ts i []) (get_or row i no_slot) lf (long i l) b (head i l) e ∙ slot i l)

  pub not_slots : (t : Bool) → (slots_ok fresh row ts ≡ true → t ≡ true) → t ≡ false → false ≡ slots_ok fresh row ts
  not_slots t f h = by (slots_ok fresh row ts) refl
    where
      by : (w : Bool) → slots_ok fresh row ts ≡ w → false ≡ slots_ok fresh row ts
      by true e = sym h ∙ f e ∙ sym e
      by false e = sym e

  module _ (f : every (agrees fresh (base_of fresh) 0) ts ≡ true) (z : every (agrees [] (table_bytes - end_of fresh) (end_of fresh)) ts ≡ true)
      (v : every (λ t. values_ok t (count_of fresh) 0) ts ≡ true) where
    front : (i : ℕ) → i < length ts → alike (take (base_of fresh) (get_or ts i [])) (take (base_of fresh) fresh) ≡ true
    front i l =
        front_of fresh (get_or ts i []) (base_of fresh) (omega (arith, long i l, base_of_lem)) (omega (arith, base_of_lem))
        (every_at (agrees fresh (base_of fresh) 0) ts f i l)

    tail : (i : ℕ) → i < length ts → zeros (drop (end_of fresh) (get_or ts i [])) ≡ true
    tail i l =
        zeros_from (get_or ts i []) (end_of fresh)
        (λ j h.
        ⊎_elim
        (λ (k : j < table_bytes). agrees_at [] (table_bytes - end_of fresh) (end_of fresh) (get_or ts i []) (every_at (agrees [] (table_bytes - end_of fresh) (end_of fresh)) ts z i l) j h (omega arith))
        (λ (k : table_bytes ≤ j). past (get_or ts i []) j (omega (arith, long i l)))
        (split j table_bytes))

    slot_by : (i : ℕ) → i < length ts → clear_ok (base_of fresh) (end_of fresh) (get_or row i no_slot) (get_or ts i []) ≡ true → (e : Bool) → is_empty (get_or row i no_slot).id ≡ e → slot_ok fresh (get_or row i no_slot) (get_or ts i []) ≡ true
    slot_by i l c true e =
        sym (by_clear fresh (get_or ts i []) (get_or row i no_slot) lf (long i l) b (front i l) e)
        ∙ covered (get_or ts i []) (base_of fresh) (end_of fresh - base_of fresh) (end_of fresh) (omega arith)
        (clear_empty (base_of fresh) (end_of fresh) (get_or row i no_slot) (get_or ts i []) e ∙ c) (tail i l)
    slot_by i l c false e =
        sym (by_lengths fresh (get_or ts i []) (get_or row i no_slot) lf (long i l) b (front i l) e (tail i l))
        ∙ rw (count_same fresh _ (same_index fresh _ (get_or row i no_slot) lf (long i l) b (front i l))) (every_at (λ t. values_ok t (count_of fresh) 0) ts v i l)

    pub by_clears : clears_ok (base_of fresh) (end_of fresh) row ts ≡ slots_ok fresh row ts
    by_clears =
        same_test _ _
        (λ c. slots_by fresh row ts (lr ∙ sym l8) (λ i l. slot_by i (omega arith) (clears_at _ _ row ts c i l (omega arith)) _ refl))
        (λ w. clears w)
