-- Valid in, valid out: a fresh hub is valid, and connecting and leaving keep a valid state valid. Assumes nothing.
use Rattle.std.specs.Prelude.{Some}
use mathlib.Core.Path.{◌≡◌, refl, sym, ◌∙◌}
use mathlib.Core.Bool.{true, false}
use mathlib.Core.List.{List, []}
use mathlib.Core.Logic.{⊎_elim}
use Prim.Native.Nat.{ℕ, ◌+◌, ◌≤◌, ◌<◌}
use native.Mathlib.Omega.{arith}
use lib.ListN.{length, get_or, take, drop, length-take, length-drop}
use lib.Seq.{ext_get_or, get_or-take, get_or-drop}
use borrow.Author.Tests.{eq-eqb, eqb-true, le-leb, leb-true}
use Rattle.wire.specs.Size.{slot_count, table_bytes}
use Rattle.wire.specs.Bytes.{zeros, alike}
use Rattle.wire.proofs.Tests.{both_l, both_r, both_true, split}
use Rattle.wire.proofs.Fold.{zero_at, zeros_from, from_zeros, later_zeros, alike_eq, alike_self}
use Rattle.table_view.specs.Layout.{base_of, end_of}
use Rattle.table_view.specs.Rules.{accepts}
use Rattle.table_view.proofs.Shape.{fits}
use Rattle.table_view.proofs.Same.{SameIndex, count_same, end_same}
use Rattle.client_att_table.specs.Clear.{cleared}
use Rattle.client_att_table.proofs.Frame.{Kept}
use Rattle.client_att_table.proofs.Clearing.{clear_kept, clear_byte}
use Rattle.table_builder.specs.Push.{builder}
use Rattle.attribute.specs.Rules.{list_ok}
use Rattle.peers.specs.Identity.{is_empty}
use Rattle.peers.specs.Slots.{row_moved, tables_moved, no_slot, Tables}
use Rattle.peers.specs.declared.Slot.{Slot}
use Rattle.peers.specs.declared.Move.{Move}
use Rattle.peers.proofs.Changes.{moved_only, new_slot, clear_table}
use Rattle.state.specs.State.{State, state, after_move}
use Rattle.state.specs.Fresh.{fresh_table, table_size}
use Rattle.state.specs.Valid.{laid_out, slot_ok, slots_ok, valid}
use Rattle.state.proofs.Testing.{same_index, rejoined}
use Rattle.state.proofs.Answers.{fresh_length, laid_builder}
use Rattle.state.proofs.Each.{slots_count, slot_at, slot_changed}

-- a slot's test, by whose it is
module _ (fresh : List ℕ) (s : Slot) (t : List ℕ) where
  pub slot_laid_lem : slot_ok fresh s t ≡ true → laid_out fresh t ≡ true
  unfolding slot_ok
  slot_laid_lem h = both_l _ _ h

  pub somebody : laid_out fresh t ≡ true → is_empty s.id ≡ false → slot_ok fresh s t ≡ true
  unfolding slot_ok
  somebody l e = both_true _ _ l (rw e)

  -- its owner decides, and not whether it is connected
  pub same_owner : (s' : Slot) → s'.id ≡ s.id → slot_ok fresh s t ≡ true → slot_ok fresh s' t ≡ true
  unfolding slot_ok
  same_owner s' e h = rw e h

pub laid_accepts : (fresh t : List ℕ) → laid_out fresh t ≡ true → accepts t ≡ true
unfolding laid_out
laid_accepts fresh t l = both_l _ _ (both_r _ _ l)

module _ (fresh : List ℕ) (lf : length fresh ≡ table_bytes) (b : builder fresh ≡ true) where
  pub fresh_laid : laid_out fresh fresh ≡ true
  unfolding laid_out builder
  fresh_laid =
      both_true _ _ (alike_self _)
      (both_true _ _ (both_l _ _ b) (later_zeros fresh (base_of fresh) (end_of fresh) (omega arith) (both_r _ _ b)))

  pub nobodys : (s : Slot) → is_empty s.id ≡ true → slot_ok fresh s fresh ≡ true
  unfolding slot_ok
  nobodys s e = both_true _ _ fresh_laid (rw e (alike_self fresh))

  -- a table that is laid out, cleared
  module _ (t : List ℕ) (lt : length t ≡ table_bytes) (l : laid_out fresh t ≡ true) where
    head : alike (take (base_of fresh) t) (take (base_of fresh) fresh) ≡ true
    unfolding laid_out
    head = both_l _ _ l

    tail_zero : zeros (drop (end_of fresh) t) ≡ true
    unfolding laid_out
    tail_zero = both_r _ _ (both_r _ _ l)

    ok : accepts t ≡ true
    ok = laid_accepts fresh t l

    index : SameIndex fresh t
    index = same_index fresh t no_slot lf lt b head

    -- where only values change, it stays laid out
    module _ (out : List ℕ) (k : Kept t out) where
      head_same : take (base_of fresh) out ≡ take (base_of fresh) t
      head_same =
          let c = count_same fresh t index in
          let f = fits t ok in
          let n : length (take (base_of fresh) out) ≡ base_of fresh = simp length-take (omega (arith, k.len)) in
          let m : length (take (base_of fresh) t) ≡ base_of fresh = simp length-take (omega arith) in
          ext_get_or 0 _ _ (n ∙ sym m)
          (λ j h.
          let i : j < base_of fresh = omega arith in
          rw (get_or-take (base_of fresh) out j 0 i, get_or-take (base_of fresh) t j 0 i) (k.index j (omega arith)))

      past_zero : (j : ℕ) → end_of fresh ≤ j → get_or out j 0 ≡ 0
      past_zero j h = let e = end_same fresh t index in k.past j (omega arith) ∙ from_zeros t (end_of fresh) tail_zero j h

      pub kept_laid : laid_out fresh out ≡ true
      unfolding laid_out
      kept_laid = both_true _ _ (rw head_same head) (both_true _ _ k.ok (zeros_from out (end_of fresh) past_zero))

    kept : Kept t (cleared t)
    kept = clear_kept t ok

    -- from the index on it is all zero
    rest_zero : (j : ℕ) → base_of fresh ≤ j → get_or (cleared t) j 0 ≡ 0
    rest_zero j h =
        let c = count_same fresh t index in
        let e = end_same fresh t index in
        ⊎_elim
        (λ (k : j < end_of fresh). clear_byte t ok j (omega arith) (omega arith))
        (λ (k : end_of fresh ≤ j). past_zero (cleared t) kept j k)
        (split j (end_of fresh))

    pub clear_laid : laid_out fresh (cleared t) ≡ true
    clear_laid = kept_laid (cleared t) kept

    -- so it is the fresh table again
    fresh_rest : (j : ℕ) → get_or (drop (base_of fresh) fresh) j 0 ≡ 0
    unfolding builder
    fresh_rest j = zero_at (drop (base_of fresh) fresh) (both_r _ _ b) j

    pub clear_fresh : cleared t ≡ fresh
    clear_fresh =
        let k = kept.len in
        rejoined (base_of fresh) (cleared t) fresh (head_same (cleared t) kept ∙ alike_eq _ _ head)
        (ext_get_or 0 _ _ (simp length-drop (omega arith))
        (λ j h. get_or-drop (base_of fresh) (cleared t) j 0 ∙ rest_zero (base_of fresh + j) (omega arith) ∙ sym (fresh_rest j)))

-- what a valid state has
module _ (s : State) (v : valid s ≡ true) where
  pub eight_tables : length s.tables ≡ slot_count
  unfolding valid
  eight_tables = eqb-true _ _ (both_l _ _ v)

  pub right_list : list_ok s.list (length s.store) ≡ true
  unfolding valid
  right_list = both_l _ _ (both_r _ _ v)

  pub table_fits_lem : table_size s.list ≤ table_bytes
  unfolding valid
  table_fits_lem = leb-true _ _ (both_l _ _ (both_r _ _ (both_r _ _ v)))

  pub right_slots : slots_ok (fresh_table s.list) s.row s.tables ≡ true
  unfolding valid
  right_slots = both_r _ _ (both_r _ _ (both_r _ _ v))

  pub eight_slots : length s.row ≡ slot_count
  eight_slots = slots_count (fresh_table s.list) s.row s.tables right_slots ∙ eight_tables

  pub laid_at : (i : ℕ) → i < slot_count → laid_out (fresh_table s.list) (get_or s.tables i []) ≡ true
  laid_at i h =
      slot_laid_lem (fresh_table s.list) (get_or s.row i no_slot) (get_or s.tables i [])
      (slot_at (fresh_table s.list) s.row s.tables right_slots i (omega (arith, eight_slots)))

  -- its tables can be read, so that the calls of `peers` can be made
  pub tables_read : Tables s.tables
  tables_read = record { eight = eight_tables; read = λ i h. laid_accepts (fresh_table s.list) (get_or s.tables i []) (laid_at i h) }

  pub with_slots : (row : List Slot) (ts : List (List ℕ)) → length ts ≡ length s.tables → slots_ok (fresh_table s.list) row ts ≡ true
      → valid (state s.list s.store row ts) ≡ true
  unfolding valid
  with_slots row ts n h =
      both_true _ _ (eq-eqb _ _ (n ∙ eight_tables))
      (both_true _ _ right_list (both_true _ _ (le-leb _ _ table_fits_lem) h))

  -- a move asks for its slot's test alone
  move_valid : (m : Move) → m.seat.0 < length s.row → slot_ok (fresh_table s.list) m.slot (get_or (tables_moved s.tables (Some m)) m.seat.0 []) ≡ true
      → valid (after_move s (Some m)) ≡ true
  move_valid m i h =
      let o = moved_only s.row s.tables m in
      with_slots (row_moved s.row (Some m)) (tables_moved s.tables (Some m)) o.tables
      (slot_changed (fresh_table s.list) m.seat.0 s.row (row_moved s.row (Some m)) s.tables (tables_moved s.tables (Some m)) o right_slots
      (rw (new_slot s.row m i) h))

  module _ (sized : (i : ℕ) → i < slot_count → length (get_or s.tables i []) ≡ table_bytes) (i : ℕ) (hi : i < length s.row) where
    pub inside : i < slot_count
    inside = omega (arith, eight_slots)

    -- nobody's table is the fresh one, and so is one that is cleared
    pub nobodys_table : is_empty (get_or s.row i no_slot).id ≡ true → get_or s.tables i [] ≡ fresh_table s.list
    unfolding slot_ok
    nobodys_table e = alike_eq _ _ (rw e at (both_r _ _ (slot_at (fresh_table s.list) s.row s.tables right_slots i hi)))

    pub cleared_table : cleared (get_or s.tables i []) ≡ fresh_table s.list
    cleared_table =
        clear_fresh (fresh_table s.list) (fresh_length s.list) (laid_builder s.list) (get_or s.tables i []) (sized i inside) (laid_at i inside)

    -- with its table cleared
    cleared_valid : (x : Slot) → slot_ok (fresh_table s.list) x (cleared (get_or s.tables i [])) ≡ true
        → valid (after_move s (Some (record { seat = record { 0 = i }; slot = x; clears = true }))) ≡ true
    cleared_valid x h =
        let m : Move = record { seat = record { 0 = i }; slot = x; clears = true } in
        move_valid m hi (rw (clear_table s.tables m refl (omega (arith, inside, eight_tables))) h)

    pub taken_valid : (x : Slot) → is_empty x.id ≡ false → valid (after_move s (Some (record { seat = record { 0 = i }; slot = x; clears = false }))) ≡ true
    taken_valid x e =
        move_valid (record { seat = record { 0 = i }; slot = x; clears = false }) hi
        (somebody (fresh_table s.list) x (get_or s.tables i []) (laid_at i inside) e)

    pub retaken_valid : (x : Slot) → is_empty x.id ≡ false → valid (after_move s (Some (record { seat = record { 0 = i }; slot = x; clears = true }))) ≡ true
    retaken_valid x e =
        cleared_valid x
        (somebody (fresh_table s.list) x (cleared (get_or s.tables i []))
        (clear_laid (fresh_table s.list) (fresh_length s.list) (laid_builder s.list) (get_or s.tables i []) (sized i inside) (laid_at i inside)) e)

    pub parted_valid : (x : Slot) → x.id ≡ (get_or s.row i no_slot).id → valid (after_move s (Some (record { seat = record { 0 = i }; slot = x; clears = false }))) ≡ true
    parted_valid x e =
        move_valid (record { seat = record { 0 = i }; slot = x; clears = false }) hi
        (same_owner (fresh_table s.list) (get_or s.row i no_slot) (get_or s.tables i []) x e (slot_at (fresh_table s.list) s.row s.tables right_slots i hi))

    pub emptied_valid : (x : Slot) → is_empty x.id ≡ true → valid (after_move s (Some (record { seat = record { 0 = i }; slot = x; clears = true }))) ≡ true
    emptied_valid x e =
        cleared_valid x
        (rw cleared_table (nobodys (fresh_table s.list) (fresh_length s.list) (laid_builder s.list) x e))
