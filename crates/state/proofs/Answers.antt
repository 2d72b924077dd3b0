-- Laws of `valid` and of `new`: each way to their answers, and what the fresh table is. Assumes nothing.
use mathlib.Core.Path.{◌≡◌, refl, sym, ◌∙◌}
use mathlib.Core.Bool.{Bool, true, false}
use mathlib.Core.List.{List, [], ◌∷◌}
use Prim.Native.Nat.{ℕ, ◌≤◌, ◌<◌}
use lib.ListN.{length, replicate}
use borrow.Author.Tests.{eq-eqb, eqb-true, ne_eqb, le-leb, lt-leb}
use Rattle.wire.specs.Size.{slot_bytes, slot_count, table_bytes}
use Rattle.wire.specs.Test.{both}
use Rattle.wire.specs.Run.{after_all}
use Rattle.wire.proofs.Tests.{both_l, both_r, both_true, both_false_l, both_false_r}
use Rattle.table_view.specs.Told.{done, refused}
use Rattle.table_builder.specs.Push.{builder}
use Rattle.table_builder.specs.AsList.{Push, bytes_after}
use Rattle.table_builder.proofs.Grown.{pushed_length}
use Rattle.table_builder.proofs.AsList.{builder_is_list}
use Rattle.attribute.specs.Rules.{list_ok}
use Rattle.peers.specs.Bytes.{row_of}
use Rattle.peers.specs.declared.Slot.{Slot}
use Rattle.state.specs.declared.Prepared.{Prepared}
use Rattle.state.specs.State.{State, state}
use Rattle.state.specs.Fresh.{clients_of, fresh_table, table_size, empty_row, can_open, new_told, new_left}
use Rattle.state.specs.Valid.{slots_ok, valid, record_ok, valid_with}
use Rattle.state.proofs.Each.{slots_count}

-- the fresh table is a builder's bytes, 640 of them
after_length : (ps : List Push) (bs : List ℕ) → length (after_all bytes_after bs ps) ≡ length bs
unfolding after_all
after_length [] bs = refl
after_length (p ∷ ps) bs = after_length ps (bytes_after bs p) ∙ pushed_length bs p.key p.size p.variable

pub fresh_length : (list : List (List ℕ)) → length (fresh_table list) ≡ table_bytes
unfolding fresh_table
fresh_length list = after_length (clients_of list) (replicate table_bytes 0)

pub laid_builder : (list : List (List ℕ)) → builder (fresh_table list) ≡ true
unfolding fresh_table
laid_builder list = (builder_is_list (clients_of list)).ok

-- `is_valid`
module _ (s : State) where
  pub other_count : (length s.tables ≡ slot_count → ⊥) → false ≡ valid s
  unfolding valid
  other_count h = sym (both_false_l _ _ (ne_eqb _ _ h))

  pub bad_list : list_ok s.list (length s.store) ≡ false → false ≡ valid s
  unfolding valid
  bad_list h = sym (both_false_r _ _ (both_false_l _ _ h))

  pub too_long_lem : table_bytes < table_size s.list → false ≡ valid s
  unfolding valid
  too_long_lem h = sym (both_false_r _ _ (both_false_r _ _ (both_false_l _ _ (lt-leb _ _ h))))

  pub other_row : (length s.row ≡ slot_count → ⊥) → false ≡ valid s
  unfolding valid
  other_row h = by (valid s) refl
    where
      by : (t : Bool) → valid s ≡ t → false ≡ valid s
      by true e =
          absurd
          (h (slots_count (fresh_table s.list) s.row s.tables (both_r _ _ (both_r _ _ (both_r _ _ e))) ∙ eqb-true _ _ (both_l _ _ e)))
      by false e = sym e

  pub by_slots : (fresh : List ℕ) → fresh ≡ fresh_table s.list → length s.tables ≡ slot_count → list_ok s.list (length s.store) ≡ true → table_size s.list ≤ table_bytes
      → slots_ok fresh s.row s.tables ≡ valid s
  unfolding valid both
  by_slots fresh e n l f = rw (e, eq-eqb (length s.tables) slot_count n, l, le-leb (table_size s.list) table_bytes f)

  -- `is_valid_with`
  pub bad_record : (p : Prepared) → record_ok p ≡ false → false ≡ valid_with s p
  unfolding valid_with both
  bad_record p h = rw h refl

  pub by_rest : (p : Prepared) → record_ok p ≡ true → valid s ≡ valid_with s p
  unfolding valid_with both
  by_rest p h = rw h refl

-- `new`
module _ (s : State) where
  not_new : can_open s ≡ false → (refused 1 ≡ new_told s) × (s ≡ new_left s)
  unfolding new_told new_left
  not_new h = rw h (refl, refl)

  pub new_other_row : (length s.row ≡ slot_count → ⊥) → (refused 1 ≡ new_told s) × (s ≡ new_left s)
  unfolding can_open
  new_other_row h = not_new (both_false_l _ _ (ne_eqb _ _ h))

  pub new_other_count : (length s.tables ≡ slot_count → ⊥) → (refused 1 ≡ new_told s) × (s ≡ new_left s)
  unfolding can_open
  new_other_count h = not_new (both_false_r _ _ (both_false_l _ _ (ne_eqb _ _ h)))

  pub new_bad_list : list_ok s.list (length s.store) ≡ false → (refused 1 ≡ new_told s) × (s ≡ new_left s)
  unfolding can_open
  new_bad_list h = not_new (both_false_r _ _ (both_false_r _ _ h))

  right : length s.row ≡ slot_count → length s.tables ≡ slot_count → list_ok s.list (length s.store) ≡ true → can_open s ≡ true
  unfolding can_open
  right m n l = both_true _ _ (eq-eqb _ _ m) (both_true _ _ (eq-eqb _ _ n) l)

  pub new_too_long : length s.row ≡ slot_count → length s.tables ≡ slot_count → list_ok s.list (length s.store) ≡ true → table_bytes < table_size s.list
      → (refused 6 ≡ new_told s) × (s ≡ new_left s)
  unfolding new_told new_left
  new_too_long m n l f = rw (right m n l, lt-leb (table_size s.list) table_bytes f) (refl, refl)

  pub new_done : (fresh : List ℕ) (row : List Slot) (out : List (List ℕ)) → fresh ≡ fresh_table s.list → length s.row ≡ slot_count → length s.tables ≡ slot_count
      → list_ok s.list (length s.store) ≡ true → table_size s.list ≤ table_bytes → row ≡ empty_row → out ≡ replicate (length s.tables) fresh
      → (done ≡ new_told s) × (state s.list s.store row out ≡ new_left s)
  unfolding new_told new_left
  new_done fresh row out f m n l t r e =
      rw (right m n l, le-leb (table_size s.list) table_bytes t) (refl, rw (r, e, n, f))

-- a row that is all zeros in bytes is the empty row
pub empty_row_lem : (es : List (List ℕ)) (n : ℕ) → es ≡ replicate n (replicate slot_bytes 0) → n ≡ slot_count → row_of es ≡ empty_row
empty_row_lem es n e m = rw (e, m)
