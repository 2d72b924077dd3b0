-- Laws of a write to a client value: a table's answer is that of the plain list's item, and the slot's table is the one
-- that changes. Assumes nothing.
use Rattle.std.specs.Prelude.{Option, Some, None, Ok, Err}
use mathlib.Core.Path.{◌≡◌, refl, sym, ap, ◌∙◌}
use mathlib.Core.Bool.{Bool, true, false, cond}
use mathlib.Core.List.{List, []}
use Prim.Native.Nat.{ℕ, ◌+◌, ◌<◌}
use lib.ListN.{length, get_or, set}
use lib.Dec.{ltb}
use Rattle.wire.specs.First.{first}
use Rattle.wire.specs.Number.{word}
use Rattle.table_view.specs.Layout.{count_of, cap_at, len_at}
use Rattle.table_view.specs.Rules.{accepts}
use Rattle.table_view.specs.Lookup.{index_place}
use Rattle.table_view.specs.View.{item_at, items_from}
use Rattle.table_view.specs.declared.Place.{Place}
use Rattle.table_view.proofs.Shape.{value_length}
use Rattle.table_view.proofs.Search.{placed}
use Rattle.table_view.proofs.Items.{at_place, first_place}
use Rattle.client_att_table.specs.Write.{plan_at, plan_of, answer, after_plan, after_write}
use Rattle.peers.specs.declared.Seat.{Seat}
use Rattle.model.specs.Value.{write_rule, item_write, own_write}
use Rattle.model.specs.View.{table_at}
use Rattle.model.specs.Change.{own_tables}
use Rattle.attribute.specs.Needs.{Access}
use Rattle.wire.specs.declared.att.AttError.TheVariants.{InvalidOffset, AttributeNotFound, InvalidAttributeValueLength}

-- the answer of an accepted table, by where the lookup comes to
module _ (bs : List ℕ) (ok : accepts bs ≡ true) (h off n : ℕ) where
  item_rule : (i : ℕ) → i < count_of bs → item_write off n (item_at bs i) ≡ write_rule (len_at bs i) (cap_at bs i) off n
  unfolding item_at
  item_rule i l = rw (value_length bs ok i l)

  by_tests : (p : Place) (s t : Bool) → answer (cond s (Err InvalidOffset) (cond t (Err InvalidAttributeValueLength) (Ok p))) ≡ cond s (Err InvalidOffset) (cond t (Err InvalidAttributeValueLength) (Ok tt))
  by_tests p true t = refl
  by_tests p false true = refl
  by_tests p false false = refl

  at_found : (f : Option Place) → index_place bs h ≡ f → answer (plan_at bs off n f) ≡ at_place f (λ (j : ℕ). item_write off n (item_at bs j)) (Err AttributeNotFound)
  unfolding plan_at write_rule
  at_found None e = refl
  at_found (Some p) e =
      by_tests p (ltb (len_at bs p.0) off) (ltb (cap_at bs p.0) (off + n)) ∙ sym (item_rule p.0 (placed bs h p e).inside)

  pub own_write_lem : answer (plan_of bs h off n) ≡ own_write bs h off n
  own_write_lem = at_found (index_place bs h) refl ∙ sym (first_place bs h (item_write off n) (Err AttributeNotFound))

pub own_after : (bs : List ℕ) → accepts bs ≡ true → (h off : ℕ) (d : List ℕ) → after_plan bs off d (plan_of bs h off (length d)) ≡ after_write bs h off d
unfolding after_write
own_after bs ok h off d = rw ok

-- a write into the table of a slot
module _ (ts : List (List ℕ)) (slot : Option Seat) (h off : ℕ) (d : List ℕ) where
  pub no_slot : slot ≡ None → (Err AttributeNotFound ≡ own_write (table_at ts slot) h off (length d)) × (ts ≡ own_tables ts slot h off d)
  unfolding table_at own_tables first items_from word
  no_slot e = rw e (refl, refl)

  pub in_slot : (k : Seat) → slot ≡ Some k → accepts (get_or ts k.0 []) ≡ true → (r : Access) (t : List ℕ) → r ≡ answer (plan_of (get_or ts k.0 []) h off (length d)) → t ≡ after_plan (get_or ts k.0 []) off d (plan_of (get_or ts k.0 []) h off (length d))
      → (r ≡ own_write (table_at ts slot) h off (length d)) × (set ts k.0 t ≡ own_tables ts slot h off d)
  unfolding table_at own_tables
  in_slot k e ok r t p q =
      rw e
      (p ∙ own_write_lem (get_or ts k.0 []) ok h off (length d), ap (λ (x : List ℕ). set ts k.0 x) (q ∙ own_after (get_or ts k.0 []) ok h off d))
