-- The calls on a peer's table, one law for each way through them. Assumes nothing.
use Rattle.std.specs.Prelude.{Option, Some, None, Ok, Err}
use mathlib.Core.Path.{◌≡◌, refl, sym, ◌∙◌}
use mathlib.Core.Bool.{true, false}
use mathlib.Core.List.{List, []}
use Prim.Native.Nat.{ℕ, ◌/◌, ◌%◌}
use native.Mathlib.Omega.{arith}
use lib.Dec.{eqb}
use lib.ListN.{length, get_or, set}
use lib.Seq.{sets}
use borrow.Author.Tests.{eq-eqb, ne_eqb}
use Rattle.wire.specs.Size.{table_bytes}
use Rattle.wire.specs.First.{first}
use Rattle.wire.specs.Number.{word}
use Rattle.wire.proofs.Tests.{both_true}
use Rattle.table_view.specs.Layout.{count_of, value_at}
use Rattle.table_view.specs.Rules.{accepts}
use Rattle.table_view.specs.Lookup.{index_place}
use Rattle.table_view.specs.View.{Item, item_at, items_from}
use Rattle.table_view.specs.declared.Place.{Place}
use Rattle.table_view.proofs.Items.{first_place}
use Rattle.client_att_table.specs.SetValues.{set_all, after_set}
use Rattle.peers.specs.declared.Seat.{Seat}
use Rattle.model.specs.View.{table_at}
use Rattle.model.specs.Told.{told_answer, Answered}
use Rattle.model.proofs.Sending.{answered, silent}
use Rattle.storing.proofs.Tables.{table_there, table_none}
use Rattle.application.specs.Calls.{has_bit, is_subscribed, table_told, restore_told, restored}
use Rattle.model.specs.declared.Answer.TheVariants.{Done, Nothing, Value}
use Rattle.model.specs.declared.CallError.TheVariants.{BadTable}

-- a subscription
module _ (t : List ℕ) (h bit : ℕ) where
  pub no_value : index_place t h ≡ None → false ≡ is_subscribed t h bit
  unfolding is_subscribed
  no_value e = sym (first_place t h (λ (x : Item). has_bit bit x.value) false ∙ rw e)

  module _ (p : Place) (e : index_place t h ≡ Some p) (v : List ℕ) (is : v ≡ value_at t p.0) where
    by_value : is_subscribed t h bit ≡ has_bit bit v
    unfolding is_subscribed item_at
    by_value = first_place t h (λ (x : Item). has_bit bit x.value) false ∙ rw (e, is)

    pub another_length : (length v ≡ 2 → ⊥) → false ≡ is_subscribed t h bit
    unfolding has_bit
    another_length n = sym (by_value ∙ rw (ne_eqb _ _ n))

    pub two_bytes : length v ≡ 2 → eqb (get_or v 0 0 / bit % 2) 1 ≡ is_subscribed t h bit
    unfolding has_bit
    two_bytes n = sym (by_value ∙ rw (eq-eqb _ _ n))

module _ (ts : List (List ℕ)) (slot : Option Seat) (h bit : ℕ) where
  pub no_subscription : slot ≡ None → false ≡ is_subscribed (table_at ts slot) h bit
  unfolding is_subscribed first items_from word
  no_subscription e = rw (← table_none ts slot e)

  pub in_slot : (k : Seat) → slot ≡ Some k → is_subscribed (get_or ts k.0 []) h bit ≡ is_subscribed (table_at ts slot) h bit
  in_slot k e = rw (table_there ts slot k e)

-- the table copied out
module _ (ts : List (List ℕ)) (slot : Option Seat) (old : List ℕ) where
  pub no_table : slot ≡ None → Answered old old (Ok Nothing) (table_told ts slot)
  no_table e = rw e (silent old)

  pub table_copied : (k : Seat) → slot ≡ Some k → length (get_or ts k.0 []) ≡ table_bytes → length old ≡ table_bytes → (new : List ℕ) → new ≡ sets old 0 (get_or ts k.0 [])
      → Answered old new (Ok (Value table_bytes)) (table_told ts slot)
  table_copied k e n m new s =
      rw e (answered old new table_bytes (get_or ts k.0 []) (record { size = sym n; fits = omega arith; bytes = s }))

-- the saved values taken in
module _ (ts : List (List ℕ)) (slot : Option Seat) (saved : List ℕ) where
  pub bad_table : accepts saved ≡ false → (told_answer [] (Err BadTable) ≡ restore_told saved) × (ts ≡ restored ts slot saved)
  unfolding restore_told restored
  bad_table b = rw b (refl, refl)

  module _ (ok : accepts saved ≡ true) where
    pub no_slot : slot ≡ None → (told_answer [] (Ok Done) ≡ restore_told saved) × (ts ≡ restored ts slot saved)
    unfolding restore_told restored
    no_slot e = rw (ok, e) (refl, refl)

    pub values_taken : (k : Seat) → slot ≡ Some k → accepts (get_or ts k.0 []) ≡ true → (t : List ℕ) → t ≡ set_all saved (count_of (get_or ts k.0 [])) 0 (get_or ts k.0 [])
        → (told_answer [] (Ok Done) ≡ restore_told saved) × (set ts k.0 t ≡ restored ts slot saved)
    unfolding restore_told restored after_set
    values_taken k e a t is = rw (ok, e, both_true _ _ a ok, is) (refl, refl)
