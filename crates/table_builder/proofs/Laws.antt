-- Laws of `specs/Push.antt`: what a builder's bytes are, where an entry is added, and that every test passed there.
-- Assumes nothing.
use Rattle.std.specs.Prelude.{Result, Ok, Err}
use mathlib.Core.Path.{◌≡◌, refl}
use mathlib.Core.Bool.{Bool, true, false, cond}
use mathlib.Core.List.{List}
use Prim.Native.Nat.{ℕ, ◌+◌, ◌-◌, ◌≤◌, ◌<◌}
use native.Mathlib.Omega.{arith}
use lib.ListN.{drop}
use lib.Dec.{leb}
use borrow.Author.Tests.{lt-ltb, le-leb, ne_eqb, ltb-true, leb-true}
use Rattle.wire.specs.Size.{table_bytes, value_bytes}
use Rattle.wire.specs.Test.{both}
use Rattle.wire.specs.Bytes.{zeros}
use Rattle.wire.proofs.Tests.{both_l, both_r, both_true}
use Rattle.table_view.specs.Layout.{count_of, base_of, end_of, key_at}
use Rattle.table_view.specs.Rules.{accepts}
use Rattle.table_builder.specs.Push.{builder, last_key, entry_fits, value_size, push_plan}
use Rattle.table_builder.specs.declared.PushError.TheVariants.{BadBuilder, BadEntry, NoRoom}
use Rattle.table_builder.specs.declared.PushError.{PushError}

-- a builder's bytes, and the last key
module _ (bs : List ℕ) where
  pub by_zeros : accepts bs ≡ true → zeros (drop (base_of bs) bs) ≡ builder bs
  unfolding builder both
  by_zeros h = rw h

  pub is_table : builder bs ≡ true → accepts bs ≡ true
  unfolding builder
  is_table h = both_l _ _ h

  pub last : (count_of bs ≡ 0 → ⊥) → key_at bs (count_of bs - 1) ≡ last_key bs
  unfolding last_key
  last h = rw (ne_eqb (count_of bs) 0 h)

-- where every test passes, the entry is added
module _ (bs : List ℕ) (k n : ℕ) (var : Bool) where
  good : n ≤ value_bytes → k ≤ 32767 → last_key bs < k → entry_fits (last_key bs) k n ≡ true
  unfolding entry_fits
  good a b c = both_true _ _ (le-leb _ _ a) (both_true _ _ (le-leb _ _ b) (lt-ltb _ _ c))

  pub added : builder bs ≡ true → n ≤ value_bytes → k ≤ 32767 → last_key bs < k → end_of bs + 4 + value_size n var ≤ table_bytes → Ok tt ≡ push_plan bs k n var
  unfolding push_plan
  added a b c d h = rw (a, good b c d, le-leb _ _ h)

-- and where it is added, every test passed
pub record Adds (bs : List ℕ) (k n : ℕ) (var : Bool) : Type 0 where
  pub ok : builder bs ≡ true
  pub key : k ≤ 32767
  pub above : last_key bs < k
  pub room : end_of bs + 4 + value_size n var ≤ table_bytes

passed : (t : Bool) (a : Result (Unit {0}) PushError) (e : PushError) → cond t a (Err e) ≡ Ok tt → (t ≡ true) × (a ≡ Ok tt)
passed true a e h = (refl, h)
passed false a e h = let z : ◌≡◌ {A = ℕ} 0 1 = cc in absurd (omega arith)

module _ (bs : List ℕ) (k n : ℕ) (var : Bool) where
  pub adds : push_plan bs k n var ≡ Ok tt → Adds bs k n var
  unfolding push_plan entry_fits
  adds h =
      let h1 = passed (builder bs) _ BadBuilder h in
      let h2 = passed (entry_fits (last_key bs) k n) _ BadEntry h1.1 in
      let h3 = passed (leb (end_of bs + 4 + value_size n var) table_bytes) _ NoRoom h2.1 in
      let f = both_r _ _ h2.0 in
      record { ok = h1.0; key = leb-true _ _ (both_l _ _ f); above = ltb-true _ _ (both_r _ _ f); room = leb-true _ _ h3.0 }

  -- so it has room, and its key no flag
  pub added_fits : push_plan bs k n var ≡ Ok tt → end_of bs + 4 + value_size n var ≤ table_bytes
  added_fits h = (adds h).room

  pub added_key : push_plan bs k n var ≡ Ok tt → k < 32768
  added_key h = let l = (adds h).key in omega arith
