-- The values of all tables, place by place of the index that they share with the fresh one. Assumes nothing.
use Prim.Native.Nat.{ℕ, suc, ◌+◌, ◌-◌, ◌≤◌, ◌<◌}
use native.Mathlib.Numerals.{add-one}
use native.Mathlib.Omega.{arith}
use mathlib.Core.Path.{◌≡◌, refl, sym, ◌∙◌}
use mathlib.Core.Bool.{Bool, true, false}
use mathlib.Core.List.{List, []}
use lib.ListN.{length, get_or}
use lib.Dec.{leb}
use borrow.Author.Tests.{eqb-true}
use Rattle.wire.specs.Size.{table_bytes}
use Rattle.wire.specs.Test.{both}
use Rattle.wire.specs.Number.{word}
use Rattle.table_view.specs.Layout.{count_of, base_of, end_of, var_at, off_at, next_at, cap_at}
use Rattle.table_view.specs.Rules.{value_ok, values_ok, accepts}
use Rattle.table_view.proofs.Cases.{head_var}
use Rattle.table_view.proofs.Reading.{fixed_value, by_length}
use Rattle.table_view.proofs.Shape.{fits, entry_at}
use Rattle.table_view.proofs.Same.{SameIndex, count_same, off_same, var_same, next_same}
use Rattle.eight_tables.specs.Tables.{every, sized, agrees}
use Rattle.eight_tables.proofs.Columns.{every_at, every_by, every_same, every_both, agrees_at}

-- a table that agrees with the fresh one up to its values has its index
pub index_of : (fresh t : List ℕ) → end_of fresh ≤ table_bytes → sized t ≡ true → agrees fresh (base_of fresh) 0 t ≡ true → SameIndex fresh t
unfolding sized
index_of fresh t e s a =
    record {
      room = omega (arith, eqb-true (length t) table_bytes s);
      bytes = λ j l. agrees_at fresh (base_of fresh) 0 t a j (omega arith) (omega arith);
    }

-- one value of one table
module _ (fresh t : List ℕ) (x : SameIndex fresh t) (ok : accepts fresh ≡ true) (p : ℕ) (h : p < count_of fresh) where
  fixed : var_at fresh p ≡ false → value_ok t p ≡ true
  fixed v = sym (fixed_value t p (var_same fresh t x p h ∙ v))

  within : var_at fresh p ≡ true → leb (word t (base_of fresh + off_at fresh p)) (cap_at fresh p) ≡ value_ok t p
  within v =
      let e = entry_at fresh ok p h in
      let two = head_var fresh p v in
      let at : base_of fresh + off_at fresh p ≡ base_of t + off_at t p = omega (arith, count_same fresh t x, off_same fresh t x p h) in
      let room : cap_at fresh p ≡ next_at t p - (off_at t p + 2) = omega (arith, off_same fresh t x p h, next_same fresh t x p h, two) in
      rw (room, at)
      (by_length t p (var_same fresh t x p h ∙ v) (omega (arith, e.room, off_same fresh t x p h, next_same fresh t x p h, two)))

-- one value of all tables
module _ (fresh : List ℕ) (ts : List (List ℕ)) (lf : length fresh ≡ table_bytes) (ok : accepts fresh ≡ true) (s : every sized ts ≡ true)
    (a : every (agrees fresh (base_of fresh) 0) ts ≡ true) (p : ℕ) (h : p < count_of fresh) where
  index : (i : ℕ) → i < length ts → SameIndex fresh (get_or ts i [])
  index i l =
      index_of fresh (get_or ts i []) (omega (arith, fits fresh ok)) (every_at sized ts s i l)
      (every_at (agrees fresh (base_of fresh) 0) ts a i l)

  pub all_fixed : var_at fresh p ≡ false → true ≡ every (λ t. value_ok t p) ts
  all_fixed v = sym (every_by (λ t. value_ok t p) ts (λ i l. fixed fresh (get_or ts i []) (index i l) ok p h v))

  pub all_within : var_at fresh p ≡ true → every (λ t. leb (word t (base_of fresh + off_at fresh p)) (cap_at fresh p)) ts ≡ every (λ t. value_ok t p) ts
  all_within v =
      every_same (λ t. leb (word t (base_of fresh + off_at fresh p)) (cap_at fresh p)) (λ t. value_ok t p) ts
      (λ i l. within fresh (get_or ts i []) (index i l) ok p h v)

-- the walk over the values
module _ (ts : List (List ℕ)) (n i : ℕ) (all : Bool) (inv : every (λ t. values_ok t (n - i) i) ts ≡ all) where
  one_value : i < n → both (every (λ t. value_ok t i) ts) (every (λ t. values_ok t (n - (i + 1)) (i + 1)) ts) ≡ all
  unfolding values_ok
  one_value l =
      let d : n - i ≡ suc (n - suc i) = omega arith in
      rw (← every_both (λ t. value_ok t i) (λ t. values_ok t (n - (i + 1)) (i + 1)) ts, add-one) (rw d at inv)

  pub next_value : i < n → every (λ t. value_ok t i) ts ≡ true → every (λ t. values_ok t (n - (i + 1)) (i + 1)) ts ≡ all
  unfolding both
  next_value l t = rw t at (one_value l)

  pub bad_value : i < n → every (λ t. value_ok t i) ts ≡ false → false ≡ all
  unfolding both
  bad_value l t = rw t at (one_value l)

  pub last_value : n ≤ i → true ≡ all
  unfolding values_ok
  last_value l =
      let z : n - i ≡ 0 = omega arith in
      sym (every_by (λ t. values_ok t (n - i) i) ts (λ k h. rw z refl)) ∙ inv
