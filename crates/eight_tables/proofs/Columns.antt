-- The tests of all tables at once: a turn of a loop over their columns, and what the tests say of each table. Assumes
-- nothing.
use Prim.Native.Nat.{ℕ, zero, suc, ◌+◌, ◌-◌, ◌≤◌, ◌<◌}
use native.Mathlib.Numerals.{add-one}
use native.Mathlib.Omega.{arith}
use mathlib.Core.Path.{◌≡◌, refl, sym, ap, ◌∙◌}
use mathlib.Core.Bool.{Bool, true, false}
use mathlib.Core.List.{List, [], ◌∷◌}
use mathlib.Core.Logic.{◌⊎◌, ⊎_elim}
use lib.Bits.{bit_or, bit_xor, xor_add_and, xor_self, and_le_l, and_le_r}
use lib.ListN.{length, get_or, take, drop, length-take, drop_of_length-le}
use lib.Seq.{ext_get_or, get_or-take, drop-cons}
use lib.Dec.{eqb}
use borrow.Author.Tests.{eqb-true, eqb-false, eq-eqb, ne_eqb}
use Rattle.wire.specs.Test.{both}
use Rattle.wire.specs.Bytes.{alike}
use Rattle.wire.proofs.Tests.{both_l, both_r, both_true, same_test, split}
use Rattle.wire.proofs.Fold.{turn, end, alike_self}
use Rattle.eight_tables.specs.Tables.{every, agrees}

-- a test of every table is one of each
pub every_at : (p : List ℕ → Bool) (ts : List (List ℕ)) → every p ts ≡ true → (i : ℕ) → i < length ts → p (get_or ts i []) ≡ true
unfolding every
every_at p [] h i l = absurd (omega arith)
every_at p (t ∷ ts) h zero l = both_l _ _ h
every_at p (t ∷ ts) h (suc i) l = every_at p ts (both_r _ _ h) i (omega arith)

pub every_by : (p : List ℕ → Bool) (ts : List (List ℕ)) → ((i : ℕ) → i < length ts → p (get_or ts i []) ≡ true) → every p ts ≡ true
unfolding every
every_by p [] f = refl
every_by p (t ∷ ts) f = both_true _ _ (f zero (omega arith)) (every_by p ts (λ i l. f (suc i) (omega arith)))

-- where one test passes wherever another does, so it does of all
pub every_as : (p q : List ℕ → Bool) (ts : List (List ℕ)) → ((i : ℕ) → i < length ts → p (get_or ts i []) ≡ true → q (get_or ts i []) ≡ true) → every p ts ≡ true → every q ts ≡ true
every_as p q ts f h = every_by q ts (λ i l. f i l (every_at p ts h i l))

pub every_same : (p q : List ℕ → Bool) (ts : List (List ℕ)) → ((i : ℕ) → i < length ts → p (get_or ts i []) ≡ q (get_or ts i [])) → every p ts ≡ every q ts
every_same p q ts f =
    same_test _ _ (λ h. every_as p q ts (λ i l e. sym (f i l) ∙ e) h) (λ h. every_as q p ts (λ i l e. f i l ∙ e) h)

-- two tests of every table are one of both
pub every_both : (p q : List ℕ → Bool) (ts : List (List ℕ)) → every (λ t. both (p t) (q t)) ts ≡ both (every p ts) (every q ts)
every_both p q ts =
    same_test _ _
    (λ h. both_true _ _ (every_as (λ t. both (p t) (q t)) p ts (λ i l. both_l _ _) h) (every_as (λ t. both (p t) (q t)) q ts (λ i l. both_r _ _) h))
    (λ h. every_by (λ t. both (p t) (q t)) ts (λ i l. both_true _ _ (every_at p ts (both_l _ _ h) i l) (every_at q ts (both_r _ _ h) i l)))

-- a byte and another are the same where what they differ in is 0
differs : (a b : ℕ) (t : Bool) → eqb a b ≡ t → eqb (bit_xor a b) 0 ≡ t
differs a b true p = eq-eqb (bit_xor a b) 0 (rw (eqb-true a b p) (xor_self b))
differs a b false p = ne_eqb (bit_xor a b) 0 (λ e. eqb-false a b p (omega (arith, xor_add_and a b, and_le_l a b, and_le_r a b)))

-- a turn of the loop over one column: the fold so far and the test of the tables that are left are the test of all
module _ (j f : ℕ) (ts : List (List ℕ)) (acc k : ℕ) (all : Bool) (inv : both (eqb acc 0) (every (λ t. eqb (get_or t j 0) f) (drop k ts)) ≡ all) where
  pub table_turn : k < length ts → both (eqb (bit_or acc (bit_xor (get_or (get_or ts k []) j 0) f)) 0) (every (λ t. eqb (get_or t j 0) f) (drop (k + 1) ts)) ≡ all
  unfolding every
  table_turn h =
      turn acc _ _ _ all (differs (get_or (get_or ts k []) j 0) f _ refl) (rw add-one (rw (drop-cons ts k [] h) at inv))

  pub table_end : length ts ≤ k → eqb acc 0 ≡ all
  unfolding every
  table_end h = end (eqb acc 0) all (rw (drop_of_length-le ts h) at inv)

-- a walk over the tables
module _ (p : List ℕ → Bool) (ts : List (List ℕ)) (i : ℕ) (all : Bool) (inv : every p (drop i ts) ≡ all) where
  one_table : i < length ts → both (p (get_or ts i [])) (every p (drop (i + 1) ts)) ≡ all
  unfolding every
  one_table h = rw add-one (rw (drop-cons ts i [] h) at inv)

  pub next_table : i < length ts → p (get_or ts i []) ≡ true → every p (drop (i + 1) ts) ≡ all
  unfolding both
  next_table h t = rw t at (one_table h)

  pub bad_table : i < length ts → p (get_or ts i []) ≡ false → false ≡ all
  unfolding both
  bad_table h t = rw t at (one_table h)

  pub last_table : length ts ≤ i → true ≡ all
  unfolding every
  last_table h = rw (drop_of_length-le ts h) at inv

-- a part of a table, byte by byte
pub agrees_at : (f : List ℕ) (n j : ℕ) (t : List ℕ) → agrees f n j t ≡ true → (k : ℕ) → j ≤ k → k < j + n → get_or t k 0 ≡ get_or f k 0
unfolding agrees
agrees_at f zero j t h k a b = absurd (omega arith)
agrees_at f (suc n) j t h k a b =
    ⊎_elim
    (λ (l : k < suc j). let e : k ≡ j = omega arith in rw e (eqb-true _ _ (both_l _ _ h)))
    (λ (l : suc j ≤ k). agrees_at f n (suc j) t (both_r _ _ h) k l (omega arith))
    (split k (suc j))

pub agrees_by : (f : List ℕ) (n j : ℕ) (t : List ℕ) → ((k : ℕ) → j ≤ k → k < j + n → get_or t k 0 ≡ get_or f k 0) → agrees f n j t ≡ true
unfolding agrees
agrees_by f zero j t g = refl
agrees_by f (suc n) j t g = both_true _ _ (eq-eqb _ _ (g j (omega arith) (omega arith))) (agrees_by f n (suc j) t (λ k a b. g k (omega arith) (omega arith)))

-- a front that agrees is the same bytes
pub front_of : (fresh t : List ℕ) (n : ℕ) → n ≤ length t → n ≤ length fresh → agrees fresh n 0 t ≡ true → alike (take n t) (take n fresh) ≡ true
front_of fresh t n a b h =
    let m : length (take n t) ≡ n = simp length-take (omega arith) in
    let o : length (take n fresh) ≡ n = simp length-take (omega arith) in
    let e : take n t ≡ take n fresh = ext_get_or 0 _ _ (m ∙ sym o) (λ j g. let i : j < n = omega arith in rw (get_or-take n t j 0 i, get_or-take n fresh j 0 i) (agrees_at fresh n 0 t h j (omega arith) (omega arith))) in
    rw e (alike_self (take n fresh))

-- a part within another agrees where that one does
pub inside : (f : List ℕ) (n j m i : ℕ) (ts : List (List ℕ)) → j ≤ i → i + m ≤ j + n → every (agrees f n j) ts ≡ true → every (agrees f m i) ts ≡ true
inside f n j m i ts a b h =
    every_as (agrees f n j) (agrees f m i) ts (λ k l e. agrees_by f m i _ (λ x p q. agrees_at f n j _ e x (omega arith) (omega arith))) h

-- so a part that does not agree decides; and where it does, another that covers the rest
module _ (f : List ℕ) (n j m i : ℕ) (ts : List (List ℕ)) where
  pub bad_part : j ≤ i → i + m ≤ j + n → every (agrees f m i) ts ≡ false → false ≡ every (agrees f n j) ts
  bad_part a b h = by (every (agrees f n j) ts) refl
    where
      by : (t : Bool) → every (agrees f n j) ts ≡ t → false ≡ every (agrees f n j) ts
      by true e = sym h ∙ inside f n j m i ts a b e ∙ sym e
      by false e = sym e

  module _ (k o : ℕ) (cover : (x : ℕ) → j ≤ x → x < j + n → ((i ≤ x) × (x < i + m)) ⊎ ((o ≤ x) × (x < o + k))) where
    covered : every (agrees f m i) ts ≡ true → every (agrees f k o) ts ≡ true → every (agrees f n j) ts ≡ true
    covered p q =
        every_by (agrees f n j) ts
        (λ x l.
        agrees_by f n j _
        (λ y a b.
        ⊎_elim
        (λ (w : (i ≤ y) × (y < i + m)). agrees_at f m i _ (every_at (agrees f m i) ts p x l) y w.0 w.1)
        (λ (w : (o ≤ y) × (y < o + k)). agrees_at f k o _ (every_at (agrees f k o) ts q x l) y w.0 w.1)
        (cover y a b)))

    pub by_part : j ≤ o → o + k ≤ j + n → every (agrees f m i) ts ≡ true → every (agrees f k o) ts ≡ every (agrees f n j) ts
    by_part a b p = same_test _ _ (λ q. covered p q) (λ q. inside f n j k o ts a b q)

-- a turn of the loop over the columns: the fold so far and the test of what is left are the test of all
module _ (f : List ℕ) (ts : List (List ℕ)) (acc x to j : ℕ) (all : Bool) (inv : both (eqb acc 0) (every (agrees f (to - j) j) ts) ≡ all) where
  pub column_turn : j < to → eqb x 0 ≡ every (λ t. eqb (get_or t j 0) (get_or f j 0)) ts → both (eqb (bit_or acc x) 0) (every (agrees f (to - (j + 1)) (j + 1)) ts) ≡ all
  unfolding agrees
  column_turn l e =
      turn acc x _ _ all e
      (let d : to - j ≡ suc (to - suc j) = omega arith in
      rw (← every_both (λ t. eqb (get_or t j 0) (get_or f j 0)) (agrees f (to - (j + 1)) (j + 1)) ts, add-one) (rw d at inv))

  pub column_end : to ≤ j → eqb acc 0 ≡ all
  unfolding agrees
  column_end l = end (eqb acc 0) all (let z : to - j ≡ 0 = omega arith in sym (ap (λ (b : Bool). both (eqb acc 0) b) (every_by (agrees f (to - j) j) ts (λ i k. rw z refl))) ∙ inv)
