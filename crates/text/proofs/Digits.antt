-- The decimal digits of a number, by its tenth. Assumes nothing.
use mathlib.Core.Path.{◌≡◌, refl, sym, ap, ◌∙◌}
use mathlib.Core.List.{List, [], ◌∷◌, ◌++◌}
use Prim.Native.Nat.{ℕ, zero, suc, ◌+◌, ◌/◌, ◌%◌, ◌≤◌, ◌<◌}
use native.Mathlib.Omega.{arith}
use lib.ListN.{length, length-append}
use mathlib.Core.Logic.{⊎_elim}
use Rattle.wire.proofs.Tests.{split}
use Rattle.text.specs.Hex.{digit_of}
use Rattle.text.specs.Decimal.{digits_in, decimal_of}
use Rattle.text.specs.Put.{Put}
use Rattle.text.proofs.Pieces.{put_then, put_as}

none_in : (f : ℕ) → digits_in f zero ≡ []
unfolding digits_in
none_in zero = refl
none_in (suc f) = refl

-- any two bounds that are enough give the same digits
Enough : ℕ → Type 0
Enough f = (g n : ℕ) → n ≤ f → n ≤ g → digits_in f n ≡ digits_in g n

one_more : (f : ℕ) → Enough f → Enough (suc f)
unfolding digits_in Enough
one_more f same g zero a b = sym (none_in g)
one_more f same zero (suc n) a b = absurd (omega arith)
one_more f same (suc g) (suc n) a b = ap (λ (l : List ℕ). l ++ (digit_of (suc n % 10) ∷ [])) (same g (suc n / 10) (omega arith) (omega arith))

same_in : (f : ℕ) → Enough f
unfolding digits_in Enough
same_in zero g zero a b = sym (none_in g)
same_in zero g (suc n) a b = absurd (omega arith)
same_in (suc f) g n a b = one_more f (same_in f) g n a b

digits_above : (n : ℕ) → 0 < n → digits_in n n ≡ decimal_of n
unfolding decimal_of
digits_above zero h = absurd (omega arith)
digits_above (suc n) h = refl

-- one digit, or those of the tenth and the last
pub one_digit : (n : ℕ) → n < 10 → digit_of n ∷ [] ≡ decimal_of n
unfolding decimal_of digits_in
one_digit zero h = refl
one_digit (suc n) h =
    let d : suc n / 10 ≡ 0 = omega arith in
    let m : suc n % 10 ≡ suc n = omega arith in
    rw (d, m, none_in n)

pub more_digits : (n : ℕ) → 10 ≤ n → decimal_of (n / 10) ++ (digit_of (n % 10) ∷ []) ≡ decimal_of n
unfolding decimal_of digits_in Enough
more_digits zero h = absurd (omega arith)
more_digits (suc n) h =
    ap (λ (l : List ℕ). l ++ (digit_of (suc n % 10) ∷ []))
    (sym (digits_above (suc n / 10) (omega arith)) ∙ same_in (suc n / 10) n (suc n / 10) (omega arith) (omega arith))

-- how many there are
pub one_long : (n : ℕ) → n < 10 → length (decimal_of n) ≡ 1
one_long n h = rw (← one_digit n h)

pub one_longer : (n : ℕ) → 10 ≤ n → length (decimal_of n) ≡ length (decimal_of (n / 10)) + 1
one_longer n h = rw (← more_digits n h, length-append)

one_step : (k n : ℕ) → length (decimal_of (n / 10)) ≤ k → length (decimal_of n) ≤ k + 1
one_step k n h =
    ⊎_elim
    (λ (a : n < 10). omega (arith, one_long n a))
    (λ (b : 10 ≤ n). omega (arith, one_longer n b))
    (split n 10)

-- a number below 100,000 has five at most
pub five_long : (n : ℕ) → n < 100000 → length (decimal_of n) ≤ 5
five_long n h =
    let a : n / 10 / 10 / 10 / 10 < 10 = omega arith in
    let b : length (decimal_of (n / 10 / 10 / 10 / 10)) ≤ 1 = omega (arith, one_long (n / 10 / 10 / 10 / 10) a) in
    one_step 4 n (one_step 3 (n / 10) (one_step 2 (n / 10 / 10) (one_step 1 (n / 10 / 10 / 10) b)))

-- the last digit put, after those of the tenth
module _ (old new : List ℕ) (at next n x : ℕ) where
  pub digit_put : x ≡ digit_of n → Put old new at next (x ∷ []) → n < 10 → Put old new at next (decimal_of n)
  digit_put e p h = put_as old new at next (digit_of n ∷ []) (decimal_of n) (rw e at p) (one_digit n h)

  pub last_put : (mid : List ℕ) (last : ℕ) → Put old mid at last (decimal_of (n / 10)) → x ≡ digit_of (n % 10) → Put mid new last next (x ∷ []) → 10 ≤ n → Put old new at next (decimal_of n)
  last_put mid last p e q h =
      put_as old new at next _ (decimal_of n) (put_then old mid new at last next (decimal_of (n / 10)) (digit_of (n % 10) ∷ []) p (rw e at q)) (more_digits n h)
