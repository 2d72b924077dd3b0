-- Turns of the loop that puts hex pairs. Assumes nothing.
use mathlib.Core.Path.{◌≡◌, refl}
use mathlib.Core.List.{List, [], ◌∷◌}
use Prim.Native.Nat.{ℕ, ◌+◌, ◌*◌, ◌/◌, ◌%◌, ◌≤◌, ◌<◌}
use native.Mathlib.Numerals.{add-one}
use native.Mathlib.Omega.{arith}
use lib.ListN.{length, get_or, drop, drop_of_length-le}
use lib.Seq.{drop-cons}
use Rattle.text.specs.Hex.{digit_of, hex_of}
use Rattle.text.specs.Put.{Put, Short}
use Rattle.text.proofs.Pieces.{Going, going_more, going_end, going_short}

one_left : (d : List ℕ) (i : ℕ) → i < length d → drop i d ≡ get_or d i 0 ∷ drop (i + 1) d
one_left d i h = rw add-one (drop-cons d i 0 h)

pair_left : (d : List ℕ) (i : ℕ) → i < length d → hex_of (drop i d) ≡ digit_of (get_or d i 0 / 16) ∷ digit_of (get_or d i 0 % 16) ∷ hex_of (drop (i + 1) d)
unfolding hex_of
pair_left d i h = rw (one_left d i h)

-- hex pairs, from place i of d on
module _ (old : List ℕ) (at : ℕ) (d out : List ℕ) (next i : ℕ) (g : Going old at (hex_of d) out next (hex_of (drop i d))) where
  pub pair_short : Short at (hex_of d) → i < length d → next + 2 < 4294967296
  pair_short s h = going_short old at (hex_of d) out next (digit_of (get_or d i 0 / 16) ∷ digit_of (get_or d i 0 % 16) ∷ []) (hex_of (drop (i + 1) d)) (rw (pair_left d i h) at g) s

  pub pair_more : (mid new : List ℕ) (low last x y : ℕ) → i < length d → x ≡ digit_of (get_or d i 0 / 16) → Put out mid next low (x ∷ []) → y ≡ digit_of (get_or d i 0 % 16) → Put mid new low last (y ∷ []) → Going old at (hex_of d) new last (hex_of (drop (i + 1) d))
  pair_more mid new low last x y h a p b q =
      let high = going_more old at (hex_of d) out mid next low (digit_of (get_or d i 0 / 16) ∷ []) (digit_of (get_or d i 0 % 16) ∷ hex_of (drop (i + 1) d)) (rw (pair_left d i h) at g) (rw a at p) in
      going_more old at (hex_of d) mid new low last (digit_of (get_or d i 0 % 16) ∷ []) (hex_of (drop (i + 1) d)) high (rw b at q)

  pub pair_end : length d ≤ i → Put old out at next (hex_of d)
  unfolding hex_of
  pair_end h = going_end old at (hex_of d) out next (rw (drop_of_length-le d h) at g)

pub hex_length : (d : List ℕ) → length (hex_of d) ≡ 2 * length d
unfolding hex_of
hex_length [] = refl
hex_length (x ∷ xs) = rw (hex_length xs) (omega arith)
