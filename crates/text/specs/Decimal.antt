-- A number in decimal digits, in ASCII. Assumes nothing.
use Rattle.std.specs.Prelude.{ℕ, zero, suc, ◌/◌, ◌%◌, List, [], ◌∷◌, ◌++◌}
use Rattle.text.specs.Hex.{digit_of}

-- the digits of a number above 0: those of its tenth, then its last; none of 0. Of so many digits at most
unfoldable pub digits_in : ℕ → ℕ → List ℕ
digits_in zero n = []
digits_in (suc most) zero = []
digits_in (suc most) (suc n) = digits_in most (suc n / 10) ++ (digit_of (suc n % 10) ∷ [])

-- a number has no more digits than it counts; 0 is one digit
unfoldable pub decimal_of : ℕ → List ℕ
decimal_of zero = digit_of 0 ∷ []
decimal_of (suc n) = digits_in (suc n) (suc n)
