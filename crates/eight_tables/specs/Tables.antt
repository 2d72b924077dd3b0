-- Tests of all tables at once. Assumes nothing.
use Rattle.std.specs.Prelude.{ℕ, zero, suc, ◌≡◌, ◌<◌, Bool, true, List, [], ◌∷◌, length, get_or, eqb}
use Rattle.wire.specs.Size.{table_bytes}
use Rattle.wire.specs.Test.{both}

-- every table passes
unfoldable pub every : (List ℕ → Bool) → List (List ℕ) → Bool
every p [] = true
every p (t ∷ ts) = both (p t) (every p ts)

-- it has its 640 bytes
unfoldable pub sized : List ℕ → Bool
sized t = eqb (length t) table_bytes

-- the n bytes from place j on are those of f, whose bytes past its end are zeros
unfoldable pub agrees : List ℕ → ℕ → ℕ → List ℕ → Bool
agrees f zero j t = true
agrees f (suc n) j t = both (eqb (get_or t j 0) (get_or f j 0)) (agrees f n (suc j) t)

-- what gives a byte for a place answers at each place of a table, and what it answers are the bytes of f
abbrev pub Answers : (ℕ → Type 0) → Type 0
Answers pre = (j : ℕ) → j < table_bytes → pre j

abbrev pub Gives : (ℕ → ℕ → Type 0) → List ℕ → Type 0
Gives post f = (j r : ℕ) → post j r → r ≡ get_or f j 0
