-- Text that is put into a lent buffer, piece after piece. Assumes nothing.
use Rattle.std.specs.Prelude.{ℕ, ◌+◌, ◌<◌, ◌≡◌, List, length}
use Rattle.std.proofs.lemmas.List.Edits.{sets}

-- vs stands from place `at` on, as much of it as the buffer has room for, and every other byte stays; the next piece
-- goes to the place behind all of vs, also where that lies past the buffer's end
pub record Put (old new : List ℕ) (at next : ℕ) (vs : List ℕ) : Type 0 where
  pub place : next ≡ at + length vs
  pub bytes : new ≡ sets old at vs

-- a text of this size or more is not made: so its places are numbers that can be added
abbrev pub Short : ℕ → List ℕ → Type 0
Short at vs = at + length vs < 4294967296
