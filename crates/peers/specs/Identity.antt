-- Identities (document 01, "Numbers"): 7 bytes, matched by equality; all zeros is the empty one. Assumes nothing.
use Rattle.std.specs.Prelude.{ℕ, ◌+◌, ◌*◌, ◌<◌, ◌≡◌, Bool, true, cond, List, [], ◌∷◌, length, eqb, ltb}
use Rattle.wire.specs.Test.{both}
use Rattle.wire.specs.Bytes.{zeros, alike}
use Rattle.peers.specs.declared.Identity.{Identity}

unfoldable pub same_id : Identity → Identity → Bool
same_id a b = both (eqb a.kind b.kind) (alike a.addr b.addr)

unfoldable pub is_empty : Identity → Bool
is_empty a = both (eqb a.kind 0) (zeros a.addr)

-- refusal 3: the identity is empty or its kind is above 1
unfoldable pub is_bad : Identity → Bool
is_bad a = cond (is_empty a) true (ltb 1 a.kind)

-- bytes as one number, low byte first; and an identity's seven
unfoldable pub packed : List ℕ → ℕ
packed [] = 0
packed (x ∷ xs) = x + 256 * packed xs

abbrev pub number_of : Identity → ℕ
number_of a = packed (a.kind ∷ a.addr)

-- each is below 256
unfoldable pub Small : List ℕ → Type 0
Small [] = Unit
Small (x ∷ xs) = (x < 256) × Small xs

-- what the code's types say of an identity, by which its number is no other's: seven bytes, each below 256
pub record Seven (a : Identity) : Type 0 where
  pub six : length a.addr ≡ 6
  pub small : Small (a.kind ∷ a.addr)
