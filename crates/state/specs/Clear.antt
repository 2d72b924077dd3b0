-- The test of the slots that are nobody's. Assumes nothing.
use Rattle.std.specs.Prelude.{ℕ, ◌-◌, Bool, true, cond, List, [], ◌∷◌, take, drop}
use Rattle.wire.specs.Test.{both}
use Rattle.wire.specs.Bytes.{zeros}
use Rattle.peers.specs.Identity.{is_empty}
use Rattle.peers.specs.declared.Slot.{Slot}

-- an empty slot has zeros for its values, which run from `base` to `end`
unfoldable pub clear_ok : ℕ → ℕ → Slot → List ℕ → Bool
clear_ok base end s t = cond (is_empty s.id) (zeros (take (end - base) (drop base t))) true

unfoldable pub clears_ok : ℕ → ℕ → List Slot → List (List ℕ) → Bool
clears_ok base end [] ts = true
clears_ok base end (s ∷ ss) [] = true
clears_ok base end (s ∷ ss) (t ∷ ts) = both (clear_ok base end s t) (clears_ok base end ss ts)
