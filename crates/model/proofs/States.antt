-- Two states of one row are the same where their parts are. Assumes nothing.
use mathlib.Core.Path.{◌≡◌}
use mathlib.Core.List.{List}
use Prim.Native.Nat.{ℕ}
use Rattle.peers.specs.declared.Slot.{Slot}
use Rattle.state.specs.State.{state}

pub same_state : {l l' : List (List ℕ)} {s s' : List ℕ} {t t' : List (List ℕ)} (row : List Slot) → l ≡ l' → s ≡ s' → t ≡ t' → state l s row t ≡ state l' s' row t'
same_state row p q r = λ i. record { list = p i; store = q i; row = row; tables = r i }
