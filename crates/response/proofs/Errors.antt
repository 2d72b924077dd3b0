-- What four writes of the cursor make of an error, and one of a byte. Assumes nothing.
use mathlib.Core.Path.{◌≡◌}
use mathlib.Core.List.{List, [], ◌∷◌}
use Prim.Native.Nat.{ℕ, ◌≤◌}
use native.Mathlib.Omega.{arith}
use lib.ListN.{length}
use Rattle.wire.specs.Number.{word_bytes}
use Rattle.wire.specs.Cursor.{put, moved, Wrote}
use Rattle.wire.specs.declared.cursor.WriteCursor.{WriteCursor}
use Rattle.wire.proofs.Written.{wrote, wrote_next}
use Rattle.model.specs.Answer.{Sent, error_bytes}
use Rattle.model.proofs.Sending.{sent}

pub one_byte : (old new : List ℕ) (v : ℕ) (c n : WriteCursor) → c.len ≡ 0 → 1 ≤ length old → n ≡ moved (length old) c 1 → new ≡ put old c.len (v ∷ []) → Wrote old new c n (v ∷ [])
one_byte old new v c n z h e p = wrote old c new (v ∷ []) n (omega arith) e p

pub error : (old o₁ o₂ o₃ o₄ : List ℕ) (op h code : ℕ) (c₀ c₁ c₂ c₃ c₄ : WriteCursor) → 5 ≤ length old → c₀.len ≡ 0
    → c₁ ≡ moved (length old) c₀ 1 → o₁ ≡ put old c₀.len (0x01 ∷ [])
    → c₂ ≡ moved (length o₁) c₁ 1 → o₂ ≡ put o₁ c₁.len (op ∷ [])
    → c₃ ≡ moved (length o₂) c₂ 2 → o₃ ≡ put o₂ c₂.len (word_bytes h)
    → c₄ ≡ moved (length o₃) c₃ 1 → o₄ ≡ put o₃ c₃.len (code ∷ [])
    → Sent old o₄ c₄.len (error_bytes op h code)
unfolding error_bytes
error old o₁ o₂ o₃ o₄ op h code c₀ c₁ c₂ c₃ c₄ room z e₁ p₁ e₂ p₂ e₃ p₃ e₄ p₄ =
    let a = one_byte old o₁ 0x01 c₀ c₁ z (omega arith) e₁ p₁ in
    let b = wrote_next old o₁ o₂ (0x01 ∷ []) (op ∷ []) c₀ c₁ c₂ a (omega arith) e₂ p₂ in
    let d = wrote_next old o₂ o₃ (0x01 ∷ op ∷ []) (word_bytes h) c₀ c₂ c₃ b (omega arith) e₃ p₃ in
    sent old o₄ _ c₀ c₄ z (wrote_next old o₃ o₄ (0x01 ∷ op ∷ word_bytes h) (code ∷ []) c₀ c₃ c₄ d (omega arith) e₄ p₄)
