-- Prepare Write: what is granted goes into the 512 bytes, and the answer in four writes. Assumes nothing.
use Rattle.std.specs.Prelude.{Ok}
use mathlib.Core.Path.{◌≡◌}
use mathlib.Core.List.{List, [], ◌∷◌, ◌++◌}
use Prim.Native.Nat.{ℕ, ◌+◌, ◌≤◌}
use native.Mathlib.Omega.{arith}
use lib.ListN.{length}
use Rattle.std.proofs.lemmas.Bool.Decides.{nat_tests}
use Rattle.wire.specs.Size.{value_bytes}
use Rattle.wire.specs.Number.{word_bytes}
use Rattle.wire.specs.Cursor.{put, moved}
use Rattle.wire.specs.declared.cursor.WriteCursor.{WriteCursor}
use Rattle.state.specs.declared.Prepared.{Prepared}
use Rattle.model.specs.Answer.{Sent, size_rule, prepare_rule, echo_rsp}
use Rattle.model.specs.Change.{may_prepare}
use Rattle.model.proofs.Sending.{sent}
use Rattle.wire.proofs.Written.{wrote_next}
use Rattle.response.proofs.Errors.{one_byte}

-- what is granted goes in
module _ (p : Prepared) (h off n : ℕ) where
  pub granted_fits : may_prepare p h off n ≡ (Ok tt) → p.len + n ≤ value_bytes
  unfolding prepare_rule size_rule
  granted_fits e = grind (arith, nat_tests)

-- the answer
pub echoed : (old o₁ o₂ o₃ o₄ d : List ℕ) (h off : ℕ) (c₀ c₁ c₂ c₃ c₄ : WriteCursor) → 5 + length d ≤ length old → c₀.len ≡ 0
    → c₁ ≡ moved (length old) c₀ 1 → o₁ ≡ put old c₀.len (0x17 ∷ [])
    → c₂ ≡ moved (length o₁) c₁ 2 → o₂ ≡ put o₁ c₁.len (word_bytes h)
    → c₃ ≡ moved (length o₂) c₂ 2 → o₃ ≡ put o₂ c₂.len (word_bytes off)
    → c₄ ≡ moved (length o₃) c₃ (length d) → o₄ ≡ put o₃ c₃.len d
    → Sent old o₄ c₄.len (echo_rsp h off d)
echoed old o₁ o₂ o₃ o₄ d h off c₀ c₁ c₂ c₃ c₄ room z e₁ p₁ e₂ p₂ e₃ p₃ e₄ p₄ =
    let a = one_byte old o₁ 0x17 c₀ c₁ z (omega arith) e₁ p₁ in
    let b = wrote_next old o₁ o₂ (0x17 ∷ []) (word_bytes h) c₀ c₁ c₂ a (omega arith) e₂ p₂ in
    let e = wrote_next old o₂ o₃ (0x17 ∷ word_bytes h) (word_bytes off) c₀ c₂ c₃ b (omega arith) e₃ p₃ in
    sent old o₄ _ c₀ c₄ z (wrote_next old o₃ o₄ ((0x17 ∷ word_bytes h) ++ word_bytes off) d c₀ c₃ c₄ e (omega arith) e₄ p₄)
