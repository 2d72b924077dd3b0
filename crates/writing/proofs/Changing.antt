-- A valid record's bytes, and what Execute Write commits. Assumes nothing.
use mathlib.Core.Path.{◌≡◌}
use mathlib.Core.Bool.{true, false}
use Prim.Native.Nat.{ℕ, ◌≤◌}
use borrow.Author.Tests.{eq-eqb, ne_eqb, leb-true}
use Rattle.wire.specs.Size.{value_bytes}
use Rattle.wire.specs.Test.{both}
use Rattle.wire.proofs.Tests.{both_l}
use Rattle.state.specs.Valid.{record_ok}
use Rattle.state.specs.declared.Prepared.{Prepared}
use Rattle.model.specs.View.{Pending}
use Rattle.model.specs.Answer.{is_due}

-- a valid record: at most 512 bytes
pub record_fits : (p : Prepared) → record_ok p ≡ true → p.len ≤ value_bytes
unfolding record_ok
record_fits p h = leb-true _ _ (both_l _ _ h)

-- what is due
module _ (w : Pending) (flags : ℕ) where
  pub other_flags : (flags ≡ 1 → ⊥) → is_due w flags ≡ false
  unfolding is_due both
  other_flags h = rw (ne_eqb flags 1 h)

  pub nothing_pending : w.handle ≡ 0 → flags ≡ 1 → is_due w flags ≡ false
  unfolding is_due both
  nothing_pending e f = rw (eq-eqb flags 1 f, eq-eqb w.handle 0 e)

  pub is_due_lem : (w.handle ≡ 0 → ⊥) → flags ≡ 1 → is_due w flags ≡ true
  unfolding is_due both
  is_due_lem e f = rw (eq-eqb flags 1 f, ne_eqb w.handle 0 e)
