-- Laws of identities: two that match are one, so that what matches one identity does not match another; and somebody is
-- not nobody. Assumes nothing.
use mathlib.Core.Path.{◌≡◌, refl, sym, ap, ◌∙◌}
use mathlib.Core.Bool.{Bool, true, false}
use borrow.Author.Tests.{eqb-true, eq-eqb}
use Rattle.wire.specs.Test.{both}
use Rattle.wire.specs.Bytes.{zeros}
use Rattle.wire.proofs.Tests.{both_l, both_r, both_true}
use Rattle.wire.proofs.Fold.{alike_eq, alike_self}
use Rattle.peers.specs.Identity.{same_id, is_empty}
use Rattle.peers.specs.Slots.{nobody}
use Rattle.peers.specs.declared.Identity.{Identity}

pub same_is : (a b : Identity) → same_id a b ≡ true → a ≡ b
unfolding same_id
same_is a b h =
    let k = eqb-true a.kind b.kind (both_l _ _ h) in
    let d = alike_eq a.addr b.addr (both_r _ _ h) in
    λ i. record { kind = k i; addr = d i }

pub same_self : (a : Identity) → same_id a a ≡ true
unfolding same_id
same_self a = both_true _ _ (eq-eqb a.kind a.kind refl) (alike_self a.addr)

-- what matches one identity does not match another
pub not_both : (x who t : Identity) → same_id x who ≡ true → same_id who t ≡ false → same_id x t ≡ false
not_both x who t h k = rw (same_is x who h) k

-- an empty slot is no tablet's
pub somebody_else : (x t : Identity) → is_empty x ≡ true → is_empty t ≡ false → same_id x t ≡ false
somebody_else x t h k = by (same_id x t) refl
  where
    by : (r : Bool) → same_id x t ≡ r → r ≡ false
    by true e = sym h ∙ ap is_empty (same_is x t e) ∙ k
    by false e = refl

pub nobody_empty : is_empty nobody ≡ true
unfolding is_empty zeros both
nobody_empty = refl
