-- Identities as numbers: two are the same exactly where their numbers are. Assumes nothing.
use mathlib.Core.Path.{◌≡◌, refl, sym, ap, ◌∙◌}
use mathlib.Core.Bool.{Bool, true, false}
use mathlib.Core.List.{List, [], ◌∷◌, head-eq_of_cons-eq, tail-eq_of_cons-eq}
use Prim.Native.Nat.{ℕ, zero, suc, ◌+◌, ◌*◌, ◌<◌}
use native.Mathlib.Omega.{arith}
use lib.ListN.{length, get_or}
use lib.Dec.{eqb}
use borrow.Author.Tests.{eqb-true, eq-eqb}
use Rattle.wire.proofs.Tests.{both_true}
use Rattle.wire.proofs.Fold.{alike_self}
use Rattle.peers.specs.Identity.{same_id, packed, number_of, Small, Seven}
use Rattle.peers.specs.declared.Identity.{Identity}
use Rattle.peers.proofs.Identities.{same_is}

-- a byte and what is above it are told by their sum
digit : (x y p q : ℕ) → x < 256 → y < 256 → x + 256 * p ≡ y + 256 * q → (x ≡ y) × (p ≡ q)
digit x y p q h k e = (omega arith, omega arith)

-- so as many bytes with the same number are the same
unpacked : (xs ys : List ℕ) → length xs ≡ length ys → Small xs → Small ys → packed xs ≡ packed ys → xs ≡ ys
unfolding packed Small
unpacked [] [] e p q h = refl
unpacked [] (y ∷ ys) e p q h = absurd (omega arith)
unpacked (x ∷ xs) [] e p q h = absurd (omega arith)
unpacked (x ∷ xs) (y ∷ ys) e p q h =
    let d = digit x y (packed xs) (packed ys) p.0 q.0 h in
    rw (d.0, unpacked xs ys (omega arith) p.1 q.1 d.1)

-- an address, byte by byte
six_bytes : (u : List ℕ) → length u ≡ 6 → u ≡ get_or u 0 0 ∷ get_or u 1 0 ∷ get_or u 2 0 ∷ get_or u 3 0 ∷ get_or u 4 0 ∷ get_or u 5 0 ∷ []
six_bytes (x0 ∷ x1 ∷ x2 ∷ x3 ∷ x4 ∷ x5 ∷ []) h = refl
six_bytes [] h = absurd (omega arith)
six_bytes (x0 ∷ []) h = absurd (omega arith)
six_bytes (x0 ∷ x1 ∷ []) h = absurd (omega arith)
six_bytes (x0 ∷ x1 ∷ x2 ∷ []) h = absurd (omega arith)
six_bytes (x0 ∷ x1 ∷ x2 ∷ x3 ∷ []) h = absurd (omega arith)
six_bytes (x0 ∷ x1 ∷ x2 ∷ x3 ∷ x4 ∷ []) h = absurd (omega arith)
six_bytes (x0 ∷ x1 ∷ x2 ∷ x3 ∷ x4 ∷ x5 ∷ x6 ∷ u) h = absurd (omega arith)

-- bytes are small
all_small : (u : List ℕ) → ((i : ℕ) → get_or u i 0 < 256) → Small u
unfolding Small
all_small [] h = tt
all_small (x ∷ u) h = (h zero, all_small u (λ i. h (suc i)))

-- the number that `number` reads is the identity's, and its bytes are bytes
module _ (a : Identity) (h : length a.addr ≡ 6) where
  pub is_number : number_of a ≡ a.kind + 256 * (get_or a.addr 0 0 + 256 * (get_or a.addr 1 0 + 256 * (get_or a.addr 2 0 + 256 * (get_or a.addr 3 0 + 256 * (get_or a.addr 4 0 + 256 * get_or a.addr 5 0)))))
  unfolding packed
  is_number = omega (arith, ap packed (six_bytes a.addr h))

  pub seven_bytes : a.kind < 256 → ((i : ℕ) → get_or a.addr i 0 < 256) → Seven a
  unfolding Small
  seven_bytes k b = record { six = h; small = (k, all_small a.addr b) }

-- two identities are the same where their numbers are
module _ (a b : Identity) (p : Seven a) (q : Seven b) where
  bytes_same : number_of a ≡ number_of b → a.kind ∷ a.addr ≡ b.kind ∷ b.addr
  bytes_same h = unpacked (a.kind ∷ a.addr) (b.kind ∷ b.addr) (omega (arith, p.six, q.six)) p.small q.small h

  number_same : number_of a ≡ number_of b → same_id a b ≡ true
  unfolding same_id
  number_same h =
      let l = bytes_same h in
      both_true _ _ (eq-eqb a.kind b.kind (head-eq_of_cons-eq l)) (rw (tail-eq_of_cons-eq l) (alike_self b.addr))

  pub by_number_lem : eqb (number_of a) (number_of b) ≡ same_id a b
  by_number_lem = by (eqb (number_of a) (number_of b)) (same_id a b) refl refl
    where
      by : (t u : Bool) → eqb (number_of a) (number_of b) ≡ t → same_id a b ≡ u → t ≡ u
      by true true e f = refl
      by true false e f = sym (number_same (eqb-true (number_of a) (number_of b) e)) ∙ f
      by false true e f = sym e ∙ eq-eqb (number_of a) (number_of b) (ap number_of (same_is a b f))
      by false false e f = refl
