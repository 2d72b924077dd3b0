-- By halves, where handles ascend, as they do in a right list: where a handle parts the list, and that its place is the
-- plain walk's. Assumes nothing.
use Rattle.std.specs.Prelude.{Some, None}
use Rattle.std.specs.List.Sorted.{IsNonDecreasingBy, IsPartitionPoint}
use Rattle.std.proofs.lemmas.List.Sorted.{IsNonDecreasingBy-from_default}
use mathlib.Core.Path.{◌≡◌, sym, ap}
use mathlib.Core.Bool.{true, false}
use mathlib.Core.List.{List, []}
use mathlib.Core.Logic.{⊎_elim}
use Prim.Native.Nat.{ℕ, ◌-◌, ◌≤◌, ◌<◌}
use native.Mathlib.Nat.{eq-or-lt_of_le}
use native.Mathlib.Omega.{arith}
use lib.ListN.{length, get_or}
use lib.Dec.{ltb}
use borrow.Author.Tests.{eq-eqb, ne_eqb, ltb-true, ltb-false}
use Rattle.wire.proofs.Tests.{split}
use Rattle.wire.proofs.Walk.{at_first, nowhere}
use Rattle.attribute.specs.Rules.{list_ok}
use Rattle.attribute.specs.Lookup.{handle_of, has_handle, place_of}
use Rattle.attribute_walk.specs.Walk.{Ascends, Parts}
use Rattle.attribute.proofs.Shape.{handle_is, ascends}

-- the handles of a right list ascend
pub ascending : (list : List (List ℕ)) (store : ℕ) → list_ok list store ≡ true → Ascends list
ascending list store ok =
    record {
      above = λ i j b l. omega (arith, ascends list store ok i j b l, handle_is (get_or list i []), handle_is (get_or list j []));
    }

-- a later place has no lower handle
pub climbs : (list : List (List ℕ)) → Ascends list → (i j : ℕ) → i ≤ j → j < length list → handle_of (get_or list i []) ≤ handle_of (get_or list j [])
climbs list a i j b l =
    ⊎_elim
    (λ (s : i ≡ j). omega (arith, ap (λ k. handle_of (get_or list k [])) s))
    (λ (m : i < j). omega (arith, a.above i j m l))
    (eq-or-lt_of_le b)

-- the point where a test of the handle parts the list parts it at the handle
pub rises : (list : List (List ℕ)) → Ascends list → IsNonDecreasingBy handle_of list
rises list a = IsNonDecreasingBy-from_default handle_of list [] (λ i j b l. climbs list a i j b l)

pub parts_at : (list : List (List ℕ)) (h p : ℕ) → p ≤ length list → IsPartitionPoint (λ r. ltb (handle_of r) h ≡ true) (λ r. ltb (handle_of r) h ≡ false) list p → Parts list h p
parts_at list h p b m =
    record {
      inside = b;
      below = λ j k. ltb-true _ _ (m.0 j [] (omega arith) k);
      above = λ j k l. ltb-false _ _ (m.1 j [] k l);
    }

module _ (list : List (List ℕ)) (h : ℕ) where
  -- the list starts in the range, or ends in it
  pub parts_first : (v : ℕ) → Ascends list → v ≡ handle_of (get_or list 0 []) → h ≤ v → Parts list h 0
  parts_first v asc e m =
      record {
        inside = omega arith;
        below = λ j b. absurd (omega arith);
        above = λ j a b. omega (arith, climbs list asc 0 j a b);
      }

  pub parts_last : (v : ℕ) → Ascends list → 0 < length list → v ≡ handle_of (get_or list (length list - 1) []) → v < h → Parts list h (length list)
  parts_last v asc z e m =
      record {
        inside = omega arith;
        below = λ j b. omega (arith, climbs list asc j (length list - 1) (omega arith) (omega arith));
        above = λ j a b. absurd (omega arith);
      }

-- the place of a handle
module _ (list : List (List ℕ)) (h p : ℕ) (a : Ascends list) where
  -- the place that has the handle is the one that the walk finds
  pub found : p < length list → handle_of (get_or list p []) ≡ h → Some p ≡ place_of list h
  found l e =
      sym (at_first (has_handle h) [] list p 0 p (omega arith) l
      (λ k b c. ne_eqb (handle_of (get_or list k [])) h (λ q. omega (arith, a.above k p c l)))
      (eq-eqb _ _ e))

  -- and where the place has another, the walk finds none
  pub missing : Parts list h p → (p < length list → handle_of (get_or list p []) ≡ h → ⊥) → None ≡ place_of list h
  missing k n =
      sym (nowhere (has_handle h) [] list 0
      (λ i z l.
      ne_eqb (handle_of (get_or list i [])) h
      (λ q.
      ⊎_elim
      (λ (m : i < p). omega (arith, k.below i m))
      (λ (m : p ≤ i). n (omega arith) (omega (arith, climbs list a p i m l, k.above p (omega arith) (omega arith))))
      (split i p))))

  pub missing_end : Parts list h p → length list ≤ p → None ≡ place_of list h
  missing_end k l = missing k (λ m e. absurd (omega arith))
