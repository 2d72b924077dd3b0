-- The view's lookup by handle is the list's. Assumes nothing.
use Rattle.std.specs.Prelude.{Some, None}
use mathlib.Core.Path.{◌≡◌, refl}
use mathlib.Core.Bool.{Bool, true, false}
use mathlib.Core.List.{List, [], ◌∷◌, map}
use Prim.Native.Nat.{ℕ, zero, suc, ◌<◌}
use native.Mathlib.Omega.{arith}
use lib.ListN.{length, get_or}
use Rattle.wire.specs.First.{first}
use Rattle.wire.proofs.Walk.{placed, none_passes}
use Rattle.attribute.specs.Record.{entry_of, attribute_of}
use Rattle.attribute.specs.Lookup.{place_of, has_handle}
use Rattle.attribute.specs.declared.Link.{Link}
use Rattle.model.specs.View.{Seen, seen_by, seen_all, is_seen}

-- the first that passes among pictures
module _ {A B X : Type 0} (g : A → B) (p : B → Bool) (f : B → X) (x : X) (d : A) where
  first_at : (l : List A) (i : ℕ) → i < length l → ((j : ℕ) → j < i → p (g (get_or l j d)) ≡ false) → p (g (get_or l i d)) ≡ true → first p f x (map g l) ≡ f (g (get_or l i d))
  unfolding first
  first_at [] i h n t = absurd (omega arith)
  first_at (y ∷ l) zero h n t = rw t
  first_at (y ∷ l) (suc i) h n t = rw (n 0 (omega arith)) (first_at l i (omega arith) (λ j b. n (suc j) (omega arith)) t)

  first_none : (l : List A) → ((j : ℕ) → j < length l → p (g (get_or l j d)) ≡ false) → first p f x (map g l) ≡ x
  unfolding first
  first_none [] n = refl
  first_none (y ∷ l) n = rw (n 0 (omega arith)) (first_none l (λ j b. n (suc j) (omega arith)))

module _ (link : Link) (list : List (List ℕ)) (store t : List ℕ) (h : ℕ) {X : Type 0} (f : Seen → X) (x : X) where
  same_test : (r : List ℕ) → is_seen h (seen_by link store t r) ≡ has_handle h r
  unfolding seen_by entry_of attribute_of
  same_test r = refl

  pub seen_at : (i : ℕ) → place_of list h ≡ Some i → first (is_seen h) f x (seen_all link list store t) ≡ f (seen_by link store t (get_or list i []))
  seen_at i e =
      let w = placed (has_handle h) [] list 0 i e in
      first_at (seen_by link store t) (is_seen h) f x [] list i w.inside
      (λ j b. rw (same_test (get_or list j [])) (w.first j (omega arith) b))
      (rw (same_test (get_or list i [])) w.passes)

  pub seen_nowhere : place_of list h ≡ None → first (is_seen h) f x (seen_all link list store t) ≡ x
  seen_nowhere e =
      first_none (seen_by link store t) (is_seen h) f x [] list
      (λ j b. rw (same_test (get_or list j [])) (none_passes (has_handle h) [] list (length list) 0 (omega arith) e j (omega arith) b))
