-- What `set` leaves of the state: all as it was, or the value put at a listed place. Said of two hubs side by side; one
-- hub stands beside itself. Assumes nothing.
use Rattle.std.specs.Prelude.{Option, Some, None}
use mathlib.Core.Path.{◌≡◌, refl, subst}
use mathlib.Core.Bool.{Bool, true, false, cond}
use mathlib.Core.List.{List, []}
use Prim.Native.Nat.{ℕ, ◌<◌}
use lib.ListN.{length, get_or}
use Rattle.attribute.specs.Record.{attribute_of}
use Rattle.attribute.specs.Lookup.{place_of}
use Rattle.state.specs.State.{State}
use Rattle.model.specs.Change.{put_at}
use Rattle.model.proofs.Leaving.{listed}
use Rattle.application.specs.Calls.{is_wrong_length, store_left}
use Rattle.peers.specs.declared.Seat.{Seat}

-- two hubs in which handles lie at the same places, and lengths are wrong for the same
module _ (a b : State) (slot : Option Seat) (d : List ℕ) (R : State → State → Type 0) (old : R a b)
    (places : (h : ℕ) → place_of a.list h ≡ place_of b.list h)
    (wrong : (i : ℕ) → is_wrong_length (attribute_of (get_or a.list i [])) (length d) ≡ is_wrong_length (attribute_of (get_or b.list i [])) (length d))
    (put : (i : ℕ) → i < length a.list → R (put_at a slot i 0 d) (put_at b slot i 0 d)) where
  if_fitting : (t : Bool) (i : ℕ) → i < length a.list → R (cond t a (put_at a slot i 0 d)) (cond t b (put_at b slot i 0 d))
  if_fitting true i l = old
  if_fitting false i l = put i l

  at_place_lem : (f : Option ℕ) → ((i : ℕ) → f ≡ Some i → i < length a.list) → R (store_left a slot f d) (store_left b slot f d)
  at_place_lem None h = old
  at_place_lem (Some i) h = rw (← wrong i) (if_fitting (is_wrong_length (attribute_of (get_or a.list i [])) (length d)) i (h i refl))

  pub both_leave : (h : ℕ) → R (store_left a slot (place_of a.list h) d) (store_left b slot (place_of b.list h) d)
  both_leave h =
      subst (λ (f : Option ℕ). R (store_left a slot (place_of a.list h) d) (store_left b slot f d)) (places h)
      (at_place_lem (place_of a.list h) (listed a.list h))

-- of one hub
pub set_leaves : (s : State) (slot : Option Seat) (d : List ℕ) (P : State → Type 0) → P s → ((i : ℕ) → i < length s.list → P (put_at s slot i 0 d)) → (h : ℕ) → P (store_left s slot (place_of s.list h) d)
set_leaves s slot d P old put = both_leave s s slot d (λ x y. P x) old (λ h. refl) (λ i. refl) put
