-- What a request leaves of a state: all as it was, or a value put at a listed place whose need the link meets. Said of
-- two hubs side by side; one hub stands beside itself. Assumes nothing.
use Rattle.std.specs.Prelude.{Option, Some, None, Ok, Err}
use mathlib.Core.Path.{◌≡◌, refl, subst}
use mathlib.Core.Bool.{Bool, true, false, cond}
use mathlib.Core.List.{List, []}
use Prim.Native.Nat.{ℕ, ◌<◌}
use lib.ListN.{length, get_or}
use Rattle.wire.proofs.Walk.{placed}
use Rattle.attribute.specs.Record.{attribute_of}
use Rattle.attribute.specs.Lookup.{place_of, has_handle}
use Rattle.attribute.specs.Needs.{may_write, Access}
use Rattle.attribute.specs.declared.Link.{Link}
use Rattle.state.specs.State.{State}
use Rattle.model.specs.View.{Pending}
use Rattle.model.specs.Answer.{is_due}
use Rattle.model.specs.Change.{if_granted, put_at, written_at, written, state_after, state_by}
use Rattle.model.specs.declared.Request.{Request}
use Rattle.model.specs.declared.Request.TheVariants as request
use Rattle.model.specs.declared.Change.{Change}
use Rattle.model.specs.declared.Change.TheVariants.{Write, WriteCommand, PrepareWrite, ExecuteWrite}
use Rattle.peers.specs.declared.Seat.{Seat}

-- a place that is found is one of the list
pub listed : (list : List (List ℕ)) (h i : ℕ) → place_of list h ≡ Some i → i < length list
listed list h i e = (placed (has_handle h) [] list 0 i e).inside

-- two hubs in which handles lie at the same places, under the same needs for writing
module _ (link : Link) (a b : State) (slot : Option Seat) (R : State → State → Type 0) (old : R a b)
    (places : (h : ℕ) → place_of a.list h ≡ place_of b.list h)
    (needs : (i : ℕ) → may_write (attribute_of (get_or a.list i [])) link ≡ may_write (attribute_of (get_or b.list i [])) link)
    (put : (i : ℕ) → i < length a.list → may_write (attribute_of (get_or a.list i [])) link ≡ Ok tt → (off : ℕ) (d : List ℕ) → R (put_at a slot i off d) (put_at b slot i off d)) where
  met : (r : Access) (i : ℕ) → i < length a.list → may_write (attribute_of (get_or a.list i [])) link ≡ r → (off : ℕ) (d : List ℕ) → R (if_granted r (put_at a slot i off d) a) (if_granted r (put_at b slot i off d) b)
  met (Ok tt) i l e off d = put i l e off d
  met (Err c) i l e off d = old

  at_place_lem : (f : Option ℕ) → ((i : ℕ) → f ≡ Some i → i < length a.list) → (off : ℕ) (d : List ℕ) → R (written_at link a slot f off d) (written_at link b slot f off d)
  at_place_lem None h off d = old
  at_place_lem (Some i) h off d = rw (← needs i) (met (may_write (attribute_of (get_or a.list i [])) link) i (h i refl) refl off d)

  by_handle : (h off : ℕ) (d : List ℕ) → R (written link a slot h off d) (written link b slot h off d)
  by_handle h off d =
      subst (λ (f : Option ℕ). R (written link a slot h off d) (written_at link b slot f off d)) (places h)
      (at_place_lem (place_of a.list h) (listed a.list h) off d)

  if_due : (t : Bool) (w : Pending) → R (cond t (written link a slot w.handle w.offset w.bytes) a) (cond t (written link b slot w.handle w.offset w.bytes) b)
  if_due true w = by_handle w.handle w.offset w.bytes
  if_due false w = old

  change_leaves_lem : (w : Pending) (c : Change) (d : List ℕ) → R (state_after link a slot w c d) (state_after link b slot w c d)
  unfolding state_after
  change_leaves_lem w (Write h) d = by_handle h 0 d
  change_leaves_lem w (WriteCommand h) d = by_handle h 0 d
  change_leaves_lem w (PrepareWrite h off) d = old
  change_leaves_lem w (ExecuteWrite flags) d = if_due (is_due w flags) w

  pub both_leave : (w : Pending) (rq : Request) (d : List ℕ) → R (state_by link a slot w rq d) (state_by link b slot w rq d)
  unfolding state_by
  both_leave w (request.Ask q) d = old
  both_leave w (request.FindByTypeValue g uuid) d = old
  both_leave w (request.Change c) d = change_leaves_lem w c d
  both_leave w (request.ExchangeMtu mtu) d = old
  both_leave w request.Confirmation d = old

-- of one hub
pub request_leaves_lem : (link : Link) (s : State) (slot : Option Seat) (P : State → Type 0) → P s
    → ((i : ℕ) → i < length s.list → may_write (attribute_of (get_or s.list i [])) link ≡ Ok tt → (off : ℕ) (d : List ℕ) → P (put_at s slot i off d))
    → (w : Pending) (rq : Request) (d : List ℕ) → P (state_by link s slot w rq d)
request_leaves_lem link s slot P old put = both_leave link s s slot (λ x y. P x) old (λ h. refl) (λ i. refl) put
