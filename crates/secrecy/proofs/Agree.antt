-- Agreement is kept by every call of anybody: one clause a call. Assumes nothing.
use Rattle.std.specs.Prelude.{Option, Ok, Err}
use mathlib.Core.Path.{◌≡◌, sym, ap, subst, ◌∙◌}
use mathlib.Core.Bool.{Bool, true, false, cond}
use Prim.Native.Nat.{ℕ}
use lib.Dec.{eqb}
use lib.ListN.{length}
use Rattle.wire.specs.Size.{value_bytes}
use Rattle.wire.proofs.Tests.{both_true}
use Rattle.peers.specs.Identity.{is_bad}
use Rattle.peers.specs.Slots.{slot_of}
use Rattle.peers.specs.declared.Identity.{Identity}
use Rattle.peers.specs.declared.Move.{Move}
use Rattle.state.specs.State.{State, Waiting, after_move}
use Rattle.state.specs.Valid.{record_ok, valid_with}
use Rattle.model.specs.View.{Pending}
use Rattle.model.specs.Change.{state_by}
use Rattle.admission.specs.Admission.{admission_by, admission, is_bad_buffer, left_if, Admission}
use Rattle.attribute_server.specs.Request.{Query, let_in, seen_of}
use Rattle.secrecy.specs.Hub.{Hub, Asked, Deed, Process, Connect, Disconnect, Set, SetTable, Looks, Call, query_of, with_state, step_by, step}
use Rattle.secrecy.specs.Valid.{Valid}
use Rattle.secrecy.specs.Agree.{pending_at, AgreeOn, Agree}
use Rattle.secrecy.proofs.Rows.{connecting_same, leaving_same, moved_same}
use Rattle.secrecy.proofs.Kept.{Sound, MoveSame, connect_same, disconnect_same}
use Rattle.secrecy.proofs.Shared.{restored_same, asked_same, stored_same}
use Rattle.secrecy.proofs.Waiting.{state_settled, no_bytes, waits_same}

-- a request is let in to both, or refused by both with one number: the states are valid
pub let_in_same : (a b : Hub) → Valid a → Valid b → (who : Identity) (q : Asked)
    → let_in a.state (a.waiting q.link) (query_of who q) q.room ≡ let_in b.state (b.waiting q.link) (query_of who q) q.room
unfolding valid_with
let_in_same a b x y who q =
    ap (λ (v : Bool). admission_by v (is_bad_buffer q.request (length q.brings) q.room) (is_bad who))
    (both_true _ _ (x.waiting q.link) x.state ∙ sym (both_true _ _ (y.waiting q.link) y.state))

-- and what holds of both ways holds of the one that both take
both_left : {A : Type 0} (R : A → A → Type 0) (v w : Admission) → v ≡ w → (x y x' y' : A) → R x y → R x' y' → R (left_if v x x') (left_if w y y')
both_left R v w e x y x' y' old new = subst (λ (u : Admission). R (left_if v x x') (left_if u y y')) e (by v)
  where
    by : (u : Admission) → R (left_if u x x') (left_if u y y')
    by (Ok tt) = new
    by (Err n) = old

sound : (x : Hub) → Valid x → Sound x.state
sound x v = record { right = v.state; sized = v.sized }

module _ (t : Identity) (may : ℕ → Bool) (a b : Hub) (x : Valid a) (y : Valid b) (g : Agree t may a b) (who : Identity) where
  abbrev s : State
  s = a.state

  abbrev z : State
  z = b.state

  left_agrees : (s' z' : State) → AgreeOn t may s' z' → Agree t may (with_state a (left_if (admission s who) s s')) (with_state b (left_if (admission z who) z z'))
  left_agrees s' z' k =
      record {
        state = both_left (AgreeOn t may) (admission s who) (admission z who) (ap (λ (v : Bool). admission_by v false (is_bad who)) (x.state ∙ sym y.state)) s z s' z' g.state k;
        pending = g.pending;
      }

  -- one move in both
  move_agrees : (m m' : Option Move) → m ≡ m' → MoveSame t s z (sound a x) (sound b y) g.state.list g.state.row g.state.kept m
      → Agree t may (with_state a (left_if (admission s who) s (after_move s m))) (with_state b (left_if (admission z who) z (after_move z m')))
  unfolding MoveSame
  move_agrees m m' e k =
      left_agrees (after_move s m) (after_move z m')
      (subst (λ (n : Option Move). AgreeOn t may (after_move s m) (after_move z n)) e
      (record { list = g.state.list; row = moved_same s.row z.row g.state.row m; shared = g.state.shared; kept = k }))

  -- a request: what is pending at its link is the same before it, and after it
  module _ (q : Asked) where
    abbrev k : Query
    k = query_of who q

    abbrev w : Waiting
    w = a.waiting q.link

    abbrev v : Waiting
    v = b.waiting q.link

    abbrev asked : State → Pending → State
    asked h u = state_by q.level h (slot_of h.row who) u q.request q.brings

    settled_is : (h : State) (u : Waiting) → record_ok u.prepared ≡ true → length u.bytes ≡ value_bytes → asked h (seen_of h u k).pending ≡ asked h (pending_at u)
    settled_is h u ok n = state_settled (seen_of h u k).pending (no_bytes u.prepared ok u.bytes n) q.level h (slot_of h.row who) q.brings q.request

    asked_agrees : AgreeOn t may (asked s (seen_of s w k).pending) (asked z (seen_of z v k).pending)
    asked_agrees =
        rw (settled_is s w (x.waiting q.link) (x.bytes q.link), settled_is z v (y.waiting q.link) (y.bytes q.link), ← g.pending q.link)
        (asked_same t may s z (sound a x) (sound b y) g.state who q.level (pending_at w) q.request q.brings)

    process_agrees : Agree t may (step_by a who (Process q)) (step_by b who (Process q))
    unfolding step_by
    process_agrees =
        let e = let_in_same a b x y who q in
        let new = waits_same w v (x.waiting q.link) (y.waiting q.link) (x.bytes q.link) (y.bytes q.link) (g.pending q.link) s z k q.room in
        let left = both_left (λ (u u' : Waiting). pending_at u ≡ pending_at u') (let_in s w k q.room) (let_in z v k q.room) e w v _ _ (g.pending q.link) new in
        record {
          state = both_left (AgreeOn t may) (let_in s w k q.room) (let_in z v k q.room) e s z _ _ g.state asked_agrees;
          pending = λ j. by j _ _ left (eqb j q.link);
        }
      where
        by : (j : ℕ) (u u' : Waiting) → pending_at u ≡ pending_at u' → (c : Bool) → pending_at (cond c u (a.waiting j)) ≡ pending_at (cond c u' (b.waiting j))
        by j u u' same true = same
        by j u u' same false = g.pending j

  deed_agrees : (d : Deed) → Agree t may (step_by a who d) (step_by b who d)
  unfolding step_by
  deed_agrees (Process q) = process_agrees q
  deed_agrees Connect =
      move_agrees _ _ (connecting_same s.row z.row g.state.row who) (connect_same t s z (sound a x) (sound b y) g.state.list g.state.row g.state.kept who)
  deed_agrees (Disconnect bonded) =
      move_agrees _ _ (leaving_same s.row z.row g.state.row who bonded) (disconnect_same t s z (sound a x) (sound b y) g.state.list g.state.row g.state.kept who bonded)
  deed_agrees (Set h d) = left_agrees _ _ (stored_same t may s z (sound a x) (sound b y) g.state who h d)
  deed_agrees (SetTable saved) = left_agrees _ _ (restored_same t may s z (sound a x) (sound b y) g.state who saved)
  deed_agrees (Looks l) = g

pub step_agrees : (t : Identity) (may : ℕ → Bool) (c : Call) (a b : Hub) → Valid a → Valid b → Agree t may a b → Agree t may (step a c) (step b c)
step_agrees t may c a b x y g = deed_agrees t may a b x y g c.who c.deed
