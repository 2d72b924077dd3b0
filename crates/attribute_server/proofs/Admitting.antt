-- What a call that is let in may lean on. Assumes nothing.
use Rattle.std.specs.Prelude.{None}
use mathlib.Core.Path.{◌≡◌}
use mathlib.Core.Bool.{Bool, true, false, cond}
use Prim.Native.Nat.{ℕ, ◌-◌, ◌≤◌}
use native.Mathlib.Omega.{arith}
use lib.ListN.{length}
use borrow.Author.Tests.{ltb-false}
use Rattle.wire.proofs.Tests.{both_l, both_r}
use Rattle.peers.specs.Slots.{slot_of}
use Rattle.peers.specs.declared.Identity.{Identity}
use Rattle.peers.proofs.Laws.{slot_inside}
use Rattle.state.specs.State.{State}
use Rattle.state.specs.Valid.{valid, valid_with, record_ok}
use Rattle.state.specs.declared.Prepared.{Prepared}
use Rattle.state.proofs.Keeping.{tables_read, eight_slots, right_list}
use Rattle.model.specs.declared.Request.{Request}
use Rattle.model.specs.declared.Request.TheVariants as request
use Rattle.model.specs.declared.Change.{Change}
use Rattle.model.specs.declared.Change.TheVariants.{Write, WriteCommand, PrepareWrite, ExecuteWrite}
use Rattle.storing.specs.Ready.{SlotReady, ReadyToStore}
use Rattle.requests.specs.Slot.{needs_slot, given_slot}
use Rattle.writing.specs.Fits.{Fits}
use Rattle.requests.specs.Fits.{RequestFits}
use Rattle.admission.specs.Admission.{change_too_long, is_too_long, is_bad_buffer}
use Rattle.admission.proofs.Admitting.{room_enough, not_too_long}

-- a valid state is ready for a peer's call
module _ (s : State) (who : Identity) (h : valid s ≡ true) where
  pub slot_ready : SlotReady s.tables (slot_of s.row who)
  slot_ready = record { tables = tables_read s h; inside = λ k e. omega (arith, slot_inside s.row who k e, eight_slots s h) }

  pub ready : ReadyToStore s.list (length s.store) s.tables (slot_of s.row who)
  ready = record { right = right_list s h; own = slot_ready }

  -- also for one that is given no slot, where it needs none
  pub ready_given : (rq : Request) → ReadyToStore s.list (length s.store) s.tables (given_slot rq (slot_of s.row who))
  unfolding given_slot
  ready_given rq = by (needs_slot rq)
    where
      by : (t : Bool) → ReadyToStore s.list (length s.store) s.tables (cond t (slot_of s.row who) None)
      by true = ready
      by false =
          record {
            right = right_list s h;
            own = record { tables = tables_read s h; inside = λ k e. let z : ◌≡◌ {A = ℕ} 0 1 = cc in absurd (omega arith) };
          }

module _ (s : State) (p : Prepared) (h : valid_with s p ≡ true) where
  pub with_record : record_ok p ≡ true
  unfolding valid_with
  with_record = both_l _ _ h

  pub without_record : valid s ≡ true
  unfolding valid_with
  without_record = both_r _ _ h

-- the buffer
change_fits : (c : Change) (n room : ℕ) → 23 ≤ room → change_too_long c n room ≡ false → Fits c n room
change_fits (Write h) n room l e = tt
change_fits (WriteCommand h) n room l e = tt
change_fits (PrepareWrite h off) n room l e = omega (arith, ltb-false (room - 5) n e)
change_fits (ExecuteWrite flags) n room l e = tt

by_request : (rq : Request) (n room : ℕ) → 23 ≤ room → is_too_long rq n room ≡ false → RequestFits rq n room
by_request (request.Ask a) n room l e = tt
by_request (request.FindByTypeValue g uuid) n room l e = tt
by_request (request.Change c) n room l e = change_fits c n room l e
by_request (request.ExchangeMtu mtu) n room l e = tt
by_request request.Confirmation n room l e = tt

pub request_fits : (rq : Request) (n room : ℕ) → is_bad_buffer rq n room ≡ false → RequestFits rq n room
request_fits rq n room e = by_request rq n room (room_enough rq n room e) (not_too_long rq n room e)
