-- A request that needs no slot answers and leaves the same with any. Assumes nothing.
use Rattle.std.specs.Prelude.{Option, None}
use mathlib.Core.Path.{◌≡◌, refl, sym, ap, ◌∙◌}
use mathlib.Core.Bool.{true, false}
use mathlib.Core.List.{List}
use Prim.Native.Nat.{ℕ}
use Rattle.table_view.specs.Told.{value}
use Rattle.attribute.specs.Record.{Entry}
use Rattle.attribute.specs.declared.Link.{Link}
use Rattle.state.specs.State.{State}
use Rattle.model.specs.View.{Pending, seen_all, table_at, view_of}
use Rattle.model.specs.Rows.{entries_in}
use Rattle.model.specs.Answer.{ask_rsp, info_rsp, change_told, request_told}
use Rattle.model.specs.Change.{state_after, state_by}
use Rattle.model.specs.declared.Ask.TheVariants.{FindInformation, ReadByType, ReadByGroupType, Read, ReadBlob, ReadMultiple}
use Rattle.model.specs.declared.Change.TheVariants.{Write, WriteCommand, PrepareWrite, ExecuteWrite}
use Rattle.model.specs.declared.Request.{Request}
use Rattle.model.specs.declared.Request.TheVariants as request
use Rattle.requests.specs.Slot.{needs_slot, given_slot}
use Rattle.requests.proofs.Asking.{entries_seen}
use Rattle.peers.specs.declared.Seat.{Seat}

module _ (link : Link) (list : List (List ℕ)) (store : List ℕ) (ts : List (List ℕ)) (w : Pending) (room : ℕ) (d : List ℕ) (slot : Option Seat) where
  information : (t u : List ℕ) → entries_in (seen_all link list store t) ≡ entries_in (seen_all link list store u)
  information t u = entries_seen link list store t ∙ sym (entries_seen link list store u)

  pub told_given : (rq : Request) → request_told (view_of link list store (table_at ts (given_slot rq slot)) w) list store room rq d ≡ request_told (view_of link list store (table_at ts slot) w) list store room rq d
  unfolding request_told ask_rsp change_told given_slot
  told_given (request.Ask (FindInformation g)) = ap (λ (es : List Entry). value (info_rsp g room es)) (information (table_at ts None) (table_at ts slot))
  told_given (request.Ask (ReadByType g)) = refl
  told_given (request.Ask (ReadByGroupType g)) = refl
  told_given (request.Ask (Read h)) = refl
  told_given (request.Ask (ReadBlob h off)) = refl
  told_given (request.Ask ReadMultiple) = refl
  told_given (request.FindByTypeValue g uuid) = refl
  told_given (request.Change (Write h)) = refl
  told_given (request.Change (WriteCommand h)) = refl
  told_given (request.Change (PrepareWrite h off)) = refl
  told_given (request.Change (ExecuteWrite flags)) = refl
  told_given (request.ExchangeMtu mtu) = refl
  told_given request.Confirmation = refl

pub lent_given : (link : Link) (s : State) (w : Pending) (d : List ℕ) (slot : Option Seat) (rq : Request) → state_by link s (given_slot rq slot) w rq d ≡ state_by link s slot w rq d
unfolding state_by state_after given_slot
lent_given link s w d slot (request.Ask a) = refl
lent_given link s w d slot (request.FindByTypeValue g uuid) = refl
lent_given link s w d slot (request.Change (Write h)) = refl
lent_given link s w d slot (request.Change (WriteCommand h)) = refl
lent_given link s w d slot (request.Change (PrepareWrite h off)) = refl
lent_given link s w d slot (request.Change (ExecuteWrite flags)) = refl
lent_given link s w d slot (request.ExchangeMtu mtu) = refl
lent_given link s w d slot request.Confirmation = refl

-- the two slots
module _ (rq : Request) (slot : Option Seat) where
  pub no_slot : needs_slot rq ≡ false → None ≡ given_slot rq slot
  unfolding given_slot
  no_slot h = rw h refl

  pub own_slot : needs_slot rq ≡ true → slot ≡ given_slot rq slot
  unfolding given_slot
  own_slot h = rw h refl
