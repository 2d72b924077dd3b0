-- A hub, the calls that can be made on it, what each tells and what it leaves: the definitions that the contracts of
-- the server's calls cite, and no others. Assumes nothing.
use Rattle.std.specs.Prelude.{ℕ, Bool, cond, List, eqb, length}
use Rattle.table_view.specs.Told.{Told}
use Rattle.attribute.specs.declared.Link.{Link}
use Rattle.attribute.specs.declared.Wish.{Wish}
use Rattle.peers.specs.declared.Identity.{Identity}
use Rattle.state.specs.State.{State, Waiting}
use Rattle.model.specs.declared.Request.{Request}
use Rattle.attribute_server.specs.Request.{Query, query, process_told, process_left, process_waits}
use Rattle.attribute_server.specs.Connection.{connect_told, connect_left, disconnect_told, disconnect_left}
use Rattle.attribute_server.specs.Value.{get_told, set_told, set_left, can_told}
use Rattle.attribute_server.specs.Subscription.{subscribed_told}
use Rattle.attribute_server.specs.Table.{fetched_told, restored_told, restored_left}

-- all that is lent to the calls: the state, and, as each link has a number, under it what waits there
pub record Hub : Type 0 where
  pub state : State
  pub waiting : ℕ → Waiting

-- a request: the link's level now and its number, what it asks and brings, and how long the response buffer is
pub record Asked : Type 0 where
  pub level : Link
  pub link : ℕ
  pub request : Request
  pub brings : List ℕ
  pub room : ℕ

-- the public calls that only look, with what each is given besides the hub and the identity
pub data Look : Type 0 where
  Get : ℕ → ℕ → Look
  Can : Wish → Link → ℕ → Look
  ShouldNotify : ℕ → Look
  ShouldIndicate : ℕ → Look
  GetTable : Look

-- and all of them
pub data Deed : Type 0 where
  Process : Asked → Deed
  Connect : Deed
  Disconnect : Bool → Deed
  Set : ℕ → List ℕ → Deed
  SetTable : List ℕ → Deed
  Looks : Look → Deed

pub record Call : Type 0 where
  pub who : Identity
  pub deed : Deed

-- a request of somebody's
abbrev pub query_of : Identity → Asked → Query
query_of who q = query who q.level q.request q.brings

-- what a call tells
unfoldable pub look_told : State → Identity → Look → Told
look_told s who (Get h room) = get_told s who h room
look_told s who (Can wish link h) = can_told s who wish link h
look_told s who (ShouldNotify h) = subscribed_told s who h 1
look_told s who (ShouldIndicate h) = subscribed_told s who h 2
look_told s who GetTable = fetched_told s who

unfoldable pub told_by : Hub → Identity → Deed → Told
told_by x who (Process q) = process_told x.state (x.waiting q.link) (query_of who q) q.room
told_by x who Connect = connect_told x.state who
told_by x who (Disconnect bonded) = disconnect_told x.state who bonded
told_by x who (Set h d) = set_told x.state who h (length d)
told_by x who (SetTable saved) = restored_told x.state who saved
told_by x who (Looks l) = look_told x.state who l

abbrev pub call_told : Hub → Call → Told
call_told x c = told_by x c.who c.deed

-- the hub with another state; with something else waiting at one link
abbrev pub with_state : Hub → State → Hub
with_state x s = record { state = s; waiting = x.waiting }

abbrev pub waiting_at : (ℕ → Waiting) → ℕ → Waiting → ℕ → Waiting
waiting_at w i y j = cond (eqb j i) y (w j)

abbrev pub with_waiting : Hub → ℕ → Waiting → Hub
with_waiting x i y = record { state = x.state; waiting = waiting_at x.waiting i y }

-- what a call leaves: one that only looks leaves all as it was
unfoldable pub step_by : Hub → Identity → Deed → Hub
step_by x who (Process q) =
    let w = x.waiting q.link in
    with_waiting (with_state x (process_left x.state w (query_of who q) q.room)) q.link (process_waits x.state w (query_of who q) q.room)
step_by x who Connect = with_state x (connect_left x.state who)
step_by x who (Disconnect bonded) = with_state x (disconnect_left x.state who bonded)
step_by x who (Set h d) = with_state x (set_left x.state who h d)
step_by x who (SetTable saved) = with_state x (restored_left x.state who saved)
step_by x who (Looks l) = x

abbrev pub step : Hub → Call → Hub
step x c = step_by x c.who c.deed
