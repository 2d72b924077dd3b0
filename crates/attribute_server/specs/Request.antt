-- `process`: what a request tells, and what stands after it (document 01, "Handlers" and "Refusals of a call"). Assumes
-- nothing.
use Rattle.std.specs.Prelude.{ℕ, ◌≡◌, List, length, Result}
use Rattle.table_view.specs.Told.{Told}
use Rattle.attribute.specs.declared.Link.{Link}
use Rattle.peers.specs.Identity.{is_bad}
use Rattle.peers.specs.Slots.{slot_of}
use Rattle.peers.specs.declared.Identity.{Identity}
use Rattle.state.specs.State.{State, Waiting, waiting}
use Rattle.state.specs.Valid.{valid_with}
use Rattle.model.specs.View.{View, pending_of, view_of, own_table}
use Rattle.model.specs.Answer.{request_told}
use Rattle.model.specs.Told.{Answered}
use Rattle.model.specs.Change.{state_by, record_by, data_by}
use Rattle.model.specs.declared.Request.{Request}
use Rattle.admission.specs.Admission.{admission_by, is_bad_buffer, told_if, left_if, Admission}
use Rattle.model.specs.declared.Answer.{Answer}
use Rattle.model.specs.declared.CallError.{CallError}

-- a request: who asks, over which link, what, and the bytes that it brings
pub record Query : Type 0 where
  pub who : Identity
  pub link : Link
  pub request : Request
  pub brings : List ℕ

abbrev pub query : Identity → Link → Request → List ℕ → Query
query who link rq d = record { who = who; link = link; request = rq; brings = d }

-- what the link sees of the state, and what waits there
abbrev pub seen_of : State → Waiting → Query → View
seen_of s w q =
    view_of q.link s.list s.store (own_table s.row s.tables q.who) (pending_of w.prepared w.bytes)

module _ (s : State) (w : Waiting) (q : Query) (room : ℕ) where
  abbrev pub let_in : Admission
  let_in = admission_by (valid_with s w.prepared) (is_bad_buffer q.request (length q.brings) room) (is_bad q.who)

  abbrev pub process_told : Told
  process_told = told_if let_in (request_told (seen_of s w q) s.list s.store room q.request q.brings)

  abbrev pub process_left : State
  process_left =
      left_if let_in s (state_by q.link s (slot_of s.row q.who) (seen_of s w q).pending q.request q.brings)

  -- what waits at the link then
  abbrev pub waiting_by : Waiting
  waiting_by =
      waiting (record_by w.prepared q.request (length q.brings)) (data_by w.prepared w.bytes q.request q.brings)

  abbrev pub process_waits : Waiting
  process_waits = left_if let_in w waiting_by

-- the promise: the answer and the buffer, the state, and what waits at the link
pub record Processed (s : State) (w : Waiting) (q : Query) (out : List ℕ) (a : Result Answer CallError) (s' : State) (w' : Waiting) (new : List ℕ) : Type 0 where
  pub answer : Answered out new a (process_told s w q (length out))
  pub left : s' ≡ process_left s w q (length out)
  pub waits : w' ≡ process_waits s w q (length out)
