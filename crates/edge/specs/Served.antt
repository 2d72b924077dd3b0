-- What the boundary promises of a call, in one record for the form by value and the lent one. Assumes nothing.
use Rattle.std.specs.Prelude.{ℕ, ◌≤◌, ◌≡◌, List, length}
use Rattle.table_view.specs.Told.{Told}
use Rattle.state.specs.State.{State, Waiting}
use Rattle.model.specs.Told.{laid_on}
use Rattle.attribute_server.specs.Request.{Query, process_told, process_left, process_waits}
use Rattle.numbers.specs.Reply.{reply_to}
use Rattle.numbers.specs.declared.Reply.{Reply}

-- an answer into a buffer: the reply, and what stands in the buffer then; a reply never counts more bytes than the
-- buffer has
pub record Delivered (old new : List ℕ) (r : Reply) (t : Told) : Type 0 where
  pub reply : r ≡ reply_to t
  pub out : new ≡ laid_on old t
  pub fits : r.len ≤ length old

-- a request: the reply and the buffer, the state, and what waits at the link
pub record Served (s : State) (w : Waiting) (q : Query) (old : List ℕ) (r : Reply) (s' : State) (w' : Waiting) (new : List ℕ) : Type 0 where
  pub answer : Delivered old new r (process_told s w q (length old))
  pub left : s' ≡ process_left s w q (length old)
  pub waits : w' ≡ process_waits s w q (length old)
