-- The refusals that come before anything else, the lowest number first (document 01, "Refusals of a call"). Assumes
-- nothing.
use Rattle.std.specs.Prelude.{ℕ, ◌-◌, Bool, true, false, cond, [], ltb, Result, Ok, Err}
use Rattle.table_view.specs.Told.{Told}
use Rattle.peers.specs.Identity.{is_bad}
use Rattle.peers.specs.declared.Identity.{Identity}
use Rattle.state.specs.State.{State}
use Rattle.state.specs.Valid.{valid}
use Rattle.model.specs.Told.{told_answer}
use Rattle.model.specs.declared.Request.{Request}
use Rattle.model.specs.declared.Request.TheVariants as request
use Rattle.model.specs.declared.Change.{Change}
use Rattle.model.specs.declared.Change.TheVariants.{Write, WriteCommand, PrepareWrite, ExecuteWrite}
use Rattle.model.specs.declared.CallError.{CallError}
use Rattle.model.specs.declared.CallError.TheVariants.{BadState, BadBuffer, BadPeer}

-- a call is let in, or this is why not
abbrev pub Admission : Type 0
Admission = Result (Unit {0}) CallError

-- 1: the state is not valid; 2: the buffer; 3: the identity
unfoldable pub admission_by : Bool → Bool → Bool → Admission
admission_by right bad_buffer bad_peer =
    cond right (cond bad_buffer (Err BadBuffer) (cond bad_peer (Err BadPeer) (Ok tt))) (Err BadState)

-- a call of the application meets a state and names a peer
abbrev pub admission : State → Identity → Admission
admission s who = admission_by (valid s) false (is_bad who)

-- what a call tells, and what it leaves: a refusal, and everything as it was; or what it does
abbrev pub told_if : Admission → Told → Told
told_if (Ok x) t = t
told_if (Err e) t = told_answer [] (Err e)

abbrev pub left_if : {A : Type 0} → Admission → A → A → A
left_if (Ok x) old new = new
left_if (Err e) old new = old

-- refusal 2: a response buffer under 23 or over 517 bytes, or a Prepare Write value longer than the buffer minus 5
abbrev pub change_too_long : Change → ℕ → ℕ → Bool
change_too_long (Write h) n room = false
change_too_long (WriteCommand h) n room = false
change_too_long (PrepareWrite h off) n room = ltb (room - 5) n
change_too_long (ExecuteWrite flags) n room = false

abbrev pub is_too_long : Request → ℕ → ℕ → Bool
is_too_long (request.Ask a) n room = false
is_too_long (request.FindByTypeValue g uuid) n room = false
is_too_long (request.Change c) n room = change_too_long c n room
is_too_long (request.ExchangeMtu mtu) n room = false
is_too_long request.Confirmation n room = false

unfoldable pub is_bad_buffer : Request → ℕ → ℕ → Bool
is_bad_buffer rq n room = cond (ltb room 23) true (cond (ltb 517 room) true (is_too_long rq n room))
