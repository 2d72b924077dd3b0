-- Demand 3: two hubs that agree on all that tablet t may see, given the same calls in the same order, answer every
-- request of t with the same bytes and count. Assumes nothing.
use Rattle.std.specs.Prelude.{ℕ, ◌≡◌, Bool, true, false, cond, List, [], ◌∷◌, ◌++◌, length, Result}
use Rattle.wire.specs.Test.{both}
use Rattle.wire.specs.Run.{after_all}
use Rattle.table_view.specs.Told.{Told}
use Rattle.attribute.specs.Needs.{access_of, Access}
use Rattle.peers.specs.Identity.{same_id}
use Rattle.peers.specs.declared.Identity.{Identity}
use Rattle.state.specs.State.{State, Waiting}
use Rattle.model.specs.View.{if_met}
use Rattle.model.specs.declared.Request.{Request}
use Rattle.model.specs.declared.Request.TheVariants as request
use Rattle.attribute_server.specs.Request.{Processed}
use Rattle.secrecy.specs.Hub.{Hub, Asked, Deed, Process, Connect, Disconnect, Set, SetTable, Looks, Call, query_of, call_told, step}
use Rattle.secrecy.specs.Valid.{Valid}
use Rattle.secrecy.specs.Agree.{Agree}
use Rattle.model.specs.declared.Answer.{Answer}
use Rattle.model.specs.declared.CallError.{CallError}
use Rattle.wire.specs.declared.att.AttError.TheVariants.{ReadNotPermitted}

-- THE EXCEPTION: the answer to Find By Type Value is not compared, since it looks at every shared value, whoever asks
unfoldable pub is_compared : Request → Bool
is_compared (request.Ask a) = true
is_compared (request.FindByTypeValue g uuid) = false
is_compared (request.Change c) = true
is_compared (request.ExchangeMtu mtu) = true
is_compared request.Confirmation = true

-- a test of a request, false of every other call
unfoldable pub is_request : (Asked → Bool) → Deed → Bool
is_request p (Process q) = p q
is_request p Connect = false
is_request p (Disconnect bonded) = false
is_request p (Set h d) = false
is_request p (SetTable saved) = false
is_request p (Looks l) = false

-- a request is t's where it carries t's identity
abbrev pub asks : Identity → Call → Bool
asks t c = both (same_id c.who t) (is_request (λ q. is_compared q.request) c.deed)

-- what t hears, in order: each answer, with its bytes, and each refusal
unfoldable pub heard : Identity → Hub → List Call → List Told
heard t x [] = []
heard t x (c ∷ cs) = cond (asks t c) (call_told x c ∷ heard t (step x c) cs) (heard t (step x c) cs)

-- is this a request of t's over a link that meets a need for reading? and is there one among the calls?
abbrev pub is_granted : Access → Bool
is_granted a = if_met a true (λ c. false)

abbrev pub reaches : Identity → ℕ → Call → Bool
reaches t need c = both (same_id c.who t) (is_request (λ q. is_granted (access_of q.level ReadNotPermitted need)) c.deed)

unfoldable pub ever_reaches : Identity → List Call → ℕ → Bool
ever_reaches t [] need = false
ever_reaches t (c ∷ cs) need = cond (reaches t need c) true (ever_reaches t cs need)

abbrev pub Secrecy : Type 0
Secrecy =
    (t : Identity) (calls : List Call) (a b : Hub) → Valid a → Valid b → Agree t (ever_reaches t calls) a b
    → heard t a calls ≡ heard t b calls

-- The same of the code. What a run of `process` leaves: its answer, the state and what waits at the link, and the
-- buffer
pub record RunEnd : Type 0 where
  pub answer : Result Answer CallError
  pub state : State
  pub waiting : Waiting
  pub out : List ℕ

-- it meets the promise of `process` for this request, on this hub, with this buffer
abbrev pub Keeps : Hub → Identity → Asked → List ℕ → RunEnd → Type 0
Keeps x t q out r = Processed x.state (x.waiting q.link) (query_of t q) out r.answer r.state r.waiting r.out

abbrev pub request_by : Identity → Asked → Call
request_by t q = record { who = t; deed = Process q }

-- after the same calls, runs that meet it answer t alike, and leave the same in one buffer
abbrev pub SecretAnswers : Type 0
SecretAnswers =
    (t : Identity) (calls : List Call) (q : Asked) (a b : Hub) → Valid a → Valid b → Agree t (ever_reaches t (calls ++ (request_by t q ∷ []))) a b
    → is_compared q.request ≡ true → (out : List ℕ) → length out ≡ q.room → (r r' : RunEnd)
    → Keeps (after_all step a calls) t q out r → Keeps (after_all step b calls) t q out r'
    → (r.answer ≡ r'.answer) × (r.out ≡ r'.out)
