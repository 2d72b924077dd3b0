-- Demand 3 at the boundary to C and Rust: what `process` of `edge` and of `ropethatch` returns, and what it leaves in the
-- buffer that is lent to it. Assumes nothing.
use Rattle.std.specs.Prelude.{ℕ, ◌≡◌, false, List, [], ◌∷◌, ◌++◌, eqb, length}
use Rattle.wire.specs.Run.{after_all}
use Rattle.peers.specs.declared.Identity.{Identity}
use Rattle.state.specs.State.{State, Waiting}
use Rattle.attribute_server.specs.Request.{query}
use Rattle.numbers.specs.Request.{link_of, request_of}
use Rattle.numbers.specs.declared.Reply.{Reply}
use Rattle.numbers.specs.declared.RequestNumbers.{RequestNumbers}
use Rattle.edge.specs.Served.{Served}
use Rattle.secrecy.specs.Hub.{Hub, Asked, Call, step}
use Rattle.secrecy.specs.Valid.{Valid}
use Rattle.secrecy.specs.Agree.{Agree}
use Rattle.secrecy.specs.Secret.{ever_reaches, request_by}

-- a request in numbers: the link's level and number, the request's numbers, and the bytes that it brings
pub record Numbered : Type 0 where
  pub level : ℕ
  pub link : ℕ
  pub numbers : RequestNumbers
  pub brings : List ℕ

-- what it asks, with a buffer of so many bytes
abbrev pub asked_by : Numbered → ℕ → Asked
asked_by n room =
    record { level = link_of n.level; link = n.link; request = request_of n.numbers; brings = n.brings; room = room }

-- what a run leaves: its reply, the state and what waits at the link, and the buffer
pub record ReplyEnd : Type 0 where
  pub reply : Reply
  pub state : State
  pub waiting : Waiting
  pub out : List ℕ

-- it meets the promise of the exported `process` for this request, on this hub, with this buffer
abbrev pub Serves : Hub → Identity → Numbered → List ℕ → ReplyEnd → Type 0
Serves x t n out r =
    Served x.state (x.waiting n.link) (query t (link_of n.level) (request_of n.numbers) n.brings) out r.reply r.state r.waiting r.out

-- after the same calls, two such runs give one reply, with its count, and leave the same bytes in one buffer; opcode 0x06
-- is Find By Type Value
abbrev pub SecretReplies : Type 0
SecretReplies =
    (t : Identity) (calls : List Call) (n : Numbered) (out : List ℕ) (a b : Hub) → Valid a → Valid b
    → Agree t (ever_reaches t (calls ++ (request_by t (asked_by n (length out)) ∷ []))) a b
    → eqb n.numbers.op 0x06 ≡ false → (r r' : ReplyEnd)
    → Serves (after_all step a calls) t n out r → Serves (after_all step b calls) t n out r'
    → (r.reply ≡ r'.reply) × (r.out ≡ r'.out)
