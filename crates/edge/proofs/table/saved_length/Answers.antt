-- `edge::table::saved_length` meets its contract. What `raw` found becomes a reply. Assumes nothing.
use mathlib.Core.Path.{ap, ◌∙◌}
use mathlib.Core.List.{List}
use Prim.Native.Nat.{ℕ}
use lib.ListN.{length}
use Rattle.numbers.specs.Reply.{as_reply, reply_to}
use Rattle.edge.proofs.table.saved_length.Goals as goal

pub returns-in-Ok : goal.returns-in-Ok
returns-in-Ok c =
    ap (λ (p : List ℕ). as_reply 2 0 (length p)) c.part.ensures ∙ ap reply_to (rw c.in-Ok.is at c.raw.ensures.1)

pub returns-in-Err : goal.returns-in-Err
returns-in-Err c = c.refused.ensures ∙ ap reply_to (rw c.in-Err.is at c.raw.ensures.1)
