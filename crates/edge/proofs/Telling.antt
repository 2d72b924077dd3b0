-- An answer with a buffer, and one to a request, as replies. Assumes nothing.
use Rattle.std.specs.Prelude.{Result}
use mathlib.Core.Path.{◌≡◌, ap, ◌∙◌}
use mathlib.Core.List.{List}
use Prim.Native.Nat.{ℕ}
use native.Mathlib.Omega.{arith}
use lib.ListN.{length}
use Rattle.table_view.specs.Told.{Told}
use Rattle.model.specs.Told.{Answered}
use Rattle.state.specs.State.{State, Waiting}
use Rattle.attribute_server.specs.Request.{Query, Processed}
use Rattle.numbers.specs.Reply.{reply_to, reply_of}
use Rattle.numbers.specs.declared.Reply.{Reply}
use Rattle.numbers.proofs.Telling.{told_reply, reply_fits}
use Rattle.edge.specs.Served.{Delivered, Served}
use Rattle.model.specs.declared.Answer.{Answer}
use Rattle.model.specs.declared.CallError.{CallError}

pub delivered : (old new : List ℕ) (a : Result Answer CallError) (r : Reply) (t : Told) → Answered old new a t → r ≡ reply_of a → Delivered old new r t
delivered old new a r t w q =
    let e : r ≡ reply_to t = q ∙ told_reply new a ∙ ap reply_to w.told in
    record { reply = e; out = w.out; fits = omega (arith, ap (λ (x : Reply). x.len) e, reply_fits t (length old) w.fits) }

pub served : (s : State) (w : Waiting) (q : Query) (old : List ℕ) (a : Result Answer CallError) (r : Reply) (s' : State) (w' : Waiting) (new : List ℕ)
    → Processed s w q old a s' w' new → r ≡ reply_of a → Served s w q old r s' w' new
served s w q old a r s' w' new p e = record { answer = delivered old new a r _ p.answer e; left = p.left; waits = p.waits }
