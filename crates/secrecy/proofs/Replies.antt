-- Demand 3 at the boundary: reply and buffer are made of what is told. Assumes nothing.
use mathlib.Core.Path.{◌≡◌, refl, sym, ap, ◌∙◌}
use mathlib.Core.Bool.{Bool, true, false, cond}
use lib.Dec.{eqb}
use lib.ListN.{length}
use Rattle.model.specs.Told.{laid_on}
use Rattle.model.specs.declared.Request.{Request}
use Rattle.numbers.specs.Reply.{reply_to}
use Rattle.numbers.specs.Request.{is_ask, is_change, other_of, request_of}
use Rattle.numbers.specs.declared.RequestNumbers.{RequestNumbers}
use Rattle.secrecy.specs.Hub.{told_by}
use Rattle.secrecy.specs.Secret.{is_compared}
use Rattle.secrecy.specs.Replies.{asked_by, SecretReplies}
use Rattle.secrecy.proofs.Secret.{told_after}

-- every opcode but 0x06 is compared
either : (t : Bool) (x y : Request) → is_compared x ≡ true → is_compared y ≡ true → is_compared (cond t x y) ≡ true
either true x y p q = p
either false x y p q = q

compared : (n : RequestNumbers) → eqb n.op 0x06 ≡ false → is_compared (request_of n) ≡ true
unfolding request_of other_of is_compared
compared n e =
    either (is_ask n.op) _ _ refl
    (either (is_change n.op) _ _ refl (either (eqb n.op 0x02) _ _ refl (rw e)))

pub secret_replies : SecretReplies
unfolding told_by
secret_replies t calls n out a b x y g e r r' p p' =
    let one = told_after t calls (asked_by n (length out)) a b x y g (compared n.numbers e) in
    (p.answer.reply ∙ ap reply_to one ∙ sym p'.answer.reply, p.answer.out ∙ ap (laid_on out) one ∙ sym p'.answer.out)
