-- Any two replies to one telling are equal. Assumes nothing.
use mathlib.Core.Path.{◌≡◌, sym, ◌∙◌}
use Rattle.table_view.specs.Told.{Told}
use Rattle.numbers.specs.Reply.{reply_to}
use Rattle.numbers.specs.declared.Reply.{Reply}

pub one_reply : (t : Told) (r r' : Reply) → r ≡ reply_to t → r' ≡ reply_to t → r ≡ r'
one_reply t r r' p q = p ∙ sym q
