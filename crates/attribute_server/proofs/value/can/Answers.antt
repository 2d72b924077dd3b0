-- `attribute_server::value::can` meets its contract. A refusal, or what the list and the link say. Assumes nothing.
use Rattle.std.proofs.lemmas.Result.{err_from_is_err_and}
use Rattle.admission.proofs.Admitting.{told_no, told_yes}
use mathlib.Core.Path.{sym, ◌∙◌}
use Rattle.attribute_server.proofs.value.can.Goals as goal

pub returns-in_err-admit : goal.returns-in_err-admit
returns-in_err-admit c =
    let p = err_from_is_err_and c.from_residual.result c.from_residual.ensures.1 in
    rw (p.1, p.2) (told_no _ _ _ (sym c.admit.ensures ∙ c.in_err-admit.was))

pub returns : goal.returns
returns c =
    (rw c.in_ok-can.was at c.can.ensures) ∙ told_yes _ _
    (sym c.admit.ensures ∙ c.in_ok-admit.was)
