-- `values::inner::locate_at` meets its contract. The link may read it, or it may not: a law for each. Assumes nothing.
use Rattle.std.proofs.lemmas.Result.{err_from_is_err_and}
use Rattle.values.proofs.Ways.{may, may_not}
use mathlib.Core.Path.{sym, ◌∙◌}
use Rattle.values.proofs.inner.locate_at.Goals as goal

pub returns-in_err-may : goal.returns-in_err-may
returns-in_err-may c =
    let p = err_from_is_err_and c.from_residual.result c.from_residual.ensures.1 in
    rw (p.1, p.2) (may_not _ _ _ _ (rw (← c.decode.ensures) (sym c.in_err-may.ensures)))

pub returns : goal.returns
returns c =
    c.locate_value.ensures ∙ may _ _ _ (rw (← c.decode.ensures) (sym c.in_ok-may.ensures))
