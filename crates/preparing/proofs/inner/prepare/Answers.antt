-- `preparing::inner::prepare` meets its contract. What is refused changes nothing; what is granted goes in. Assumes
-- nothing.
use Rattle.model.proofs.Sending.{answered}
use Rattle.model.specs.Change.{record_after, data_after}
use mathlib.Core.Path.{refl, sym, ◌∙◌}
use Rattle.preparing.proofs.inner.prepare.Goals as goal

pub returns-in-Err : goal.returns-in-Err
unfolding record_after data_after
returns-in-Err c =
    rw (sym c.may_prepare.ensures ∙ c.in-Err.is) (refl, refl, answered _ _ _ _ c.error_response-n.ensures)

pub returns : goal.returns
unfolding record_after data_after
returns c =
    rw (sym c.may_prepare.ensures ∙ c.in_default.is)
    (c.grow.ensures, c.copy.ensures, answered _ _ _ _ c.echo-n.ensures)
