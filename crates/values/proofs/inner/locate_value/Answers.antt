-- `values::inner::locate_value` meets its contract. A client value, or a shared one: a law for each. Assumes nothing.
use Rattle.values.proofs.Ways.{of_client, of_store}
use mathlib.Core.Path.{◌∙◌}
use Rattle.values.proofs.inner.locate_value.Goals as goal

pub returns-then-a : goal.returns-then-a
returns-then-a c =
    c.locate_own.ensures ∙ of_client _ c.decode-a.result c.if-a.true ∙ rw c.decode-a.ensures

pub returns : goal.returns
returns c =
    of_store c.args.table.now c.decode-a.result c.if-a.false ∙ rw c.decode-a.ensures
