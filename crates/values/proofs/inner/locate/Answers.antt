-- `values::inner::locate` meets its contract. The handle is listed, or it is not: a law for each. Assumes nothing.
use Rattle.values.proofs.Ways.{absent, listed}
use Rattle.attribute.specs.Lookup.{has_handle}
use Rattle.wire.proofs.Walk.{placed}
use mathlib.Core.List.{[]}
use mathlib.Core.Path.{sym, ◌∙◌}
use Rattle.values.proofs.inner.locate.Goals as goal

pub returns-in_default : goal.returns-in_default
returns-in_default c = absent _ _ _ _ (sym c.find_listed.ensures ∙ c.in_default.is)

pub locate_at-requires : goal.locate_at-requires
locate_at-requires c =
    ((placed (has_handle _) [] c.args.list.now 0 _ (sym c.find_listed.ensures ∙ c.in-Some.is)).inside, c.requires.1)

pub returns : goal.returns
returns c =
    c.locate_at.ensures ∙ listed _ _ _ _ _ (sym c.find_listed.ensures ∙ c.in-Some.is)
