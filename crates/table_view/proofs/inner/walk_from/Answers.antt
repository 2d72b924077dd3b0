use mathlib.Core.Path.{sym, ◌∙◌}
use native.Mathlib.Omega.{arith}
use borrow.Author.Tests.{eqb-true, eqb-false}
use Rattle.table_view.proofs.Search.{stops_on_key, stops_above_key, stops_at_end}
use Rattle.table_view.proofs.Shape.{long, fits}
use Rattle.table_view.proofs.inner.walk_from.Goals as goal

pub number-n-requires : goal.number-n-requires
number-n-requires c = omega (arith, long _ c.requires.t_value)

pub key_at-k-requires : goal.key_at-k-requires
key_at-k-requires c = omega (arith, fits _ c.requires.t_value)

pub returns-then-eq : goal.returns-then-eq
returns-then-eq c = stops_on_key _ _ _ c.requires.t_value c.loop-next.invariant (omega arith) (sym c.key_at-k.ensures ∙ eqb-true _ _ (sym c.if-eq.ensures))

pub returns-else-eq : goal.returns-else-eq
returns-else-eq c = stops_above_key _ _ _ c.requires.t_value c.loop-next.invariant (omega (arith, eqb-false _ _ (sym c.if-eq.ensures)))

pub returns : goal.returns
returns c = stops_at_end _ _ _ c.requires.t_value c.loop-next.invariant (omega arith)
