-- `wire::bytes::same` meets its contract: what `==` of slices tests is `alike`. Assumes nothing.
use mathlib.Core.Path.{◌∙◌}
use Rattle.wire.proofs.Fold.{alike_points}
use Rattle.wire.proofs.bytes.same.Goals as goal

pub returns : goal.returns
returns c = c.eq.ensures ∙ alike_points c.args.a.now c.args.b.now
