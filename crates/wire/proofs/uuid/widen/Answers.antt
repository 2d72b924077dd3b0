-- `wire::uuid::widen` meets its contract: the Base UUID, byte by byte. Assumes nothing.
use mathlib.Core.Path.{sym}
use Rattle.wire.specs.Uuid.{based}
use Rattle.wire.proofs.Widening.{wide_short}
use Rattle.wire.proofs.uuid.widen.Goals as goal

pub returns : goal.returns
unfolding based
returns c = sym (wide_short _ c.requires)
