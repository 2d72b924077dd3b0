-- `reading::inner::read` meets its contract. From the start on is the whole. Assumes nothing.
use Rattle.reading.proofs.Ways.{from_start}
use Rattle.reading.proofs.inner.read.Goals as goal

pub returns : goal.returns
returns c = rw from_start at c.respond.ensures
