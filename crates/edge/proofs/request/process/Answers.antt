-- `edge::request::process` meets its contract. The link and the request by their numbers; then the answer becomes a
-- reply. Assumes nothing.
use Rattle.edge.proofs.Telling.{served}
use Rattle.edge.proofs.request.process.Goals as goal

pub returns : goal.returns
returns c =
    served _ _ _ _ _ _ _ _ _ (rw (c.link-link.ensures, c.from-rq.ensures) at c.process-c.ensures)
    c.from.ensures
