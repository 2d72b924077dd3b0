-- `edge::subscription::should` meets its contract. The answer becomes a reply. Assumes nothing.
use Rattle.numbers.proofs.Telling.{replied}
use Rattle.edge.proofs.subscription.should.Goals as goal

pub returns : goal.returns
returns c =
    replied c.should.result _ _ c.should.ensures c.from.ensures
