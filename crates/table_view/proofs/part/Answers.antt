-- `table_view::part` meets its contract: a span is cut to the bytes that there are. Assumes nothing.
use Rattle.table_view.proofs.Answers.{part_cut, part_none}
use Rattle.table_view.proofs.part.Goals as goal

pub returns-then-from-to : goal.returns-then-from-to
returns-then-from-to c =
    part_cut _ c.args.s.from c.args.s.to _ c.min-to.ensures c.if-from-to.true

pub returns-else-from-to : goal.returns-else-from-to
returns-else-from-to c =
    part_none _ c.args.s.from c.args.s.to _ c.min-to.ensures c.if-from-to.false
