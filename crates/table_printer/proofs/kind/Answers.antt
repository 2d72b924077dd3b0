-- `table_printer::kind` meets its contract. Assumes nothing.
use Rattle.table_printer.proofs.Putting.{v_short, f_short, v_put, f_put}
use Rattle.table_printer.proofs.kind.Goals as goal

pub bytes-requires : goal.bytes-requires
bytes-requires c =
    v_short _ _ c.requires c.if-variable.true

pub returns-then-variable : goal.returns-then-variable
returns-then-variable c =
    v_put _ _ _ _ _ c.bytes.ensures c.if-variable.true

pub bytes-requires-2 : goal.bytes-requires-2
bytes-requires-2 c =
    f_short _ _ c.requires c.if-variable.false

pub returns : goal.returns
returns c =
    f_put _ _ _ _ _ c.bytes-2.ensures c.if-variable.false
