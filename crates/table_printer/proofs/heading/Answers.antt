-- `table_printer::heading` meets its contract: three pieces. Assumes nothing.
use native.Mathlib.Omega.{arith}
use Rattle.table_printer.proofs.Size.{heading_length}
use Rattle.table_printer.proofs.Putting.{heading_put}
use Rattle.table_printer.proofs.heading.Goals as goal

pub bytes-word-requires : goal.bytes-word-requires
bytes-word-requires c = omega arith

pub decimal-end-requires : goal.decimal-end-requires
decimal-end-requires c =
    omega (arith, heading_length c.args.n, c.requires, c.bytes-word.ensures.place)

pub bytes-requires : goal.bytes-requires
bytes-requires c =
    omega (arith, heading_length c.args.n, c.requires, c.bytes-word.ensures.place, c.decimal-end.ensures.place)

pub returns : goal.returns
returns c =
    heading_put _ _ _ _ _ _ _ _ c.bytes-word.ensures c.decimal-end.ensures c.bytes.ensures
