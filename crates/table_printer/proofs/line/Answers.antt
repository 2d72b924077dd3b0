-- `table_printer::line` meets its contract: six pieces. Assumes nothing.
use Prim.Native.Nat.{◌+◌, ◌<◌}
use native.Mathlib.Omega.{arith}
use lib.ListN.{length}
use Rattle.text.specs.Decimal.{decimal_of}
use Rattle.table_printer.specs.Lines.{kind_text, value_text}
use Rattle.table_printer.proofs.Size.{line_length}
use Rattle.table_printer.proofs.Putting.{line_put}
use Rattle.table_printer.proofs.line.Goals as goal
use Rattle.table_printer.proofs.line.Goals.{Start}

-- the line is short, by its pieces
short : (c : Start) → c.args.at + (length (decimal_of c.args.key) + (length (kind_text c.args.variable) + (length (decimal_of (length c.args.v.now)) + (1 + (length (value_text c.args.v.now) + 1))))) < 4294967296
short c = omega (arith, line_length c.args.key c.args.variable c.args.v.now, c.requires)

pub decimal-form-requires : goal.decimal-form-requires
decimal-form-requires c = omega (arith, short (goal.at.decimal-form-requires c).Start)

pub kind-len-requires : goal.kind-len-requires
kind-len-requires c =
    omega (arith, short (goal.at.kind-len-requires c).Start, c.decimal-form.ensures.place)

pub decimal-space-requires : goal.decimal-space-requires
decimal-space-requires c =
    omega (arith, short (goal.at.decimal-space-requires c).Start, c.decimal-form.ensures.place, c.kind-len.ensures.place)

pub bytes-hex-requires : goal.bytes-hex-requires
bytes-hex-requires c =
    omega (arith, short (goal.at.bytes-hex-requires c).Start, c.decimal-form.ensures.place, c.kind-len.ensures.place, c.decimal-space.ensures.place)

pub value-end-requires : goal.value-end-requires
value-end-requires c =
    omega (arith, short (goal.at.value-end-requires c).Start, c.decimal-form.ensures.place, c.kind-len.ensures.place, c.decimal-space.ensures.place, c.bytes-hex.ensures.place)

pub bytes-requires : goal.bytes-requires
bytes-requires c =
    omega (arith, short (goal.at.bytes-requires c).Start, c.decimal-form.ensures.place, c.kind-len.ensures.place, c.decimal-space.ensures.place, c.bytes-hex.ensures.place, c.value-end.ensures.place)

pub returns : goal.returns
returns c =
    line_put _ _ _ _ _ _ _ _ _ _ _ _ _ _ _ _ _ c.decimal-form.ensures c.kind-len.ensures c.decimal-space.ensures c.bytes-hex.ensures c.value-end.ensures c.bytes.ensures
