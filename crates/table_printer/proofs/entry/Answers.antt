-- `table_printer::entry` meets its contract: the place is one of a table's. Assumes nothing.
use native.Mathlib.Omega.{arith}
use Rattle.text.proofs.Pieces.{put_as}
use Rattle.table_view.proofs.Shape.{fits}
use Rattle.table_printer.proofs.Putting.{entry_line_lem, short_as}
use Rattle.table_printer.proofs.entry.Goals as goal

pub key_at-key-requires : goal.key_at-key-requires
key_at-key-requires c =
    omega (arith, fits _ c.requires.t_value.0, c.requires.t_value.1)

pub is_variable-variable-requires : goal.is_variable-variable-requires
is_variable-variable-requires c =
    omega (arith, fits _ c.requires.t_value.0, c.requires.t_value.1)

pub value-requires : goal.value-requires
value-requires c = c.requires.t_value

pub line-requires : goal.line-requires
line-requires c =
    short_as _ _ _ c.requires.short (entry_line_lem c.args.t.now c.args.p.0 _ _ _ c.key_at-key.ensures c.is_variable-variable.ensures c.value.ensures)

pub returns : goal.returns
returns c =
    put_as _ _ _ _ _ _ c.line.ensures (entry_line_lem c.args.t.now c.args.p.0 _ _ _ c.key_at-key.ensures c.is_variable-variable.ensures c.value.ensures)
