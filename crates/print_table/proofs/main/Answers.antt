-- `print_table` is safe: its buffer has room for the text of any input. Assumes nothing.
use Rattle.std.proofs.Common.{arith, length-take}
use Rattle.table_printer.proofs.Size.{printed_size}
use Rattle.print_table.proofs.main.Goals as goal

pub slice_bounds-text-end : goal.slice_bounds-text-end
slice_bounds-text-end c =
    omega (arith, c.write_lines-k.auto.out, printed_size _ _ _ _ c.write_lines-k.ensures)

pub slice_bounds-write_all-end : goal.slice_bounds-write_all-end
slice_bounds-write_all-end c =
    simp length-take (omega (arith, c.write_lines-k.auto.out, printed_size _ _ _ _ c.write_lines-k.ensures))
