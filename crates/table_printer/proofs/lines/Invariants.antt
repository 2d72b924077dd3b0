-- `table_printer::lines` meets its contract. The loop's invariant is residual: to put the lines that are left gives
-- what putting all of them gives. Assumes nothing.
use Prim.Native.Nat.{◌-◌}
use Rattle.text.proofs.Pieces.{Going}
use Rattle.table_view.specs.View.{items_from}
use Rattle.table_printer.specs.Lines.{entry_lines}
use Rattle.table_printer.proofs.lines.Given as goal

abbrev pub invariant-loop-i : goal.invariant-loop-i
invariant-loop-i l =
    Going l.initial.out l.initial.next (entry_lines (items_from l.t l.n 0)) l.out l.next (entry_lines (items_from l.t (l.n - l.i) l.i))
