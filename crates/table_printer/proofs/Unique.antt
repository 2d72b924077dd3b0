-- Any two results that meet the printer's promise are equal. Assumes nothing.
use mathlib.Core.Path.{sym, ◌∙◌}
use Rattle.table_printer.specs.Printed.{OneResult}

pub one_result : OneResult
one_result raw old new other n m p q = (p.count ∙ sym q.count, p.bytes ∙ sym q.bytes)
