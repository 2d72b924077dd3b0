-- `table_printer::value` meets its contract. Assumes nothing.
use mathlib.Core.Path.{sym, ◌∙◌}
use borrow.Author.Tests.{eqb-true, eqb-false}
use Rattle.table_printer.proofs.Putting.{none_short, some_short, none_put, some_put}
use Rattle.table_printer.proofs.value.Goals as goal

pub bytes-requires : goal.bytes-requires
bytes-requires c =
    none_short _ c.args.v.now c.requires (eqb-true _ _ (sym c.is_empty.ensures ∙ c.if-is_empty.true))

pub returns-then-is_empty : goal.returns-then-is_empty
returns-then-is_empty c =
    none_put _ _ _ _ c.args.v.now c.bytes.ensures (eqb-true _ _ (sym c.is_empty.ensures ∙ c.if-is_empty.true))

pub hex-requires : goal.hex-requires
hex-requires c =
    some_short _ _ c.requires (eqb-false _ _ (sym c.is_empty.ensures ∙ c.if-is_empty.false))

pub returns : goal.returns
returns c =
    some_put _ _ _ _ _ c.hex.ensures (eqb-false _ _ (sym c.is_empty.ensures ∙ c.if-is_empty.false))
