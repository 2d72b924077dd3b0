-- `table_printer::write_lines` meets its contract: too long, no table, or a table. Assumes nothing.
use mathlib.Core.Bool.{true, false}
use mathlib.Core.Path.{◌≡◌, sym, ◌∙◌}
use native.Mathlib.Omega.{arith}
use Rattle.table_view.specs.Rules.{accepts}
use Rattle.table_printer.proofs.Putting.{printed_long, printed_refused, printed_lines}
use Rattle.table_printer.proofs.write_lines.Goals as goal
use Rattle.table_printer.proofs.write_lines.Goals.{Else-not-is_table, Then-not-is_table}

no_table : (c : Then-not-is_table) → accepts c.args.raw.now ≡ false
no_table c = sym c.is_table.ensures ∙ c.if-not-is_table.true

ok : (c : Else-not-is_table) → accepts c.args.raw.now ≡ true
ok c = sym c.is_table.ensures ∙ c.if-not-is_table.false

pub returns-then-raw-gt-INPUT_SIZE : goal.returns-then-raw-gt-INPUT_SIZE
returns-then-raw-gt-INPUT_SIZE c =
    printed_long _ _ _ _ c.bytes.ensures (omega arith)

pub returns-then-not-is_table : goal.returns-then-not-is_table
returns-then-not-is_table c =
    printed_refused _ _ _ _ (no_table (goal.at.returns-then-not-is_table c).Then-not-is_table) c.bytes-then-not-is_table.ensures (omega arith)

pub lines-requires : goal.lines-requires
lines-requires c =
    (ok (goal.at.lines-requires c).Else-not-is_table, omega arith)

pub returns : goal.returns
returns c =
    printed_lines _ _ _ _ (ok (goal.at.returns c).Else-not-is_table) c.lines.ensures (omega arith)
