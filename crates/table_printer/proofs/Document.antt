-- Document 01's example is printed as it stands there. Assumes nothing.
use mathlib.Core.Path.{refl}
use Rattle.wire.specs.Test.{both}
use Rattle.wire.specs.Number.{word}
use Rattle.text.specs.Hex.{digit_of, hex_of}
use Rattle.text.specs.Decimal.{digits_in, decimal_of}
use Rattle.table_view.specs.Layout.{next_at, head_at, len_at, value_at}
use Rattle.table_view.specs.Rules.{index_entry_ok, index_ok, value_ok, values_ok, accepts}
use Rattle.table_view.specs.View.{item_at, items_from}
use Rattle.table_printer.specs.Lines.{kind_text, value_text, entry_line, entry_lines, heading, table_lines}
use Rattle.table_printer.specs.Document.{PrintsAsWritten}

pub prints_as_written : PrintsAsWritten
unfolding both word digit_of hex_of digits_in decimal_of next_at head_at len_at value_at index_entry_ok index_ok value_ok values_ok accepts item_at items_from kind_text value_text entry_line entry_lines heading table_lines
prints_as_written = refl
