-- `attribute::rules::is_list` meets its contract. The invariant is residual: the test of the entries that are left is
-- the test of the list. Assumes nothing.
use mathlib.Core.Path.{◌≡◌}
use lib.ListN.{drop}
use Rattle.attribute.specs.Rules.{entries_ok, list_ok}
use Rattle.attribute.proofs.rules.is_list.Given as goal

abbrev pub invariant-loop-r : goal.invariant-loop-r
invariant-loop-r l = entries_ok (drop l.r-index l.list) l.last l.end l.size ≡ list_ok l.list l.size
