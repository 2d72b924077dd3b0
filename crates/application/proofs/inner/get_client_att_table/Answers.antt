-- `application::inner::get_client_att_table` meets its contract. By the slot, whose table has 640 bytes. Assumes
-- nothing.
use native.Mathlib.Omega.{arith}
use borrow.Author.Rules.{rules}
use Rattle.storing.proofs.Tables.{slot_there}
use Rattle.application.proofs.Peers.{no_table, table_copied}
use Rattle.application.proofs.inner.get_client_att_table.Goals as goal

pub returns-in_default : goal.returns-in_default
returns-in_default c =
    no_table _ _ c.args.out.now c.in_default.is

pub offset_bounds-tables-k : goal.offset_bounds-tables-k
offset_bounds-tables-k c =
    omega (arith, slot_there _ _ c.requires.0 _ c.in-Some.is, c.requires.0.tables.eight)

pub bounds-tables-k : goal.bounds-tables-k
bounds-tables-k c =
    slot_there _ _ c.requires.0 _ c.in-Some.is

pub copy-requires : goal.copy-requires
copy-requires c =
    omega (arith, c.requires.1)

pub returns : goal.returns
returns c =
    table_copied _ _ c.args.out.now _ c.in-Some.is (search rules) c.requires.1 _
    c.copy.ensures
