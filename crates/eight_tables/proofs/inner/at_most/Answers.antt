use mathlib.Core.List.{[]}
use native.Mathlib.Omega.{arith}
use lib.Dec.{leb}
use lib.ListN.{get_or}
use borrow.Author.Tests.{lt-leb, le-leb}
use Rattle.wire.specs.Number.{word}
use Rattle.eight_tables.proofs.Columns.{next_table, bad_table, last_table}
use Rattle.eight_tables.proofs.inner.at_most.Goals as goal

pub returns-then-n-number : goal.returns-then-n-number
returns-then-n-number c =
    bad_table (λ t. leb (word t c.args.at) c.args.n) c.args.tables.now _ _ c.loop-t.invariant
    (omega arith) (lt-leb (word (get_or c.args.tables.now c.loop-t.t-index []) c.args.at) _
    (omega (arith, c.number.ensures.0)))

pub loop-t-preserved : goal.loop-t-preserved
loop-t-preserved c =
    next_table (λ t. leb (word t c.args.at) c.args.n) c.args.tables.now _ _ c.loop-t.invariant
    (omega arith) (le-leb (word (get_or c.args.tables.now c.loop-t.t-index []) c.args.at) _
    (omega (arith, c.number.ensures.0)))

pub returns : goal.returns
returns c =
    last_table (λ t. leb (word t c.args.at) c.args.n) c.args.tables.now c.loop-t.t-index _ c.loop-t.invariant
    (omega (arith, c.loop-t-test.false))
