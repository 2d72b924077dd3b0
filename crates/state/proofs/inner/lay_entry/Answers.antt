-- `state::inner::lay_entry` meets its contract: a shared value, a client value without room, or one entry more. Assumes
-- nothing.
use mathlib.Core.Bool.{true, false}
use mathlib.Core.Path.{◌≡◌, sym, ◌∙◌}
use Prim.Native.Nat.{◌+◌, ◌≤◌}
use native.Mathlib.Omega.{arith}
use borrow.Author.Tests.{le-leb, lt-leb, not-true, not-false}
use Rattle.wire.specs.Size.{table_bytes}
use Rattle.state.specs.Fresh.{space_of}
use Rattle.table_view.specs.Layout.{end_of}
use Rattle.state.proofs.Sizes.{space_client, space_shared, laid_client, laid_shared}
use Rattle.state.proofs.inner.lay_entry.Goals as goal

pub returns-then-not-a : goal.returns-then-not-a
returns-then-not-a c = (
  sym (le-leb (end_of c.args.out.now + space_of c.args.a) table_bytes
      (omega (arith, c.requires.1, space_shared c.args.a (not-true _ c.if-not-a.true)))),
  λ t. sym (laid_shared c.args.a _ (not-true _ c.if-not-a.true)),
)

pub returns-then-values_end-space-gt-TABLE_SIZE : goal.returns-then-values_end-space-gt-TABLE_SIZE
returns-then-values_end-space-gt-TABLE_SIZE c = (
  sym (lt-leb (end_of c.args.out.now + space_of c.args.a) table_bytes
      (omega (
        arith,
        c.values_end.ensures,
        c.space.ensures,
        space_client c.args.a (not-false _ c.if-not-a.false),
      ))),
  λ (t : false ≡ true). cc,
)

pub add-requires : goal.add-requires
add-requires c =
    let room : end_of c.args.out.now + space_of c.args.a ≤ table_bytes =
    omega (arith, c.values_end.ensures, c.space.ensures, space_client c.args.a (not-false _ c.if-not-a.false)) in
    record {
      in_bounds = omega (arith, c.requires.0, c.values_end.ensures, c.space.ensures);
      table_bytes_in_bounds = omega (arith, c.requires.0, c.requires.2);
    }

pub returns : goal.returns
returns c = (
  sym (le-leb (end_of c.args.out.now + space_of c.args.a) table_bytes
      (omega (
        arith,
        c.values_end.ensures,
        c.space.ensures,
        space_client c.args.a (not-false _ c.if-not-a.false),
      ))),
  λ t. c.add.ensures ∙ sym (laid_client c.args.a _ (not-false _ c.if-not-a.false)),
)
