use mathlib.Core.Bool.{true, false}
use mathlib.Core.Path.{◌≡◌, sym, ◌∙◌}
use native.Mathlib.Omega.{arith}
use borrow.Author.Tests.{leb-true, leb-false}
use Rattle.wire.specs.Size.{table_bytes}
use Rattle.attribute.proofs.Shape.{entry}
use Rattle.state.proofs.Laying.{none_laid, no_room, one_laid, all_fits, all_laid}
use Rattle.state.proofs.inner.lay_out.Goals as goal

pub loop-r-init : goal.loop-r-init
loop-r-init c =
    none_laid _ _ c.requires.0 _ c.requires.1

pub lay_entry-requires : goal.lay_entry-requires
lay_entry-requires c =
    let w = c.loop-r.invariant in
    let e = entry c.args.list.now _ c.requires.0 c.loop-r.r-index (omega arith) in
    rw c.decode.ensures (omega (arith, w.long), w.fits, omega (arith, e.low))

pub returns-then-not-lay_entry : goal.returns-then-not-lay_entry
returns-then-not-lay_entry c =
    let f = leb-false _ table_bytes (sym c.lay_entry.ensures.0 ∙ c.if-not-lay_entry.true) in (
      no_room c.args.list.now _ c.requires.0 _ _ c.loop-r.invariant (omega arith)
          (rw (← c.decode.ensures) f),
      λ (t : false ≡ true). cc,
    )

pub loop-r-preserved : goal.loop-r-preserved
loop-r-preserved c =
    let y = c.if-not-lay_entry.false in
    let f = leb-true _ table_bytes (sym c.lay_entry.ensures.0 ∙ y) in
    one_laid c.args.list.now _ c.requires.0 _ _ c.loop-r.invariant (omega arith)
    (rw (← c.decode.ensures) f) _ (c.lay_entry.ensures.1 y ∙ rw c.decode.ensures)

pub returns : goal.returns
returns c = (
  all_fits c.args.list.now _ c.requires.0 _ _ c.loop-r.invariant (omega (arith, c.loop-r-test.false)),
  λ t. all_laid c.args.list.now _ c.requires.0 _ _ c.loop-r.invariant (omega (arith, c.loop-r-test.false)),
)
