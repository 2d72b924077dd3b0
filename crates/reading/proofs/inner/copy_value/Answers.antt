-- `reading::inner::copy_value` meets its contract. What is located means the value, and as much of it as goes in is
-- copied. Assumes nothing.
use mathlib.Core.Path.{◌≡◌, ap, ◌∙◌}
use mathlib.Core.List.{[]}
use native.Mathlib.Omega.{arith}
use lib.ListN.{get_or}
use Rattle.std.proofs.lemmas.Result.{err_from_is_err_and}
use Rattle.attribute.specs.Record.{attribute_of}
use Rattle.model.specs.Value.{read_of}
use Rattle.values.specs.Locate.{contents_of, LiesInside}
use Rattle.values.proofs.Meaning.{value_got, value_inside}
use Rattle.reading.proofs.Ways.{in_bytes, no_copy, a_copy}
use Rattle.reading.proofs.inner.copy_value.Goals as goal
use Rattle.reading.proofs.inner.copy_value.Goals.{After-locate_value}

means : (c : After-locate_value) →
    contents_of c.args.v.store.now c.args.v.table.now c.locate_value.result
    ≡ read_of c.args.v.store.now c.args.v.table.now (attribute_of (get_or c.args.v.list.now c.args.i []))
means c = ap (contents_of _ _) c.locate_value.ensures ∙ value_got _ _ _

lies : (c : After-locate_value) →
    LiesInside c.args.v.store.now c.args.v.table.now c.locate_value.result
lies c = rw c.locate_value.ensures (value_inside _ _ c.args.v.ready.table _ c.args.v.ready.right _ c.requires)

pub locate_value-requires : goal.locate_value-requires
locate_value-requires c = (c.requires, c.args.v.ready.table)

pub append_span-c-requires : goal.append_span-c-requires
append_span-c-requires c =
    let l = (goal.at.append_span-c-requires c).After-locate_value in
    record {
      n_in_bounds = omega (arith, c.min-n.ensures, c.new.ensures.0);
      len_in_bounds = in_bytes _ _ _ _ (means l) _ c.in_ok-s.was (lies l);
    }

pub returns-in_err-s : goal.returns-in_err-s
returns-in_err-s c =
    let p = err_from_is_err_and c.from_residual.result c.from_residual.ensures.1 in
    rw (p.1, p.2) (no_copy _ _ _ _ _ (means (goal.at.returns-in_err-s c).After-locate_value) _ c.in_err-s.was)

pub returns : goal.returns
returns c =
    let l = (goal.at.returns c).After-locate_value in
    a_copy _ _ _ _ _ (means l) _ _ _ _ _ c.in_ok-s.was (lies l) c.min-n.ensures c.new.ensures.0 c.append_span-c.ensures
