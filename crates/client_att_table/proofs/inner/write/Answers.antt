-- `client_att_table::inner::write` meets its contract. What a plan `Ok` says is what `store` requires. Assumes nothing.
use Rattle.std.specs.Prelude.{Ok}
use mathlib.Core.Path.{◌≡◌, sym, ◌∙◌}
use native.Mathlib.Omega.{arith}
use lib.ListN.{length}
use Rattle.client_att_table.specs.Write.{plan_of}
use Rattle.client_att_table.proofs.Planning.{admitted}
use Rattle.table_view.proofs.Shape.{entry_at}
use Rattle.wire.proofs.Sets.{word_below}
use Rattle.client_att_table.proofs.inner.write.Goals as goal

pub store-requires : goal.store-requires
store-requires c =
    let t = c.args.t.now in
    let plan : plan_of t c.args.key.0 c.args.offset (length c.args.d.now) ≡ Ok c.in_ok-p.p = sym c.decide.ensures ∙ c.in_ok-p.was in
    let g = admitted _ _ _ _ _ plan in
    let e = entry_at _ c.requires _ g.place.inside in
    let v = word_below t 2 (c.slice_known-1.given 2).fits (c.slice_known-1.given 3).fits in
    record { t_value = (c.requires, g.place.inside); d_bound = (g.room, omega arith) }
