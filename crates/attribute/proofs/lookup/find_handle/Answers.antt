-- `attribute::lookup::find_handle` meets its contract. std's word for the place is the walk's. Assumes nothing.
use mathlib.Core.Path.{◌≡◌, ap, ◌∙◌}
use Rattle.std.proofs.Common.{rules, tests}
use Rattle.std.specs.List.{position}
use Rattle.std.proofs.lemmas.Iterator.{YieldsList-from_slice}
use Rattle.std.proofs.lemmas.Iterator.Search.{position_from_yields_List}
use Rattle.attribute.specs.Lookup.{has_handle}
use Rattle.wire.specs.Walk.{sought_found}
use Rattle.wire.proofs.Walk.{position_is}
use Rattle.attribute.proofs.lookup.find_handle.Goals as goal

pub returns : goal.returns
returns c =
    let is = has_handle c.args.handle in
    let e : c.position.result ≡ position is c.args.list.now =
    position_from_yields_List _ _ _ _ c.position.ensures.ran (YieldsList-from_slice c.args.list.now cc) (λ x b q k. search (rules, tests)) in
    ap sought_found (e ∙ position_is is c.args.list.now)
