-- `storing::inner::write` meets its contract. A law for each answer; a place that is found is one of the list. Assumes
-- nothing.
use Rattle.std.specs.Prelude.{Some}
use Rattle.std.proofs.lemmas.Result.{err_from_is_err_and}
use mathlib.Core.Path.{◌≡◌, sym, ◌∙◌}
use Prim.Native.Nat.{◌<◌}
use native.Mathlib.Omega.{arith}
use lib.ListN.{length}
use Rattle.attribute.specs.Lookup.{place_of}
use Rattle.attribute_walk.proofs.Halves.{ascending}
use Rattle.model.proofs.Leaving.{listed}
use Rattle.storing.proofs.Writing.{not_listed, not_met, met}
use Rattle.storing.proofs.inner.write.Goals as goal
use Rattle.storing.proofs.inner.write.Goals.{In-Some}

at : (c : In-Some) →
    place_of c.args.list.now c.args.handle ≡ Some c.in-Some.i
at c = sym c.find_listed.ensures ∙ c.in-Some.is

inside : (c : In-Some) →
    c.in-Some.i < length c.args.list.now
inside c = listed _ _ _ (at c)

pub find_listed-requires : goal.find_listed-requires
find_listed-requires c =
    ascending _ _ c.requires.right

pub returns-in_default : goal.returns-in_default
returns-in_default c =
    let a = c.args in
    not_listed a.link a.list.now a.store.now a.tables.now _ _ _ a.d.now
    (sym c.find_listed.ensures ∙ c.in_default.is)

pub offset_bounds-list-i : goal.offset_bounds-list-i
offset_bounds-list-i c = omega (arith, inside (goal.at.offset_bounds-list-i c).In-Some)

pub bounds-list-i : goal.bounds-list-i
bounds-list-i c = inside (goal.at.bounds-list-i c).In-Some

pub returns-in_err-may : goal.returns-in_err-may
returns-in_err-may c =
    let a = c.args in
    let p = err_from_is_err_and c.from_residual.result c.from_residual.ensures.1 in
    rw (p.1, p.2)
    (not_met a.link a.list.now a.store.now a.tables.now _ _ _ a.d.now _ (at (goal.at.returns-in_err-may c).In-Some) _
    (rw (← c.decode.ensures) (sym c.in_err-may.ensures)))

pub put_at-requires : goal.put_at-requires
put_at-requires c =
    (inside (goal.at.put_at-requires c).In-Some, c.requires)

pub returns : goal.returns
returns c =
    let a = c.args in
    met a.link a.list.now a.store.now a.tables.now _ _ _ a.d.now _ (at (goal.at.returns c).In-Some)
    (rw (← c.decode.ensures) (sym c.in_ok-may.ensures)) _ _ _ _ c.put_at.ensures
