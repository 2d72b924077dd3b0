-- `application::inner::set` meets its contract: the place that is found is one of the list. Assumes nothing.
use Rattle.std.specs.Prelude.{Some}
use mathlib.Core.Path.{◌≡◌, sym, ◌∙◌}
use Rattle.attribute.specs.Lookup.{place_of}
use Rattle.attribute_walk.proofs.Halves.{ascending}
use Rattle.model.proofs.Leaving.{listed}
use Rattle.application.proofs.inner.set.Goals as goal
use Rattle.application.proofs.inner.set.Goals.{In-Some}

at : (c : In-Some) → place_of c.args.list.now c.args.handle ≡ Some c.in-Some.i
at c = sym c.find_listed.ensures ∙ c.in-Some.is

pub find_listed-requires : goal.find_listed-requires
find_listed-requires c = ascending _ _ c.requires.right

pub is_wrong_length-requires : goal.is_wrong_length-requires
is_wrong_length-requires c = listed _ _ _ (at (goal.at.is_wrong_length-requires c).In-Some)

pub put_at-requires : goal.put_at-requires
put_at-requires c = (listed _ _ _ (at (goal.at.put_at-requires c).In-Some), c.requires)
