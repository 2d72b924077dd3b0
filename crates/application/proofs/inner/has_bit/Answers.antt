-- `application::inner::has_bit` meets its contract. By what the lookup finds, and by the length of the value. Assumes
-- nothing.
use Rattle.std.specs.Prelude.{Some}
use mathlib.Core.Path.{◌≡◌, sym, ◌∙◌}
use borrow.Author.Tests.{ne_eqb}
use Rattle.table_view.specs.Lookup.{index_place}
use Rattle.table_view.proofs.Search.{placed}
use Rattle.application.proofs.Peers.{no_value, another_length, two_bytes}
use Rattle.application.proofs.inner.has_bit.Goals as goal
use Rattle.application.proofs.inner.has_bit.Goals.{In-Some}

at : (c : In-Some) → index_place c.args.table.now c.args.handle ≡ Some c.in-Some.p
at c = sym c.find.ensures ∙ c.in-Some.is

pub returns-in_default : goal.returns-in_default
returns-in_default c = no_value _ _ _ (sym c.find.ensures ∙ c.in_default.is)

pub value-v-requires : goal.value-v-requires
value-v-requires c = (c.requires.0, (placed _ _ _ (at (goal.at.value-v-requires c).In-Some)).inside)

pub returns-then-v-eq2 : goal.returns-then-v-eq2
returns-then-v-eq2 c =
    two_bytes _ _ _ _ (at (goal.at.returns-then-v-eq2 c).In-Some) c.value-v.result.now c.value-v.ensures c.if-v-eq2.true

pub returns-else-v-eq2 : goal.returns-else-v-eq2
returns-else-v-eq2 c =
    let n = c.if-v-eq2.false in
    rw (ne_eqb _ _ n) (another_length _ _ _ _ (at (goal.at.returns-else-v-eq2 c).In-Some) c.value-v.result.now c.value-v.ensures n)
