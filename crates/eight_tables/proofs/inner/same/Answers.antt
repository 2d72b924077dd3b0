-- `eight_tables::inner::same` meets its contract. A part decides, or one that covers the rest. Assumes nothing.
use mathlib.Core.Logic.{inl, inr, ⊎_elim}
use mathlib.Core.Path.{sym, ◌∙◌}
use Prim.Native.Nat.{◌-◌, ◌≤◌, ◌<◌}
use native.Mathlib.Omega.{arith}
use Rattle.wire.proofs.Tests.{split}
use Rattle.eight_tables.proofs.Columns.{bad_part, by_part}
use Rattle.eight_tables.proofs.inner.same.Goals as goal

pub returns-then-same_part-clause-all : goal.returns-then-same_part-clause-all
returns-then-same_part-clause-all g c f h =
    c.same_part-then-same_part.ensures.all f h ∙ by_part f _ c.args.from _ (c.args.to - 16) _ _ c.args.from
    (λ x a b. ⊎_elim (λ (l : x < c.args.to - 16). inr (a, omega arith))
    (λ (l : c.args.to - 16 ≤ x). inl (l, omega arith)) (split x (c.args.to - 16))) (omega arith)
    (omega arith) (sym (c.same_part-2.ensures.all f h) ∙ c.if-same_part.true)

pub returns-else-same_part-clause-all : goal.returns-else-same_part-clause-all
returns-else-same_part-clause-all g c f h =
    c.if-same_part.false
    ∙ bad_part f _ _ _ _ _ (omega arith) (omega arith) (sym (c.same_part-2.ensures.all f h) ∙ c.if-same_part.false)
