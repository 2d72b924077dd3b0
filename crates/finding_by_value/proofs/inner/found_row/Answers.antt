-- `finding_by_value::inner::found_row` meets its contract. No room, or handle and group's end: a law for each. Assumes
-- nothing.
use native.Mathlib.Omega.{arith}
use Rattle.model.proofs.Running.{row_stopped}
use Rattle.finding_by_value.proofs.Founds.{found_full, found_wrote}
use Rattle.finding_by_value.proofs.inner.found_row.Goals as goal

pub returns-then-available-lt4 : goal.returns-then-available-lt4
returns-then-available-lt4 c =
    row_stopped _ _ _ c.requires.1 (found_full _ _ _ (omega (arith, c.available.ensures, c.if-available-lt4.true)))

pub returns : goal.returns
returns c =
    found_wrote _ _ _ _ _ _ _ _ _ c.requires.1 c.available.ensures c.if-available-lt4.false _ _
    c.handle_at.ensures c.requires.2 c.word-c.ensures.0 c.word-c.ensures.1
    c.word.ensures.0 c.word.ensures.1
