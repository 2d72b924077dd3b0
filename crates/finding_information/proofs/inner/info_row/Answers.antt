-- `finding_information::inner::info_row` meets its contract. Another format, no room, or handle and UUID: a law for
-- each. Assumes nothing.
use native.Mathlib.Omega.{arith}
use Rattle.model.proofs.Running.{row_stopped}
use Rattle.finding_information.proofs.Infos.{info_other, info_full, info_wrote}
use Rattle.finding_information.proofs.inner.info_row.Goals as goal

pub returns-then-u-size : goal.returns-then-u-size
returns-then-u-size c =
    row_stopped _ _ _ c.requires.1 (info_other _ _ _ _ _ c.uuid-u.ensures c.if-u-size.true)

pub returns-then-available-size : goal.returns-then-available-size
returns-then-available-size c =
    row_stopped _ _ _ c.requires.1
    (info_full _ _ _ _ _ c.uuid-u.ensures c.if-u-size.false (omega (arith, c.available.ensures, c.if-available-size.true)))

pub returns : goal.returns
returns c =
    info_wrote _ _ _ _ _ _ _ _ _ _ c.requires.1 c.available.ensures _ c.uuid-u.ensures c.if-u-size.false _
    c.handle_at.ensures c.if-available-size.false c.word-c.ensures.0 c.word-c.ensures.1
    c.append.ensures.0 c.append.ensures.1
