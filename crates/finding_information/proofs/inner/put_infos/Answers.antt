use native.Mathlib.Omega.{arith}
use Rattle.model.proofs.Along.{along_start, along_more, along_stop, along_end}
use Rattle.finding_information.proofs.Infos.{info_as, info_skip}
use Rattle.finding_information.proofs.inner.put_infos.Goals as goal

pub loop-i-init : goal.loop-i-init
loop-i-init c =
    along_start _ _ _ _ _ _ c.requires.0 c.requires.1 c.requires.2

pub returns-then-c-before : goal.returns-then-c-before
returns-then-c-before c =
    along_stop _ _ _ _ _ _ _ _ _ c.loop-i.invariant c.loop-i-test.true _ _ _ c.info_row-c.ensures
    (λ want w. info_as _ want _ _ _ w) c.if-c-before.true

pub loop-i-preserved : goal.loop-i-preserved
loop-i-preserved c =
    along_more _ _ _ _ _ _ _ _ _ c.loop-i.invariant c.loop-i-test.true _ _ _ c.info_row-c.ensures
    (λ want w. info_as _ want _ _ _ w) c.if-c-before.false

pub returns : goal.returns
returns c =
    along_end _ _ _ _ _ _ _ _ _ c.loop-i.invariant (omega (arith, c.loop-i-test.false)) (λ want r rs room w. info_skip _ want r _ room w)
