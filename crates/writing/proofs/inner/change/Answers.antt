-- `writing::inner::change` meets its contract. Each of the four as its handler leaves it. Assumes nothing.
use Rattle.writing.proofs.Changing.{record_fits}
use Rattle.model.proofs.Sending.{answered, answered_as}
use Rattle.model.specs.Answer.{change_told}
use Rattle.model.specs.Change.{state_after, record_after, data_after}
use mathlib.Core.Path.{refl, ◌∙◌}
use native.Mathlib.Omega.{arith}
use lib.Seq.{length-take-le}
use Rattle.writing.proofs.inner.change.Goals as goal

pub returns-in-Write : goal.returns-in-Write
unfolding change_told state_after record_after data_after
returns-in-Write c =
    let told = answered_as _ _ _ _ _ (answered _ _ _ _ c.done_response-n.ensures) (rw c.write-a.ensures.0) in
    rw (c.in-Write.is, c.with_record.ensures.1) (c.with_record.ensures.0, refl, c.write-a.ensures.1, told)

pub returns-in-PrepareWrite : goal.returns-in-PrepareWrite
unfolding change_told state_after record_after data_after
returns-in-PrepareWrite c =
    let a = c.args in
    let n = length-take-le a.p.len a.bytes.now (omega (arith, record_fits a.p c.requires.ready_to_store.1, c.requires.bytes_len.0)) in
    rw (c.in-PrepareWrite.is, n) (c.prepare.ensures.0, c.prepare.ensures.1, λ row. refl, c.prepare.ensures.2)

pub returns-in-ExecuteWrite : goal.returns-in-ExecuteWrite
unfolding change_told state_after record_after data_after
returns-in-ExecuteWrite c =
    let w = c.with_record-in-ExecuteWrite.ensures in
    rw (c.in-ExecuteWrite.is, w.1) (
      w.0 ∙ c.no_record.ensures,
      refl,
      c.commit-a.ensures.1,
      answered_as _ _ _ _ _ (answered _ _ _ _ c.done_response-n-in-ExecuteWrite.ensures) (rw c.commit-a.ensures.0),
    )
