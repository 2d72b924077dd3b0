-- `requests::inner::answer` meets its contract. Each request as its handler leaves it: what is sent is answered. Assumes
-- nothing.
use Rattle.model.proofs.Sending.{answered}
use Rattle.model.specs.Answer.{request_told}
use Rattle.model.specs.Change.{state_by, record_by, data_by}
use mathlib.Core.Path.{refl}
use Rattle.requests.proofs.inner.answer.Goals as goal

pub returns-in-Ask : goal.returns-in-Ask
unfolding request_told state_by record_by data_by
returns-in-Ask c =
    rw (c.in-Ask.is, c.with_record.ensures.1)
    (c.with_record.ensures.0, refl, λ row. refl, answered _ _ _ _ c.ask_from-n.ensures)

pub returns-in-FindByTypeValue : goal.returns-in-FindByTypeValue
unfolding request_told state_by record_by data_by
returns-in-FindByTypeValue c =
    let w = c.with_record-in-FindByTypeValue.ensures in
    rw (c.in-FindByTypeValue.is, w.1) (w.0, refl, λ row. refl, answered _ _ _ _ c.find_by_type_value-n.ensures)
