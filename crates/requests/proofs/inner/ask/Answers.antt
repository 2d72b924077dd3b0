-- `requests::inner::ask` meets its contract. Find Information is told the list's entries, which the view has too; the
-- others need no more than the definition. Assumes nothing.
use Rattle.requests.proofs.Asking.{entries_seen}
use Rattle.attribute_walk.proofs.Halves.{ascending}
use Rattle.model.specs.Answer.{ask_rsp}
use native.Mathlib.Omega.{arith}
use Rattle.requests.proofs.inner.ask.Goals as goal

pub find_information-requires : goal.find_information-requires
find_information-requires c =
    (ascending _ _ c.args.v.ready.right, omega (arith, c.requires))

pub returns-in-FindInformation : goal.returns-in-FindInformation
unfolding ask_rsp
returns-in-FindInformation c =
    let v = c.args.v in
    rw (c.in-FindInformation.is, entries_seen c.args.link v.list.now v.store.now v.table.now) c.find_information.ensures
