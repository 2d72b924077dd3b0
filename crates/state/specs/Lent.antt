-- The state that is lent to a call that only reads it. Assumes nothing.
use Rattle.state.specs.State.{State, lent}
use Rattle.state.specs.declared.Lent.{Lent}

abbrev pub held : Lent → State
held h = lent h.list.now h.store.now h.row.now h.tables.now
