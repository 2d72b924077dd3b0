-- `requests::inner::ask_from` meets its contract. The table of the slot, or the one without entries. Assumes nothing.
use Rattle.storing.proofs.Tables.{table_there, table_none, own_table_lem, empty_table}
use Rattle.model.proofs.Sending.{sent_as}
use Rattle.model.specs.Answer.{ask_rsp}
use Rattle.model.specs.View.{seen_all}
use lib.ListN.{length}
use Prim.Native.Nat.{ℕ}
use mathlib.Core.List.{List}
use mathlib.Core.Path.{ap}
use native.Mathlib.Omega.{arith}
use Rattle.requests.proofs.inner.ask_from.Goals as goal

pub offset_bounds-tables-k : goal.offset_bounds-tables-k
offset_bounds-tables-k c =
    omega (arith, c.requires.0.own.inside _ c.in-Some.is, c.requires.0.own.tables.eight)

pub bounds-tables-k : goal.bounds-tables-k
bounds-tables-k c =
    omega (arith, c.requires.0.own.inside _ c.in-Some.is, c.requires.0.own.tables.eight)

pub invariant_of-own : goal.invariant_of-own
invariant_of-own c = record { ready = own_table_lem _ _ _ _ c.requires.0 _ c.in-Some.is }

pub invariant_of-empty : goal.invariant_of-empty
invariant_of-empty c = record { ready = empty_table _ _ _ _ c.requires.0 }

pub returns-in-Some : goal.returns-in-Some
returns-in-Some c =
    let a = c.args in
    sent_as _ _ _ _ _ c.ask.ensures (ap (λ (t : List ℕ). ask_rsp (seen_all a.link a.list.now a.store.now t)
    (length a.out.now) a.rq a.d.now) (table_there _ _ _ c.in-Some.is))

pub returns-in-None : goal.returns-in-None
returns-in-None c =
    let a = c.args in
    sent_as _ _ _ _ _ c.ask-in-None.ensures (ap (λ (t : List ℕ). ask_rsp (seen_all a.link a.list.now a.store.now t)
    (length a.out.now) a.rq a.d.now) (table_none _ _ c.in-None.is))
