-- `finding_by_value::inner::find_by_type_value` meets its contract. A bad range, no row, or the rows: a law for each.
-- Assumes nothing.
use mathlib.Core.Path.{◌≡◌, sym, ◌∙◌}
use mathlib.Core.Bool.{false}
use mathlib.Core.List.{List}
use Prim.Native.Nat.{ℕ}
use native.Mathlib.Omega.{arith}
use Rattle.wire.specs.Number.{word_bytes}
use Rattle.attribute.specs.Lookup.{is_wanted}
use Rattle.attribute_walk.proofs.Walks.{short_word, ordered}
use Rattle.attribute_walk.proofs.Halves.{ascending}
use Rattle.model.specs.Rows.{find_turn}
use Rattle.model.specs.Run.{run}
use Rattle.model.specs.Answer.{is_bad_range}
use Rattle.model.proofs.Sending.{sent_as, bad_range, good_range, in_order}
use Rattle.finding_by_value.proofs.Founds.{type_bytes, find_room, found_rows, rows_sent, error_sent}
use Rattle.finding_by_value.proofs.inner.find_by_type_value.Goals as goal
use Rattle.finding_by_value.proofs.inner.find_by_type_value.Goals.{After-put_found-c, Else-is_bad}

-- the range is good
good : (c : Else-is_bad) →
    is_bad_range c.args.g ≡ false
good c = sym c.is_bad.ensures ∙ c.if-is_bad.false

-- the rows that the loop writes, by the room that is left
abbrev rows : After-put_found-c → ℕ → List ℕ
rows c =
    let a = c.args in
    run (find_turn a.store.now (is_wanted a.g.start a.g.end (word_bytes a.uuid)) a.d.now) a.list.now

pub returns-then-is_bad : goal.returns-then-is_bad
returns-then-is_bad c =
    sent_as _ _ _ _ _ c.error_response.ensures (bad_range _ _ (sym c.is_bad.ensures ∙ c.if-is_bad.true))

pub stretch-p-requires : goal.stretch-p-requires
stretch-p-requires c =
    ascending _ _ c.requires.0

pub put_found-c-requires : goal.put_found-c-requires
put_found-c-requires c = (
  ordered _ _ _ _ c.stretch-p.ensures.0 c.stretch-p.ensures.1 (in_order _ (good (goal.at.put_found-c-requires c).Else-is_bad)),
  c.stretch-p.ensures.1.inside,
  rw (type_bytes _ _ (omega arith) c.to_le_bytes.ensures) (short_word _),
  find_room _ _ _ _ (omega (arith, c.requires.1)) c.new.ensures.0 c.byte-c.ensures.0 c.byte-c.ensures.1,
)

pub returns-then-c-eq1 : goal.returns-then-c-eq1
returns-then-c-eq1 c =
    sent_as _ _ _ _ _ (error_sent _ _ _ _ _ _ _ (rows (goal.at.returns-then-c-eq1 c).After-put_found-c) (omega (arith, c.requires.1)) c.new.ensures.0
    c.byte-c.ensures.0 c.byte-c.ensures.1 (found_rows _ _ _ _ _ _ _ c.stretch-p.ensures.0
    c.stretch-p.ensures.1 _ _ _ _ (rw (type_bytes _ _ (omega arith) c.to_le_bytes.ensures) at c.put_found-c.ensures)) c.if-c-eq1.true _ _
    c.error_response-then-c-eq1.ensures) (good_range _ _ (good (goal.at.returns-then-c-eq1 c).Else-is_bad))

pub returns : goal.returns
returns c =
    sent_as _ _ _ _ _ (rows_sent _ _ _ _ _ _ _ (rows (goal.at.returns c).After-put_found-c) (omega (arith, c.requires.1)) c.new.ensures.0
    c.byte-c.ensures.0 c.byte-c.ensures.1 (found_rows _ _ _ _ _ _ _ c.stretch-p.ensures.0
    c.stretch-p.ensures.1 _ _ _ _ (rw (type_bytes _ _ (omega arith) c.to_le_bytes.ensures) at c.put_found-c.ensures)) c.if-c-eq1.false) (good_range _ _ (good (goal.at.returns c).Else-is_bad))
