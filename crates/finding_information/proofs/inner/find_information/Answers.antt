-- `finding_information::inner::find_information` meets its contract. A bad range, no entry in it, or the rows of its
-- stretch. Assumes nothing.
use mathlib.Core.Path.{◌≡◌, ap, sym, ◌∙◌}
use mathlib.Core.Bool.{false}
use mathlib.Core.List.{List}
use Prim.Native.Nat.{ℕ}
use native.Mathlib.Omega.{arith}
use borrow.Author.Rules.{rules}
use lib.ListN.{length, drop}
use Rattle.attribute.specs.Lookup.{is_within}
use Rattle.attribute_walk.proofs.Walks.{picks_all, first_within, none_within}
use Rattle.model.specs.Run.{run}
use Rattle.model.specs.Answer.{is_bad_range}
use Rattle.model.proofs.Sending.{sent_as, bad_range, good_range}
use Rattle.finding_information.specs.Turns.{info_at}
use Rattle.finding_information.proofs.Infos.{info_room, uuid_short, none_found, first_found, info_sent}
use Rattle.finding_information.proofs.inner.find_information.Goals as goal
use Rattle.finding_information.proofs.inner.find_information.Goals.{After-put_infos-c, Else-is_bad}

-- the range is good
good : (c : Else-is_bad) →
    is_bad_range c.args.g ≡ false
good c = sym c.is_bad.ensures ∙ c.if-is_bad.false

-- the rows that the loop writes, by the room that is left
abbrev rows : After-put_infos-c → ℕ → List ℕ
rows c =
    let a = c.args in
    run (info_at (is_within a.g.start a.g.end) (length c.uuid-size.result.now)) (drop c.stretch-p.result.from a.list.now)

pub returns-then-is_bad : goal.returns-then-is_bad
returns-then-is_bad c =
    sent_as _ _ _ _ _ c.error_response.ensures (bad_range _ _ (sym c.is_bad.ensures ∙ c.if-is_bad.true))

pub returns-then-p : goal.returns-then-p
returns-then-p c =
    sent_as _ _ _ _ _ c.error_response-then-p.ensures
    (none_found _ _ _ _ (none_within _ _ _ _ c.stretch-p.ensures.0 c.stretch-p.ensures.1 c.if-p.true)
    ∙ good_range _ _ (good (goal.at.returns-then-p c).Else-is_bad))

pub put_infos-c-requires : goal.put_infos-c-requires
put_infos-c-requires c = (
  omega (arith, c.if-p.false),
  c.stretch-p.ensures.1.inside,
  info_room _ _ _ _ _ _ _ (omega (arith, c.requires.1)) c.new.ensures.0 c.byte-c.ensures.0
      c.byte-c.ensures.1 c.byte-c-2.ensures.0 c.byte-c-2.ensures.1,
  uuid_short _ _ (search rules) c.uuid-size.ensures,
)

pub returns : goal.returns
returns c =
    info_sent _ _ _ _ _ _ _ (omega (arith, c.requires.1)) c.new.ensures.0 c.byte-c.ensures.0
    c.byte-c.ensures.1 c.byte-c-2.ensures.0 c.byte-c-2.ensures.1 _ _ _ (rows (goal.at.returns c).After-put_infos-c)
    (c.put_infos-c.ensures _ (picks_all _ _ _ _ c.stretch-p.ensures.0 c.stretch-p.ensures.1))
    (rw c.format.ensures (first_found _ _ _ _ _ _
    (first_within _ _ _ _ c.stretch-p.ensures.0 c.stretch-p.ensures.1 c.if-p.false)
    (ap length c.uuid-size.ensures) ∙ good_range _ _ (good (goal.at.returns c).Else-is_bad)))
