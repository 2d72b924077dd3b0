use mathlib.Core.Bool.{false}
use mathlib.Core.List.{[]}
use mathlib.Core.Path.{◌≡◌, sym, ◌∙◌}
use lib.ListN.{get_or}
use native.Mathlib.Omega.{arith}
use Rattle.attribute_walk.specs.Walk.{is_of_type}
use Rattle.attribute_walk.proofs.Walks.{stretch_hit, stretch_miss, stretch_end, match_not}
use Rattle.attribute_walk.proofs.walk.find_type.Goals as goal
use Rattle.attribute_walk.proofs.walk.find_type.Goals.{then-may_match+else-is_type, else-may_match}

pub returns-then-is_type : goal.returns-then-is_type
returns-then-is_type c =
    sym (stretch_hit (is_of_type _) c.args.list.now _ _ c.requires.0 c.loop-i-test.true
    (sym c.is_type.ensures ∙ c.if-is_type.true)) ∙ c.loop-i.invariant

pub loop-i-preserved : goal.loop-i-preserved
loop-i-preserved c =
    let here = get_or c.args.list.now c.loop-i.i [] in
    let missed : is_of_type c.args.uuid.now here ≡ false =
    elim c.if-may_match.branch [
      | then-may_match+else-is_type w ↦ sym w.is_type.ensures ∙ w.if-is_type.false
      | else-may_match w ↦
          match_not _ _ c.may_match.ensures.1 _ c.requires.1 (sym c.may_match.ensures.0 ∙ w.if-may_match.false)
    ] in
    sym (stretch_miss (is_of_type _) c.args.list.now _ _ c.requires.0 c.loop-i-test.true missed) ∙ c.loop-i.invariant

pub returns : goal.returns
returns c =
    sym (stretch_end (is_of_type _) c.args.list.now _ _ c.requires.0 (omega (arith, c.loop-i-test.false))) ∙ c.loop-i.invariant
