-- The walk to a group's end, and a loop that keeps the group it met last. Assumes nothing.
use mathlib.Core.Path.{◌≡◌, sym, ◌∙◌}
use mathlib.Core.Bool.{true, false, cond}
use mathlib.Core.List.{List, []}
use mathlib.Core.Logic.{⊎_elim}
use Prim.Native.Nat.{ℕ, ◌+◌, ◌≤◌, ◌<◌}
use native.Mathlib.Numerals.{add-one}
use native.Mathlib.Omega.{arith}
use lib.ListN.{length, get_or, drop, drop_of_length-le}
use lib.Seq.{drop-cons}
use Rattle.wire.proofs.Tests.{split}
use Rattle.attribute.specs.Record.{attribute_of, entry_of}
use Rattle.attribute.specs.Lookup.{handle_of, entries_of, is_service, group_end, group_end_at}
use Rattle.attribute_walk.specs.Walk.{InGroup}
use Rattle.attribute_walk.specs.declared.group.Group.{Group}

-- the walk to a group's end: h is the handle so far
module _ (list : List (List ℕ)) (h j : ℕ) where
  group_turn : j < length list → group_end h (entries_of (drop j list)) ≡ cond (is_service (entry_of (get_or list j []))) h (group_end_at list j)
  unfolding group_end entry_of attribute_of
  group_turn l = rw (drop-cons list j [] l, add-one)

  group_stops : j < length list → is_service (entry_of (get_or list j [])) ≡ true → group_end h (entries_of (drop j list)) ≡ h
  group_stops l t = rw (group_turn l, t)

  group_goes_on : j < length list → is_service (entry_of (get_or list j [])) ≡ false → group_end h (entries_of (drop j list)) ≡ group_end_at list j
  group_goes_on l t = rw (group_turn l, t)

  group_ends : length list ≤ j → group_end h (entries_of (drop j list)) ≡ h
  unfolding group_end
  group_ends l = rw (drop_of_length-le list l)

-- the entries from place i up to place j are of one group, whose end is looked for in what is left, and h is the handle
-- so far
abbrev pub Passed : List (List ℕ) → ℕ → ℕ → ℕ → Type 0
Passed list i h j = (k : ℕ) → i ≤ k → k < j → group_end_at list k ≡ group_end h (entries_of (drop j list))

module _ (list : List (List ℕ)) (i : ℕ) where
  pub passed_one : Passed list i (handle_of (get_or list i [])) (i + 1)
  passed_one k a b =
      let e : k ≡ i = omega arith in
      rw e

  module _ (h j : ℕ) (p : Passed list i h j) where
    pub passed_more : j < length list → is_service (entry_of (get_or list j [])) ≡ false → Passed list i (handle_of (get_or list j [])) (j + 1)
    passed_more l t k a b =
        ⊎_elim
        (λ (m : k < j). p k a m ∙ group_goes_on list h j l t)
        (λ (m : j ≤ k). let e : k ≡ j = omega arith in rw e)
        (split k j)

    pub passed_stops : j < length list → is_service (entry_of (get_or list j [])) ≡ true → InGroup list i (record { stop = j; end = h })
    passed_stops l t k a b = p k a b ∙ group_stops list h j l t

    pub passed_ends : length list ≤ j → InGroup list i (record { stop = j; end = h })
    passed_ends l k a b = p k a b ∙ group_ends list h j l

-- a loop that keeps the group it met last: none at the start, the end of an entry within it, and the same group at the
-- next entry
module _ (list : List (List ℕ)) (i : ℕ) where
  pub no_group : InGroup list i (record { stop = 0; end = 0 })
  no_group j a b = absurd (omega arith)

  pub group_here : (g : Group) → i < g.stop → InGroup list i g → g.end ≡ group_end_at list i
  group_here g l h = sym (h i (omega arith) l)

  pub group_later : (g : Group) → InGroup list i g → InGroup list (i + 1) g
  group_later g h j a b = h j (omega arith) b
