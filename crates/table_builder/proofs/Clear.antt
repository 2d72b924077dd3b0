-- Bytes with zeros after the index: each value that they hold is blank, and within its room. Assumes nothing.
use mathlib.Core.Path.{◌≡◌, refl, sym, ◌∙◌}
use mathlib.Core.Bool.{Bool, true, false, cond}
use mathlib.Core.List.{List, []}
use Prim.Native.Nat.{ℕ, ◌+◌, ◌≤◌, ◌<◌}
use native.Mathlib.Omega.{arith}
use lib.ListN.{length, get_or, take, drop, replicate, length-take, length-drop, length-replicate, get_or-replicate}
use lib.Seq.{get_or-take, get_or-drop, ext_get_or}
use Rattle.wire.specs.Number.{word}
use Rattle.wire.proofs.Tests.{both_r}
use Rattle.table_view.specs.Layout.{count_of, base_of, key_at, var_at, off_at, start_at, cap_at, len_at, value_at}
use Rattle.table_view.specs.Rules.{accepts}
use Rattle.wire.proofs.Fold.{zeros_from, from_zeros}
use Rattle.table_view.specs.View.{item_at}
use Rattle.table_view.proofs.Cases.{len_var, len_fixed}
use Rattle.table_view.proofs.Shape.{fits, room_fits}
use Rattle.table_builder.specs.Push.{builder}
use Rattle.table_builder.specs.AsList.{blank}
use Rattle.table_builder.proofs.Laws.{by_zeros}

-- every byte after the index is 0
abbrev pub Clear : List ℕ → Type 0
Clear bs = (j : ℕ) → base_of bs ≤ j → get_or bs j 0 ≡ 0

module _ (bs : List ℕ) where
  -- a builder's bytes are so, and a table whose bytes are so is a builder's
  pub is_clear : builder bs ≡ true → Clear bs
  unfolding builder
  is_clear ok = from_zeros bs (base_of bs) (both_r _ _ ok)

  pub is_builder : accepts bs ≡ true → Clear bs → builder bs ≡ true
  is_builder ok z = sym (by_zeros bs ok) ∙ zeros_from bs (base_of bs) z

-- what stands there: numbers, parts, and the values
module _ (bs : List ℕ) (z : Clear bs) where
  clear_word : (i : ℕ) → base_of bs ≤ i → word bs i ≡ 0
  unfolding word
  clear_word i h = rw (z i h, z (i + 1) (omega arith))

  clear_part : (s n : ℕ) → s + n ≤ length bs → base_of bs ≤ s → take n (drop s bs) ≡ replicate n 0
  clear_part s n l b =
      let e : length (take n (drop s bs)) ≡ n = simp (length-take, length-drop) (omega arith) in
      ext_get_or 0 _ _ (e ∙ sym (length-replicate n 0))
      (λ i h.
      let k : i < n = omega arith in
      rw (get_or-take n (drop s bs) i 0 k, get_or-drop s bs i 0, get_or-replicate {A = ℕ} n i 0 0 k) (z (s + i) (omega arith)))

  module _ (j : ℕ) where
    -- a variable value is empty
    empty : var_at bs j ≡ true → len_at bs j ≡ 0
    empty v = len_var bs j v ∙ clear_word (base_of bs + off_at bs j) (omega arith)

    -- and so its length is within its room
    pub len_clear : len_at bs j ≤ cap_at bs j
    len_clear = by (var_at bs j) refl
      where
        by : (t : Bool) → var_at bs j ≡ t → len_at bs j ≤ cap_at bs j
        by true v = omega (arith, empty v)
        by false v = omega (arith, len_fixed bs j v)

    -- a value is empty, or as many zeros as it has room for
    pub value_clear : accepts bs ≡ true → j < count_of bs → value_at bs j ≡ cond (var_at bs j) [] (replicate (cap_at bs j) 0)
    unfolding value_at
    value_clear ok h = by (var_at bs j) refl
      where
        by : (t : Bool) → var_at bs j ≡ t → value_at bs j ≡ cond t [] (replicate (cap_at bs j) 0)
        by true v = rw (empty v)
        by false v =
            let r = room_fits bs ok j h in
            let f = fits bs ok in
            rw (len_fixed bs j v) (clear_part (start_at bs j) (cap_at bs j) (omega arith) (omega arith))

    -- what the reader finds at a place is what a push of its key, room and kind lays out
    pub item_clear : accepts bs ≡ true → j < count_of bs → item_at bs j ≡ blank (record { key = key_at bs j; size = cap_at bs j; variable = var_at bs j })
    unfolding item_at blank
    item_clear ok h = rw (value_clear ok h)
