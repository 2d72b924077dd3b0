-- Bytes with the header and the index of an accepted table: its layout is theirs, and with lengths within their room
-- they are a table. Assumes nothing.
use mathlib.Core.Path.{◌≡◌, refl, sym, ◌∙◌}
use mathlib.Core.Bool.{Bool, true, false}
use mathlib.Core.List.{List}
use mathlib.Core.Logic.{⊎_elim}
use Prim.Native.Nat.{ℕ, zero, suc, ◌+◌, ◌*◌, ◌≤◌, ◌<◌}
use native.Mathlib.Omega.{arith}
use lib.ListN.{length, get_or, take, length-take}
use lib.Seq.{get_or-take}
use Rattle.wire.specs.Number.{word}
use Rattle.wire.proofs.Tests.{split}
use Rattle.wire.proofs.Sets.{part_same}
use Rattle.table_view.specs.Layout.{count_of, values_len, base_of, end_of, key_at, var_at, off_at, next_at, head_at, start_at, cap_at, len_at, value_at}
use Rattle.table_view.specs.Rules.{index_entry_ok, index_ok, accepts}
use Rattle.table_view.specs.View.{item_at, items_from, view}
use Rattle.table_view.proofs.Cases.{head_var, len_var, len_fixed, next_inner, next_last}
use Rattle.table_view.proofs.Reading.{by_values}
use Rattle.table_view.proofs.Shape.{fits, index, entry_at, entry_value, all_values}

pub record SameIndex (bs out : List ℕ) : Type 0 where
  pub room : end_of bs ≤ length out
  pub bytes : (j : ℕ) → j < base_of bs → get_or out j 0 ≡ get_or bs j 0

module _ (bs out : List ℕ) (s : SameIndex bs out) where
  word_same : (j : ℕ) → j + 1 < base_of bs → word out j ≡ word bs j
  unfolding word
  word_same j h = rw (s.bytes j (omega arith), s.bytes (j + 1) h)

  pub count_same : count_of out ≡ count_of bs
  count_same = word_same 0 (omega arith)

  pub values_same : values_len out ≡ values_len bs
  values_same = word_same 2 (omega arith)

  pub end_same : end_of out ≡ end_of bs
  end_same = omega (arith, count_same, values_same)

  pub off_same : (j : ℕ) → j < count_of bs → off_at out j ≡ off_at bs j
  off_same j h = word_same (6 + 4 * j) (omega arith)

  module _ (j : ℕ) (h : j < count_of bs) where
    pub key_same : key_at out j ≡ key_at bs j
    key_same = rw (word_same (4 + 4 * j) (omega arith))

    pub var_same : var_at out j ≡ var_at bs j
    var_same = rw (word_same (4 + 4 * j) (omega arith))

    pub head_same : head_at out j ≡ head_at bs j
    unfolding head_at
    head_same = rw var_same

    pub next_same : next_at out j ≡ next_at bs j
    next_same =
        ⊎_elim
        (λ (l : j + 1 < count_of bs). next_inner out j (rw count_same l) ∙ off_same (j + 1) l ∙ sym (next_inner bs j l))
        (λ (l : count_of bs ≤ j + 1). next_last out j (rw count_same l) ∙ values_same ∙ sym (next_last bs j l))
        (split (j + 1) (count_of bs))

    pub start_same : start_at out j ≡ start_at bs j
    start_same = omega (arith, count_same, off_same j h, head_same)

    pub cap_same : cap_at out j ≡ cap_at bs j
    cap_same = omega (arith, count_same, off_same j h, head_same, next_same)

  entries_same : (n i k o : ℕ) → i + n ≡ count_of bs → index_ok out n i k o ≡ index_ok bs n i k o
  unfolding index_ok index_entry_ok
  entries_same zero i k o e = refl
  entries_same (suc n) i k o e =
      let h : i < count_of bs = omega arith in
      rw (key_same i h, off_same i h, values_same, entries_same n (suc i) (key_at bs i) (off_at bs i) (omega arith))

  pub index_kept : accepts bs ≡ true → index_ok out (count_of out) 0 0 0 ≡ true
  index_kept ok = rw count_same (entries_same (count_of bs) 0 0 0 (omega arith)) ∙ index bs ok

  -- they are a table where each length is within its room
  pub accepted : accepts bs ≡ true → ((j : ℕ) → j < count_of bs → len_at out j ≤ cap_at bs j) → accepts out ≡ true
  accepted ok len =
      let r = s.room in
      let e = end_same in
      sym (by_values out (omega arith) (omega arith) (index_kept ok))
      ∙ all_values out (count_of out) 0
      (λ j a b.
      let h : j < count_of bs = omega (arith, count_same) in
      let g = entry_at bs ok j h in
      entry_value out j (record {
        room = omega (arith, off_same j h, head_same j h, next_same j h);
        within = omega (arith, values_same, next_same j h);
        len = omega (arith, len j h, cap_same j h);
      }))

-- a value whose bytes, its length's included, stay is the same value
module _ (bs out : List ℕ) (s : SameIndex bs out) (ok : accepts bs ≡ true) (j : ℕ) (h : j < count_of bs)
    (b : (n : ℕ) → base_of bs + off_at bs j ≤ n → n < base_of bs + next_at bs j → get_or out n 0 ≡ get_or bs n 0) where
  word_there : var_at bs j ≡ true → word out (base_of bs + off_at bs j) ≡ word bs (base_of bs + off_at bs j)
  unfolding word
  word_there v =
      let e = entry_at bs ok j h in
      let two = head_var bs j v in
      rw (b (base_of bs + off_at bs j) (omega arith) (omega arith), b (base_of bs + off_at bs j + 1) (omega arith) (omega arith))

  pub len_same : len_at out j ≡ len_at bs j
  len_same = by (var_at bs j) refl
    where
      by : (t : Bool) → var_at bs j ≡ t → len_at out j ≡ len_at bs j
      by true v = len_var out j (var_same bs out s j h ∙ v) ∙ rw (count_same bs out s, off_same bs out s j h) (word_there v) ∙ sym (len_var bs j v)
      by false v = len_fixed out j (var_same bs out s j h ∙ v) ∙ cap_same bs out s j h ∙ sym (len_fixed bs j v)

  value_same : value_at out j ≡ value_at bs j
  unfolding value_at
  value_same =
      let e = entry_at bs ok j h in
      let l = e.len in
      let w = e.within in
      let r = s.room in
      let f = fits bs ok in
      rw (len_same, start_same bs out s j h)
      (part_same out bs (start_at bs j) (len_at bs j) (omega arith) (omega arith) (λ n a c. b n (omega arith) (omega arith)))

  pub item_same : item_at out j ≡ item_at bs j
  unfolding item_at
  item_same = rw (key_same bs out s j h, var_same bs out s j h, cap_same bs out s j h, value_same)

-- the part up to the values' end is the same table
module _ (bs : List ℕ) (ok : accepts bs ≡ true) where
  pub raw_index : SameIndex bs (take (end_of bs) bs)
  raw_index =
      let f = fits bs ok in
      record { room = simp length-take (omega arith); bytes = λ j h. get_or-take (end_of bs) bs j 0 (omega arith) }

  pub raw_bytes : (j : ℕ) → j < count_of bs → (n : ℕ) → base_of bs + off_at bs j ≤ n → n < base_of bs + next_at bs j → get_or (take (end_of bs) bs) n 0 ≡ get_or bs n 0
  raw_bytes j h n a b =
      let e = entry_at bs ok j h in
      let w = e.within in
      get_or-take (end_of bs) bs n 0 (omega arith)

  pub raw_accepted : accepts (take (end_of bs) bs) ≡ true
  raw_accepted =
      accepted bs _ raw_index ok
      (λ j h. let e = entry_at bs ok j h in rw (len_same bs _ raw_index ok j h (raw_bytes j h)) e.len)

  raw_items : (n i : ℕ) → i + n ≡ count_of bs → items_from (take (end_of bs) bs) n i ≡ items_from bs n i
  unfolding items_from
  raw_items zero i e = refl
  raw_items (suc n) i e =
      let h : i < count_of bs = omega arith in
      rw (item_same bs _ raw_index ok i h (raw_bytes i h), raw_items n (suc i) (omega arith))

  pub raw_view : view (take (end_of bs) bs) ≡ view bs
  raw_view = rw (count_same bs _ raw_index) (raw_items (count_of bs) 0 (omega arith))
