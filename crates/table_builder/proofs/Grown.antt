-- A builder with one entry more: its numbers, the old entries that stay and the new one, and that it is a builder
-- again. Assumes nothing.
use Rattle.std.specs.Prelude.{Result, Ok, Err}
use mathlib.Core.Path.{◌≡◌, refl, sym, ◌∙◌}
use mathlib.Core.Bool.{Bool, true, false, cond}
use mathlib.Core.List.{List, [], ◌∷◌, ◌++◌}
use mathlib.Core.Logic.{⊎_elim}
use Prim.Native.Nat.{ℕ, zero, suc, ◌+◌, ◌-◌, ◌*◌, ◌%◌, ◌≤◌, ◌<◌}
use native.Mathlib.Numerals.{add-one}
use native.Mathlib.Nat.{eq-or-lt_of_le}
use native.Mathlib.Omega.{arith}
use lib.ListN.{length, get_or, replicate, length-set}
use lib.Seq.{sets}
use lib.Dec.{leb}
use borrow.Author.Tests.{lt-ltb, le-leb, lt-leb, leb-true}
use Rattle.wire.specs.Size.{table_bytes}
use Rattle.wire.specs.Test.{both}
use Rattle.wire.specs.Number.{word, word_bytes}
use Rattle.wire.proofs.Fold.{all_zeros}
use Rattle.wire.proofs.Tests.{both_l, both_r, both_true, split}
use Rattle.wire.proofs.Sets.{past, word_before, word_past, word_same}
use Rattle.table_view.specs.Layout.{count_of, values_len, base_of, end_of, key_at, var_at, off_at, next_at, head_at, cap_at}
use Rattle.table_view.specs.Rules.{index_entry_ok, index_ok, value_ok, values_ok, accepts}
use Rattle.table_view.specs.View.{item_at, items_from, view}
use Rattle.table_view.proofs.Cases.{next_inner, next_last}
use Rattle.table_view.proofs.Reading.{by_values}
use Rattle.table_view.proofs.Shape.{index, entry_at, entry_value, all_values, ascends}
use Rattle.table_builder.specs.Push.{builder, last_key, value_size, flagged, push_plan, with_entry, if_added, after_push}
use Rattle.table_builder.specs.AsList.{blank}
use Rattle.table_builder.proofs.Laws.{Adds, adds, is_table, last}
use Rattle.table_builder.proofs.Clear.{Clear, is_clear, is_builder, len_clear, item_clear}
use Rattle.table_builder.specs.declared.PushError.{PushError}

-- a key with its flag holds both
flagged_key : (k : ℕ) (var : Bool) → k ≤ 32767 → flagged k var % 32768 ≡ k
unfolding flagged
flagged_key k true h = omega arith
flagged_key k false h = omega arith

flagged_var : (k : ℕ) (var : Bool) → k ≤ 32767 → leb 32768 (flagged k var) ≡ var
unfolding flagged
flagged_var k true h = le-leb 32768 (k + 32768) (omega arith)
flagged_var k false h = lt-leb 32768 k (omega arith)

-- the four stores over any numbers: what each holds after all, and what stays between the header and the entry, and
-- after it
abbrev four : List ℕ → ℕ → ℕ → ℕ → ℕ → ℕ → List ℕ
four l at a b c d = sets (sets (sets (sets l 0 (word_bytes a)) 2 (word_bytes b)) at (word_bytes c)) (at + 2) (word_bytes d)

module _ (l : List ℕ) (at a b c d : ℕ) (low : 4 ≤ at) where
  abbrev one : List ℕ
  one = sets l 0 (word_bytes a)

  abbrev two : List ℕ
  two = sets one 2 (word_bytes b)

  abbrev three : List ℕ
  three = sets two at (word_bytes c)

  last_two : (j : ℕ) → j + 1 < at → word (four l at a b c d) j ≡ word two j
  last_two j h = word_before (word_bytes d) three (at + 2) j (omega arith) ∙ word_before (word_bytes c) two at j h

  between : (j : ℕ) → 4 ≤ j → j + 1 < at → word (four l at a b c d) j ≡ word l j
  between j g h = last_two j h ∙ word_past (word_bytes b) one 2 j g ∙ word_past (word_bytes a) l 0 j (omega arith)

  after : (j : ℕ) → at + 4 ≤ j → get_or (four l at a b c d) j 0 ≡ get_or l j 0
  after j h =
      past (word_bytes d) three (at + 2) j (omega arith)
      ∙ past (word_bytes c) two at j (omega arith)
      ∙ past (word_bytes b) one 2 j (omega arith)
      ∙ past (word_bytes a) l 0 j (omega arith)

  module _ (room : at + 4 ≤ length l) where
    word_one : word (four l at a b c d) 0 ≡ a
    word_one = last_two 0 (omega arith) ∙ word_before (word_bytes b) one 2 0 (omega arith) ∙ word_same l 0 a (omega arith)

    word_two : word (four l at a b c d) 2 ≡ b
    word_two = last_two 2 (omega arith) ∙ word_same one 2 b (simp length-set (omega arith))

    word_three : word (four l at a b c d) at ≡ c
    word_three = word_before (word_bytes d) three (at + 2) at (omega arith) ∙ word_same two at c (simp length-set (omega arith))

    word_four : word (four l at a b c d) (at + 2) ≡ d
    word_four = word_same three (at + 2) d (simp length-set (omega arith))

-- what an entry that was put leaves: the header's numbers have moved, the entry stands after the old ones, and the
-- other bytes stay
pub record Grown (bs out : List ℕ) (k n : ℕ) (var : Bool) : Type 0 where
  pub size : length out ≡ length bs
  pub count : count_of out ≡ count_of bs + 1
  pub values : values_len out ≡ values_len bs + value_size n var
  pub old : (j : ℕ) → 4 ≤ j → j + 1 < base_of bs → word out j ≡ word bs j
  pub key : word out (base_of bs) ≡ flagged k var
  pub off : word out (base_of bs + 2) ≡ values_len bs
  pub rest : (j : ℕ) → base_of bs + 4 ≤ j → get_or out j 0 ≡ get_or bs j 0

pub grown : (bs : List ℕ) (k n : ℕ) (var : Bool) → base_of bs + 4 ≤ length bs → Grown bs (with_entry bs k n var) k n var
unfolding with_entry
grown bs k n var room =
    let low : 4 ≤ base_of bs = omega arith in
    let a = count_of bs + 1 in
    let b = values_len bs + value_size n var in
    let c = flagged k var in
    let d = values_len bs in
    record {
      size = simp length-set;
      count = word_one bs (base_of bs) a b c d low room;
      values = word_two bs (base_of bs) a b c d low room;
      old = between bs (base_of bs) a b c d low;
      key = word_three bs (base_of bs) a b c d low room;
      off = word_four bs (base_of bs) a b c d low room;
      rest = after bs (base_of bs) a b c d low;
    }

-- a value takes its room and its length's bytes
head_taken : (n : ℕ) (var : Bool) → cond var 2 0 + n ≡ value_size n var
unfolding value_size
head_taken n true = omega arith
head_taken n false = omega arith

-- no key of a table is above its last
below_last : (bs : List ℕ) → accepts bs ≡ true → (j : ℕ) → j < count_of bs → key_at bs j ≤ last_key bs
below_last bs ok j h =
    let e = last bs (λ (z : count_of bs ≡ 0). omega arith) in
    let m : j ≤ count_of bs - 1 = omega arith in
    ⊎_elim
    (λ (s : j ≡ count_of bs - 1). rw s (omega arith))
    (λ (l : j < count_of bs - 1). let a = ascends bs ok j (count_of bs - 1) l (omega arith) in omega arith)
    (eq-or-lt_of_le m)

module _ (bs out : List ℕ) (k n : ℕ) (var : Bool) (a : Adds bs k n var) (g : Grown bs out k n var) where
  -- the old entries
  off_old : (j : ℕ) → j < count_of bs → off_at out j ≡ off_at bs j
  off_old j h = g.old (6 + 4 * j) (omega arith) (omega arith)

  key_old : (j : ℕ) → j < count_of bs → key_at out j ≡ key_at bs j
  key_old j h = rw (g.old (4 + 4 * j) (omega arith) (omega arith))

  var_old : (j : ℕ) → j < count_of bs → var_at out j ≡ var_at bs j
  var_old j h = rw (g.old (4 + 4 * j) (omega arith) (omega arith))

  -- the new one
  off_new : off_at out (count_of bs) ≡ values_len bs
  off_new = let e : 6 + 4 * count_of bs ≡ base_of bs + 2 = omega arith in rw e g.off

  key_new : key_at out (count_of bs) ≡ k
  key_new = rw g.key (flagged_key k var a.key)

  var_new : var_at out (count_of bs) ≡ var
  var_new = rw g.key (flagged_var k var a.key)

  -- where their values end
  next_old : (j : ℕ) → j < count_of bs → next_at out j ≡ next_at bs j
  next_old j h =
      let c = g.count in
      next_inner out j (omega arith)
      ∙ ⊎_elim
      (λ (l : j + 1 < count_of bs). off_old (j + 1) l ∙ sym (next_inner bs j l))
      (λ (l : count_of bs ≤ j + 1). let e : j + 1 ≡ count_of bs = omega arith in rw e off_new ∙ sym (next_last bs j l))
      (split (j + 1) (count_of bs))

  next_new : next_at out (count_of bs) ≡ values_len out
  next_new = next_last out (count_of bs) (omega (arith, g.count))

  -- the bytes of a value's length, and its room
  head_old : (j : ℕ) → j < count_of bs → head_at out j ≡ head_at bs j
  unfolding head_at
  head_old j h = rw (var_old j h)

  head_new : head_at out (count_of bs) + n ≡ value_size n var
  unfolding head_at
  head_new = rw var_new (head_taken n var)

  cap_old : (j : ℕ) → j < count_of bs → cap_at out j ≡ cap_at bs j
  cap_old j h = omega (arith, g.count, off_old j h, head_old j h, next_old j h)

  cap_new : cap_at out (count_of bs) ≡ n
  cap_new = omega (arith, g.values, off_new, head_new, next_new)

  -- the bytes after the index are zeros; the index passes; and so do the values
  pub clear_out : Clear out
  clear_out j h = let c = g.count in g.rest j (omega arith) ∙ is_clear bs a.ok j (omega arith)

  index_out : (m i p o : ℕ) → i + m ≡ count_of bs → index_ok bs m i p o ≡ true → p < k → o ≤ values_len bs → index_ok out (suc m) i p o ≡ true
  unfolding index_ok index_entry_ok
  index_out zero i p o e h l q =
      let s : i ≡ count_of bs = omega arith in
      rw (s, key_new, off_new)
      (both_true _ _ (both_true _ _ (lt-ltb p k l) (both_true _ _ (le-leb o (values_len bs) q) (le-leb (values_len bs) (values_len out) (omega (arith, g.values))))) refl)
  index_out (suc m) i p o e h l q =
      let t : i < count_of bs = omega arith in
      let u = both_l _ _ h in
      let v = both_r _ _ u in
      let w = leb-true (off_at bs i) (values_len bs) (both_r _ _ v) in
      let x = below_last bs (is_table bs a.ok) i t in
      rw (key_old i t, off_old i t)
      (both_true _ _
      (both_true _ _ (both_l _ _ u) (both_true _ _ (both_l _ _ v) (le-leb (off_at bs i) (values_len out) (omega (arith, g.values)))))
      (index_out m (suc i) (key_at bs i) (off_at bs i) (omega arith) (both_r _ _ h) (omega (arith, a.above)) w))

  value_out : (j : ℕ) → j < count_of out → value_ok out j ≡ true
  value_out j h =
      let c = g.count in
      let v = g.values in
      let z = len_clear out clear_out j in
      let m : j ≤ count_of bs = omega arith in
      entry_value out j
      (⊎_elim
      (λ (s : j ≡ count_of bs). record { room = rw s (omega (arith, off_new, head_new, next_new)); within = rw s (omega (arith, next_new)); len = z })
      (λ (l : j < count_of bs).
      let e = entry_at bs (is_table bs a.ok) j l in
      let r = e.room in
      let w = e.within in
      record { room = omega (arith, off_old j l, head_old j l, next_old j l); within = omega (arith, next_old j l); len = z })
      (eq-or-lt_of_le m))

  -- where the values end, and the last key
  pub end_out : end_of out ≡ end_of bs + 4 + value_size n var
  end_out = omega (arith, g.count, g.values)

  pub last_out : last_key out ≡ k
  last_out =
      let c = g.count in
      let e : count_of out - 1 ≡ count_of bs = omega arith in
      sym (last out (λ (z : count_of out ≡ 0). omega arith)) ∙ rw e key_new

  -- where the bytes have room for it, it is a builder, and reads as the list with a blank entry more
  module _ (room : table_bytes ≤ length bs) where
    table_out : accepts out ≡ true
    table_out =
        let s = g.size in
        let e = end_out in
        sym (by_values out (omega arith) (omega (arith, a.room))
        (rw (g.count, add-one) (index_out (count_of bs) 0 0 0 (omega arith) (index bs (is_table bs a.ok)) (omega (arith, a.above)) (omega arith))))
        ∙ all_values out (count_of out) 0 (λ j l h. value_out j (omega arith))

    pub builder_out : builder out ≡ true
    builder_out = is_builder out table_out clear_out

    item_old : (j : ℕ) → j < count_of bs → item_at out j ≡ item_at bs j
    item_old j h =
        item_clear out clear_out j table_out (omega (arith, g.count))
        ∙ rw (key_old j h, var_old j h, cap_old j h) (sym (item_clear bs (is_clear bs a.ok) j (is_table bs a.ok) h))

    item_new : item_at out (count_of bs) ≡ blank (record { key = k; size = n; variable = var })
    item_new = item_clear out clear_out (count_of bs) table_out (omega (arith, g.count)) ∙ rw (key_new, var_new, cap_new)

    items_out : (m i : ℕ) → i + m ≡ count_of bs → items_from out (suc m) i ≡ items_from bs m i ++ blank (record { key = k; size = n; variable = var }) ∷ []
    unfolding items_from
    items_out zero i e = let s : i ≡ count_of bs = omega arith in rw (s, item_new)
    items_out (suc m) i e = rw (item_old i (omega arith), ← items_out m (suc i) (omega arith))

    pub view_out : view out ≡ view bs ++ blank (record { key = k; size = n; variable = var }) ∷ []
    view_out = rw (g.count, add-one) (items_out (count_of bs) 0 (omega arith))

-- for the crates above: the bytes of a new builder are a builder's
pub fresh_builder : builder (replicate table_bytes 0) ≡ true
unfolding builder accepts both word index_ok values_ok
fresh_builder = all_zeros 636

module _ (bs : List ℕ) (k n : ℕ) (var : Bool) where
  -- what holds of the bytes and of those with the entry holds after a push
  pushed : (P : List ℕ → Type 0) → P bs → (push_plan bs k n var ≡ Ok tt → P (with_entry bs k n var)) → P (after_push bs k n var)
  pushed P old new = by (push_plan bs k n var) refl
    where
      by : (p : Result (Unit {0}) PushError) → push_plan bs k n var ≡ p → P (if_added p (with_entry bs k n var) bs)
      by (Ok x) e = new e
      by (Err w) e = old

  -- a push leaves as many bytes
  pub pushed_length : length (after_push bs k n var) ≡ length bs
  unfolding with_entry
  pushed_length = pushed (λ out. length out ≡ length bs) refl (λ e. simp length-set)

  -- and of a builder's bytes a builder's
  pub pushed_builder : table_bytes ≤ length bs → builder bs ≡ true → builder (after_push bs k n var) ≡ true
  pushed_builder l ok =
      pushed (λ out. builder out ≡ true) ok
      (λ e.
      let a = adds bs k n var e in
      builder_out bs _ k n var a (grown bs k n var (omega (arith, a.room))) l)
