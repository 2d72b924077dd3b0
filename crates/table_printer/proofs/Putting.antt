-- The pieces of a line, put one after another, and the lines of a table. Assumes nothing.
use mathlib.Core.Path.{◌≡◌, refl, ap, ◌∙◌}
use mathlib.Core.Bool.{Bool, true, false}
use mathlib.Core.List.{List, [], ◌∷◌, ◌++◌}
use Prim.Native.Nat.{ℕ, suc, ◌+◌, ◌-◌, ◌≤◌, ◌<◌}
use native.Mathlib.Nat.{zero-add, sub-zero}
use native.Mathlib.Numerals.{add-one}
use native.Mathlib.Omega.{arith}
use lib.ListN.{length, length-append}
use borrow.Author.Tests.{lt-ltb, le-ltb}
use Rattle.text.specs.Hex.{hex_of}
use Rattle.text.specs.Decimal.{decimal_of}
use Rattle.text.specs.Put.{Put, Short}
use Rattle.text.proofs.Pieces.{put_then, put_as, Going, going_start, going_more, going_end, going_short}
use Rattle.table_view.specs.Layout.{count_of, key_at, var_at, value_at}
use Rattle.table_view.specs.Rules.{accepts}
use Rattle.table_view.specs.View.{item_at, items_from, view}
use Rattle.table_printer.specs.Lines.{kind_text, value_text, line_of, entry_line, entry_lines, heading, all_lines, too_long, refused_four, table_lines}
use Rattle.table_printer.specs.Printed.{Printed}
use Rattle.table_printer.proofs.Size.{items_count, lines_size}

-- a kind's letter, and a value's text
kind_v : (b : Bool) → b ≡ true → 32 ∷ 86 ∷ 32 ∷ [] ≡ kind_text b
unfolding kind_text
kind_v b h = rw h

kind_f : (b : Bool) → b ≡ false → 32 ∷ 70 ∷ 32 ∷ [] ≡ kind_text b
unfolding kind_text
kind_f b h = rw h

value_none : (v : List ℕ) → length v ≡ 0 → 45 ∷ [] ≡ value_text v
unfolding value_text
value_none [] h = refl
value_none (x ∷ xs) h = absurd (omega arith)

value_some : (v : List ℕ) → ((length v ≡ 0) → ⊥) → hex_of v ≡ value_text v
unfolding value_text
value_some [] h = absurd (h refl)
value_some (x ∷ xs) h = refl

pub short_as : (at : ℕ) (vs ws : List ℕ) → Short at vs → ws ≡ vs → Short at ws
short_as at vs ws s e = rw e s

-- they are short where the kind's text is, and the value's; and they are these texts, put
module _ (at : ℕ) where
  pub v_short : (b : Bool) → Short at (kind_text b) → b ≡ true → Short at (32 ∷ 86 ∷ 32 ∷ [])
  v_short b s h = short_as at (kind_text b) _ s (kind_v b h)

  pub f_short : (b : Bool) → Short at (kind_text b) → b ≡ false → Short at (32 ∷ 70 ∷ 32 ∷ [])
  f_short b s h = short_as at (kind_text b) _ s (kind_f b h)

  pub none_short : (v : List ℕ) → Short at (value_text v) → length v ≡ 0 → Short at (45 ∷ [])
  none_short v s h = short_as at (value_text v) _ s (value_none v h)

  pub some_short : (v : List ℕ) → Short at (value_text v) → ((length v ≡ 0) → ⊥) → Short at (hex_of v)
  some_short v s h = short_as at (value_text v) _ s (value_some v h)

  module _ (old new : List ℕ) (next : ℕ) where
    pub v_put : (b : Bool) → Put old new at next (32 ∷ 86 ∷ 32 ∷ []) → b ≡ true → Put old new at next (kind_text b)
    v_put b p h = put_as old new at next _ (kind_text b) p (kind_v b h)

    pub f_put : (b : Bool) → Put old new at next (32 ∷ 70 ∷ 32 ∷ []) → b ≡ false → Put old new at next (kind_text b)
    f_put b p h = put_as old new at next _ (kind_text b) p (kind_f b h)

    pub none_put : (v : List ℕ) → Put old new at next (45 ∷ []) → length v ≡ 0 → Put old new at next (value_text v)
    none_put v p h = put_as old new at next _ (value_text v) p (value_none v h)

    pub some_put : (v : List ℕ) → Put old new at next (hex_of v) → ((length v ≡ 0) → ⊥) → Put old new at next (value_text v)
    some_put v p h = put_as old new at next _ (value_text v) p (value_some v h)

-- six pieces are a line, three the first one
module _ (a b c d e f g : List ℕ) (i j k l m n o : ℕ) where
  pub line_put : (key : ℕ) (variable : Bool) (v : List ℕ) → Put a b i j (decimal_of key) → Put b c j k (kind_text variable) → Put c d k l (decimal_of (length v)) → Put d e l m (32 ∷ []) → Put e f m n (value_text v) → Put f g n o (10 ∷ []) → Put a g i o (line_of key variable v)
  line_put key variable v p q r s t u =
      put_then a b g i j o _ _ p (put_then b c g j k o _ _ q (put_then c d g k l o _ _ r (put_then d e g l m o _ _ s (put_then e f g m n o _ _ t u))))

pub heading_put : (a b c d : List ℕ) (i j k : ℕ) (n : ℕ) → Put a b 0 i (101 ∷ 110 ∷ 116 ∷ 114 ∷ 105 ∷ 101 ∷ 115 ∷ 32 ∷ []) → Put b c i j (decimal_of n) → Put c d j k (10 ∷ []) → Put a d 0 k (heading n)
unfolding heading
heading_put a b c d i j k n p q r = put_then a b d 0 i k _ _ p (put_then b c d i j k _ _ q r)

-- the line of an entry is that of its item
pub entry_line_lem : (bs : List ℕ) (i key : ℕ) (variable : Bool) (v : List ℕ) → key ≡ key_at bs i → variable ≡ var_at bs i → v ≡ value_at bs i → line_of key variable v ≡ entry_line (item_at bs i)
unfolding entry_line item_at
entry_line_lem bs i key variable v a b c = rw (a, b, c)

-- the lines from place i on: one, and those that follow
one_left : (bs : List ℕ) (n i : ℕ) → i < n → entry_lines (items_from bs (n - i) i) ≡ entry_line (item_at bs i) ++ entry_lines (items_from bs (n - (i + 1)) (i + 1))
unfolding entry_lines items_from
one_left bs n i h =
    let e : n - i ≡ suc (n - (i + 1)) = omega arith in
    rw (e, add-one)

module _ (bs old : List ℕ) (at : ℕ) (whole out : List ℕ) (next n i : ℕ) (g : Going old at whole out next (entry_lines (items_from bs (n - i) i))) where
  pub entry_short : Short at whole → i < n → Short next (entry_line (item_at bs i))
  entry_short s h = going_short old at whole out next (entry_line (item_at bs i)) (entry_lines (items_from bs (n - (i + 1)) (i + 1))) (rw (one_left bs n i h) at g) s

  pub entry_more : (new : List ℕ) (last : ℕ) → i < n → Put out new next last (entry_line (item_at bs i)) → Going old at whole new last (entry_lines (items_from bs (n - (i + 1)) (i + 1)))
  entry_more new last h p = going_more old at whole out new next last (entry_line (item_at bs i)) (entry_lines (items_from bs (n - (i + 1)) (i + 1))) (rw (one_left bs n i h) at g) p

  pub entry_end : n ≤ i → Put old out at next whole
  unfolding entry_lines items_from
  entry_end h =
      let e : n - i ≡ 0 = omega arith in
      going_end old at whole out next (rw e at g)

-- the first line and the lines of n entries are all lines, where n is their count
module _ (bs : List ℕ) (n : ℕ) (count : n ≡ count_of bs) where
  all_lines_lem : heading n ++ entry_lines (items_from bs n 0) ≡ all_lines (view bs)
  all_lines_lem = rw (count, items_count bs (count_of bs) 0)

  pub all_put : (old mid new : List ℕ) (at last : ℕ) → Put old mid 0 at (heading n) → Put mid new at last (entry_lines (items_from bs n 0)) → Put old new 0 last (all_lines (view bs))
  all_put old mid new at last p q = put_as old new 0 last _ _ (put_then old mid new 0 at last (heading n) (entry_lines (items_from bs n 0)) p q) all_lines_lem

  pub all_going : (old : List ℕ) (at : ℕ) → Going old at (entry_lines (items_from bs n 0)) old at (entry_lines (items_from bs (n - 0) 0))
  all_going old at = rw (sub-zero n) (going_start old at (entry_lines (items_from bs n 0)))

  module _ (ok : accepts bs ≡ true) (small : length bs ≤ 65536) where
    size : length (heading n) + length (entry_lines (items_from bs n 0)) ≤ 262144
    size = rw (← length-append, all_lines_lem) (lines_size bs ok small)

    pub heading_short : Short 0 (heading n)
    heading_short = omega (arith, size)

    pub entries_short : (at : ℕ) → at ≡ 0 + length (heading n) → Short at (entry_lines (items_from bs n 0))
    entries_short at e = omega (arith, size)

-- what is told of an input
module _ (bs old new : List ℕ) (n : ℕ) where
  printed : (vs : List ℕ) → vs ≡ table_lines bs → Put old new 0 n vs → Printed bs old new n
  printed vs e p = record { count = p.place ∙ zero-add (length vs) ∙ ap length e; bytes = rw (← e) p.bytes }

  pub printed_long : Put old new 0 n too_long → 65536 < length bs → Printed bs old new n
  unfolding table_lines
  printed_long p h = printed too_long (rw (lt-ltb _ _ h)) p

  pub printed_refused : accepts bs ≡ false → Put old new 0 n refused_four → length bs ≤ 65536 → Printed bs old new n
  unfolding table_lines
  printed_refused no_table p h = printed refused_four (rw (le-ltb _ _ h, no_table)) p

  pub printed_lines : accepts bs ≡ true → Put old new 0 n (all_lines (view bs)) → length bs ≤ 65536 → Printed bs old new n
  unfolding table_lines
  printed_lines ok p h = printed (all_lines (view bs)) (rw (le-ltb _ _ h, ok)) p
