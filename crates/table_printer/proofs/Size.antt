-- The text of any input has at most 262,144 bytes, four for each byte of the longest input that is read. Assumes
-- nothing.
use mathlib.Core.Path.{◌≡◌, refl, ap, ◌∙◌}
use mathlib.Core.Bool.{Bool, true, false, cond}
use mathlib.Core.List.{List, [], ◌∷◌, ◌++◌}
use Prim.Native.Nat.{ℕ, zero, suc, ◌+◌, ◌*◌, ◌≤◌, ◌<◌}
use native.Mathlib.Numerals.{add-one}
use native.Mathlib.Omega.{arith}
use lib.ListN.{length, length-append}
use lib.Dec.{ltb}
use borrow.Author.Tests.{ltb-false}
use Rattle.text.specs.Decimal.{decimal_of}
use Rattle.text.proofs.Turns.{hex_length}
use Rattle.text.proofs.Digits.{five_long}
use Rattle.table_view.specs.Layout.{count_of, values_len, key_at, var_at, off_at, next_at, value_at}
use Rattle.table_view.specs.Rules.{accepts}
use Rattle.table_view.specs.View.{item_at, items_from, view}
use Rattle.table_view.proofs.Cases.{next_inner}
use Rattle.table_view.proofs.Shape.{fits, entry_at, value_length}
use Rattle.table_printer.specs.Lines.{kind_text, value_text, line_of, entry_line, entry_lines, heading, all_lines, too_long, refused_four, table_lines}
use Rattle.table_printer.specs.Printed.{Printed}

-- how long the pieces of a line are, and of the first
pub line_length : (key : ℕ) (variable : Bool) (v : List ℕ) → length (line_of key variable v) ≡ length (decimal_of key) + (length (kind_text variable) + (length (decimal_of (length v)) + (1 + (length (value_text v) + 1))))
line_length key variable v = simp length-append (omega arith)

pub heading_length : (n : ℕ) → length (heading n) ≡ 8 + (length (decimal_of n) + 1)
unfolding heading
heading_length n = simp length-append (omega arith)

pub kind_length : (variable : Bool) → length (kind_text variable) ≡ 3
unfolding kind_text
kind_length true = refl
kind_length false = refl

value_size_lem : (v : List ℕ) → length (value_text v) ≤ 1 + 2 * length v
unfolding value_text
value_size_lem [] = omega arith
value_size_lem (x ∷ xs) = omega (arith, hex_length (x ∷ xs))

line_size : (key : ℕ) (variable : Bool) (v : List ℕ) → key < 100000 → length v < 100000 → length (line_of key variable v) ≤ 16 + 2 * length v
line_size key variable v a b = omega (arith, line_length key variable v, kind_length variable, value_size_lem v, five_long key a, five_long (length v) b)

pub items_count : (bs : List ℕ) (n i : ℕ) → length (items_from bs n i) ≡ n
unfolding items_from
items_count bs zero i = refl
items_count bs (suc n) i = ap suc (items_count bs n (suc i))

module _ (bs : List ℕ) (ok : accepts bs ≡ true) (small : length bs ≤ 65536) where
  -- an entry's line: its value ends where the next one starts
  entry_size : (i : ℕ) → i < count_of bs → length (entry_line (item_at bs i)) + 2 * off_at bs i ≤ 16 + 2 * next_at bs i
  unfolding entry_line item_at
  entry_size i h =
      let good = entry_at bs ok i h in
      let long = value_length bs ok i h in
      let end = fits bs ok in
      let size = line_size (key_at bs i) (var_at bs i) (value_at bs i) (omega arith) (omega (arith, good.len, good.room, good.within)) in
      omega (arith, good.len, good.room)

  next_one : (i : ℕ) → i + 1 < count_of bs → next_at bs i ≡ off_at bs (suc i)
  next_one i h = next_inner bs i h ∙ ap (off_at bs) (add-one i)

  -- the lines of the n entries from place i on, of which the first starts at lo or later
  rest_size : (n i lo : ℕ) → i + n ≤ count_of bs → (0 < n → lo ≤ off_at bs i) → lo ≤ values_len bs → length (entry_lines (items_from bs n i)) + 2 * lo ≤ 16 * n + 2 * values_len bs
  unfolding entry_lines items_from
  rest_size zero i lo h l v = omega arith
  rest_size (suc n) i lo h l v =
      let here : i < count_of bs = omega arith in
      let good = entry_at bs ok i here in
      let one = entry_size i here in
      let rest = rest_size n (suc i) (next_at bs i) (omega arith) (λ (more : 0 < n). omega (arith, next_one i (omega arith))) good.within in
      let both : length (entry_line (item_at bs i) ++ entry_lines (items_from bs n (suc i))) ≡ length (entry_line (item_at bs i)) + length (entry_lines (items_from bs n (suc i))) = length-append (entry_line (item_at bs i)) (entry_lines (items_from bs n (suc i))) in
      omega (arith, l (omega arith))

  pub lines_size : length (all_lines (view bs)) ≤ 262144
  lines_size =
      let all = rest_size (count_of bs) 0 0 (omega arith) (λ (more : 0 < count_of bs). omega arith) (omega arith) in
      let end = fits bs ok in
      let top = heading_length (length (view bs)) in
      let few = items_count bs (count_of bs) 0 in
      let digits = five_long (length (view bs)) (omega arith) in
      let whole : length (all_lines (view bs)) ≡ length (heading (length (view bs))) + length (entry_lines (view bs)) = length-append (heading (length (view bs))) (entry_lines (view bs)) in
      omega arith

pub text_size : (bs : List ℕ) → length (table_lines bs) ≤ 262144
unfolding table_lines
text_size bs = by_length (ltb 65536 (length bs)) refl
  where
    by_rules : (b : Bool) → accepts bs ≡ b → length bs ≤ 65536 → length (cond b (all_lines (view bs)) refused_four) ≤ 262144
    by_rules true ok small = lines_size bs ok small
    by_rules false no_table small = omega arith

    by_length : (b : Bool) → ltb 65536 (length bs) ≡ b → length (cond b too_long (cond (accepts bs) (all_lines (view bs)) refused_four)) ≤ 262144
    by_length true long = omega arith
    by_length false short = by_rules (accepts bs) refl (ltb-false 65536 (length bs) short)

pub printed_size : (raw old new : List ℕ) (n : ℕ) → Printed raw old new n → n ≤ 262144
printed_size raw old new n p = omega (arith, p.count, text_size raw)
