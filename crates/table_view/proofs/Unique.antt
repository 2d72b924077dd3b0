-- Any two results that satisfy a call's promise are equal: its answer, and the bytes that it hands over. Assumes
-- nothing.
use Rattle.std.specs.Prelude.{Result, Ok, Err, Option}
use mathlib.Core.Path.{◌≡◌, refl, sym, ap, ◌∙◌}
use mathlib.Core.List.{List}
use Prim.Native.Nat.{ℕ}
use Rattle.wire.proofs.Codes.{error_of, error_code}
use Rattle.table_view.specs.Told.{Told, done, none, value, refused, att}
use Rattle.table_view.specs.Read.{told_done, told_write, not_a_table, part, told_got, told_raw, read_told, got_of, get_told, raw_of, raw_told}
use Rattle.table_view.specs.declared.Span.{Span}
use Rattle.table_view.specs.declared.NotATable.{NotATable}
use Rattle.table_view.specs.declared.WriteError.{WriteError}
use Rattle.table_view.specs.declared.WriteError.TheVariants as error

-- an answer can be read off what it tells
abbrev done_of : Told → Result (Unit {0}) NotATable
done_of done = Ok tt
done_of none = Ok tt
done_of (value v) = Ok tt
done_of (refused n) = Err not_a_table
done_of (att c) = Ok tt

done_read : (r : Result (Unit {0}) NotATable) → done_of (told_done r) ≡ r
done_read (Ok x) = refl
done_read (Err e) = refl

abbrev write_of : Told → Result (Unit {0}) WriteError
write_of done = Ok tt
write_of none = Ok tt
write_of (value v) = Ok tt
write_of (refused n) = Err error.NotATable
write_of (att c) = Err (error.Att (error_of c))

write_read : (r : Result (Unit {0}) WriteError) → write_of (told_write r) ≡ r
write_read (Ok x) = refl
write_read (Err error.NotATable) = refl
write_read (Err (error.Att e)) = ap (λ x. Err (error.Att x)) (error_code e)

-- two answers that tell the same are the same, and with them the bytes that a call leaves, where its promise says which
-- they are
module _ {R : Type 0} (tell : R → Told) (of : Told → R) (read : (r : R) → of (tell r) ≡ r) where
  pub one_told : (t : Told) (r r' : R) → tell r ≡ t → tell r' ≡ t → r ≡ r'
  one_told t r r' p q = sym (read r) ∙ ap of (p ∙ sym q) ∙ read r'

  pub one_left : (t : Told) (left : List ℕ) (r r' : R) (new new' : List ℕ) → (tell r ≡ t) × (new ≡ left) → (tell r' ≡ t) × (new' ≡ left) → (r ≡ r') × (new ≡ new')
  one_left t left r r' new new' x y = (one_told t r r' x.0 y.0, x.1 ∙ sym y.1)

pub done_left : (t : Told) (left : List ℕ) (r r' : Result (Unit {0}) NotATable) (new new' : List ℕ) → (told_done r ≡ t) × (new ≡ left)
    → (told_done r' ≡ t) × (new' ≡ left) → (r ≡ r') × (new ≡ new')
done_left = one_left told_done done_of done_read

pub write_left : (t : Told) (left : List ℕ) (r r' : Result (Unit {0}) WriteError) (new new' : List ℕ) → (told_write r ≡ t) × (new ≡ left)
    → (told_write r' ≡ t) × (new' ≡ left) → (r ≡ r') × (new ≡ new')
write_left = one_left told_write write_of write_read

-- `try_from_raw`
pub one_read : (bs : List ℕ) (r r' : Result (Unit {0}) NotATable) → told_done r ≡ read_told bs → told_done r' ≡ read_told bs → r ≡ r'
one_read bs = one_told told_done done_of done_read (read_told bs)

-- `get`: the span too, and not only the bytes that it names
pub one_got : (bs : List ℕ) (k : ℕ) (r r' : Result (Option Span) NotATable) → (r ≡ got_of bs k) × (told_got bs r ≡ get_told bs k) → (r' ≡ got_of bs k) × (told_got bs r' ≡ get_told bs k) → r ≡ r'
one_got bs k r r' x y = x.0 ∙ sym y.0

-- `raw`
pub one_raw : (bs : List ℕ) (r r' : Result Span NotATable) → (r ≡ raw_of bs) × (told_raw bs r ≡ raw_told bs) → (r' ≡ raw_of bs) × (told_raw bs r' ≡ raw_told bs) → r ≡ r'
one_raw bs r r' x y = x.0 ∙ sym y.0

-- `part`
pub one_part : (bs : List ℕ) (s : Span) (r r' : List ℕ) → r ≡ part bs s → r' ≡ part bs s → r ≡ r'
one_part bs s r r' p q = p ∙ sym q
