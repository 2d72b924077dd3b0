-- Any two results that satisfy a call's promise are equal: its answer, and every byte of the builder or of the table.
-- Assumes nothing.
use Rattle.std.specs.Prelude.{Result, Ok, Err}
use mathlib.Core.Path.{◌≡◌, refl, sym, ap, ◌∙◌}
use mathlib.Core.Bool.{Bool, cond}
use mathlib.Core.List.{List}
use Prim.Native.Nat.{ℕ}
use lib.Dec.{eqb}
use lib.ListN.{replicate}
use Rattle.wire.specs.Size.{table_bytes}
use Rattle.table_view.specs.Told.{Told, done, none, value, refused, att}
use Rattle.table_view.specs.Read.{told_done}
use Rattle.table_view.specs.declared.NotATable.{NotATable}
use Rattle.table_view.proofs.Unique.{done_left}
use Rattle.table_builder.specs.Push.{told_pushed, push_told, after_push, build_told, after_build}
use Rattle.table_builder.specs.declared.PushError.TheVariants.{BadBuilder, BadEntry, NoRoom}
use Rattle.table_builder.specs.declared.PushError.{PushError}

-- what a push answers can be read off what it tells
abbrev pushed_of : Told → Result (Unit {0}) PushError
pushed_of done = Ok tt
pushed_of none = Ok tt
pushed_of (value v) = Ok tt
pushed_of (refused n) = cond (eqb n 4) (Err BadBuilder) (cond (eqb n 5) (Err BadEntry) (Err NoRoom))
pushed_of (att c) = Ok tt

read_off : (r : Result (Unit {0}) PushError) → pushed_of (told_pushed r) ≡ r
read_off (Ok x) = refl
read_off (Err BadBuilder) = refl
read_off (Err BadEntry) = refl
read_off (Err NoRoom) = refl

-- `new`
pub one_new : (r r' : List ℕ) → r ≡ replicate table_bytes 0 → r' ≡ replicate table_bytes 0 → r ≡ r'
one_new r r' p q = p ∙ sym q

-- `push`
pub one_push : (bs : List ℕ) (k n : ℕ) (var : Bool) (r r' : Result (Unit {0}) PushError) (new new' : List ℕ) → (told_pushed r ≡ push_told bs k n var) × (new ≡ after_push bs k n var)
    → (told_pushed r' ≡ push_told bs k n var) × (new' ≡ after_push bs k n var) → (r ≡ r') × (new ≡ new')
one_push bs k n var r r' new new' x y = (sym (read_off r) ∙ ap pushed_of (x.0 ∙ sym y.0) ∙ read_off r', x.1 ∙ sym y.1)

-- `build`
pub one_build : (bs table : List ℕ) (r r' : Result (Unit {0}) NotATable) (new new' : List ℕ) → (told_done r ≡ build_told bs) × (new ≡ after_build bs table)
    → (told_done r' ≡ build_told bs) × (new' ≡ after_build bs table) → (r ≡ r') × (new ≡ new')
one_build bs table = done_left (build_told bs) (after_build bs table)
