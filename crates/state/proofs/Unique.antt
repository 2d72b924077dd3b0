-- Any two results that satisfy a call's promise are equal: its answer, and every lent byte. Assumes nothing.
use Rattle.std.specs.Prelude.{Result, Ok, Err}
use mathlib.Core.Path.{◌≡◌, refl, sym, ap, ◌∙◌}
use mathlib.Core.Bool.{cond}
use mathlib.Core.List.{List, []}
use Prim.Native.Nat.{ℕ, ◌<◌}
use lib.Dec.{eqb}
use lib.ListN.{length, get_or}
use Rattle.wire.specs.Size.{slot_bytes}
use Rattle.table_view.specs.Told.{Told, done, none, value, refused, att}
use Rattle.peers.proofs.Rows.{one_row}
use Rattle.state.specs.State.{State, lent}
use Rattle.state.specs.Fresh.{told_opened, new_told, new_left}
use Rattle.state.specs.declared.OpenError.TheVariants.{BadList, TooLong}
use Rattle.state.specs.declared.OpenError.{OpenError}

-- the state fixes the lent bytes: list, store and tables are in it, and a row of slots of eight bytes is fixed by the
-- slots that they are
pub record SameLent (list list' : List (List ℕ)) (store store' : List ℕ) (row row' : List (List ℕ)) (ts ts' : List (List ℕ)) : Type 0 where
  pub list_is : list ≡ list'
  pub store_is : store ≡ store'
  pub row_is : row ≡ row'
  pub tables_are : ts ≡ ts'

abbrev pub EightEach : List (List ℕ) → Type 0
EightEach row = (i : ℕ) → i < length row → length (get_or row i []) ≡ slot_bytes

pub one_lent : (list list' : List (List ℕ)) (store store' : List ℕ) (row row' : List (List ℕ)) (ts ts' : List (List ℕ)) → EightEach row → EightEach row'
    → lent list store row ts ≡ lent list' store' row' ts' → SameLent list list' store store' row row' ts ts'
one_lent list list' store store' row row' ts ts' m n e =
    record {
      list_is = ap (λ (s : State). s.list) e;
      store_is = ap (λ (s : State). s.store) e;
      row_is = one_row row row' m n (ap (λ (s : State). s.row) e);
      tables_are = ap (λ (s : State). s.tables) e;
    }

-- what is told tells the answers of `new` apart
abbrev opened_of : Told → Result (Unit {0}) OpenError
opened_of done = (Ok tt)
opened_of none = (Ok tt)
opened_of (value v) = (Ok tt)
opened_of (refused n) = cond (eqb n 1) (Err BadList) (Err TooLong)
opened_of (att c) = (Ok tt)

read_off : (o : Result (Unit {0}) OpenError) → opened_of (told_opened o) ≡ o
read_off (Ok tt) = refl
read_off (Err BadList) = refl
read_off (Err TooLong) = refl

pub one_opened : (o o' : Result (Unit {0}) OpenError) → told_opened o ≡ told_opened o' → o ≡ o'
one_opened o o' e = sym (read_off o) ∙ ap opened_of e ∙ read_off o'

-- `new`: the answer, the row and the tables
module _ (s : State) (list : List (List ℕ)) (store : List ℕ) (row row' : List (List ℕ)) (ts ts' : List (List ℕ)) (o o' : Result (Unit {0}) OpenError) where
  pub one_new : EightEach row → EightEach row' → (told_opened o ≡ new_told s) × (lent list store row ts ≡ new_left s)
      → (told_opened o' ≡ new_told s) × (lent list store row' ts' ≡ new_left s) → (o ≡ o') × (row ≡ row') × (ts ≡ ts')
  one_new m n p q =
      let l = one_lent list list store store row row' ts ts' m n (p.1 ∙ sym q.1) in
      (one_opened o o' (p.0 ∙ sym q.0), l.row_is, l.tables_are)
