-- A record with another present length: its other fields and its UUID stay, and a right list stays right. By the laws
-- of `sets`, and by induction over the list. Assumes nothing.
use mathlib.Core.Path.{◌≡◌, refl}
use mathlib.Core.Bool.{Bool, true, false, cond}
use mathlib.Core.List.{List, [], ◌∷◌}
use Prim.Native.Nat.{ℕ, zero, suc, ◌≤◌}
use native.Mathlib.Omega.{arith}
use lib.ListN.{length, get_or, set, length-set}
use lib.Dec.{leb, eqb}
use borrow.Author.Tests.{le-leb, eq-eqb}
use Rattle.wire.specs.Size.{record_bytes}
use Rattle.wire.specs.Number.{word_bytes}
use Rattle.wire.proofs.Tests.{both_l, both_r, both_true}
use Rattle.wire.proofs.Sets.{past, drop_past, word_before, word_same}
use Rattle.attribute.specs.Record.{attribute_of, uuid_of, with_length, entry_of}
use Rattle.attribute.specs.Rules.{fields_ok, range_ok, entry_ok, end_after, entries_ok, list_ok}
use Rattle.attribute.specs.declared.Attribute.{Attribute}

-- the fields, with n for the present length
abbrev pub resized : Attribute → ℕ → Attribute
resized a n = record { handle = a.handle; cap = a.cap; start = a.start; len = n; reads = a.reads; writes = a.writes; variable = a.variable; client = a.client }

module _ (r : List ℕ) (n : ℕ) where
  stays : (j : ℕ) → 8 ≤ j → get_or (with_length r n) j 0 ≡ get_or r j 0
  unfolding with_length
  stays j h = past (word_bytes n) r 6 j h

  pub uuid_kept : uuid_of (with_length r n) ≡ uuid_of r
  unfolding uuid_of with_length
  uuid_kept = rw (past (word_bytes n) r 6 11 (omega arith), drop_past 12 (word_bytes n) r 6 (omega arith))

  pub fields_kept : length r ≡ record_bytes → attribute_of (with_length r n) ≡ resized (attribute_of r) n
  unfolding attribute_of with_length
  fields_kept l =
      rw (
        word_before (word_bytes n) r 6 0 (omega arith),
        word_before (word_bytes n) r 6 2 (omega arith),
        word_before (word_bytes n) r 6 4 (omega arith),
        word_same r 6 n (omega arith),
        past (word_bytes n) r 6 8 (omega arith),
        past (word_bytes n) r 6 9 (omega arith),
        past (word_bytes n) r 6 10 (omega arith),
      )

  -- and so what every link may know of the entry
  pub known_kept : length r ≡ record_bytes → entry_of (with_length r n) ≡ entry_of r
  unfolding entry_of
  known_kept l = rw (fields_kept l, uuid_kept)

-- a length that an entry may have: a variable value's at most its capacity, any value's its capacity
pub record HoldsLength (a : Attribute) (n : ℕ) : Type 0 where
  pub len : n ≤ a.cap
  pub fixed : a.variable ≡ false → n ≡ a.cap

module _ (a : Attribute) (n : ℕ) where
  pub variable_holds : a.variable ≡ true → n ≤ a.cap → HoldsLength a n
  variable_holds v h = record { len = h; fixed = λ (e : a.variable ≡ false). cc }

  length_ok : HoldsLength a n → cond a.variable (leb n a.cap) (eqb n a.cap) ≡ true
  length_ok h = by a.variable h.fixed
    where
      by : (t : Bool) → (t ≡ false → n ≡ a.cap) → cond t (leb n a.cap) (eqb n a.cap) ≡ true
      by true f = le-leb _ _ h.len
      by false f = eq-eqb _ _ (f refl)

  range_kept : HoldsLength a n → (end store : ℕ) → range_ok a end store ≡ true → range_ok (resized a n) end store ≡ true
  unfolding range_ok
  range_kept f end store h = both_true _ _ (both_l _ _ h) (both_true _ _ (both_l _ _ (both_r _ _ h)) (length_ok f))

or_else : (t x y : Bool) → (x ≡ true → y ≡ true) → cond t true x ≡ true → cond t true y ≡ true
or_else true x y f h = refl
or_else false x y f h = f h

-- an entry that passes still does, and so do those after it
module _ (store n : ℕ) where
  entry_kept : (r : List ℕ) → length r ≡ record_bytes → HoldsLength (attribute_of r) n → (last end : ℕ) → entry_ok r last end store ≡ true → entry_ok (with_length r n) last end store ≡ true
  unfolding entry_ok fields_ok
  entry_kept r l f last end h =
      let t = both_r _ _ h in
      rw (fields_kept r n l, stays r n 11 (omega arith))
      (both_true _ _ (both_l _ _ h)
      (both_true _ _ (both_l _ _ t) (or_else (attribute_of r).client _ _ (range_kept (attribute_of r) n f end store) (both_r _ _ t))))

  entries_kept : (list : List (List ℕ)) (i : ℕ) → length (get_or list i []) ≡ record_bytes → HoldsLength (attribute_of (get_or list i [])) n → (last end : ℕ) → entries_ok list last end store ≡ true → entries_ok (set list i (with_length (get_or list i []) n)) last end store ≡ true
  unfolding entries_ok end_after
  entries_kept [] i l f last end h = h
  entries_kept (r ∷ rs) zero l f last end h =
      both_true _ _ (entry_kept r l f last end (both_l _ _ h)) (rw (fields_kept r n l) (both_r _ _ h))
  entries_kept (r ∷ rs) (suc i) l f last end h = both_true _ _ (both_l _ _ h) (entries_kept rs i l f _ _ (both_r _ _ h))

-- a right list stays right
pub length_kept : (list : List (List ℕ)) (store : ℕ) → list_ok list store ≡ true → (i n : ℕ) → length (get_or list i []) ≡ record_bytes → HoldsLength (attribute_of (get_or list i [])) n → list_ok (set list i (with_length (get_or list i []) n)) store ≡ true
unfolding list_ok
length_kept list store ok i n l f =
    let t = both_r _ _ ok in
    both_true _ _ (rw length-set (both_l _ _ ok)) (both_true _ _ (both_l _ _ t) (entries_kept store n list i l f 0 0 (both_r _ _ t)))
