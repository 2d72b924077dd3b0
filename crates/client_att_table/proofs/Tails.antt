-- No call leaves anything past a variable value's length: the theorem of `specs/Tails.antt`. Assumes nothing.
use Rattle.std.specs.Prelude.{Result, Ok, Err}
use mathlib.Core.Path.{◌≡◌, refl, sym, ◌∙◌}
use mathlib.Core.Bool.{Bool, true, false}
use mathlib.Core.List.{List, [], ◌∷◌, ◌++◌}
use mathlib.Core.Logic.{⊎_elim}
use Prim.Native.Nat.{ℕ, zero, suc, ◌+◌, ◌-◌, ◌≤◌, ◌<◌, min}
use native.Mathlib.Omega.{arith}
use lib.ListN.{length, get_or, take, drop, replicate, length-append, length-take, length-replicate}
use lib.Dec.{eqb}
use borrow.Author.Tests.{eqb-true, eqb-false}
use Rattle.wire.specs.Run.{after_all}
use Rattle.wire.specs.Bytes.{zeros}
use Rattle.wire.specs.Test.{both}
use Rattle.wire.proofs.Tests.{split}
use Rattle.wire.proofs.Fold.{from_zeros}
use Rattle.table_view.specs.Layout.{count_of, base_of, end_of, key_at, var_at, off_at, next_at, start_at, stop_at, cap_at, len_at}
use Rattle.table_view.specs.Rules.{accepts}
use Rattle.table_view.specs.Lookup.{index_place}
use Rattle.table_view.specs.Told.{value}
use Rattle.table_view.specs.Read.{raw_told}
use Rattle.table_view.proofs.Shape.{entry_at}
use Rattle.table_view.proofs.Same.{SameIndex, count_same, var_same, start_same, next_same, len_same, raw_index, raw_bytes}
use Rattle.client_att_table.specs.Write.{plan_of, after_plan, stored, dropped, after_write}
use Rattle.client_att_table.specs.SetValues.{fitted, take_value, held_at, set_one, set_all, after_set}
use Rattle.client_att_table.specs.Clear.{cleared, after_clear}
use Rattle.client_att_table.specs.AsList.{TableCall, write, set_values, clear, get, raw, bytes_after}
use Rattle.client_att_table.specs.Tails.{ZeroTail, ZeroTails, TailsStayZero}
use Rattle.client_att_table.proofs.Planning.{admitted}
use Rattle.client_att_table.proofs.Frame.{Frame, kept_index, frame_index, others}
use Rattle.client_att_table.proofs.Laid.{laid_past, laid_zero}
use Rattle.client_att_table.proofs.Writing.{drops_rest, tail_fits, stored_frame, stored_len}
use Rattle.client_att_table.proofs.Taking.{take_frame, take_len, one_kept}
use Rattle.client_att_table.proofs.Clearing.{clear_kept, clear_byte}
use Rattle.client_att_table.proofs.AsList.{call_kept, no_table, raw_shown}
use Rattle.table_view.specs.declared.Place.{Place}
use Rattle.wire.specs.declared.att.AttError.{AttError}

-- bytes that are all zero from the index on have zeros there
pub all_zero : (bs : List ℕ) → zeros (drop (base_of bs) bs) ≡ true → ZeroTails bs
all_zero bs z = record { at = λ i h v j a b. from_zeros bs (base_of bs) z j (omega arith) }

-- the value at place q, of which every byte stays
same_tail : (bs out : List ℕ) → SameIndex bs out → accepts bs ≡ true → (q : ℕ) → q < count_of bs
    → ((n : ℕ) → base_of bs + off_at bs q ≤ n → n < base_of bs + next_at bs q → get_or out n 0 ≡ get_or bs n 0) → ZeroTail bs q → ZeroTail out q
same_tail bs out s ok q h stay z v j a b =
    let c = count_same bs out s in
    let x = next_same bs out s q h in
    let st = start_same bs out s q h in
    let l = len_same bs out s ok q h stay in
    stay j (omega arith) (omega arith) ∙ z (sym (var_same bs out s q h) ∙ v) j (omega arith) (omega arith)

-- a change of one value asks for that value alone
module _ (bs : List ℕ) (ok : accepts bs ≡ true) (z : ZeroTails bs) (i : ℕ) (hi : i < count_of bs) (out : List ℕ) (f : Frame bs i out) where
  frame_tails : (var_at bs i ≡ true → (j : ℕ) → start_at bs i + len_at out i ≤ j → j < stop_at bs i → get_or out j 0 ≡ 0) → ZeroTails out
  frame_tails here = record { at = λ q h. by q (omega (arith, count_same bs out same)) (eqb i q) refl }
    where
      same : SameIndex bs out
      same = frame_index bs i out f ok

      own : ZeroTail out i
      own v j a b =
          let c = count_same bs out same in
          let x = next_same bs out same i hi in
          let st = start_same bs out same i hi in
          here (sym (var_same bs out same i hi) ∙ v) j (omega arith) (omega arith)

      by : (q : ℕ) → q < count_of bs → (t : Bool) → eqb i q ≡ t → ZeroTail out q
      by q h true e = rw (← eqb-true i q e) own
      by q h false e = same_tail bs out same ok q h (others bs i out f ok hi q h (eqb-false i q e)) (z.at q h)

module _ (bs : List ℕ) (ok : accepts bs ≡ true) (z : ZeroTails bs) where
  module _ (i : ℕ) (hi : i < count_of bs) where
    -- past a write stand the zeros that it puts, and past the former length those that stood there
    stored_past : (off : ℕ) (d : List ℕ) → off + length d ≤ cap_at bs i → var_at bs i ≡ true → (j : ℕ) → start_at bs i + (off + length d) ≤ j → j < stop_at bs i
        → get_or (stored bs i off d) j 0 ≡ 0
    unfolding stored
    stored_past off d room v j a b =
        let n = off + length d in
        let m = dropped bs i n in
        let e = drops_rest bs i n v (len_at bs i) (len_at bs i - n) refl refl in
        let l : length (d ++ replicate m 0) ≡ length d + m = simp (length-append, length-replicate) refl in
        ⊎_elim
        (λ (h : j < start_at bs i + n + m). laid_zero bs i ok hi n off d m (tail_fits bs ok i hi n m refl room) j (omega arith) (omega arith))
        (λ (h : start_at bs i + n + m ≤ j). laid_past bs i ok hi n off (d ++ replicate m 0) j (omega arith) ∙ z.at i hi v j (omega arith) b)
        (split j (start_at bs i + n + m))

    stored_tails : (off : ℕ) (d : List ℕ) → off + length d ≤ cap_at bs i → ZeroTails (stored bs i off d)
    stored_tails off d room =
        frame_tails bs ok z i hi _ (stored_frame bs ok i hi off d room)
        (λ v j a b. let l = stored_len bs ok i hi off d room v in stored_past off d room v j (omega arith) b)

    -- past what is taken stand zeros
    taken_past : (v : List ℕ) (j : ℕ) → start_at bs i + min (length v) (cap_at bs i) ≤ j → j < stop_at bs i → get_or (take_value bs i v) j 0 ≡ 0
    unfolding take_value fitted
    taken_past v j a b =
        let cap = cap_at bs i in
        let l : length (take cap v) ≡ min (length v) cap = simp length-take (omega arith) in
        laid_zero bs i ok hi (min (length v) cap) 0 (take cap v) (cap - length v) (omega arith) j (omega arith) (omega arith)

    taken_tails : (v : List ℕ) → ZeroTails (take_value bs i v)
    taken_tails v =
        frame_tails bs ok z i hi _ (take_frame bs ok i hi v)
        (λ w j a b. let l = take_len bs ok i hi v w in taken_past v j (omega arith) b)

  -- a write, by what is decided
  plan_tails : (k off : ℕ) (d : List ℕ) (p : Result Place AttError) → plan_of bs k off (length d) ≡ p → ZeroTails (after_plan bs off d p)
  plan_tails k off d (Err w) e = z
  plan_tails k off d (Ok p) e =
      let g = admitted bs k off (length d) p e in
      stored_tails p.0 g.place.inside off d g.room

-- a cleared table has zeros throughout
pub cleared_tails : (bs : List ℕ) → accepts bs ≡ true → ZeroTails (cleared bs)
cleared_tails bs ok = record { at = λ i h v j a b. by i (omega (arith, count_same bs _ same)) j a b }
  where
    same : SameIndex bs (cleared bs)
    same = kept_index bs _ ok (clear_kept bs ok)

    by : (i : ℕ) → i < count_of bs → (j : ℕ) → start_at (cleared bs) i + len_at (cleared bs) i ≤ j → j < stop_at (cleared bs) i → get_or (cleared bs) j 0 ≡ 0
    by i h j a b =
        let e = entry_at bs ok i h in
        let w = e.within in
        let c = count_same bs _ same in
        let x = next_same bs _ same i h in
        clear_byte bs ok j (omega arith) (omega arith)

-- values taken, one after the other
set_tails : (src : List ℕ) (n i : ℕ) (bs : List ℕ) → accepts bs ≡ true → i + n ≡ count_of bs → ZeroTails bs → ZeroTails (set_all src n i bs)
unfolding set_all set_one
set_tails src zero i bs ok e z = z
set_tails src (suc n) i bs ok e z =
    let hi : i < count_of bs = omega arith in
    let k = one_kept src bs ok i hi in
    let c = count_same bs _ (kept_index bs _ ok k) in
    set_tails src n (suc i) (set_one src bs i) k.ok (omega arith) (taken_tails bs ok z i hi (held_at src (index_place src (key_at bs i))))

-- any call
module _ (bs : List ℕ) (z : ZeroTails bs) where
  on_table : accepts bs ≡ true → (c : TableCall) → ZeroTails (bytes_after bs c)
  unfolding bytes_after after_write after_set after_clear
  on_table ok (write k off d) = rw ok (plan_tails bs ok z k off d (plan_of bs k off (length d)) refl)
  on_table ok (set_values src) = by (both (accepts bs) (accepts src)) refl
    where
      by : (t : Bool) → both (accepts bs) (accepts src) ≡ t → ZeroTails (after_set src bs)
      by true e = rw e (set_tails src (count_of bs) 0 bs ok (omega arith) z)
      by false e = rw e z
  on_table ok clear = rw ok (cleared_tails bs ok)
  on_table ok (get k) = z
  on_table ok raw = z

  pub call_tails : (c : TableCall) → ZeroTails (bytes_after bs c)
  call_tails c = by (accepts bs) refl
    where
      by : (t : Bool) → accepts bs ≡ t → ZeroTails (bytes_after bs c)
      by true e = on_table e c
      by false e = rw (no_table bs e c) z

-- what `raw` tells
raw_tails : (bs : List ℕ) → accepts bs ≡ true → ZeroTails bs → ZeroTails (take (end_of bs) bs)
raw_tails bs ok z =
    let s = raw_index bs ok in
    record { at = λ q h. let l : q < count_of bs = omega (arith, count_same bs _ s) in same_tail bs _ s ok q l (raw_bytes bs ok q l) (z.at q l) }

pub saved_tails : (bs : List ℕ) → accepts bs ≡ true → ZeroTails bs → (out : List ℕ) → raw_told bs ≡ value out → ZeroTails out
saved_tails bs ok z out e =
    let shown = raw_shown bs ok in
    let same : take (end_of bs) bs ≡ out = cc in
    rw (← same) (raw_tails bs ok z)

pub tails_stay_zero : TailsStayZero
unfolding after_all
tails_stay_zero bs ok z [] = record { table = z; saved = saved_tails bs ok z }
tails_stay_zero bs ok z (c ∷ cs) =
    let rest = tails_stay_zero (bytes_after bs c) (call_kept bs ok c).ok (call_tails bs z c) cs in
    record { table = rest.table; saved = rest.saved }
