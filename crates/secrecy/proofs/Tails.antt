-- No letter of an old code is left: a fresh table has none, a table's call leaves none, and a hub's call is at most one
-- call of one table. Assumes nothing.
use Rattle.std.specs.Prelude.{Option, Some, None}
use mathlib.Core.Path.{◌≡◌, refl, sym, ap, ◌∙◌}
use mathlib.Core.Bool.{Bool, true, false}
use mathlib.Core.List.{List, [], ◌∷◌, append-nil}
use mathlib.Core.Logic.{⊎_elim}
use Prim.Native.Nat.{ℕ, ◌+◌, ◌≤◌, ◌<◌}
use native.Mathlib.Omega.{arith}
use lib.ListN.{length, get_or, set, replicate, get_or-replicate, drop_of_length-le, get_or-eq_default}
use lib.Seq.{sets, sets-eq}
use Rattle.wire.specs.Size.{slot_count, table_bytes}
use Rattle.wire.specs.Number.{word}
use Rattle.wire.specs.Run.{after_all}
use Rattle.wire.proofs.Tests.{split}
use Rattle.table_view.specs.Told.{Told, done, none, value, refused, att}
use Rattle.table_view.specs.Rules.{accepts}
use Rattle.table_view.specs.Read.{raw_told}
use Rattle.client_att_table.specs.AsList.{TableCall, bytes_after}
use Rattle.client_att_table.specs.Tails.{ZeroTails}
use Rattle.client_att_table.proofs.Tails.{all_zero, cleared_tails, call_tails, saved_tails}
use Rattle.table_builder.proofs.Laws.{by_zeros, is_table}
use Rattle.peers.specs.Identity.{is_bad}
use Rattle.peers.specs.Slots.{slot_of, connecting, leaving}
use Rattle.peers.specs.declared.Identity.{Identity}
use Rattle.peers.specs.declared.Move.{Move}
use Rattle.peers.specs.declared.Seat.{Seat}
use Rattle.peers.proofs.Laws.{slot_inside}
use Rattle.state.specs.State.{State, after_move}
use Rattle.state.specs.Fresh.{fresh_table, new_told}
use Rattle.state.specs.Valid.{valid}
use Rattle.state.proofs.Answers.{laid_builder}
use Rattle.state.proofs.Calls.{made}
use Rattle.state.proofs.Keeping.{eight_tables, eight_slots, tables_read}
use Rattle.model.specs.Told.{laid_on}
use Rattle.model.specs.Change.{put_at}
use Rattle.model.proofs.Leaving.{request_leaves_lem}
use Rattle.application.specs.Calls.{table_told}
use Rattle.application.proofs.Leaving.{set_leaves}
use Rattle.admission.specs.Admission.{admission_by, admission, told_if, left_if, Admission}
use Rattle.attribute_server.specs.Request.{seen_of, let_in}
use Rattle.attribute_server.specs.Table.{fetched_told}
use Rattle.numbers.specs.Reply.{reply_to}
use Rattle.secrecy.specs.Hub.{Hub, Deed, Process, Connect, Disconnect, Set, SetTable, Looks, Call, query_of, step_by, step}
use Rattle.secrecy.specs.Valid.{Valid, fresh}
use Rattle.secrecy.specs.Tails.{NothingOld, OldLettersAreGone}
use Rattle.secrecy.proofs.Own.{tables_put, tables_restored}
use Rattle.secrecy.proofs.Sizes.{either, left_either, each_set}
use Rattle.secrecy.proofs.Valid.{fresh_valid, step_valid}

abbrev AllZero : List (List ℕ) → Type 0
AllZero ts = (k : ℕ) → ZeroTails (get_or ts k [])

-- a fresh hub: eight fresh tables, and no other
no_table : ZeroTails []
unfolding word
no_table = record { at = λ i h. absurd (omega arith) }

fresh_tails : (list : List (List ℕ)) → ZeroTails (fresh_table list)
fresh_tails list =
    let b = laid_builder list in
    all_zero (fresh_table list) (by_zeros (fresh_table list) (is_table _ b) ∙ b)

fresh_zero : (s : State) (bytes : ℕ → List ℕ) → new_told s ≡ done → AllZero (fresh s bytes).state.tables
fresh_zero s bytes e k =
    rw (made s e)
    (⊎_elim
    (λ (h : k < slot_count). rw (get_or-replicate slot_count k (fresh_table s.list) [] h) (fresh_tails s.list))
    (λ (h : slot_count ≤ k). rw (get_or-eq_default (replicate slot_count (fresh_table s.list)) [] h) no_table)
    (split k slot_count))

-- one table of a state after a call, and all of them after a tablet came or left
module _ (s : State) (z : AllZero s.tables) where
  called : (k : Seat) (c : TableCall) → AllZero (set s.tables k.0 (bytes_after (get_or s.tables k.0 []) c))
  called k c = each_set (λ j. ZeroTails) s.tables k.0 _ (λ h. call_tails _ (z k.0) c) z

  moved : valid s ≡ true → (m : Option Move) → AllZero (after_move s m).tables
  moved v None = z
  moved v (Some m) =
      either AllZero m.clears _ _
      (each_set (λ j. ZeroTails) s.tables m.seat.0 _ (λ h. cleared_tails _ ((tables_read s v).read m.seat.0 (omega (arith, eight_tables s v)))) z) z

abbrev Zero : State → Type 0
Zero s = AllZero s.tables

-- each call
module _ (x : Hub) (v : Valid x) (z : Zero x.state) (who : Identity) where
  abbrev s : State
  s = x.state

  abbrev slot : Option Seat
  slot = slot_of s.row who

  -- refused or let in
  left : (d : Admission) (s' : State) → Zero s' → Zero (left_if d s s')
  left d s' new = left_either Zero d s s' z new

  put : (i off : ℕ) (d : List ℕ) → Zero (put_at s slot i off d)
  put = tables_put s slot AllZero z (λ k e c. called s z k c)

  deed_zero : (d : Deed) → Zero (step_by x who d).state
  unfolding step_by
  deed_zero (Process q) =
      let w = x.waiting q.link in
      let k = query_of who q in
      left (let_in s w k q.room) _
      (request_leaves_lem q.level s slot Zero z (λ i l m off d. put i off d) (seen_of s w k).pending q.request q.brings)
  deed_zero Connect = left (admission s who) _ (moved s z v.state (connecting s.row who))
  deed_zero (Disconnect bonded) = left (admission s who) _ (moved s z v.state (leaving s.row who bonded))
  deed_zero (Set h d) = left (admission s who) _ (set_leaves s slot d Zero z (λ i l. put i 0 d) h)
  deed_zero (SetTable saved) = left (admission s who) _ (tables_restored s slot AllZero z (λ k e c. called s z k c) saved)
  deed_zero (Looks l) = z

-- a table that is told is a slot's
record ToldOf (s : State) (bs : List ℕ) : Type 0 where
  k : ℕ
  inside : k < slot_count
  is : get_or s.tables k [] ≡ bs

let_in_told : (v b p : Bool) (t : Told) (bs : List ℕ) → told_if (admission_by v b p) t ≡ value bs → t ≡ value bs
unfolding admission_by
let_in_told true true p t bs e = cc
let_in_told true false true t bs e = cc
let_in_told true false false t bs e = e
let_in_told false b p t bs e = cc

module _ (x : Hub) (v : Valid x) (z : Zero x.state) where
  told_of : (who : Identity) (bs : List ℕ) → fetched_told x.state who ≡ value bs → ToldOf x.state bs
  told_of who bs e = by (slot_of x.state.row who) refl (let_in_told (valid x.state) false (is_bad who) _ bs e)
    where
      by : (f : Option Seat) → slot_of x.state.row who ≡ f → table_told x.state.tables f ≡ value bs → ToldOf x.state bs
      by (Some k) f t =
          record {
            k = k.0;
            inside = omega (arith, slot_inside x.state.row who k f, eight_slots x.state v.state);
            is = cc;
          }
      by None f t = let n : ◌≡◌ {A = ℕ} 0 1 = cc in absurd (omega arith)

  table_zero : (who : Identity) (bs : List ℕ) → fetched_told x.state who ≡ value bs → ZeroTails bs
  table_zero who bs e = let t = told_of who bs e in rw (← t.is) (z t.k)

  saved_zero : (who : Identity) (bs out : List ℕ) → fetched_told x.state who ≡ value bs → raw_told bs ≡ value out → ZeroTails out
  saved_zero who bs out e r =
      let t = told_of who bs e in
      let ok : accepts bs ≡ true = rw (← t.is) ((tables_read x.state v.state).read t.k t.inside) in
      saved_tails bs ok (table_zero who bs e) out r

  -- a buffer as long as the table holds it whole
  whole : (old bs : List ℕ) → length old ≡ length bs → sets old 0 bs ≡ bs
  whole old bs e =
      let l : length old ≤ 0 + length bs = omega arith in
      rw (sets-eq bs old 0 (omega arith), drop_of_length-le old l) (append-nil bs)

  buffer_zero : (who : Identity) (t : Told) → fetched_told x.state who ≡ t → (old new : List ℕ) → length old ≡ table_bytes → new ≡ laid_on old t → (reply_to t).status ≡ 2 → ZeroTails new
  buffer_zero who (value bs) e old new n o two =
      let t = told_of who bs e in
      let l : length bs ≡ table_bytes = rw (← t.is) (v.sized.tables t.k t.inside) in
      rw (o, whole old bs (n ∙ sym l)) (table_zero who bs e)
  buffer_zero who done e old new n o two = absurd (omega arith)
  buffer_zero who none e old new n o two = absurd (omega arith)
  buffer_zero who (refused c) e old new n o two = absurd (omega arith)
  buffer_zero who (att c) e old new n o two = absurd (omega arith)

  nothing_old : NothingOld x
  nothing_old =
      record {
        slots = z;
        told = table_zero;
        saved = saved_zero;
        exported = λ who old new r n p two. buffer_zero who (fetched_told x.state who) refl old new n p.out (ap (λ y. y.status) (sym p.reply) ∙ two);
      }

all_zero_after : (x : Hub) → Valid x → Zero x.state → (calls : List Call) → NothingOld (after_all step x calls)
unfolding after_all
all_zero_after x v z [] = nothing_old x v z
all_zero_after x v z (c ∷ cs) = all_zero_after (step x c) (step_valid x c v) (deed_zero x v z c.who c.deed) cs

pub old_letters_are_gone : OldLettersAreGone
old_letters_are_gone s bytes e records n calls =
    all_zero_after (fresh s bytes) (fresh_valid s bytes e records n) (fresh_zero s bytes e) calls
