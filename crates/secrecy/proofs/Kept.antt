-- What is kept for a tablet stays the same in two hubs: a change of one slot asks for that slot alone; a table's call
-- makes one list of one list; and a table that is nobody's, or cleared, is the list's fresh one. Assumes nothing.
use Rattle.std.specs.Prelude.{Option, Some, None}
use mathlib.Core.Path.{◌≡◌, refl, sym, ap, ◌∙◌}
use mathlib.Core.Bool.{Bool, true, false, not}
use mathlib.Core.List.{List, [], map}
use mathlib.Core.Logic.{⊎_elim}
use Prim.Native.Nat.{ℕ, ◌<◌}
use native.Mathlib.Omega.{arith}
use lib.Dec.{eqb}
use lib.ListN.{length, get_or, set}
use lib.Seq.{get_or-set_same}
use borrow.Author.Tests.{eqb-true, eqb-false}
use Rattle.table_view.specs.View.{view}
use Rattle.table_view.specs.Rules.{accepts}
use Rattle.client_att_table.specs.AsList.{TableCall, bytes_after, list_after}
use Rattle.client_att_table.proofs.AsList.{call_list}
use Rattle.peers.specs.Identity.{is_empty}
use Rattle.peers.specs.Slots.{matches, wanted, slot_of, taken, connecting, left, leaving, row_moved, tables_moved, no_slot}
use Rattle.peers.specs.declared.Seat.{Seat}
use Rattle.peers.specs.declared.Identity.{Identity}
use Rattle.peers.specs.declared.Slot.{Slot}
use Rattle.peers.specs.declared.Move.{Move}
use Rattle.peers.specs.declared.Want.TheVariants.{Usable, Free}
use Rattle.peers.proofs.Laws.{matches_same, usable_own_or_empty, walk_placed, walk_inside, slot_inside}
use Rattle.peers.proofs.Moves.{by_joining, by_leaving}
use Rattle.peers.proofs.Changes.{OnlyAt, moved_only, new_slot, clear_table, kept_tables, table_set}
use Rattle.peers.proofs.Identities.{same_is}
use Rattle.state.specs.State.{State}
use Rattle.state.specs.Fresh.{fresh_table}
use Rattle.state.specs.Valid.{valid}
use Rattle.state.proofs.Keeping.{eight_tables, tables_read, inside, nobodys_table, cleared_table}
use Rattle.secrecy.specs.Valid.{Sized}
use Rattle.secrecy.specs.Agree.{known_of, holder_of}
use Rattle.secrecy.proofs.Known.{fresh_same}
use Rattle.secrecy.proofs.Rows.{slots_same, id_same}

-- one list in both, in every slot of t's
abbrev pub SameKept : Identity → List Slot → List (List ℕ) → List (List ℕ) → Type 0
SameKept t row ts ts' = (i : ℕ) → matches t (get_or row i no_slot) ≡ true → view (get_or ts i []) ≡ view (get_or ts' i [])

at_one : (t : Identity) (i : ℕ) (row new row' new' : List Slot) (ts us ts' us' : List (List ℕ)) → OnlyAt i row new ts us → OnlyAt i row' new' ts' us' → SameKept t row ts ts'
    → (matches t (get_or new i no_slot) ≡ true → view (get_or us i []) ≡ view (get_or us' i []))
    → SameKept t new us us'
at_one t i row new row' new' ts us ts' us' o o' k here j m = by (eqb j i) refl
  where
    by : (b : Bool) → eqb j i ≡ b → view (get_or us j []) ≡ view (get_or us' j [])
    by true e = rw (eqb-true j i e) (here (rw (eqb-true j i e) at m))
    by false e =
        let n = eqb-false j i e in
        rw (o.table j n, o'.table j n) (k j (rw (o.slot j n) at m))

-- a state in which the calls are let in
pub record Sound (s : State) : Type 0 where
  pub right : valid s ≡ true
  pub sized : Sized s

module _ (s : State) (x : Sound s) where
  -- the table of a slot: it is there, and can be read
  there : (i : ℕ) → i < length s.row → i < length s.tables
  there i l = omega (arith, inside s x.right x.sized.tables i l, eight_tables s x.right)

  read : (i : ℕ) → i < length s.row → accepts (get_or s.tables i []) ≡ true
  read i l = (tables_read s x.right).read i (inside s x.right x.sized.tables i l)

  -- one that is cleared is the list's fresh one
  emptied : (m : Move) → m.clears ≡ true → m.seat.0 < length s.row → get_or (tables_moved s.tables (Some m)) m.seat.0 [] ≡ fresh_table s.list
  emptied m c l = clear_table s.tables m c (there m.seat.0 l) ∙ cleared_table s x.right x.sized.tables m.seat.0 l

-- two states of which the same is known, and which keep the same for t
module _ (t : Identity) (a b : State) (x : Sound a) (y : Sound b) (lists : map known_of a.list ≡ map known_of b.list) (rows : map holder_of a.row ≡ map holder_of b.row)
    (k : SameKept t a.row a.tables b.tables) where
  within : (i : ℕ) → i < length a.row → i < length b.row
  within i l = omega (arith, slots_same a.row b.row rows)

  -- a table's call, in one slot
  pub call_same : (i : ℕ) → i < length a.row → (c : TableCall) → SameKept t a.row (set a.tables i (bytes_after (get_or a.tables i []) c)) (set b.tables i (bytes_after (get_or b.tables i []) c))
  call_same i l c =
      at_one t i a.row a.row b.row b.row a.tables _ b.tables _ (table_set i a.row a.tables _) (table_set i b.row b.tables _) k
      (λ m.
      rw (get_or-set_same a.tables i (bytes_after (get_or a.tables i []) c) [] (there a x i l), get_or-set_same b.tables i (bytes_after (get_or b.tables i []) c) [] (there b y i (within i l)))
      (call_list (get_or a.tables i []) (read a x i l) c ∙ ap (λ xs. list_after xs c) (k i m) ∙ sym (call_list (get_or b.tables i []) (read b y i (within i l)) c)))

  -- a move: one that clears, one that leaves the tables, and none
  unfoldable pub MoveSame : Option Move → Type 0
  MoveSame m = SameKept t (row_moved a.row m) (tables_moved a.tables m) (tables_moved b.tables m)

  move_same : (m : Move) → (matches t (get_or (row_moved a.row (Some m)) m.seat.0 no_slot) ≡ true → view (get_or (tables_moved a.tables (Some m)) m.seat.0 []) ≡ view (get_or (tables_moved b.tables (Some m)) m.seat.0 [])) → MoveSame (Some m)
  unfolding MoveSame
  move_same m here =
      at_one t m.seat.0 a.row _ b.row _ a.tables _ b.tables _ (moved_only a.row a.tables m) (moved_only b.row b.tables m) k here

  emptied_same : (m : Move) → m.clears ≡ true → m.seat.0 < length a.row → MoveSame (Some m)
  emptied_same m c l =
      move_same m (λ o. ap view (emptied a x m c l ∙ fresh_same a.list b.list lists ∙ sym (emptied b y m c (within m.seat.0 l))))

  owned_same : (m : Move) → m.clears ≡ false → m.seat.0 < length a.row → (matches t m.slot ≡ true → view (get_or a.tables m.seat.0 []) ≡ view (get_or b.tables m.seat.0 [])) → MoveSame (Some m)
  owned_same m c l e =
      move_same m (λ o. rw (kept_tables a.tables m c, kept_tables b.tables m c) (e (rw (new_slot a.row m l) at o)))

  stay_same : MoveSame None
  unfolding MoveSame
  stay_same = k

  -- connecting: a slot that is usable, and its new owner
  usable_same : (who : Identity) (i : ℕ) → i < length a.row → wanted Usable who (get_or a.row i no_slot) ≡ true → matches t (taken who) ≡ true → view (get_or a.tables i []) ≡ view (get_or b.tables i [])
  usable_same who i l u e =
      ⊎_elim
      (λ (m : matches who (get_or a.row i no_slot) ≡ true). k i (rw (same_is who t (sym (matches_same t (taken who)) ∙ e)) at m))
      (λ (h : is_empty (get_or a.row i no_slot).id ≡ true).
      let h' : is_empty (get_or b.row i no_slot).id ≡ true = ap is_empty (sym (id_same a.row b.row rows i)) ∙ h in
      ap view
      (nobodys_table a x.right x.sized.tables i l h
      ∙ fresh_same a.list b.list lists
      ∙ sym (nobodys_table b y.right y.sized.tables i (within i l) h')))
      (usable_own_or_empty who (get_or a.row i no_slot) u)

  pub connect_same : (who : Identity) → MoveSame (connecting a.row who)
  connect_same who =
      by_joining a.row who MoveSame
      (λ at e.
      let w = walk_placed a.row who Usable at e in
      owned_same _ refl w.inside (usable_same who at.0 w.inside w.passes))
      (λ at u e. emptied_same _ refl (walk_inside a.row who Free at e))
      stay_same

  -- leaving
  left_same : (who : Identity) (bonded : Bool) (at : Seat) → slot_of a.row who ≡ Some at → MoveSame (Some (record { seat = at; slot = left bonded (get_or a.row at.0 no_slot); clears = not bonded }))
  unfolding left
  left_same who true at e =
      let s = get_or a.row at.0 no_slot in
      owned_same _ refl (slot_inside a.row who at e) (λ o. k at.0 (matches_same t s ∙ sym (matches_same t (record { id = s.id; connected = 0 })) ∙ o))
  left_same who false at e = emptied_same _ refl (slot_inside a.row who at e)

  pub disconnect_same : (who : Identity) (bonded : Bool) → MoveSame (leaving a.row who bonded)
  disconnect_same who bonded = by_leaving a.row who bonded MoveSame (left_same who bonded) stay_same
