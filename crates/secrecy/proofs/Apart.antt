-- Another tablet's call leaves t's slots and their tables: what each call changes lies in a slot that is not t's, or in
-- one that t does not hold while another connects. Assumes nothing.
use Rattle.std.specs.Prelude.{Option, Some, None}
use mathlib.Core.Path.{◌≡◌, refl, sym, ◌∙◌}
use mathlib.Core.Bool.{Bool, true, false, true≢false}
use mathlib.Core.List.{List}
use mathlib.Core.Logic.{⊎_elim}
use Prim.Native.Nat.{ℕ, ◌<◌}
use lib.ListN.{length, get_or, set}
use lib.Dec.{eqb}
use borrow.Author.Tests.{eqb-true, eqb-false}
use Rattle.wire.specs.Test.{both}
use Rattle.peers.specs.Identity.{same_id, is_empty}
use Rattle.peers.specs.Slots.{matches, wanted, slot_of, taken, connecting, nobody, left, leaving, no_slot}
use Rattle.peers.specs.declared.Seat.{Seat}
use Rattle.peers.specs.declared.Identity.{Identity}
use Rattle.peers.specs.declared.Slot.{Slot}
use Rattle.peers.specs.declared.Move.{Move}
use Rattle.peers.specs.declared.Want.TheVariants.{Usable, Free}
use Rattle.peers.proofs.Laws.{matches_same, wanted_free, usable_own_or_empty, walk_placed, slot_inside}
use Rattle.peers.proofs.Moves.{by_joining, by_leaving}
use Rattle.peers.proofs.Changes.{OnlyAt, moved_only, new_slot, table_set}
use Rattle.peers.proofs.Identities.{not_both, somebody_else, nobody_empty}
use Rattle.state.specs.State.{State, state, after_move}
use Rattle.model.specs.Change.{put_at}
use Rattle.model.proofs.Leaving.{request_leaves_lem}
use Rattle.application.specs.Calls.{restored}
use Rattle.application.proofs.Leaving.{set_leaves}
use Rattle.admission.specs.Admission.{admission, left_if, Admission}
use Rattle.attribute_server.specs.Request.{seen_of, let_in}
use Rattle.secrecy.specs.Hub.{Deed, Process, Connect, Disconnect, Set, SetTable, Looks, query_of, step_by}
use Rattle.secrecy.specs.Untouched.{SameSlot, is_connect, Spared, KeptApart}
use Rattle.secrecy.proofs.Own.{found_own, tables_put, tables_restored}
use Rattle.secrecy.proofs.Sizes.{left_either}

module _ (t : Identity) (connects : Bool) (s : State) where
  stays : (list : List (List ℕ)) (store : List ℕ) → Spared t connects s (state list store s.row s.tables)
  stays list store = record { had = λ j m. record { slot = refl; table = refl }; has = λ j m f. record { slot = refl; table = refl } }

  -- one place changes: it is not t's afterwards, and t did not hold it
  at_one : (i : ℕ) (s' : State) → OnlyAt i s.row s'.row s.tables s'.tables → matches t (get_or s'.row i no_slot) ≡ false
      → (matches t (get_or s.row i no_slot) ≡ true → both connects (eqb (get_or s.row i no_slot).connected 0) ≡ false → ⊥) → Spared t connects s s'
  at_one i s' o new old =
      record { had = λ j m. after j m (eqb j i) refl; has = λ j m f. before j m f (eqb j i) refl }
    where
      other : (j : ℕ) → eqb j i ≡ false → SameSlot s s' j
      other j e = record { slot = o.slot j (eqb-false j i e); table = o.table j (eqb-false j i e) }

      after : (j : ℕ) → matches t (get_or s'.row j no_slot) ≡ true → (r : Bool) → eqb j i ≡ r → SameSlot s s' j
      after j m true e = absurd (true≢false (sym m ∙ rw (eqb-true j i e) new))
      after j m false e = other j e

      before : (j : ℕ) → matches t (get_or s.row j no_slot) ≡ true → both connects (eqb (get_or s.row j no_slot).connected 0) ≡ false → (r : Bool) → eqb j i ≡ r → SameSlot s s' j
      before j m f true e =
          let k = eqb-true j i e in
          absurd (old (rw k at m) (rw k at f))
      before j m f false e = other j e

  -- a move there, and none
  SparedBy : Option Move → Type 0
  SparedBy m = Spared t connects s (after_move s m)

  move_apart : (m : Move) → m.seat.0 < length s.row → matches t m.slot ≡ false
      → (matches t (get_or s.row m.seat.0 no_slot) ≡ true → both connects (eqb (get_or s.row m.seat.0 no_slot).connected 0) ≡ false → ⊥) → SparedBy (Some m)
  unfolding SparedBy
  move_apart m l new old = at_one m.seat.0 (after_move s (Some m)) (moved_only s.row s.tables m) (rw (new_slot s.row m l) new) old

  no_move_lem : SparedBy None
  unfolding SparedBy
  no_move_lem = stays s.list s.store

-- `who` calls; t is another, and somebody
module _ (t who : Identity) (some : is_empty t ≡ false) (other : same_id who t ≡ false) where
  -- a slot of who's is not t's, nor is one that is empty, one that `who` may use or has taken, and one that `who`
  -- leaves
  own_not : (x : Slot) → matches who x ≡ true → matches t x ≡ false
  own_not x h = matches_same t x ∙ not_both x.id who t (sym (matches_same who x) ∙ h) other

  empty_not : (x : Slot) → is_empty x.id ≡ true → matches t x ≡ false
  empty_not x h = matches_same t x ∙ somebody_else x.id t h some

  usable_not : (x : Slot) → wanted Usable who x ≡ true → matches t x ≡ false
  usable_not x h = ⊎_elim (own_not x) (empty_not x) (usable_own_or_empty who x h)

  taken_not : matches t (taken who) ≡ false
  taken_not = matches_same t (taken who) ∙ other

  left_not : (bonded : Bool) (x : Slot) → matches who x ≡ true → matches t (left bonded x) ≡ false
  unfolding left
  left_not true x h = matches_same t (record { id = x.id; connected = 0 }) ∙ sym (matches_same t x) ∙ own_not x h
  left_not false x h = empty_not (record { id = nobody; connected = 0 }) nobody_empty

  module _ (s : State) where
    connect_apart : SparedBy t true s (connecting s.row who)
    unfolding both
    connect_apart =
        by_joining s.row who (SparedBy t true s)
        (λ k e.
        let w = walk_placed s.row who Usable k e in
        move_apart t true s _ w.inside taken_not (λ m f. true≢false (sym m ∙ usable_not _ w.passes)))
        (λ k u e.
        let w = walk_placed s.row who Free k e in
        move_apart t true s _ w.inside taken_not (λ m f. true≢false (sym w.passes ∙ wanted_free who _ ∙ f)))
        (no_move_lem t true s)

    disconnect_apart : (bonded : Bool) → SparedBy t false s (leaving s.row who bonded)
    disconnect_apart bonded =
        by_leaving s.row who bonded (SparedBy t false s)
        (λ k e.
        let own = found_own s.row who k e in
        move_apart t false s _ (slot_inside s.row who k e) (left_not bonded _ own) (λ m f. true≢false (sym m ∙ own_not _ own)))
        (no_move_lem t false s)

    -- a call of the table in who's slot
    abbrev Spares : List (List ℕ) → Type 0
    Spares ts = (list : List (List ℕ)) (store : List ℕ) → Spared t false s (state list store s.row ts)

    table_apart : (k : Seat) → slot_of s.row who ≡ Some k → (x : List ℕ) → Spares (set s.tables k.0 x)
    table_apart k e x list store =
        let not_own = own_not (get_or s.row k.0 no_slot) (found_own s.row who k e) in
        at_one t false s k.0 (state list store s.row (set s.tables k.0 x)) (table_set k.0 s.row s.tables x) not_own (λ m f. true≢false (sym m ∙ not_own))

    restore_apart : (saved : List ℕ) → Spares (restored s.tables (slot_of s.row who) saved)
    restore_apart = tables_restored s (slot_of s.row who) Spares (stays t false s) (λ k e c. table_apart k e _)

    -- a value put
    put_apart : (i off : ℕ) (d : List ℕ) → Spared t false s (put_at s (slot_of s.row who) i off d)
    unfolding put_at
    put_apart i off d = tables_put s (slot_of s.row who) Spares (stays t false s) (λ k e c. table_apart k e _) i off d _ _

pub kept_apart : KeptApart
unfolding step_by is_connect SparedBy
kept_apart t x c some other = by c.deed
  where
    s : State
    s = x.state

    was : (connects : Bool) → Spared t connects s s
    was connects = stays t connects s s.list s.store

    -- refused or let in
    left : (connects : Bool) (d : Admission) (s' : State) → Spared t connects s s' → Spared t connects s (left_if d s s')
    left connects d s' new = left_either (Spared t connects s) d s s' (was connects) new

    by : (d : Deed) → Spared t (is_connect d) s (step_by x c.who d).state
    by (Process q) =
        let w = x.waiting q.link in
        let k = query_of c.who q in
        left false (let_in s w k q.room) _
        (request_leaves_lem q.level s (slot_of s.row c.who) (Spared t false s) (was false) (λ i l m off d. put_apart t c.who some other s i off d) (seen_of s w k).pending q.request q.brings)
    by Connect = left true (admission s c.who) _ (connect_apart t c.who some other s)
    by (Disconnect bonded) = left false (admission s c.who) _ (disconnect_apart t c.who some other s bonded)
    by (Set h d) =
        left false (admission s c.who) _
        (set_leaves s (slot_of s.row c.who) d (Spared t false s) (was false) (λ i l. put_apart t c.who some other s i 0 d) h)
    by (SetTable saved) = left false (admission s c.who) _ (restore_apart t c.who some other s saved _ _)
    by (Looks l) = was false
