-- A write keeps two states in agreement, whoever's it is: what is known of the list afterwards is decided by what was
-- known of it, a shared value by that value, and a table's list by that list. Assumes nothing.
use Rattle.std.specs.Prelude.{Option, Some}
use mathlib.Core.Path.{◌≡◌, refl, sym, ap, subst, ◌∙◌}
use mathlib.Core.Bool.{Bool, true, false}
use mathlib.Core.List.{List, [], map}
use Prim.Native.Nat.{ℕ, ◌<◌}
use native.Mathlib.Omega.{arith}
use lib.Dec.{eqb}
use lib.ListN.{length, get_or, set}
use borrow.Author.Tests.{eqb-true, eqb-false}
use Rattle.client_att_table.specs.AsList.{TableCall, bytes_after, item_after}
use Rattle.attribute.specs.Lookup.{place_of}
use Rattle.attribute.specs.Needs.{access_of}
use Rattle.attribute.specs.Rules.{list_ok}
use Rattle.attribute.specs.declared.Link.{Link}
use Rattle.peers.specs.Slots.{slot_of}
use Rattle.peers.specs.declared.Seat.{Seat}
use Rattle.peers.specs.declared.Identity.{Identity}
use Rattle.peers.proofs.Laws.{slot_inside}
use Rattle.state.specs.State.{State, with_tables}
use Rattle.state.proofs.Keeping.{right_list}
use Rattle.model.specs.Value.{shared_item}
use Rattle.model.specs.View.{Pending}
use Rattle.model.specs.Change.{put_at, state_by}
use Rattle.model.specs.declared.Request.{Request}
use Rattle.application.specs.Calls.{is_wrong_length, store_left, restored}
use Rattle.storing.proofs.Shared.{item_put, put_entry, entry_stays, value_stays, put_count}
use Rattle.model.proofs.Leaving as requests
use Rattle.application.proofs.Leaving as sets
use Rattle.secrecy.specs.Agree.{known_of, holder_of, attribute_at, AgreeOn}
use Rattle.secrecy.proofs.Known.{SameFields, entry_fields, length_same, places_same, fields_same, put_known}
use Rattle.secrecy.proofs.Rows.{slot_same}
use Rattle.secrecy.proofs.Own.{both_put, both_restored}
use Rattle.secrecy.proofs.Kept.{SameKept, Sound, call_same}
use Rattle.wire.specs.declared.att.AttError.TheVariants.{WriteNotPermitted}

module _ (t : Identity) (may : ℕ → Bool) (a b : State) (x : Sound a) (y : Sound b) (same : AgreeOn t may a b) (who : Identity) where
  abbrev slot : Option Seat
  slot = slot_of a.row who

  own : slot_of a.row who ≡ slot_of b.row who
  own = slot_same a.row b.row same.row who

  fields : (i : ℕ) → SameFields (get_or a.list i []) (get_or b.list i [])
  fields i = fields_same a.list b.list same.list i

  within : (i : ℕ) → i < length a.list → i < length b.list
  within i l = omega (arith, length_same known_of a.list b.list same.list)

  -- a call of the table in the slot of a peer
  at_slot : (k : Seat) → slot ≡ Some k → (c : TableCall) → SameKept t a.row (set a.tables k.0 (bytes_after (get_or a.tables k.0 []) c)) (set b.tables k.0 (bytes_after (get_or b.tables k.0 []) c))
  at_slot k e c = call_same t a b x y same.list same.row same.kept k.0 (slot_inside a.row who k e) c

  -- `set_client_att_table`
  pub restored_same : (saved : List ℕ) → AgreeOn t may (with_tables a (restored a.tables (slot_of a.row who) saved)) (with_tables b (restored b.tables (slot_of b.row who) saved))
  restored_same saved =
      record {
        list = same.list;
        row = same.row;
        shared = same.shared;
        kept = rw (← own) (both_restored a.tables b.tables slot (SameKept t a.row) same.kept at_slot saved);
      }

  -- a write by place
  module _ (i : ℕ) (l : i < length a.list) (off : ℕ) (d : List ℕ) where
    abbrev a' : State
    a' = put_at a slot i off d

    abbrev b' : State
    b' = put_at b slot i off d

    ok : list_ok a.list (length a.store) ≡ true
    ok = right_list a x.right

    ok' : list_ok b.list (length b.store) ≡ true
    ok' = right_list b y.right

    list_same : map known_of a'.list ≡ map known_of b'.list
    list_same = put_known a b same.list slot i off d (x.sized.records i l) (y.sized.records i (within i l))

    row_same : map holder_of a'.row ≡ map holder_of b'.row
    unfolding put_at
    row_same = same.row

    kept_same : SameKept t a'.row a'.tables b'.tables
    unfolding put_at
    kept_same = both_put a b slot (SameKept t a.row) same.kept at_slot i off d (fields i).client (fields i).handle

    -- the value that is written, and every other
    here_same : (attribute_at a i).client ≡ false → may (attribute_at a i).reads ≡ true → shared_item a'.store (attribute_at a' i) ≡ shared_item b'.store (attribute_at b' i)
    here_same c m =
        item_put a ok x.sized.records slot i l off d c
        ∙ ap (item_after off d) (same.shared i l c m)
        ∙ sym (item_put b ok' y.sized.records slot i (within i l) off d (sym (fields i).client ∙ c))

    there_same : (j : ℕ) → (j ≡ i → ⊥) → j < length a.list → (attribute_at a j).client ≡ false → may (attribute_at a j).reads ≡ true → shared_item a'.store (attribute_at a' j) ≡ shared_item b'.store (attribute_at b' j)
    there_same j n lj c m =
        rw (entry_stays a ok x.sized.records slot i l off d j n, entry_stays b ok' y.sized.records slot i (within i l) off d j n)
        (value_stays a ok x.sized.records slot i l off d j lj n c
        ∙ same.shared j lj c m
        ∙ sym (value_stays b ok' y.sized.records slot i (within i l) off d j (within j lj) n (sym (fields j).client ∙ c)))

    shared_same : (j : ℕ) → j < length a'.list → (attribute_at a' j).client ≡ false → may (attribute_at a' j).reads ≡ true → shared_item a'.store (attribute_at a' j) ≡ shared_item b'.store (attribute_at b' j)
    shared_same j lj c m = by (eqb j i) refl
      where
        f : SameFields (get_or a'.list j []) (get_or a.list j [])
        f = entry_fields _ _ (put_entry a ok x.sized.records slot i l off d j)

        c₀ : (attribute_at a j).client ≡ false
        c₀ = sym f.client ∙ c

        m₀ : may (attribute_at a j).reads ≡ true
        m₀ = ap may (sym f.reads) ∙ m

        by : (z : Bool) → eqb j i ≡ z → shared_item a'.store (attribute_at a' j) ≡ shared_item b'.store (attribute_at b' j)
        by true q = rw (eqb-true j i q) (here_same (rw (eqb-true j i q) at c₀) (rw (eqb-true j i q) at m₀))
        by false q = there_same j (eqb-false j i q) (rw (put_count a ok x.sized.records slot i l off d) at lj) c₀ m₀

    put_same : AgreeOn t may a' b'
    put_same = record { list = list_same; row = row_same; shared = shared_same; kept = kept_same }

  -- a request, and `set`
  wrong_same : (n i : ℕ) → is_wrong_length (attribute_at a i) n ≡ is_wrong_length (attribute_at b i) n
  unfolding is_wrong_length
  wrong_same n i = rw ((fields i).variable, (fields i).cap)

  pub asked_same : (link : Link) (w : Pending) (rq : Request) (d : List ℕ) → AgreeOn t may (state_by link a (slot_of a.row who) w rq d) (state_by link b (slot_of b.row who) w rq d)
  asked_same link w rq d =
      subst (λ (f : Option Seat). AgreeOn t may (state_by link a slot w rq d) (state_by link b f w rq d)) own
      (requests.both_leave link a b slot (AgreeOn t may) same (places_same a.list b.list same.list) (λ i. ap (access_of link WriteNotPermitted) (fields i).writes) (λ i l m off e. put_same i l off e) w rq d)

  pub stored_same : (h : ℕ) (d : List ℕ) → AgreeOn t may (store_left a (slot_of a.row who) (place_of a.list h) d) (store_left b (slot_of b.row who) (place_of b.list h) d)
  stored_same h d =
      subst (λ (f : Option Seat). AgreeOn t may (store_left a slot (place_of a.list h) d) (store_left b f (place_of b.list h) d)) own
      (sets.both_leave a b slot d (AgreeOn t may) same (places_same a.list b.list same.list) (wrong_same (length d)) (λ i l. put_same i l 0 d) h)
