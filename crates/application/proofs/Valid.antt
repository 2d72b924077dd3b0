-- Valid in, valid out: setting a value and taking in a saved table keep a valid state valid. Assumes nothing.
use Rattle.std.specs.Prelude.{Option, Some, None}
use mathlib.Core.Path.{◌≡◌, refl}
use mathlib.Core.Bool.{Bool, true, false, cond}
use mathlib.Core.List.{List, []}
use Prim.Native.Nat.{ℕ, ◌<◌}
use lib.ListN.{length, get_or}
use Rattle.wire.specs.Size.{record_bytes, slot_count, table_bytes}
use Rattle.table_view.specs.Rules.{accepts}
use Rattle.client_att_table.specs.SetValues.{after_set}
use Rattle.client_att_table.specs.AsList.{set_values, bytes_after}
use Rattle.client_att_table.proofs.Frame.{Kept}
use Rattle.client_att_table.proofs.AsList.{call_kept}
use Rattle.attribute.specs.Lookup.{place_of}
use Rattle.peers.specs.Identity.{is_bad}
use Rattle.peers.specs.Slots.{slot_of}
use Rattle.peers.specs.declared.Identity.{Identity}
use Rattle.state.specs.State.{State, with_tables}
use Rattle.state.specs.Valid.{valid}
use Rattle.storing.proofs.Valid.{put_valid, kept_valid}
use Rattle.application.specs.Calls.{store_left, restored_at, restored}
use Rattle.application.proofs.Leaving.{set_leaves}
use Rattle.peers.specs.declared.Seat.{Seat}

-- `set`
module _ (s : State) (who : Identity) (v : valid s ≡ true) (good : is_bad who ≡ false) (records : (i : ℕ) → i < length s.list → length (get_or s.list i []) ≡ record_bytes)
    (sized : (i : ℕ) → i < slot_count → length (get_or s.tables i []) ≡ table_bytes) where
  pub store_valid : (h : ℕ) (d : List ℕ) → valid (store_left s (slot_of s.row who) (place_of s.list h) d) ≡ true
  store_valid h d =
      set_leaves s (slot_of s.row who) d (λ l. valid l ≡ true) v
      (λ i l. put_valid s who v good records sized i l 0 d) h

-- `set_client_att_table`
values_kept : (saved t : List ℕ) → accepts t ≡ true → Kept t (after_set saved t)
unfolding bytes_after
values_kept saved t ok = call_kept t ok (set_values saved)

module _ (s : State) (who : Identity) (v : valid s ≡ true) (good : is_bad who ≡ false) (sized : (i : ℕ) → i < slot_count → length (get_or s.tables i []) ≡ table_bytes) (saved : List ℕ) where
  at_slot : (f : Option Seat) → slot_of s.row who ≡ f → valid (with_tables s (restored_at s.tables f saved)) ≡ true
  at_slot None e = v
  at_slot (Some k) e = kept_valid s v who good sized k e _ (values_kept saved (get_or s.tables k.0 []))

  pub restore_valid : valid (with_tables s (restored s.tables (slot_of s.row who) saved)) ≡ true
  unfolding restored
  restore_valid = by (accepts saved)
    where
      by : (t : Bool) → valid (with_tables s (cond t (restored_at s.tables (slot_of s.row who) saved) s.tables)) ≡ true
      by true = at_slot (slot_of s.row who) refl
      by false = v
