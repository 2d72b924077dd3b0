-- A peer's own slot: the one that is found is the peer's, and what a request, `set` and `set_client_att_table` do to
-- the tables is a call of the table there.
-- Said of two hubs side by side; one hub stands beside itself. Assumes nothing.
use Rattle.std.specs.Prelude.{Option, Some, None}
use mathlib.Core.Path.{◌≡◌, refl, sym, ◌∙◌}
use mathlib.Core.Bool.{Bool, true, false, cond}
use mathlib.Core.List.{List, []}
use Prim.Native.Nat.{ℕ}
use lib.ListN.{get_or, set}
use Rattle.table_view.specs.Rules.{accepts}
use Rattle.client_att_table.specs.AsList.{TableCall, write, set_values, bytes_after}
use Rattle.attribute.specs.Record.{attribute_of}
use Rattle.peers.specs.Slots.{matches, slot_of, no_slot}
use Rattle.peers.specs.declared.Identity.{Identity}
use Rattle.peers.specs.declared.Seat.{Seat}
use Rattle.peers.specs.declared.Slot.{Slot}
use Rattle.peers.specs.declared.Want.TheVariants.{Own}
use Rattle.peers.proofs.Laws.{walk_placed, wanted_own}
use Rattle.state.specs.State.{State}
use Rattle.model.specs.Change.{own_tables, put_at}
use Rattle.application.specs.Calls.{restored_at, restored}

pub found_own : (row : List Slot) (who : Identity) (k : Seat) → slot_of row who ≡ Some k → matches who (get_or row k.0 no_slot) ≡ true
found_own row who k e = sym (wanted_own who (get_or row k.0 no_slot)) ∙ (walk_placed row who Own k e).passes

module _ (ts ts' : List (List ℕ)) (slot : Option Seat) (R : List (List ℕ) → List (List ℕ) → Type 0) (old : R ts ts')
    (call : (k : Seat) → slot ≡ Some k → (c : TableCall) → R (set ts k.0 (bytes_after (get_or ts k.0 []) c)) (set ts' k.0 (bytes_after (get_or ts' k.0 []) c))) where
  own_put : (f : Option Seat) → slot ≡ f → (h off : ℕ) (d : List ℕ) → R (own_tables ts f h off d) (own_tables ts' f h off d)
  unfolding own_tables bytes_after
  own_put None e h off d = old
  own_put (Some k) e h off d = call k e (write h off d)

  own_restored : (f : Option Seat) → slot ≡ f → (saved : List ℕ) → R (restored_at ts f saved) (restored_at ts' f saved)
  unfolding bytes_after
  own_restored None e saved = old
  own_restored (Some k) e saved = call k e (set_values saved)

  if_own : (c : Bool) (x y : List (List ℕ)) → R x y → R (cond c x ts) (cond c y ts')
  if_own true x y new = new
  if_own false x y new = old

  -- a saved table taken in
  pub both_restored : (saved : List ℕ) → R (restored ts slot saved) (restored ts' slot saved)
  unfolding restored
  both_restored saved = if_own (accepts saved) _ _ (own_restored slot refl saved)

  -- a value put, under one handle
  one_put : (c c' : Bool) → c ≡ c' → (h h' : ℕ) → h ≡ h' → (off : ℕ) (d : List ℕ) → R (cond c (own_tables ts slot h off d) ts) (cond c' (own_tables ts' slot h' off d) ts')
  one_put c c' e h h' f off d = rw (← e, ← f) (if_own c _ _ (own_put slot refl h off d))

module _ (a b : State) (slot : Option Seat) (R : List (List ℕ) → List (List ℕ) → Type 0) (old : R a.tables b.tables)
    (call : (k : Seat) → slot ≡ Some k → (c : TableCall) → R (set a.tables k.0 (bytes_after (get_or a.tables k.0 []) c)) (set b.tables k.0 (bytes_after (get_or b.tables k.0 []) c))) where
  pub both_put : (i off : ℕ) (d : List ℕ) → (attribute_of (get_or a.list i [])).client ≡ (attribute_of (get_or b.list i [])).client
      → (attribute_of (get_or a.list i [])).handle ≡ (attribute_of (get_or b.list i [])).handle
      → R (put_at a slot i off d).tables (put_at b slot i off d).tables
  unfolding put_at
  both_put i off d c h = one_put a.tables b.tables slot R old call _ _ c _ _ h off d

-- of one hub
module _ (s : State) (slot : Option Seat) (P : List (List ℕ) → Type 0) (old : P s.tables) (call : (k : Seat) → slot ≡ Some k → (c : TableCall) → P (set s.tables k.0 (bytes_after (get_or s.tables k.0 []) c))) where
  pub tables_put : (i off : ℕ) (d : List ℕ) → P (put_at s slot i off d).tables
  tables_put i off d = both_put s s slot (λ x y. P x) old call i off d refl refl

  pub tables_restored : (saved : List ℕ) → P (restored s.tables slot saved)
  tables_restored = both_restored s.tables s.tables slot (λ x y. P x) old call
