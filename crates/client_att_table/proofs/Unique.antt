-- Any two results that satisfy a call's promise are equal: its answer, and every byte of the table. Assumes nothing.
use Rattle.std.specs.Prelude.{Result}
use mathlib.Core.Path.{◌≡◌}
use mathlib.Core.List.{List}
use Prim.Native.Nat.{ℕ}
use lib.ListN.{length}
use Rattle.table_view.specs.Read.{told_done, told_write}
use Rattle.table_view.specs.declared.NotATable.{NotATable}
use Rattle.table_view.specs.declared.WriteError.{WriteError}
use Rattle.table_view.proofs.Unique.{done_left, write_left}
use Rattle.client_att_table.specs.Write.{write_told, after_write}
use Rattle.client_att_table.specs.SetValues.{set_told, after_set}
use Rattle.client_att_table.specs.Clear.{clear_told, after_clear}

-- `write`
pub one_write : (bs : List ℕ) (r r' : Result (Unit {0}) WriteError) (new new' : List ℕ) (k off : ℕ) (d : List ℕ)
    → (told_write r ≡ write_told bs k off (length d)) × (new ≡ after_write bs k off d)
    → (told_write r' ≡ write_told bs k off (length d)) × (new' ≡ after_write bs k off d) → (r ≡ r') × (new ≡ new')
one_write bs r r' new new' k off d = write_left (write_told bs k off (length d)) (after_write bs k off d) r r' new new'

module _ (bs : List ℕ) (r r' : Result (Unit {0}) NotATable) (new new' : List ℕ) where
  -- `set_values`
  pub one_set_values : (src : List ℕ) → (told_done r ≡ set_told src bs) × (new ≡ after_set src bs)
      → (told_done r' ≡ set_told src bs) × (new' ≡ after_set src bs) → (r ≡ r') × (new ≡ new')
  one_set_values src = done_left (set_told src bs) (after_set src bs) r r' new new'

  -- `clear`
  pub one_clear : (told_done r ≡ clear_told bs) × (new ≡ after_clear bs) → (told_done r' ≡ clear_told bs) × (new' ≡ after_clear bs)
      → (r ≡ r') × (new ≡ new')
  one_clear = done_left (clear_told bs) (after_clear bs) r r' new new'
