-- `get_client_att_table` and `set_client_att_table` (document 01, "Slots"). Assumes nothing.
use Rattle.std.specs.Prelude.{ℕ, List}
use Rattle.table_view.specs.Told.{Told}
use Rattle.peers.specs.Slots.{slot_of}
use Rattle.peers.specs.declared.Identity.{Identity}
use Rattle.state.specs.State.{State, with_tables}
use Rattle.application.specs.Calls.{table_told, restore_told, restored}
use Rattle.admission.specs.Admission.{admission, told_if, left_if}

module _ (s : State) (who : Identity) where
  abbrev pub fetched_told : Told
  fetched_told = told_if (admission s who) (table_told s.tables (slot_of s.row who))

  abbrev pub restored_told : List ℕ → Told
  restored_told saved = told_if (admission s who) (restore_told saved)

  abbrev pub restored_left : List ℕ → State
  restored_left saved = left_if (admission s who) s (with_tables s (restored s.tables (slot_of s.row who) saved))
