-- `get`, `set`, `can_read` and `can_write` (document 01, "Refusals of a call" and "Attributes"). Assumes nothing.
use Rattle.std.specs.Prelude.{ℕ, List}
use Rattle.table_view.specs.Told.{Told}
use Rattle.attribute.specs.Lookup.{place_of}
use Rattle.attribute.specs.Needs.{can_do_told}
use Rattle.attribute.specs.declared.Link.{Link}
use Rattle.attribute.specs.declared.Wish.{Wish}
use Rattle.peers.specs.Slots.{slot_of}
use Rattle.peers.specs.declared.Identity.{Identity}
use Rattle.state.specs.State.{State}
use Rattle.model.specs.View.{own_table}
use Rattle.application.specs.Calls.{fetch_told, store_told, store_left}
use Rattle.admission.specs.Admission.{admission, told_if, left_if}

module _ (s : State) (who : Identity) where
  abbrev pub get_told : ℕ → ℕ → Told
  get_told h room =
      told_if (admission s who) (fetch_told s.list s.store (own_table s.row s.tables who) (place_of s.list h) room)

  abbrev pub set_told : ℕ → ℕ → Told
  set_told h n =
      told_if (admission s who) (store_told s.list s.store (own_table s.row s.tables who) (place_of s.list h) n)

  abbrev pub set_left : ℕ → List ℕ → State
  set_left h d = left_if (admission s who) s (store_left s (slot_of s.row who) (place_of s.list h) d)

  abbrev pub can_told : Wish → Link → ℕ → Told
  can_told wish link h = told_if (admission s who) (can_do_told wish s.list link h)
