-- `should_notify` and `should_indicate` (document 01, "Slots"): yes is told as done, no as none. Assumes nothing.
use Rattle.std.specs.Prelude.{ℕ, cond}
use Rattle.table_view.specs.Told.{Told, done, none}
use Rattle.peers.specs.declared.Identity.{Identity}
use Rattle.state.specs.State.{State}
use Rattle.model.specs.View.{own_table}
use Rattle.application.specs.Calls.{is_subscribed}
use Rattle.admission.specs.Admission.{admission, told_if}

abbrev pub subscribed_told : State → Identity → ℕ → ℕ → Told
subscribed_told s who h bit =
    told_if (admission s who) (cond (is_subscribed (own_table s.row s.tables who) h bit) done none)
