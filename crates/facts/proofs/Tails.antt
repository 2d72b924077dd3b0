-- The table of what is left holds: each row computes. Assumes nothing.
use mathlib.Core.Path.{refl}
use Rattle.wire.specs.Test.{both}
use Rattle.wire.specs.Run.{after_all}
use Rattle.wire.specs.Bytes.{zeros, alike}
use Rattle.wire.specs.Number.{word}
use Rattle.wire.specs.Walk.{place_in}
use Rattle.table_view.specs.Layout.{next_at, head_at, len_at}
use Rattle.table_view.specs.Rules.{index_entry_ok, index_ok, value_ok, values_ok, accepts}
use Rattle.table_view.specs.Lookup.{place_from, index_place}
use Rattle.client_att_table.specs.Write.{plan_at, with_len, laid, dropped, stored, after_write}
use Rattle.table_builder.specs.Push.{builder, last_key, entry_fits, value_size, flagged, push_plan, with_entry}
use Rattle.attribute.specs.Record.{attribute_of, with_length}
use Rattle.attribute.specs.Needs.{access_as}
use Rattle.attribute.specs.Rules.{fields_ok, range_ok, entry_ok, end_after, entries_ok, list_ok}
use Rattle.peers.specs.Identity.{same_id, is_empty, is_bad}
use Rattle.peers.specs.Slots.{matches, wanted, seated_at, connecting}
use Rattle.state.specs.Fresh.{clients_of, fresh_table, space_of, entries_size}
use Rattle.state.specs.Valid.{laid_out, slot_ok, slots_ok, valid, record_ok, valid_with}
use Rattle.model.specs.Value.{write_rule}
use Rattle.model.specs.Answer.{is_due}
use Rattle.model.specs.Change.{length_put, shared_list, shared_store, own_tables, put_at, state_after, state_by}
use Rattle.application.specs.Calls.{is_wrong_length}
use Rattle.admission.specs.Admission.{admission_by, is_bad_buffer}
use Rattle.facts.specs.Facts.{none, one}
use Rattle.facts.specs.Tails.{TailsHold}

pub tails_hold : TailsHold
unfolding both after_all zeros alike word place_in next_at head_at len_at index_entry_ok index_ok value_ok values_ok accepts place_from index_place plan_at with_len laid dropped stored after_write builder last_key entry_fits value_size flagged push_plan with_entry attribute_of with_length access_as fields_ok range_ok entry_ok end_after entries_ok list_ok same_id is_empty is_bad matches wanted seated_at connecting clients_of fresh_table space_of entries_size laid_out slot_ok slots_ok valid record_ok valid_with write_rule is_due length_put shared_list shared_store own_tables put_at state_after state_by is_wrong_length admission_by is_bad_buffer
tails_hold = one refl (one refl (one refl (one refl (one refl (one refl (one refl none))))))
