-- The table of facts holds: each row computes. Assumes nothing.
use mathlib.Core.Path.{refl}
use Rattle.wire.specs.Test.{both}
use Rattle.wire.specs.First.{first}
use Rattle.wire.specs.Run.{after_all}
use Rattle.wire.specs.Bytes.{zeros, alike}
use Rattle.wire.specs.Number.{word}
use Rattle.table_view.specs.Layout.{next_at, head_at, len_at, value_at}
use Rattle.table_view.specs.Rules.{index_entry_ok, index_ok, value_ok, values_ok, accepts}
use Rattle.table_view.specs.Lookup.{place_from, index_place}
use Rattle.table_view.specs.View.{item_at, items_from}
use Rattle.table_view.specs.Read.{read_told, get_told}
use Rattle.client_att_table.specs.Write.{plan_at, with_len, laid, dropped, stored, write_told, after_write}
use Rattle.table_builder.specs.Push.{builder, last_key, entry_fits, value_size, flagged, push_plan, with_entry}
use Rattle.wire.specs.Uuid.{based, wide, same_uuid}
use Rattle.attribute.specs.Record.{attribute_of, uuid_of, entry_of}
use Rattle.attribute.specs.Lookup.{is_within, is_wanted}
use Rattle.attribute.specs.Needs.{access_as}
use Rattle.attribute.specs.Rules.{fields_ok, range_ok, entry_ok, end_after, entries_ok, list_ok}
use Rattle.peers.specs.Identity.{same_id, is_empty, is_bad}
use Rattle.peers.specs.Slots.{matches, wanted, seated_at}
use Rattle.state.specs.Fresh.{clients_of, fresh_table, space_of, entries_size}
use Rattle.state.specs.Valid.{laid_out, slot_ok, slots_ok, valid, record_ok, valid_with}
use Rattle.wire.specs.Walk.{place_in}
use Rattle.admission.specs.Admission.{admission_by, is_bad_buffer}
use Rattle.model.specs.Value.{shared_item, at_value, read_of}
use Rattle.model.specs.View.{seen_by, table_at, read_at}
use Rattle.model.specs.Run.{run, from_first}
use Rattle.model.specs.Rows.{by_type_form, lead, extra_of, cut, value_turn, row_turn}
use Rattle.model.specs.Answer.{error_bytes, value_rsp, is_bad_range, first_rsp, list_from, info_from, ask_rsp, request_told}
use Rattle.facts.specs.Facts.{none, one, FactsHold}

pub facts_hold : FactsHold
unfolding both first after_all zeros word next_at head_at len_at value_at index_entry_ok index_ok value_ok values_ok accepts place_from index_place item_at items_from read_told get_told plan_at with_len laid dropped stored write_told after_write builder last_key entry_fits value_size flagged push_plan with_entry alike based wide same_uuid attribute_of uuid_of entry_of is_within is_wanted access_as shared_item at_value read_of seen_by read_at run from_first by_type_form lead extra_of cut value_turn row_turn error_bytes value_rsp is_bad_range first_rsp list_from info_from ask_rsp request_told fields_ok range_ok entry_ok end_after entries_ok list_ok same_id is_empty is_bad matches wanted seated_at clients_of fresh_table space_of entries_size laid_out slot_ok slots_ok valid record_ok valid_with place_in admission_by is_bad_buffer table_at
facts_hold =
    one refl (one refl (one refl (one refl (one refl (one refl (one refl (one refl (one refl (one refl (one refl (one refl (one refl (one refl (one refl (one refl none)))))))))))))))
