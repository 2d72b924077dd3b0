-- The two hubs of specs/Witness.antt: their parts compute. Assumes nothing.
use mathlib.Core.Path.{◌≡◌, refl, sym, ap, ◌∙◌}
use mathlib.Core.Bool.{true, false, true≢false}
use mathlib.Core.List.{List, [], ◌∷◌}
use Prim.Native.Nat.{ℕ, zero, suc, ◌≤◌, ◌<◌}
use native.Mathlib.Omega.{arith}
use lib.ListN.{length, get_or, get_or-replicate}
use Rattle.wire.specs.Size.{record_bytes, slot_count, table_bytes}
use Rattle.wire.specs.Test.{both}
use Rattle.wire.specs.First.{first}
use Rattle.wire.specs.Run.{after_all}
use Rattle.wire.specs.Bytes.{zeros, alike}
use Rattle.wire.specs.Number.{word}
use Rattle.wire.specs.Walk.{place_in}
use Rattle.table_view.specs.Layout.{next_at, head_at, len_at, value_at}
use Rattle.table_view.specs.Rules.{index_entry_ok, index_ok, value_ok, values_ok, accepts}
use Rattle.table_view.specs.Lookup.{place_from, index_place}
use Rattle.table_view.specs.View.{view, item_at, items_from}
use Rattle.table_view.specs.Told.{Told, done, none, value, refused, att}
use Rattle.client_att_table.specs.Write.{plan_at, with_len, laid, dropped, stored, after_write}
use Rattle.table_builder.specs.Push.{builder, last_key, entry_fits, value_size, flagged, push_plan, with_entry}
use Rattle.attribute.specs.Record.{attribute_of, uuid_of, with_length, entry_of}
use Rattle.attribute.specs.Rules.{fields_ok, range_ok, entry_ok, end_after, entries_ok, list_ok}
use Rattle.attribute.specs.Needs.{access_as}
use Rattle.peers.specs.Identity.{same_id, is_empty, is_bad}
use Rattle.peers.specs.Slots.{matches, wanted, seated_at, connecting, no_slot}
use Rattle.state.specs.Fresh.{clients_of, fresh_table, space_of, entries_size}
use Rattle.state.specs.Valid.{laid_out, slot_ok, slots_ok, valid, record_ok, valid_with}
use Rattle.model.specs.Value.{shared_item, at_value, read_of, write_rule, write_of}
use Rattle.model.specs.View.{seen_by, table_at, read_at, write_at}
use Rattle.model.specs.Answer.{error_bytes, value_rsp, ask_rsp, size_rule, prepare_rule, is_due, execute_access, change_told, request_told}
use Rattle.model.specs.Change.{length_put, shared_list, shared_store, own_tables, put_at, state_after, state_by, longer, record_after, data_after, record_by, data_by}
use Rattle.admission.specs.Admission.{admission_by, is_bad_buffer}
use Rattle.secrecy.specs.Hub.{Hub, told_by, step_by}
use Rattle.secrecy.specs.Valid.{Valid}
use Rattle.secrecy.specs.Agree.{known_of, holder_of, attribute_at, Agree}
use Rattle.secrecy.specs.Secret.{is_compared, is_request, ever_reaches, heard}
use Rattle.secrecy.specs.Witness.{record_with, list_with, store_with, table_with, ada, state_with, hub_with, calls, answers, open_places, all_differ, Witnessed}
use Rattle.secrecy.proofs.Secret.{secrecy}

-- valid, under each need
right : (x need : ℕ) → x ≤ 1 → need ≤ 3 → valid (state_with need x) ≡ true
unfolding both after_all zeros alike word next_at head_at len_at index_entry_ok index_ok value_ok values_ok accepts builder last_key entry_fits value_size flagged push_plan with_entry attribute_of fields_ok range_ok entry_ok end_after entries_ok list_ok is_empty clients_of fresh_table space_of entries_size laid_out slot_ok slots_ok valid record_with list_with store_with table_with state_with
right zero zero k l = refl
right zero (suc zero) k l = refl
right zero (suc (suc zero)) k l = refl
right zero (suc (suc (suc zero))) k l = refl
right zero (suc (suc (suc (suc need)))) k l = absurd (omega arith)
right (suc zero) zero k l = refl
right (suc zero) (suc zero) k l = refl
right (suc zero) (suc (suc zero)) k l = refl
right (suc zero) (suc (suc (suc zero))) k l = refl
right (suc zero) (suc (suc (suc (suc need)))) k l = absurd (omega arith)
right (suc (suc x)) need k l = absurd (omega arith)

module _ (need x : ℕ) where
  records : (i : ℕ) → i < length (state_with need x).list → length (get_or (state_with need x).list i []) ≡ record_bytes
  unfolding state_with list_with record_with
  records zero l = refl
  records (suc zero) l = refl
  records (suc (suc zero)) l = refl
  records (suc (suc (suc i))) l = absurd (omega arith)

  tables : (i : ℕ) → i < slot_count → length (get_or (state_with need x).tables i []) ≡ table_bytes
  unfolding state_with table_with
  tables zero l = refl
  tables (suc zero) l = refl
  tables (suc (suc i)) l = ap length (get_or-replicate 6 i (table_with 0 0) [] (omega arith))

  hub_valid : need ≤ 3 → x ≤ 1 → Valid (hub_with need x)
  unfolding hub_with record_ok both
  hub_valid l k =
      record {
        state = right x need k l;
        sized = record { records = records; tables = tables };
        waiting = λ i. refl;
        bytes = λ i. refl;
      }

-- agreed
agreed : Agree ada (ever_reaches ada calls) (hub_with 3 0) (hub_with 3 1)
unfolding hub_with state_with list_with store_with record_with known_of holder_of entry_of attribute_of uuid_of word ever_reaches calls is_request access_as same_id both alike matches shared_item table_with items_from item_at next_at head_at len_at value_at
agreed = record { state = record { list = refl; row = refl; shared = shared; kept = kept }; pending = λ i. refl }
  where
    shared : (i : ℕ) → i < 3 → (attribute_at (state_with 3 0) i).client ≡ false → ever_reaches ada calls (attribute_at (state_with 3 0) i).reads ≡ true
        → shared_item (state_with 3 0).store (attribute_at (state_with 3 0) i) ≡ shared_item (state_with 3 1).store (attribute_at (state_with 3 1) i)
    shared zero l c m = refl
    shared (suc zero) l c m = absurd (true≢false (sym m))
    shared (suc (suc zero)) l c m = absurd (true≢false c)
    shared (suc (suc (suc i))) l c m = absurd (omega arith)

    kept : (i : ℕ) → matches ada (get_or (state_with 3 0).row i no_slot) ≡ true → view (get_or (state_with 3 0).tables i []) ≡ view (get_or (state_with 3 1).tables i [])
    kept zero m = refl
    kept (suc zero) m = absurd (true≢false (sym m))
    kept (suc (suc i)) m = refl

-- all open places differ
differ : all_differ (open_places (hub_with 3 0)) (open_places (hub_with 3 1)) ≡ true
unfolding all_differ open_places hub_with state_with list_with store_with record_with table_with attribute_of word both
differ = refl

not_one : hub_with 3 0 ≡ hub_with 3 1 → ⊥
unfolding hub_with
not_one e =
    let z : ◌≡◌ {A = ℕ} 0 1 = ap (λ (h : Hub). (h.waiting 0).prepared.offset) e in
    absurd (omega arith)

-- without the need, Ada's first answer shows the hidden value, of which this is the last byte
last_byte : List Told → ℕ
last_byte [] = 0
last_byte (value v ∷ l) = get_or v 4 0
last_byte (done ∷ l) = 0
last_byte (none ∷ l) = 0
last_byte (refused n ∷ l) = 0
last_byte (att c ∷ l) = 0

-- what she hears computes
hears : (heard ada (hub_with 3 0) calls ≡ answers) × (last_byte (heard ada (hub_with 1 0) calls) ≡ 0x30) × (last_byte (heard ada (hub_with 1 1) calls) ≡ 0x31)
unfolding answers last_byte heard told_by step_by state_by state_after put_at own_tables record_by record_after data_by data_after longer prepare_rule size_rule is_due execute_access change_told error_bytes write_at write_of write_rule after_write plan_at stored dropped laid with_len place_from index_place place_in wanted seated_at matches table_at items_from item_at value_at length_put shared_list shared_store with_length uuid_of connecting calls is_request is_compared same_id is_bad is_empty zeros alike both hub_with state_with list_with store_with record_with table_with admission_by is_bad_buffer valid_with record_ok valid after_all word next_at head_at len_at index_entry_ok index_ok value_ok values_ok accepts builder last_key entry_fits value_size flagged push_plan with_entry attribute_of fields_ok range_ok entry_ok end_after entries_ok list_ok clients_of fresh_table space_of entries_size laid_out slot_ok slots_ok request_told ask_rsp value_rsp read_at first seen_by entry_of access_as read_of at_value shared_item
hears = (refl, refl, refl)

not_same : heard ada (hub_with 1 0) calls ≡ heard ada (hub_with 1 1) calls → ⊥
not_same e =
    let z : ◌≡◌ {A = ℕ} 0x30 0x31 = sym hears.1 ∙ ap last_byte e ∙ hears.2 in
    absurd (omega arith)

pub witnessed : Witnessed
witnessed =
    record {
      valid = λ need l. (hub_valid need 0 l (omega arith), hub_valid need 1 l (omega arith));
      agree = agreed;
      same = secrecy ada calls (hub_with 3 0) (hub_with 3 1) (hub_valid 3 0 (omega arith) (omega arith)) (hub_valid 3 1 (omega arith) (omega arith)) agreed;
      hears = hears.0;
      apart = differ;
      other = not_one;
      shown = not_same;
    }
