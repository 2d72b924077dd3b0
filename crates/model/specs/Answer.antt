-- The answers to requests (document 01, "Handlers"; Core Vol 3 Part F 3.4). Each but that of Find By Type Value is a
-- function of the view, the request, and the buffer's length. Assumes nothing.
use Rattle.std.specs.Prelude.{ℕ, ◌+◌, ◌-◌, ◌≤◌, ◌≡◌, Bool, true, false, cond, List, [], ◌∷◌, ◌++◌, ltb, eqb, length, take, Result, Ok, Err}
use Rattle.std.proofs.lemmas.List.Edits.{sets}
use Rattle.wire.specs.Size.{value_bytes}
use Rattle.wire.specs.Test.{both}
use Rattle.wire.specs.Number.{word, word_bytes}
use Rattle.table_view.specs.Told.{Told, none, value}
use Rattle.attribute.specs.Record.{Entry}
use Rattle.attribute.specs.Lookup.{is_within, is_wanted}
use Rattle.model.specs.Value.{Contents, Bytes, Code, read_from}
use Rattle.model.specs.View.{View, Seen, Pending, if_met, read_at, write_at}
use Rattle.model.specs.Run.{run, from_first}
use Rattle.model.specs.Rows.{by_type_form, by_group_form, cut, extra_of, entries_in, row_turn, info_turn, find_turn}
use Rattle.model.specs.declared.Form.{Form}
use Rattle.model.specs.declared.Range.{Range}
use Rattle.model.specs.declared.Ask.{Ask}
use Rattle.model.specs.declared.Ask.TheVariants.{FindInformation, ReadByType, ReadByGroupType, Read, ReadBlob, ReadMultiple}
use Rattle.model.specs.declared.Request.{Request}
use Rattle.model.specs.declared.Request.TheVariants as request
use Rattle.model.specs.declared.Change.{Change}
use Rattle.model.specs.declared.Change.TheVariants.{Write, WriteCommand, PrepareWrite, ExecuteWrite}
use Rattle.attribute.specs.Needs.{Access}
use Rattle.wire.specs.Att.{code_of}
use Rattle.wire.specs.declared.att.AttError.{AttError}
use Rattle.wire.specs.declared.att.AttError.TheVariants.{InvalidHandle, InvalidPdu, InvalidOffset, PrepareQueueFull, AttributeNotFound}

-- an ATT error: 0x01, the request's opcode, the handle, the code
unfoldable pub error_bytes : ℕ → ℕ → ℕ → List ℕ
error_bytes op h code = 0x01 ∷ op ∷ word_bytes h ++ (code ∷ [])

-- the same for an error by its name
abbrev pub error_rsp : ℕ → ℕ → AttError → List ℕ
error_rsp op h e = error_bytes op h (code_of e)

-- a value behind its opcode, cut to the room; or the error
unfoldable pub value_rsp : ℕ → ℕ → ℕ → ℕ → Contents → List ℕ
value_rsp rsp op h room (Bytes v) = rsp ∷ take (room - 1) v
value_rsp rsp op h room (Code c) = error_rsp op h c

-- what is done is answered by ok, what is not by the error; `code` is the code of what says why not
abbrev pub done_as : {C : Type 0} → (C → ℕ) → List ℕ → ℕ → ℕ → Result (Unit {0}) C → List ℕ
done_as code ok op h a = if_met a ok (λ c. error_bytes op h (code c))

abbrev pub done_rsp : List ℕ → ℕ → ℕ → Access → List ℕ
done_rsp ok op h a = if_met a ok (error_rsp op h)

-- a range from 0 or backwards is answered under opcode 0x08 by all four range handlers
unfoldable pub is_bad_range : Range → Bool
is_bad_range g = cond (eqb g.start 0) true (ltb g.end g.start)

abbrev pub in_range : Range → List ℕ → List ℕ
in_range g rsp = cond (is_bad_range g) (error_rsp 0x08 g.start InvalidHandle) rsp

-- the two reads by type, from the first wanted entry on: its value fixes the length, its code is the answer
unfoldable pub first_rsp : Form → (Entry → Bool) → ℕ → Seen → List Seen → Contents → List ℕ
first_rsp f want room s l (Bytes v) =
    f.rsp ∷ (length (cut f room v) + extra_of f) ∷ run (row_turn f want (length (cut f room v))) (s ∷ l) room
first_rsp f want room s l (Code c) = error_rsp f.op s.entry.handle c

unfoldable pub list_from : Form → (Entry → Bool) → ℕ → ℕ → List Seen → List ℕ
list_from f want start room [] = error_rsp f.op start AttributeNotFound
list_from f want start room (s ∷ l) = first_rsp f want room s l s.read

abbrev pub list_rsp : Form → Range → List ℕ → ℕ → List Seen → List ℕ
list_rsp f g uuid room l =
    let want = is_wanted g.start g.end uuid in
    in_range g (list_from f want g.start (room - 2) (from_first (λ (s : Seen). want s.entry) l))

-- Find Information: format 1 for UUIDs of 2 bytes, else 2, as the first entry's
unfoldable pub info_from : (Entry → Bool) → ℕ → ℕ → List Entry → List ℕ
info_from want start room [] = error_rsp 0x04 start AttributeNotFound
info_from want start room (e ∷ es) =
    0x05 ∷ cond (eqb (length e.uuid) 2) 1 2 ∷ run (info_turn want (length e.uuid)) (e ∷ es) room

abbrev pub info_rsp : Range → ℕ → List Entry → List ℕ
info_rsp g room es =
    let want = is_within g.start g.end in
    in_range g (info_from want g.start (room - 2) (from_first want es))

-- Find By Type Value
unfoldable pub found_rsp : ℕ → List ℕ → List ℕ
found_rsp start [] = error_rsp 0x06 start AttributeNotFound
found_rsp start (b ∷ bs) = 0x07 ∷ b ∷ bs

abbrev pub find_rsp : Range → ℕ → List ℕ → ℕ → List (List ℕ) → List ℕ → List ℕ
find_rsp g uuid d room list store =
    in_range g (found_rsp g.start (run (find_turn store (is_wanted g.start g.end (word_bytes uuid)) d) list (room - 1)))

-- Read Multiple is not served: 0x0A at the first handle; without one, 0x04
unfoldable pub multiple_rsp : List ℕ → List ℕ
multiple_rsp hs = cond (ltb (length hs) 2) (error_rsp 0x0E 0 InvalidPdu) (error_rsp 0x0E (word hs 0) AttributeNotFound)

unfoldable pub ask_rsp : List Seen → ℕ → Ask → List ℕ → List ℕ
ask_rsp l room (FindInformation g) d = info_rsp g room (entries_in l)
ask_rsp l room (ReadByType g) d = list_rsp by_type_form g d room l
ask_rsp l room (ReadByGroupType g) d = list_rsp by_group_form g d room l
ask_rsp l room (Read h) d = value_rsp 0x0B 0x0A h room (read_at h l)
ask_rsp l room (ReadBlob h off) d = value_rsp 0x0D 0x0C h room (read_from off (read_at h l))
ask_rsp l room ReadMultiple d = multiple_rsp d

-- Prepare Write of n bytes, after len bytes for another handle and offset: handle 0; another handle than the pending
-- one; not where the pending bytes end; over 512 bytes. A link without a prepared write takes any handle and offset
unfoldable pub size_rule : ℕ → ℕ → Access
size_rule len n = cond (ltb value_bytes (len + n)) (Err PrepareQueueFull) (Ok tt)

unfoldable pub prepare_rule : ℕ → ℕ → ℕ → ℕ → ℕ → ℕ → Access
prepare_rule handle offset len h off n =
    cond (eqb h 0) (Err InvalidHandle)
    (cond (eqb handle 0) (size_rule len n)
    (cond (eqb handle h) (cond (eqb off (offset + len)) (size_rule len n) (Err InvalidOffset)) (Err PrepareQueueFull)))

abbrev pub prepare_access : Pending → ℕ → ℕ → ℕ → Access
prepare_access w h off n = prepare_rule w.handle w.offset (length w.bytes) h off n

-- Execute Write: flags 1 writes what is pending
unfoldable pub is_due : Pending → ℕ → Bool
is_due w flags = both (eqb flags 1) (cond (eqb w.handle 0) false true)

unfoldable pub execute_access : View → ℕ → Access
execute_access v flags =
    let w = v.pending in
    cond (is_due w flags) (write_at w.handle w.offset (length w.bytes) v.attrs) (Ok tt)

-- Prepare Write is answered by what it brought
abbrev pub echo_rsp : ℕ → ℕ → List ℕ → List ℕ
echo_rsp h off d = (0x17 ∷ word_bytes h) ++ (word_bytes off ++ d)

unfoldable pub change_told : View → Change → List ℕ → Told
change_told v (Write h) d = value (done_rsp (0x13 ∷ []) 0x12 h (write_at h 0 (length d) v.attrs))
change_told v (WriteCommand h) d = none
change_told v (PrepareWrite h off) d =
    value (done_rsp (echo_rsp h off d) 0x16 h (prepare_access v.pending h off (length d)))
change_told v (ExecuteWrite flags) d = value (done_rsp (0x19 ∷ []) 0x18 0 (execute_access v flags))

-- any request, with the bytes that it brings: an exchange of MTUs and a confirmation are never answered
unfoldable pub request_told : View → List (List ℕ) → List ℕ → ℕ → Request → List ℕ → Told
request_told v list store room (request.Ask a) d = value (ask_rsp v.attrs room a d)
request_told v list store room (request.FindByTypeValue g uuid) d = value (find_rsp g uuid d room list store)
request_told v list store room (request.Change c) d = change_told v c d
request_told v list store room (request.ExchangeMtu mtu) d = none
request_told v list store room request.Confirmation d = none

-- what a handler that always answers promises of the buffer: it reports the response's length, which the buffer has,
-- and the response stands there
pub record Sent (old new : List ℕ) (n : ℕ) (rsp : List ℕ) : Type 0 where
  pub size : n ≡ length rsp
  pub fits : length rsp ≤ length old
  pub bytes : new ≡ sets old 0 rsp
