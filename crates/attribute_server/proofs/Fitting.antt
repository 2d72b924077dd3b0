-- Every response, value and exported table that is told has at most as many bytes as the buffer that was lent. Assumes
-- nothing.
use Rattle.std.specs.Prelude.{Option, Some, None, Ok}
use mathlib.Core.Path.{◌≡◌, refl, sym, subst}
use mathlib.Core.Bool.{Bool, true, false}
use mathlib.Core.List.{List, []}
use Prim.Native.Nat.{ℕ, ◌+◌, ◌≤◌, ◌<◌}
use native.Mathlib.Omega.{arith}
use lib.ListN.{length, get_or, length-take}
use Rattle.wire.specs.Size.{slot_count, table_bytes}
use Rattle.table_view.specs.Told.{Told}
use Rattle.attribute.specs.Record.{attribute_of}
use Rattle.attribute.specs.Lookup.{place_of}
use Rattle.peers.specs.Identity.{is_bad}
use Rattle.peers.specs.Slots.{slot_of}
use Rattle.peers.specs.declared.Identity.{Identity}
use Rattle.peers.proofs.Laws.{slot_inside}
use Rattle.state.specs.State.{State, Waiting}
use Rattle.state.specs.Valid.{valid, valid_with}
use Rattle.state.proofs.Keeping.{eight_slots}
use Rattle.model.specs.Value.{Contents, Bytes, Code, read_of}
use Rattle.model.specs.View.{own_table}
use Rattle.model.specs.Told.{front, Fits, Answered}
use Rattle.model.specs.declared.Request.{Request}
use Rattle.model.specs.declared.Request.TheVariants as request
use Rattle.model.specs.declared.Change.TheVariants.{PrepareWrite}
use Rattle.model.proofs.Fitting.{told_fits}
use Rattle.model.proofs.Telling.{front_length}
use Rattle.application.specs.Calls.{got_told, fetch_told, table_told}
use Rattle.requests.specs.Fits.{RequestFits}
use Rattle.admission.specs.Admission.{admission_by, is_bad_buffer, told_if}
use Rattle.admission.proofs.Admitting.{Admitted, room_enough}
use Rattle.attribute_server.specs.Request.{Query, seen_of, process_told}
use Rattle.attribute_server.specs.Value.{get_told}
use Rattle.attribute_server.specs.Table.{fetched_told}
use Rattle.attribute_server.proofs.Admitting.{request_fits}
use Rattle.model.specs.declared.Answer.TheVariants.{Value}
use Rattle.peers.specs.declared.Seat.{Seat}

-- a refusal tells no bytes
let_in_fits : (v b p : Bool) (t : Told) (n : ℕ) → (Admitted v b p → Fits t n) → Fits (told_if (admission_by v b p) t) n
unfolding admission_by
let_in_fits true true p t n f = tt
let_in_fits true false true t n f = tt
let_in_fits true false false t n f = f (record { right = refl; buffer = refl; peer = refl })
let_in_fits false b p t n f = tt

-- `process`: the response
echo_room : (rq : Request) (n room : ℕ) → is_bad_buffer rq n room ≡ false → (h off : ℕ) → rq ≡ request.Change (PrepareWrite h off) → 5 + n ≤ room
echo_room rq n room e h off q = subst (λ (x : Request). RequestFits x n room) q (request_fits rq n room e)

pub process_fits : (s : State) (w : Waiting) (q : Query) (room : ℕ) → Fits (process_told s w q room) room
process_fits s w q room =
    let n = length q.brings in
    let_in_fits (valid_with s w.prepared) (is_bad_buffer q.request n room) (is_bad q.who) _ room
    (λ a. told_fits room (room_enough q.request n room a.buffer) (seen_of s w q) q.brings s.list s.store q.request
    (echo_room q.request n room a.buffer))

-- `get`: the value
got_fits : (room : ℕ) (c : Contents) → Fits (got_told room c) room
got_fits room (Bytes v) = omega (arith, length-take room v)
got_fits room (Code c) = tt

module _ (s : State) (who : Identity) where
  pub get_fits : (h room : ℕ) → Fits (get_told s who h room) room
  get_fits h room = let_in_fits (valid s) false (is_bad who) _ room (λ a. by (place_of s.list h))
    where
      by : (f : Option ℕ) → Fits (fetch_told s.list s.store (own_table s.row s.tables who) f room) room
      by (Some i) = got_fits room (read_of s.store (own_table s.row s.tables who) (attribute_of (get_or s.list i [])))
      by None = tt

  -- `get_client_att_table`: the table, of tables that have 640 bytes, as the lent type says
  pub fetched_fits : ((i : ℕ) → i < slot_count → length (get_or s.tables i []) ≡ table_bytes) → Fits (fetched_told s who) table_bytes
  fetched_fits sized = let_in_fits (valid s) false (is_bad who) _ table_bytes (λ a. by a.right (slot_of s.row who) refl)
    where
      by : valid s ≡ true → (f : Option Seat) → slot_of s.row who ≡ f → Fits (table_told s.tables f) table_bytes
      by v (Some k) e = omega (arith, sized k.0 (omega (arith, slot_inside s.row who k e, eight_slots s v)))
      by v None e = tt

-- a count past the buffer meets no promise
pub count_fits : (old new : List ℕ) (n : ℕ) (t : Told) → Answered old new (Ok (Value n)) t → n ≤ length old
count_fits old new n t a =
    let k : length (front n new) ≤ length old = subst (λ (x : Told). Fits x (length old)) (sym a.told) a.fits in
    omega (arith, front_length n new, k)
