-- No answer is longer than the buffer that it is for: the definitions of the responses keep to their room, whatever the
-- view holds, so that every length that is told was written. Assumes nothing.
use Rattle.std.specs.Prelude.{Ok, Err}
use mathlib.Core.Path.{◌≡◌, refl, ap}
use mathlib.Core.Bool.{Bool, true, false, cond}
use mathlib.Core.List.{List, [], ◌∷◌, ◌++◌}
use Prim.Native.Nat.{ℕ, ◌+◌, ◌-◌, ◌≤◌}
use native.Mathlib.Omega.{arith}
use lib.Dec.{ltb, leb, eqb}
use lib.ListN.{length, length-append, length-take}
use borrow.Author.Tests.{eqb-true, leb-true, ltb-false}
use Rattle.wire.proofs.Tests.{both_l, both_r}
use Rattle.wire.specs.Test.{both}
use Rattle.wire.specs.Number.{word, word_bytes}
use Rattle.attribute.specs.Record.{Entry, entry_of}
use Rattle.attribute.specs.Lookup.{is_wanted, entries_of}
use Rattle.model.specs.Value.{Contents, Bytes, Code, read_from}
use Rattle.model.specs.View.{View, Seen, read_at, write_at}
use Rattle.model.specs.Run.{Chunk, stop, skip, emit, run}
use Rattle.model.specs.Rows.{by_type_form, by_group_form, pair_of, lead, extra_of, cut, entries_in, value_turn, row_turn, info_turn, holds, find_turn}
use Rattle.model.specs.Answer.{error_bytes, error_rsp, value_rsp, done_rsp, in_range, is_bad_range, first_rsp, list_from, info_from, found_rsp, multiple_rsp, ask_rsp, prepare_access, execute_access, echo_rsp, change_told, request_told, find_rsp}
use Rattle.model.specs.Told.{Fits}
use Rattle.model.specs.declared.Form.{Form}
use Rattle.model.specs.declared.Range.{Range}
use Rattle.model.specs.declared.Ask.{Ask}
use Rattle.model.specs.declared.Ask.TheVariants.{FindInformation, ReadByType, ReadByGroupType, Read, ReadBlob, ReadMultiple}
use Rattle.model.specs.declared.Change.{Change}
use Rattle.model.specs.declared.Change.TheVariants.{Write, WriteCommand, PrepareWrite, ExecuteWrite}
use Rattle.model.specs.declared.Request.{Request}
use Rattle.model.specs.declared.Request.TheVariants as request
use Rattle.attribute.specs.Needs.{Access}
use Rattle.wire.specs.declared.att.AttError.{AttError}
use Rattle.wire.specs.declared.att.AttError.TheVariants.{InvalidHandle, InvalidPdu, AttributeNotFound}

-- by a test, each side with what the test says
by_test : {A : Type 0} (P : A → Type 0) (t : Bool) (x y : A) → (t ≡ true → P x) → (t ≡ false → P y) → P (cond t x y)
by_test P true x y p q = p refl
by_test P false x y p q = q refl

-- a list answer: rows that keep to the room that is left make a run that keeps to its room
abbrev Keeps : ℕ → Chunk → Type 0
Keeps room k = length k.bytes ≤ room

run_fits : {A : Type 0} (turn : A → List A → ℕ → Chunk) → ((x : A) (xs : List A) (room : ℕ) → Keeps room (turn x xs room)) → (l : List A) (room : ℕ) → length (run turn l room) ≤ room
unfolding run
run_fits turn keeps [] room = omega arith
run_fits turn keeps (x ∷ xs) room =
    let k = turn x xs room in
    let rest = run_fits turn keeps xs (room - length k.bytes) in
    let more = by_test (λ (r : List ℕ). length r ≤ room - length k.bytes) k.more (run turn xs (room - length k.bytes)) [] (λ t. rest) (λ t. omega arith) in
    omega (arith, length-append k.bytes (cond k.more (run turn xs (room - length k.bytes)) []), more, keeps x xs room)

-- the rows
pub lead_length : (f : Form) (e : Entry) (es : List Entry) → length (lead f e es) ≡ extra_of f
unfolding lead extra_of
lead_length f e es = by f.group
  where
    by : (g : Bool) → length (cond g (pair_of e es) (word_bytes e.handle)) ≡ cond g 4 2
    by true = refl
    by false = refl

module _ (f : Form) (want : Entry → Bool) (n : ℕ) where
  value_keeps : (e : Entry) (es : List Entry) (room : ℕ) → n + extra_of f ≤ room → (c : Contents) → Keeps room (value_turn f n e es room c)
  unfolding value_turn
  value_keeps e es room h (Bytes v) =
      by_test (Keeps room) (eqb (length (cut f room v)) n) (emit (lead f e es ++ cut f room v)) stop
      (λ t. omega (arith, length-append (lead f e es) (cut f room v), lead_length f e es, eqb-true (length (cut f room v)) n t)) (λ t. omega arith)
  value_keeps e es room h (Code c) = omega arith

  row_keeps : (s : Seen) (l : List Seen) (room : ℕ) → Keeps room (row_turn f want n s l room)
  unfolding row_turn
  row_keeps s l room =
      let x = value_turn f n s.entry (entries_in l) room s.read in
      by_test (Keeps room) (want s.entry) (cond (ltb room (n + extra_of f)) stop x) skip
      (λ t. by_test (Keeps room) (ltb room (n + extra_of f)) stop x (λ u. omega arith)
      (λ u. value_keeps s.entry (entries_in l) room (ltb-false _ _ u) s.read))
      (λ t. omega arith)

info_keeps : (want : Entry → Bool) (n : ℕ) (e : Entry) (es : List Entry) (room : ℕ) → Keeps room (info_turn want n e es room)
unfolding info_turn
info_keeps want n e es room =
    let x = emit (word_bytes e.handle ++ e.uuid) in
    let u = both (eqb (length e.uuid) n) (leb (n + 2) room) in
    by_test (Keeps room) (want e) (cond u x stop) skip
    (λ t. by_test (Keeps room) u x stop
    (λ b. omega (arith, eqb-true (length e.uuid) n (both_l _ _ b), leb-true (n + 2) room (both_r _ _ b))) (λ b. omega arith))
    (λ t. omega arith)

find_keeps : (store : List ℕ) (want : Entry → Bool) (d r : List ℕ) (rs : List (List ℕ)) (room : ℕ) → Keeps room (find_turn store want d r rs room)
unfolding find_turn
find_keeps store want d r rs room =
    let x = emit (pair_of (entry_of r) (entries_of rs)) in
    by_test (Keeps room) (both (want (entry_of r)) (holds store d r)) (cond (ltb room 4) stop x) skip
    (λ t. by_test (Keeps room) (ltb room 4) stop x (λ u. omega arith) (λ u. omega (arith, ltb-false room 4 u))) (λ t. omega arith)

-- the responses, in a buffer that is let in
module _ (room : ℕ) (big : 23 ≤ room) where
  abbrev Within : List ℕ → Type 0
  Within rsp = length rsp ≤ room

  error_fits : (op h : ℕ) (e : AttError) → Within (error_rsp op h e)
  unfolding error_bytes
  error_fits op h e = omega arith

  value_fits : (rsp op h : ℕ) (c : Contents) → Within (value_rsp rsp op h room c)
  unfolding value_rsp
  value_fits rsp op h (Bytes v) = omega (arith, length-take (room - 1) v)
  value_fits rsp op h (Code c) = error_fits op h c

  done_fits : (ok : List ℕ) (op h : ℕ) (a : Access) → Within ok → Within (done_rsp ok op h a)
  done_fits ok op h (Ok tt) l = l
  done_fits ok op h (Err c) l = error_fits op h c

  range_fits : (g : Range) (rsp : List ℕ) → Within rsp → Within (in_range g rsp)
  range_fits g rsp l = by_test Within (is_bad_range g) (error_rsp 0x08 g.start InvalidHandle) rsp (λ t. error_fits 0x08 g.start InvalidHandle) (λ t. l)

  module _ (f : Form) (want : Entry → Bool) where
    first_fits : (s : Seen) (l : List Seen) (c : Contents) → Within (first_rsp f want (room - 2) s l c)
    unfolding first_rsp
    first_fits s l (Bytes v) =
        let n = length (cut f (room - 2) v) in
        omega (arith, run_fits (row_turn f want n) (row_keeps f want n) (s ∷ l) (room - 2))
    first_fits s l (Code c) = error_fits f.op s.entry.handle c

    list_fits : (start : ℕ) (l : List Seen) → Within (list_from f want start (room - 2) l)
    unfolding list_from
    list_fits start [] = error_fits f.op start AttributeNotFound
    list_fits start (s ∷ l) = first_fits s l s.read

  info_fits : (want : Entry → Bool) (start : ℕ) (es : List Entry) → Within (info_from want start (room - 2) es)
  unfolding info_from
  info_fits want start [] = error_fits 0x04 start AttributeNotFound
  info_fits want start (e ∷ es) =
      let n = length e.uuid in
      omega (arith, run_fits (info_turn want n) (info_keeps want n) (e ∷ es) (room - 2))

  found_fits : (start : ℕ) (rows : List ℕ) → length rows ≤ room - 1 → Within (found_rsp start rows)
  unfolding found_rsp
  found_fits start [] l = error_fits 0x06 start AttributeNotFound
  found_fits start (b ∷ bs) l = omega arith

  multiple_fits : (hs : List ℕ) → Within (multiple_rsp hs)
  unfolding multiple_rsp
  multiple_fits hs = by_test Within (ltb (length hs) 2) _ _ (λ t. error_fits 0x0E 0 InvalidPdu) (λ t. error_fits 0x0E (word hs 0) AttributeNotFound)

  ask_fits : (l : List Seen) (a : Ask) (d : List ℕ) → length (ask_rsp l room a d) ≤ room
  unfolding ask_rsp
  ask_fits l (FindInformation g) d = range_fits g _ (info_fits _ g.start _)
  ask_fits l (ReadByType g) d = range_fits g _ (list_fits by_type_form _ g.start _)
  ask_fits l (ReadByGroupType g) d = range_fits g _ (list_fits by_group_form _ g.start _)
  ask_fits l (Read h) d = value_fits 0x0B 0x0A h (read_at h l)
  ask_fits l (ReadBlob h off) d = value_fits 0x0D 0x0C h (read_from off (read_at h l))
  ask_fits l ReadMultiple d = multiple_fits d

  find_fits : (g : Range) (uuid : ℕ) (d : List ℕ) (list : List (List ℕ)) (store : List ℕ) → length (find_rsp g uuid d room list store) ≤ room
  find_fits g uuid d list store =
      let turn = find_turn store (is_wanted g.start g.end (word_bytes uuid)) d in
      range_fits g _ (found_fits g.start (run turn list (room - 1)) (run_fits turn (find_keeps store _ d) list (room - 1)))

  -- a change, where its answer can repeat what a Prepare Write brings
  module _ (v : View) (d : List ℕ) where
    change_fits : (c : Change) → ((h off : ℕ) → c ≡ PrepareWrite h off → 5 + length d ≤ room) → Fits (change_told v c d) room
    unfolding change_told
    change_fits (Write h) e = done_fits (0x13 ∷ []) 0x12 h (write_at h 0 (length d) v.attrs) (omega arith)
    change_fits (WriteCommand h) e = tt
    change_fits (PrepareWrite h off) e = done_fits (echo_rsp h off d) 0x16 h (prepare_access v.pending h off (length d)) (omega (arith, e h off refl))
    change_fits (ExecuteWrite flags) e = done_fits (0x19 ∷ []) 0x18 0 (execute_access v flags) (omega arith)

    pub told_fits : (list : List (List ℕ)) (store : List ℕ) (rq : Request) → ((h off : ℕ) → rq ≡ request.Change (PrepareWrite h off) → 5 + length d ≤ room) → Fits (request_told v list store room rq d) room
    unfolding request_told
    told_fits list store (request.Ask a) e = ask_fits v.attrs a d
    told_fits list store (request.FindByTypeValue g uuid) e = find_fits g uuid d list store
    told_fits list store (request.Change c) e = change_fits c (λ h off q. e h off (ap request.Change q))
    told_fits list store (request.ExchangeMtu mtu) e = tt
    told_fits list store request.Confirmation e = tt
