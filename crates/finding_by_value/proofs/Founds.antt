-- Find By Type Value: the test of a value, the ways of a row, and the whole answer by whether a row was written.
-- Assumes nothing.
use mathlib.Core.Path.{◌≡◌, refl, sym, ap, ◌∙◌}
use mathlib.Core.Bool.{Bool, true, false}
use mathlib.Core.List.{List, [], ◌∷◌, ◌++◌}
use Prim.Native.Nat.{ℕ, ◌+◌, ◌-◌, ◌/◌, ◌%◌, ◌≤◌, ◌<◌}
use native.Mathlib.Omega.{arith}
use lib.ListN.{length, get_or, set, take, drop, length-set}
use lib.Seq.{set-set}
use borrow.Author.Tests.{lt-ltb, le-ltb}
use Rattle.wire.specs.Test.{both}
use Rattle.wire.specs.Bytes.{alike}
use Rattle.wire.specs.Number.{word_bytes}
use Rattle.wire.specs.declared.att.AttError.TheVariants.{AttributeNotFound}
use Rattle.wire.specs.Cursor.{put, moved, Wrote}
use Rattle.wire.specs.declared.cursor.WriteCursor.{WriteCursor}
use Rattle.wire.proofs.Tests.{both_false_l}
use Rattle.wire.proofs.Written.{wrote_as, wrote_then, wrote_length}
use Rattle.attribute.specs.Record.{Entry, entry_of, attribute_of}
use Rattle.attribute.specs.Lookup.{handle_of, entries_of, group_end, is_wanted}
use Rattle.attribute_walk.specs.Walk.{Parts, is_of_type}
use Rattle.attribute.specs.Rules.{list_ok}
use Rattle.attribute.specs.declared.Attribute.{Attribute}
use Rattle.attribute_walk.specs.declared.Stretch.{Stretch}
use Rattle.attribute.proofs.Shape.{shared}
use Rattle.attribute_walk.proofs.Walks.{unwanted_before, picks_type}
use Rattle.model.specs.Value.{shared_item}
use Rattle.model.specs.Run.{stop, skip, emit, Rowed, Listed, run}
use Rattle.model.specs.Rows.{holds, find_turn}
use Rattle.model.specs.Answer.{Sent, error_bytes, error_rsp, found_rsp}
use Rattle.model.proofs.Running.{run_from}
use Rattle.model.proofs.Sending.{sent, sent_as}
use Rattle.model.proofs.Writes.{row}
use Rattle.response.proofs.Errors.{one_byte}
use Rattle.finding_by_value.specs.Turns.{found_at}

-- the test of a value
module _ (store d r : List ℕ) (a : Attribute) (e : a ≡ attribute_of r) where
  pub client_holds : a.client ≡ true → false ≡ holds store d r
  unfolding holds
  client_holds h = rw (← e, h)

  pub shared_holds : a.client ≡ false → alike (take ((a.start + a.len) - a.start) (drop a.start store)) d ≡ holds store d r
  unfolding holds shared_item
  shared_holds h =
      let n : (a.start + a.len) - a.start ≡ a.len = omega arith in
      rw (← e, h, n)

-- and where a shared one lies
pub in_store : (list : List (List ℕ)) (store : List ℕ) (i : ℕ) (a : Attribute) → list_ok list (length store) ≡ true → i < length list → a ≡ attribute_of (get_or list i []) → a.client ≡ false → a.start + a.len ≤ length store
in_store list store i a ok l e h =
    let s = shared list (length store) ok i l (rw e at h) in
    rw e (omega (arith, s.inside, s.len))

-- a short type's two bytes, as `to_le_bytes` gives them
pub type_bytes : (n : ℕ) (t : List ℕ) → n < 65536 → t ≡ n % 256 ∷ n / 256 % 256 ∷ [] → t ≡ word_bytes n
type_bytes n t l e =
    let h : n / 256 % 256 ≡ n / 256 = omega arith in
    e ∙ rw h

-- the ways of a row
module _ (r : List ℕ) (rs : List (List ℕ)) (room : ℕ) where
  pub found_full : room < 4 → stop ≡ found_at r rs room
  unfolding found_at
  found_full l = rw (lt-ltb _ _ l)

  found_put : 4 ≤ room → (h e : ℕ) → h ≡ handle_of r → e ≡ group_end (handle_of r) (entries_of rs) → emit (word_bytes h ++ word_bytes e) ≡ found_at r rs room
  unfolding found_at entry_of attribute_of
  found_put l h e p q = rw (le-ltb _ _ l, ← q, ← p)

-- handle and group's end are written
module _ (r : List ℕ) (rs : List (List ℕ)) (out o₁ o₂ : List ℕ) (c c₁ c₂ : WriteCursor) (room : ℕ) where
  pub found_wrote : c.len ≤ length out → room ≡ length out - c.len → 4 ≤ room
      → (h e : ℕ) → h ≡ handle_of r → e ≡ group_end (handle_of r) (entries_of rs)
      → c₁ ≡ moved (length out) c 2 → o₁ ≡ put out c.len (word_bytes h) → c₂ ≡ moved (length o₁) c₁ 2 → o₂ ≡ put o₁ c₁.len (word_bytes e)
      → Rowed out o₂ c c₂ (found_at r rs (length out - c.len))
  found_wrote z m l h e p q a b f g =
      row out o₁ o₂ c c₁ c₂ (word_bytes h) (word_bytes e) (omega arith) (omega arith) a b f g _ (found_put r rs (length out - c.len) (omega arith) h e p q)

-- a row in the run of a test t: that of an entry that it and the value's test pass, and none of another
module _ (store d : List ℕ) (want : Entry → Bool) (r : List ℕ) (rs : List (List ℕ)) (room : ℕ) where
  pub found_as : (t : Bool) → both t (holds store d r) ≡ true → want (entry_of r) ≡ t → found_at r rs room ≡ find_turn store want d r rs room
  unfolding find_turn found_at
  found_as t h w = rw (w, h)

  pub found_other : (t : Bool) → both t (holds store d r) ≡ false → want (entry_of r) ≡ t → skip ≡ find_turn store want d r rs room
  unfolding find_turn
  found_other t h w = rw (w, h)

  pub found_skip : want (entry_of r) ≡ false → skip ≡ find_turn store want d r rs room
  found_skip w = found_other false (both_false_l false (holds store d r) refl) w

-- the run over the whole list is that from the stretch on
module _ (store d u : List ℕ) (list : List (List ℕ)) (start end : ℕ) (p : Stretch) (a : Parts list start p.from) (b : Parts list (end + 1) p.to) where
  found_from : (room : ℕ) → run (find_turn store (is_wanted start end u) d) (drop p.from list) room ≡ run (find_turn store (is_wanted start end u) d) list room
  found_from room =
      let z : 0 + p.from ≡ p.from = omega arith in
      rw z at
      (sym (run_from (find_turn store (is_wanted start end u) d) [] list p.from 0 room (omega (arith, a.inside))
      (λ j x y. found_skip store d (is_wanted start end u) (get_or list j []) (drop (j + 1) list) room (unwanted_before list start end p a b u j (omega arith)))))

  -- so the rows of the stretch are those of the list
  pub found_rows : (old new : List ℕ) (c next : WriteCursor)
      → Listed (λ (want : Entry → Bool). find_turn store want d) (is_of_type u) list p old new c next
      → Wrote old new c next (run (find_turn store (is_wanted start end u) d) list (length old - c.len))
  found_rows old new c next f =
      wrote_as old c new _ _ next (f (is_wanted start end u) (picks_type list start end p a b u)) (found_from (length old - c.len))

-- the opcode before the rows
module _ (old o₁ : List ℕ) (c₀ c₁ : WriteCursor) (room : 1 ≤ length old) (z : c₀.len ≡ 0) (e : c₁ ≡ moved (length old) c₀ 1) (p : o₁ ≡ put old c₀.len (0x07 ∷ [])) where
  opcode : Wrote old o₁ c₀ c₁ (0x07 ∷ [])
  opcode = one_byte old o₁ 0x07 c₀ c₁ z room e p

  behind : c₁.len ≡ 1
  behind = ap (λ (x : WriteCursor). x.len) opcode.cursor ∙ (omega arith)

  same_size : length o₁ ≡ length old
  same_size = wrote_length old o₁ (0x07 ∷ []) c₀ c₁ opcode

  pub find_room : c₁.len ≤ length o₁
  find_room = omega (arith, behind, same_size)

-- an answer with rows, and without
some_rows : (start : ℕ) (l : List ℕ) → (length l ≡ 0 → ⊥) → 0x07 ∷ l ≡ found_rsp start l
unfolding found_rsp
some_rows start [] h = absurd (h refl)
some_rows start (b ∷ l) h = refl

no_rows : (l : List ℕ) → length l ≡ 0 → l ≡ []
no_rows [] h = refl
no_rows (b ∷ l) h = absurd (omega arith)

-- the whole answer
module _ (old o₁ o₂ : List ℕ) (c₀ c₁ c₂ : WriteCursor) (start : ℕ) (rows : ℕ → List ℕ) (room : 1 ≤ length old) (z : c₀.len ≡ 0) (e : c₁ ≡ moved (length old) c₀ 1) (p : o₁ ≡ put old c₀.len (0x07 ∷ [])) (w : Wrote o₁ o₂ c₁ c₂ (rows (length o₁ - c₁.len))) where
  first : Wrote old o₁ c₀ c₁ (0x07 ∷ [])
  first = opcode old o₁ c₀ c₁ room z e p

  same_room : length o₁ - c₁.len ≡ length old - 1
  same_room = omega (arith, behind old o₁ c₀ c₁ room z e p, same_size old o₁ c₀ c₁ room z e p)

  then : Wrote o₁ o₂ c₁ c₂ (rows (length old - 1))
  then = rw same_room at w

  size : c₂.len ≡ 1 + length (rows (length old - 1))
  size = ap (λ (x : WriteCursor). x.len) then.cursor ∙ (omega (arith, behind old o₁ c₀ c₁ room z e p))

  pub rows_sent : (c₂.len ≡ 1 → ⊥) → Sent old o₂ c₂.len (found_rsp start (rows (length old - 1)))
  rows_sent h =
      sent_as old o₂ _ _ _
      (sent old o₂ _ c₀ c₂ z (wrote_then old c₀ o₁ o₂ (0x07 ∷ []) (rows (length old - 1)) c₁ c₂ first then))
      (some_rows start (rows (length old - 1)) (λ (n : length (rows (length old - 1)) ≡ 0). h (omega (arith, size))))

  -- no row was written: the error takes the opcode's place
  pub error_sent : c₂.len ≡ 1 → (o₃ : List ℕ) (n : ℕ) → Sent o₂ o₃ n (error_rsp 0x06 start AttributeNotFound) → Sent old o₃ n (found_rsp start (rows (length old - 1)))
  unfolding found_rsp error_bytes
  error_sent h o₃ n s =
      let q : rows (length old - 1) ≡ [] = no_rows (rows (length old - 1)) (omega (arith, size)) in
      let a : o₁ ≡ set old 0 0x07 = rw z at first.bytes in
      let b : o₂ ≡ o₁ = rw q at then.bytes in
      let t : o₂ ≡ set old 0 0x07 = b ∙ a in
      rw q
      (record {
        size = s.size;
        fits = omega (arith, s.fits, ap length t, length-set old 0 0x07);
        bytes = s.bytes ∙ rw (t, set-set old 0 0x07 0x01);
      })
