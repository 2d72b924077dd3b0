-- Find Information: the ways of a row, and the whole answer by where the first entry of the range is. Assumes nothing.
use Rattle.std.specs.Prelude.{Some, None}
use mathlib.Core.Path.{◌≡◌, refl, sym, ap, ◌∙◌}
use mathlib.Core.Bool.{Bool, true, false, cond}
use mathlib.Core.List.{List, [], ◌∷◌, ◌++◌}
use Prim.Native.Nat.{ℕ, ◌+◌, ◌-◌, ◌≤◌, ◌<◌}
use native.Mathlib.Numerals.{add-one}
use native.Mathlib.Omega.{arith}
use lib.ListN.{length, get_or, drop, length-take, length-drop}
use lib.Seq.{drop-cons}
use lib.Dec.{eqb}
use borrow.Author.Tests.{le-leb, lt-leb, eq-eqb, ne_eqb}
use Rattle.wire.specs.Size.{record_bytes}
use Rattle.wire.specs.declared.att.AttError.TheVariants.{AttributeNotFound}
use Rattle.wire.specs.Test.{both}
use Rattle.wire.specs.Number.{word_bytes}
use Rattle.wire.specs.Walk.{place_from}
use Rattle.wire.specs.Cursor.{put, moved, Wrote}
use Rattle.wire.specs.declared.cursor.WriteCursor.{WriteCursor}
use Rattle.wire.proofs.Walk.{placed}
use Rattle.wire.proofs.Written.{wrote_then, wrote_length, wrote_next}
use Rattle.attribute.specs.Record.{Entry, entry_of, attribute_of, uuid_of}
use Rattle.attribute.specs.Lookup.{handle_of, entries_of, recorded}
use Rattle.model.specs.Run.{run, from_first, stop, skip, emit, Rowed}
use Rattle.model.specs.Rows.{info_turn, any_entry}
use Rattle.model.specs.Answer.{Sent, error_rsp, info_from}
use Rattle.model.proofs.Running.{run_map, from_map, starts_at, starts_nowhere}
use Rattle.model.proofs.Sending.{sent, sent_as}
use Rattle.model.proofs.Writes.{row}
use Rattle.response.proofs.Errors.{one_byte}
use Rattle.finding_information.specs.Turns.{info_at}

-- an entry's fields are its record's
module _ (r : List ℕ) where
  pub entry_uuid : (entry_of r).uuid ≡ uuid_of r
  unfolding entry_of
  entry_uuid = refl

  pub entry_handle : (entry_of r).handle ≡ handle_of r
  unfolding entry_of attribute_of
  entry_handle = refl

-- the ways of a row
module _ (size : ℕ) (r : List ℕ) (es : List Entry) (room : ℕ) where
  pub info_other : (u : List ℕ) → u ≡ uuid_of r → (length u ≡ size → ⊥) → stop ≡ info_turn any_entry size (entry_of r) es room
  unfolding info_turn both
  info_other u q n = rw (entry_uuid r, ← q, ne_eqb _ _ n)

  pub info_full : (u : List ℕ) → u ≡ uuid_of r → length u ≡ size → room < size + 2 → stop ≡ info_turn any_entry size (entry_of r) es room
  unfolding info_turn both
  info_full u q n l = rw (entry_uuid r, ← q, eq-eqb _ _ n, lt-leb _ _ l)

  info_put : (u : List ℕ) → u ≡ uuid_of r → length u ≡ size → (h : ℕ) → h ≡ handle_of r → size + 2 ≤ room → emit (word_bytes h ++ u) ≡ info_turn any_entry size (entry_of r) es room
  unfolding info_turn both
  info_put u q n h e l = rw (entry_uuid r, entry_handle r, ← q, ← e, eq-eqb _ _ n, le-leb _ _ l)

-- handle and UUID are written
module _ (size : ℕ) (r : List ℕ) (es : List Entry) (out o₁ o₂ : List ℕ) (c c₁ c₂ : WriteCursor) (room : ℕ) where
  pub info_wrote : c.len ≤ length out → room ≡ length out - c.len → (u : List ℕ) → u ≡ uuid_of r → length u ≡ size → (h : ℕ) → h ≡ handle_of r → size + 2 ≤ room
      → c₁ ≡ moved (length out) c 2 → o₁ ≡ put out c.len (word_bytes h) → c₂ ≡ moved (length o₁) c₁ (length u) → o₂ ≡ put o₁ c₁.len u
      → Rowed out o₂ c c₂ (info_turn any_entry size (entry_of r) es (length out - c.len))
  info_wrote z m u q n h e l a b f g =
      row out o₁ o₂ c c₁ c₂ (word_bytes h) u (omega arith) (omega arith) a b f g _ (info_put size r es (length out - c.len) u q n h e (omega arith))

-- a row in the run of a test: that of an entry that is wanted, and none of one that is not
module _ (size : ℕ) (want : Entry → Bool) (r : List ℕ) (es : List Entry) (room : ℕ) where
  pub info_as : want (entry_of r) ≡ true → info_turn any_entry size (entry_of r) es room ≡ info_turn want size (entry_of r) es room
  unfolding info_turn
  info_as w = rw w

  pub info_skip : want (entry_of r) ≡ false → skip ≡ info_turn want size (entry_of r) es room
  unfolding info_turn
  info_skip w = rw w

-- the whole answer
module _ (want : Entry → Bool) (list : List (List ℕ)) (start room : ℕ) where
  pub none_found : place_from (recorded want) list 0 ≡ None → error_rsp 0x04 start AttributeNotFound ≡ info_from want start room (from_first want (entries_of list))
  unfolding info_from
  none_found e = rw (from_map entry_of want list, starts_nowhere (recorded want) [] list e)

  from_entry : (r : List ℕ) (rs : List (List ℕ)) (size : ℕ) → size ≡ length (uuid_of r) → 0x05 ∷ cond (eqb size 2) 1 2 ∷ run (info_at want size) (r ∷ rs) room ≡ info_from want start room (entries_of (r ∷ rs))
  unfolding info_from
  from_entry r rs size q =
      let e : size ≡ length (entry_of r).uuid = q ∙ ap length (sym (entry_uuid r)) in
      rw e
      (ap (λ (l : List ℕ). 0x05 ∷ cond (eqb (length (entry_of r).uuid) 2) 1 2 ∷ l) (sym (run_map entry_of (info_turn want (length (entry_of r).uuid)) (r ∷ rs) room)))

  pub first_found : (i size : ℕ) → place_from (recorded want) list 0 ≡ Some i → size ≡ length (uuid_of (get_or list i []))
      → 0x05 ∷ cond (eqb size 2) 1 2 ∷ run (info_at want size) (drop i list) room ≡ info_from want start room (from_first want (entries_of list))
  first_found i size e q =
      let w = placed (recorded want) [] list 0 i e in
      rw (from_map entry_of want list, starts_at (recorded want) [] list i e, drop-cons list i [] w.inside, ← add-one i)
      (from_entry (get_or list i []) (drop (i + 1) list) size q)

-- a UUID is shorter than its record
pub uuid_short : (r u : List ℕ) → length r ≡ record_bytes → u ≡ uuid_of r → length u ≤ 32
unfolding uuid_of
uuid_short r u h q = omega (arith, ap length q, length-take (get_or r 11 0) (drop 12 r), length-drop 12 r)

-- the two bytes before the rows, and the rows behind them
module _ (old o₁ o₂ : List ℕ) (c₀ c₁ c₂ : WriteCursor) (f : ℕ) (room : 2 ≤ length old) (z : c₀.len ≡ 0) (e₁ : c₁ ≡ moved (length old) c₀ 1) (p₁ : o₁ ≡ put old c₀.len (0x05 ∷ [])) (e₂ : c₂ ≡ moved (length o₁) c₁ 1) (p₂ : o₂ ≡ put o₁ c₁.len (f ∷ [])) where
  header : Wrote old o₂ c₀ c₂ (0x05 ∷ f ∷ [])
  header = wrote_next old o₁ o₂ (0x05 ∷ []) (f ∷ []) c₀ c₁ c₂ (one_byte old o₁ 0x05 c₀ c₁ z (omega arith) e₁ p₁) (omega arith) e₂ p₂

  same_size : length o₂ ≡ length old
  same_size = wrote_length old o₂ (0x05 ∷ f ∷ []) c₀ c₂ header

  behind : c₂.len ≡ 2
  behind = ap (λ (x : WriteCursor). x.len) header.cursor ∙ (omega arith)

  pub info_room : c₂.len ≤ length o₂
  info_room = omega (arith, behind, same_size)

  pub info_sent : (o₃ rsp : List ℕ) (c₃ : WriteCursor) (rows : ℕ → List ℕ) → Wrote o₂ o₃ c₂ c₃ (rows (length o₂ - c₂.len)) → 0x05 ∷ f ∷ rows (length old - 2) ≡ rsp → Sent old o₃ c₃.len rsp
  info_sent o₃ rsp c₃ rows w h =
      let m : length o₂ - c₂.len ≡ length old - 2 = omega (arith, behind, same_size) in
      sent_as old o₃ _ rsp _ (sent old o₃ _ c₀ c₃ z (wrote_then old c₀ o₂ o₃ (0x05 ∷ f ∷ []) (rows (length o₂ - c₂.len)) c₂ c₃ header w)) (rw m h)
