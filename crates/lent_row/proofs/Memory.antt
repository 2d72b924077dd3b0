-- One memory: a slot that lies at a place, at any share, is eight bytes that lie there, and any eight bytes there are
-- the slot that they decode to. So of a row: whoever holds a lent row of slots holds the row of its bytes.
-- The way back takes any bytes, so a callee may have changed them (`slot_is_bytes`, `row_is_bytes`).
-- The places are the ones that Rattle's memory has: kind at 0, address from 1 on, connected at 7, and the next slot at
-- 8. Assumes `Logic`.
use mathlib.Core.Path.{◌≡◌, refl, sym, ◌∙◌, ap}
use Prim.Native.Nat.{ℕ, zero, suc, ◌+◌, ◌<◌}
use native.Mathlib.Nat.{add-zero, zero-add, suc-add}
use native.Mathlib.Omega.{arith}
use mathlib.Core.List.{[], List, ◌∷◌, ◌++◌, map, head-eq_of_cons-eq}
use lib.ListN.{length, get_or}
use seplogic.Ra.Ura.{Ura}
use mir.Syntax.{w8, ty_int, ty_array}
use base.Logic.{SProp, ent, sep, wand, all, all_e, apply∗, id⊢}
use base.Fml.{Share, Fml}
use types.Logic.{Logic, sem}
use types.Kit.{‵, raw, ◌⊛◌, ⋆, ◌$◌, ◌∵◌, !, qed, by, move, drop, use1, use2, split, rewrite, fsplit, fjoin, feq_l, feq_i, frame, each, assume, keep, done}
use types.Share.{parts, arr_parts}
use denote.RattleType.{Denots}
use denote.Memory.{part_at, part_of, mem, shares}
use denote.Index.{row}
use denote.Array.{Array, Array-Lawful}
use denote.ArrayMemory.{Array-apart, Array-whole}
use denote.Builtin.{u8}
use denote.Plain.{uint_Lawful}
use denote.Steps.{nothing}
use denote.Struct.Members.{Member, rows_of, parts_at}
use denote.Struct.Parts.{PartsBack, Struct-parts}
use Rattle.peers.specs.declared.Slot.{Slot}
use Rattle.peers.specs.declared.Identity.{Identity}
use Rattle.peers.proofs.Rows.{slot_back as decoded, one_row}
use Rattle.peers.specs.contracts.Slot as S
use Rattle.peers.specs.contracts.Identity as I
use Rattle.peers.proofs.Identity.TheLaws as I'
use Rattle.peers.specs.Bytes.{slot_in, row_of}

abbrev byte : Member
byte = record { row = u8; ty = ty_int w8 }

abbrev id_members : List Member
id_members = byte ∷ record { row = Array u8 6; ty = ty_array (ty_int w8) 6 } ∷ []

abbrev slot_members : List Member
slot_members = record { row = (I.the_field).row; ty = I'.mir } ∷ byte ∷ []

more : (xs ys : List ℕ) → length (xs ++ ys) ≡ length xs + length ys
more [] ys = sym (zero-add (length ys))
more (x ∷ xs) ys = ap suc (more xs ys) ∙ sym (suc-add (length xs) (length ys))

-- a slot's bytes as they lie
abbrev pub slot_laid : Slot → List ℕ
slot_laid s = s.id.kind ∷ s.id.addr ++ (s.connected ∷ [])

-- eight bytes are those of the slot that they are
single : (x : List ℕ) → length x ≡ 8 → (i : ℕ) → i < 1 → length (get_or (x ∷ []) i []) ≡ 8
single x h zero l = h
single x h (suc i) l = absurd (omega arith)

pub same_bytes : (e : List ℕ) → length e ≡ 8 → slot_laid (slot_in e) ≡ e
same_bytes e len =
    head-eq_of_cons-eq
    (one_row (slot_laid (slot_in e) ∷ []) (e ∷ []) (single (slot_laid (slot_in e)) refl) (single e len) (ap (λ (s : Slot). s ∷ []) (decoded (slot_in e) refl)))

module _ {M : Type 1} {𝓤 : Ura M} (𝓛 : Logic 𝓤) (q : Share) (b : ℕ) where
  abbrev ⟦◌⟧ : Fml → SProp 𝓤
  ⟦ P ⟧ = sem 𝓛 P

  slot_apart : (s : Slot) (o : ℕ) → ent 𝓤 ⟦ part_at S.the_row q s b o ⟧ (sep 𝓤 ⟦ parts_at q slot_members 0 ((S.the_type).to s) b o ⟧ (PartsBack 𝓛 q (S.the_type).name slot_members b o))
  unfolding part_of
  slot_apart s o = Struct-parts 𝓛 q (S.the_type).name slot_members ((I'.the_field_laws).lawful 𝓛, (uint_Lawful 𝓛 w8, tt)) ((S.the_type).to s) b o

  id_apart : (a : Denots (rows_of id_members)) (o : ℕ) → ent 𝓤 ⟦ part_at (I.the_field).row q a b o ⟧ (sep 𝓤 ⟦ parts_at q id_members 0 a b o ⟧ (PartsBack 𝓛 q (I.the_type).name id_members b o))
  id_apart a o = Struct-parts 𝓛 q (I.the_type).name id_members (uint_Lawful 𝓛 w8, (Array-Lawful 𝓛 u8 (uint_Lawful 𝓛 w8) 6, tt)) a b o

  -- bytes side by side, and one more after them
  abbrev run : List ℕ → ℕ → Fml
  run xs o = parts (mem u8) (shares u8) q xs b o

  snoc : (xs : List ℕ) (c o : ℕ) → ent 𝓤 (sep 𝓤 ⟦ run xs o ⟧ ⟦ part_at u8 q c b (o + length xs) ⟧) ⟦ run (xs ++ (c ∷ [])) o ⟧
  snoc [] c o = qed 𝓛 (‵ (run [] o) ∷ ‵ (part_at u8 q c b (o + 0)) ∷ []) ∵ rewrite ! 1 (λ (p : ℕ). ‵ (part_at u8 q c b p)) (add-zero o) refl $ move ! (1 ∷ 0 ∷ []) $ fjoin ! $ done !
  snoc (x ∷ xs) c o =
      let e : o + suc (length xs) ≡ (o + 1) + length xs = omega arith in
      qed 𝓛 (‵ (run (x ∷ xs) o) ∷ ‵ (part_at u8 q c b (o + suc (length xs))) ∷ []) ∵ fsplit ! $ rewrite ! 2 (λ (p : ℕ). ‵ (part_at u8 q c b p)) e refl $
      move ! (1 ∷ 2 ∷ []) $ use2 𝓛 (‵ (run (xs ++ (c ∷ [])) (o + 1))) (snoc xs c (o + 1)) $ move ! (1 ∷ 0 ∷ []) $ fjoin ! $ done !

  unsnoc : (xs : List ℕ) (c o : ℕ) → ent 𝓤 ⟦ run (xs ++ (c ∷ [])) o ⟧ (sep 𝓤 ⟦ run xs o ⟧ ⟦ part_at u8 q c b (o + length xs) ⟧)
  unsnoc [] c o = qed 𝓛 (‵ (run (c ∷ []) o) ∷ []) ∵ fsplit ! $ rewrite ! 0 (λ (p : ℕ). ‵ (part_at u8 q c b p)) (sym (add-zero o)) refl $ move ! (1 ∷ 0 ∷ []) $ done !
  unsnoc (x ∷ xs) c o =
      let e : (o + 1) + length xs ≡ o + suc (length xs) = omega arith in
      qed 𝓛 (‵ (run ((x ∷ xs) ++ (c ∷ [])) o) ∷ []) ∵ fsplit ! $ move ! (1 ∷ []) $ use1 𝓛 (‵ (run xs (o + 1)) ⊛ ‵ (part_at u8 q c b ((o + 1) + length xs))) (unsnoc xs c (o + 1)) $ split ! $
      rewrite ! 1 (λ (p : ℕ). ‵ (part_at u8 q c b p)) e refl $ move ! (2 ∷ 0 ∷ []) $ fjoin ! $ done !

  abbrev IdBack : ℕ → SProp 𝓤
  IdBack o = PartsBack 𝓛 q (I.the_type).name id_members b o

  abbrev PairBack : ℕ → SProp 𝓤
  PairBack o = PartsBack 𝓛 q (S.the_type).name slot_members b o

  slot_back : (e : List ℕ) (o : ℕ) → ent 𝓤 (⋆ 𝓛 (‵ (part_at (Array u8 8) q e b o) ∷ raw (IdBack o) ∷ raw (PairBack o) ∷ [])) ⟦ part_at S.the_row q (slot_in e) b o ⟧
  unfolding part_of
  slot_back e o =
      let who : Identity = (slot_in e).id in
      let last : (o + 1) + 6 ≡ o + 7 = omega arith in
      qed 𝓛 (‵ (part_at (Array u8 8) q e b o) ∷ raw (IdBack o) ∷ raw (PairBack o) ∷ []) ∵ use1 𝓛 (‵ ((arr_parts (shares u8) 8).part q e b o)) (Array-apart 𝓛 u8 q tt 8 e b o) $ fsplit ! $ feq_l ! (λ len.
      rewrite ! 0 (λ (xs : List ℕ). ‵ (run xs o)) (sym (same_bytes e len)) refl $ fsplit ! $ move ! (1 ∷ []) $
      use1 𝓛 (‵ (run who.addr (o + 1)) ⊛ ‵ (part_at u8 q (slot_in e).connected b ((o + 1) + 6))) (unsnoc who.addr (slot_in e).connected (o + 1)) $ split ! $
      -- [the address; connected; the kind; the two ways back]
      feq_i ! ℕ (length who.addr) 6 refl $ fjoin ! $ use1 𝓛 (‵ (part_at (Array u8 6) q who.addr b (o + 1))) (Array-whole 𝓛 u8 q 6 who.addr b (o + 1)) $ nothing ! $ move ! (1 ∷ 0 ∷ []) $ fjoin ! $
      move ! (2 ∷ 0 ∷ []) $ rewrite ! 0 (λ (p : ℕ). ‵ (part_at u8 q who.kind b p)) (sym (add-zero o)) refl $ fjoin ! $ move ! (2 ∷ []) $
      use1 𝓛 (raw (wand 𝓤 ⟦ parts_at q id_members 0 ((I.the_type).to who) b o ⟧ ⟦ part_at (I.the_field).row q ((I.the_type).to who) b o ⟧)) (all_e 𝓤 (λ (a : Denots (rows_of id_members)). wand 𝓤 ⟦ parts_at q id_members 0 a b o ⟧ ⟦ part_at (I.the_field).row q a b o ⟧) ((I.the_type).to who)) $
      move ! (1 ∷ 0 ∷ []) $ use2 𝓛 (‵ (part_at (I.the_field).row q ((I.the_type).to who) b o)) (apply∗ 𝓤 ⟦ parts_at q id_members 0 ((I.the_type).to who) b o ⟧ ⟦ part_at (I.the_field).row q ((I.the_type).to who) b o ⟧) $
      -- [the identity; connected; the slot's way back]
      rewrite ! 0 (λ (p : ℕ). ‵ (part_at (I.the_field).row q ((I.the_type).to who) b p)) (sym (add-zero o)) refl $ rewrite ! 1 (λ (p : ℕ). ‵ (part_at u8 q (slot_in e).connected b p)) last refl $
      nothing ! $ move ! (2 ∷ 0 ∷ []) $ fjoin ! $ move ! (1 ∷ 0 ∷ []) $ fjoin ! $ move ! (1 ∷ []) $
      use1 𝓛 (raw (wand 𝓤 ⟦ parts_at q slot_members 0 ((S.the_type).to (slot_in e)) b o ⟧ ⟦ part_at S.the_row q (slot_in e) b o ⟧)) (all_e 𝓤 (λ (a : Denots (rows_of slot_members)). wand 𝓤 ⟦ parts_at q slot_members 0 a b o ⟧ ⟦ part_at (S.the_field).row q a b o ⟧) ((S.the_type).to (slot_in e))) $
      move ! (1 ∷ 0 ∷ []) $ use2 𝓛 (‵ (part_at S.the_row q (slot_in e) b o)) (apply∗ 𝓤 ⟦ parts_at q slot_members 0 ((S.the_type).to (slot_in e)) b o ⟧ ⟦ part_at S.the_row q (slot_in e) b o ⟧) $ keep ! (0 ∷ []) $ done !)

  -- what takes the bytes of any slot back for the slot
  abbrev pub SlotBack : ℕ → SProp 𝓤
  SlotBack o = all 𝓤 (λ (e : List ℕ). wand 𝓤 ⟦ part_at (Array u8 8) q e b o ⟧ ⟦ part_at S.the_row q (slot_in e) b o ⟧)

  pub slot_is_bytes : (s : Slot) (o : ℕ) → ent 𝓤 ⟦ part_at S.the_row q s b o ⟧ (sep 𝓤 ⟦ part_at (Array u8 8) q (slot_laid s) b o ⟧ (SlotBack o))
  slot_is_bytes s o =
      qed 𝓛 (‵ (part_at S.the_row q s b o) ∷ []) ∵ use1 𝓛 (‵ (parts_at q slot_members 0 ((S.the_type).to s) b o) ⊛ raw (PartsBack 𝓛 q (S.the_type).name slot_members b o)) (slot_apart s o) $ split ! $ fsplit ! $
      rewrite ! 0 (λ (p : ℕ). ‵ (part_at (I.the_field).row q ((I.the_type).to s.id) b p)) (add-zero o) refl $
      use1 𝓛 (‵ (parts_at q id_members 0 ((I.the_type).to s.id) b o) ⊛ raw (PartsBack 𝓛 q (I.the_type).name id_members b o)) (id_apart ((I.the_type).to s.id) o) $ split ! $ fsplit ! $
      rewrite ! 0 (λ (p : ℕ). ‵ (part_at u8 q s.id.kind b p)) (add-zero o) refl $ move ! (1 ∷ []) $ fsplit ! $
      -- [the address; true; the kind; the identity's way back; connected; the slot's way back]
      use1 𝓛 (‵ ((arr_parts (shares u8) 6).part q s.id.addr b (o + 1))) (Array-apart 𝓛 u8 q tt 6 s.id.addr b (o + 1)) $ fsplit ! $ feq_l ! (λ len.
      let six : length s.id.addr ≡ 6 = len in
      let last : o + 7 ≡ (o + 1) + length s.id.addr = omega (arith, six) in
      let eight : length (slot_laid s) ≡ 8 = ap suc (more s.id.addr (s.connected ∷ [])) ∙ omega (arith, six) in
      move ! (4 ∷ []) $ fsplit ! $ rewrite ! 0 (λ (p : ℕ). ‵ (part_at u8 q s.connected b p)) last refl $
      move ! (2 ∷ 0 ∷ []) $ use2 𝓛 (‵ (run (s.id.addr ++ (s.connected ∷ [])) (o + 1))) (snoc s.id.addr s.connected (o + 1)) $ move ! (3 ∷ 0 ∷ []) $ fjoin ! $
      feq_i ! ℕ (length (slot_laid s)) 8 eight $ fjoin ! $ use1 𝓛 (‵ (part_at (Array u8 8) q (slot_laid s) b o)) (Array-whole 𝓛 u8 q 8 (slot_laid s) b o) $ frame ! $
      -- [true; true; the identity's way back; the slot's]
      drop ! $ drop ! $ each ! (λ (e : List ℕ). wand 𝓤 ⟦ part_at (Array u8 8) q e b o ⟧ ⟦ part_at S.the_row q (slot_in e) b o ⟧) (λ e. assume {P = ⟦ part_at S.the_row q (slot_in e) b o ⟧} ! (‵ (part_at (Array u8 8) q e b o)) $ by ! (slot_back e o)))

  -- and so of a row: what takes as many rows of bytes back for the slots that they are
  abbrev pub RowBack : ℕ → ℕ → SProp 𝓤
  RowBack n o = all 𝓤 (λ (es : List (List ℕ)). wand 𝓤 ⟦ (arr_parts (shares (Array u8 8)) n).part q es b o ⟧ ⟦ row S.the_row q (row_of es) b o ⟧)

  none_back : (es : List (List ℕ)) (o : ℕ) → length es ≡ 0 → ent 𝓤 ⟦ row (Array u8 8) q es b o ⟧ ⟦ row S.the_row q (row_of es) b o ⟧
  none_back [] o e = id⊢ 𝓤 _
  none_back (x ∷ es) o e = absurd (omega (arith, e))

  some_back : (n : ℕ) (es : List (List ℕ)) (o : ℕ) → length es ≡ suc n → ent 𝓤 (⋆ 𝓛 (‵ (row (Array u8 8) q es b o) ∷ raw (SlotBack o) ∷ raw (RowBack n (o + 8)) ∷ [])) ⟦ row S.the_row q (row_of es) b o ⟧
  some_back n [] o l = absurd (omega (arith, l))
  some_back n (e ∷ es) o l =
      let k : length es ≡ n = omega (arith, l) in
      qed 𝓛 (‵ (row (Array u8 8) q (e ∷ es) b o) ∷ raw (SlotBack o) ∷ raw (RowBack n (o + 8)) ∷ []) ∵ fsplit ! $ move ! (2 ∷ []) $
      use1 𝓛 (raw (wand 𝓤 ⟦ part_at (Array u8 8) q e b o ⟧ ⟦ part_at S.the_row q (slot_in e) b o ⟧)) (all_e 𝓤 (λ (d : List ℕ). wand 𝓤 ⟦ part_at (Array u8 8) q d b o ⟧ ⟦ part_at S.the_row q (slot_in d) b o ⟧) e) $ move ! (1 ∷ 0 ∷ []) $
      use2 𝓛 (‵ (part_at S.the_row q (slot_in e) b o)) (apply∗ 𝓤 ⟦ part_at (Array u8 8) q e b o ⟧ ⟦ part_at S.the_row q (slot_in e) b o ⟧) $ move ! (2 ∷ []) $
      use1 𝓛 (raw (wand 𝓤 ⟦ (arr_parts (shares (Array u8 8)) n).part q es b (o + 8) ⟧ ⟦ row S.the_row q (row_of es) b (o + 8) ⟧)) (all_e 𝓤 (λ (ds : List (List ℕ)). wand 𝓤 ⟦ (arr_parts (shares (Array u8 8)) n).part q ds b (o + 8) ⟧ ⟦ row S.the_row q (row_of ds) b (o + 8) ⟧) es) $
      move ! (2 ∷ 0 ∷ []) $ feq_i ! ℕ (length es) n k $ fjoin ! $ use2 𝓛 (‵ (row S.the_row q (row_of es) b (o + 8))) (apply∗ 𝓤 ⟦ (arr_parts (shares (Array u8 8)) n).part q es b (o + 8) ⟧ ⟦ row S.the_row q (row_of es) b (o + 8) ⟧) $
      move ! (1 ∷ 0 ∷ []) $ fjoin ! $ done !

  pub row_is_bytes : (ys : List Slot) (o : ℕ) → ent 𝓤 ⟦ row S.the_row q ys b o ⟧ (sep 𝓤 ⟦ row (Array u8 8) q (map slot_laid ys) b o ⟧ (RowBack (length ys) o))
  row_is_bytes [] o =
      qed 𝓛 (‵ (row S.the_row q [] b o) ∷ []) ∵ frame ! $ each ! (λ (es : List (List ℕ)). wand 𝓤 ⟦ (arr_parts (shares (Array u8 8)) 0).part q es b o ⟧ ⟦ row S.the_row q (row_of es) b o ⟧) (λ es.
      assume {P = ⟦ row S.the_row q (row_of es) b o ⟧} ! (‵ ((arr_parts (shares (Array u8 8)) 0).part q es b o)) $ fsplit ! $ feq_l ! (λ e. by ! (none_back es o e)))
  row_is_bytes (y ∷ ys) o =
      qed 𝓛 (‵ (row S.the_row q (y ∷ ys) b o) ∷ []) ∵ fsplit ! $ use1 𝓛 (‵ (part_at (Array u8 8) q (slot_laid y) b o) ⊛ raw (SlotBack o)) (slot_is_bytes y o) $ split ! $ move ! (2 ∷ []) $
      use1 𝓛 (‵ (row (Array u8 8) q (map slot_laid ys) b (o + 8)) ⊛ raw (RowBack (length ys) (o + 8))) (row_is_bytes ys (o + 8)) $ split ! $ move ! (2 ∷ 0 ∷ []) $ fjoin ! $ frame ! $ move ! (1 ∷ 0 ∷ []) $
      each ! (λ (es : List (List ℕ)). wand 𝓤 ⟦ (arr_parts (shares (Array u8 8)) (suc (length ys))).part q es b o ⟧ ⟦ row S.the_row q (row_of es) b o ⟧) (λ es.
      assume {P = ⟦ row S.the_row q (row_of es) b o ⟧} ! (‵ ((arr_parts (shares (Array u8 8)) (suc (length ys))).part q es b o)) $ fsplit ! $ feq_l ! (λ e. by ! (some_back (length ys) es o e)))
