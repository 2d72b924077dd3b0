-- The ways of the two reads by type: a lead, a row, a turn, and the whole answer from the first wanted entry on.
-- Assumes nothing.
use Rattle.std.specs.Prelude.{Some, None, Ok, Err}
use mathlib.Core.Path.{◌≡◌, sym, ap, ◌∙◌}
use mathlib.Core.Bool.{Bool, true, false, cond}
use mathlib.Core.List.{List, [], ◌∷◌, ◌++◌, map}
use mathlib.Core.Logic.{⊎_elim}
use Prim.Native.Nat.{ℕ, suc, ◌+◌, ◌-◌, ◌≤◌, ◌<◌, min}
use native.Mathlib.Numerals.{add-one}
use native.Mathlib.Omega.{arith}
use lib.ListN.{length, get_or, take, drop, length-take, length-append}
use lib.Seq.{take_all, drop-cons}
use borrow.Author.Tests.{lt-ltb, le-ltb, eq-eqb, ne_eqb}
use Rattle.wire.specs.Number.{word_bytes}
use Rattle.wire.specs.Cursor.{put as written, moved, Wrote}
use Rattle.wire.specs.Walk.{place_from}
use Rattle.wire.specs.declared.att.AttError.{AttError}
use Rattle.wire.specs.declared.att.AttError.TheVariants.{AttributeNotFound}
use Rattle.wire.specs.declared.cursor.WriteCursor.{WriteCursor}
use Rattle.wire.proofs.Tests.{split}
use Rattle.wire.proofs.Walk.{placed}
use Rattle.wire.proofs.Written.{wrote, wrote_then, wrote_length, wrote_next}
use Rattle.attribute.specs.Record.{Entry, entry_of, attribute_of}
use Rattle.attribute.specs.Lookup.{handle_of, entries_of, recorded, group_end}
use Rattle.attribute.specs.declared.Link.{Link}
use Rattle.model.specs.Value.{Contents}
use Rattle.model.specs.View.{Seen, seen_by, seen_all}
use Rattle.model.specs.Run.{Chunk, stop, skip, emit, run, from_first}
use Rattle.model.specs.Rows.{lead, extra_of, cut, any_entry, entries_in, value_turn, row_turn}
use Rattle.model.specs.Answer.{Sent, error_rsp, first_rsp, list_from}
use Rattle.model.specs.declared.Form.{Form}
use Rattle.model.proofs.Fitting.{lead_length}
use Rattle.model.proofs.Running.{run_map, starts_at, starts_nowhere, from_map, map-map}
use Rattle.model.proofs.Sending.{sent, sent_as}
use Rattle.response.proofs.Errors.{one_byte}
use Rattle.values.specs.declared.ValueSpan.{ValueSpan}
use Rattle.values.specs.Locate.{read_span, side_of, span_bytes, contents_of, LiesInside, ReadyToRead, Located}
use Rattle.values.proofs.Meaning.{span_length, at_got, at_inside}
use Rattle.reading_by_type.specs.Turns.{cut_to, row_at}

-- how many bytes stand before a value
module _ (f : Form) where
  extra_by : (g : Bool) → 2 ≤ cond g 4 2
  extra_by true = omega arith
  extra_by false = omega arith

  pub extra_least : 2 ≤ extra_of f
  unfolding extra_of
  extra_least = extra_by f.group

  pub extra_group : f.group ≡ true → extra_of f ≡ 4
  unfolding extra_of
  extra_group g = rw g

  pub cut_le : (room len : ℕ) → cut_to f room len ≤ len
  unfolding cut_to
  cut_le room len = omega arith

  pub cut_limit : (room len : ℕ) → cut_to f room len ≤ f.limit
  unfolding cut_to
  cut_limit room len = omega arith

-- what the lead's code writes: the handle, and behind it the group's end
module _ (f : Form) (r : List ℕ) (es : List Entry) (old mid : List ℕ) (c next : WriteCursor) (h : ℕ) (room : c.len + extra_of f ≤ length old) (is : h ≡ handle_of r) (m : next ≡ moved (length old) c 2) (p : mid ≡ written old c.len (word_bytes h)) where
  handle_wrote : Wrote old mid c next (word_bytes (entry_of r).handle)
  unfolding entry_of attribute_of
  handle_wrote = rw (← is) (wrote old c mid (word_bytes h) next (omega (arith, extra_least f)) m p)

  pub lead_plain : f.group ≡ false → Wrote old mid c next (lead f (entry_of r) es)
  unfolding lead
  lead_plain g = rw g handle_wrote

  pub lead_group : f.group ≡ true → (new : List ℕ) (last : WriteCursor) (n : ℕ) → n ≡ group_end (handle_of r) es → last ≡ moved (length mid) next 2 → new ≡ written mid next.len (word_bytes n) → Wrote old new c last (lead f (entry_of r) es)
  unfolding lead entry_of attribute_of
  lead_group g new last n e k q =
      let w = handle_wrote in
      let a : next.len ≡ c.len + 2 = ap (λ (x : WriteCursor). x.len) w.cursor in
      let fits : next.len + 2 ≤ length mid = omega (arith, extra_group f g, wrote_length _ _ _ _ _ w) in
      rw (g, ← e) (wrote_then old c mid new _ (word_bytes n) next last w (wrote mid next new (word_bytes n) last fits k q))

-- a value that is cut
take_min : (x : List ℕ) (m n : ℕ) → n ≡ min (length x) m → take n x ≡ take m x
take_min x m n e =
    ⊎_elim
    (λ (l : m < length x). let z : n ≡ m = omega arith in rw z)
    (λ (g : length x ≤ m). take_all n x (omega arith) ∙ sym (take_all m x g))
    (split m (length x))

module _ (f : Form) (store t : List ℕ) (room : ℕ) (s : ValueSpan) (b : s.start + s.len ≤ length (side_of store t s)) where
  pub cut_is : length (cut f room (span_bytes store t s)) ≡ cut_to f room s.len
  unfolding cut cut_to
  cut_is = let l = span_length store t s b in simp length-take (omega arith)

  cut_bytes : (n : ℕ) → n ≡ cut_to f room s.len → take n (span_bytes store t s) ≡ cut f room (span_bytes store t s)
  unfolding cut cut_to
  cut_bytes n m =
      let z : n ≡ min (length (span_bytes store t s)) (min (room - extra_of f) f.limit) = rw (span_length store t s b) m in
      take_min (span_bytes store t s) (min (room - extra_of f) f.limit) n z

-- the ways of a located value
module _ (f : Form) (store t : List ℕ) (e : Entry) (es : List Entry) (size room : ℕ) (v : Located) where
  pub no_value : (c : AttError) → v ≡ Err c → stop ≡ value_turn f size e es room (contents_of store t v)
  unfolding contents_of value_turn
  no_value c q = rw q

  -- n of its bytes are to go in
  module _ (s : ValueSpan) (q : v ≡ Ok s) (b : s.start + s.len ≤ length (side_of store t s)) (n : ℕ) (m : n ≡ cut_to f room s.len) where
    pub other_size : (n ≡ size → ⊥) → stop ≡ value_turn f size e es room (contents_of store t v)
    unfolding contents_of value_turn
    other_size d = rw (q, ne_eqb (length (cut f room (span_bytes store t s))) size (λ x. d (m ∙ sym (cut_is f store t room s b) ∙ x)))

    pub row_is : n ≡ size → emit (lead f e es ++ take size (span_bytes store t s)) ≡ value_turn f size e es room (contents_of store t v)
    unfolding contents_of value_turn
    row_is x =
        let y : size ≡ cut_to f room s.len = sym x ∙ m in
        rw (q, eq-eqb (length (cut f room (span_bytes store t s))) size (cut_is f store t room s b ∙ sym m ∙ x), cut_bytes f store t room s b size y)

-- the room behind a lead
pub behind_lead : (f : Form) (e : Entry) (es : List Entry) (old mid : List ℕ) (c next : WriteCursor) (size : ℕ) → c.len + (size + extra_of f) ≤ length old → Wrote old mid c next (lead f e es) → next.len + size ≤ length mid
behind_lead f e es old mid c next size h w =
    let a : next.len ≡ c.len + length (lead f e es) = ap (λ (x : WriteCursor). x.len) w.cursor in
    omega (arith, lead_length f e es, wrote_length _ _ _ _ _ w)

pub span_inside : (store t : List ℕ) (v : Located) (s : ValueSpan) → v ≡ Ok s → LiesInside store t v → s.start + s.len ≤ length (side_of store t s)
span_inside store t v s e b = rw e at b

-- what is written behind it
pub some_bytes : (f : Form) (e : Entry) (es : List Entry) (v : List ℕ) → 0 < length (lead f e es ++ v)
some_bytes f e es v = omega (arith, length-append (lead f e es) v, lead_length f e es, extra_least f)

-- the ways of a turn
module _ (f : Form) (link : Link) (store t : List ℕ) (want : Entry → Bool) (size : ℕ) (r : List ℕ) (rs : List (List ℕ)) (room : ℕ) where
  pub turn_skip : want (entry_of r) ≡ false → skip ≡ row_at f link store t want size r rs room
  unfolding row_turn seen_by
  turn_skip w = rw w

  -- a wanted entry's turn is that of one of which nothing is asked
  pub turn_any : want (entry_of r) ≡ true → row_at f link store t any_entry size r rs room ≡ row_at f link store t want size r rs room
  unfolding row_turn seen_by
  turn_any w = rw w

  module _ (w : want (entry_of r) ≡ true) where
    pub turn_full : room < size + extra_of f → stop ≡ row_at f link store t want size r rs room
    unfolding row_turn seen_by
    turn_full l = rw (w, lt-ltb _ _ l)

    after : entries_in (map (seen_by link store t) rs) ≡ entries_of rs
    unfolding seen_by
    after = map-map (λ (s : Seen). s.entry) (seen_by link store t) rs

    pub turn_value : size + extra_of f ≤ room → (g : Contents) → g ≡ (seen_by link store t r).read → value_turn f size (entry_of r) (entries_of rs) room g ≡ row_at f link store t want size r rs room
    unfolding row_turn seen_by
    turn_value l g e = rw (w, le-ltb _ _ l, after, e)

-- the ways of the whole answer, by what the walk to the first wanted entry finds
module _ (f : Form) (link : Link) (store t : List ℕ) (want : Entry → Bool) (start room : ℕ) (list : List (List ℕ)) where
  abbrev answer : List ℕ
  answer = list_from f want start room (from_first (λ (s : Seen). want s.entry) (seen_all link list store t))

  starts : from_first (λ (s : Seen). want s.entry) (seen_all link list store t) ≡ map (seen_by link store t) (from_first (recorded want) list)
  unfolding seen_by
  starts = from_map (seen_by link store t) (λ (s : Seen). want s.entry) list

  pub none_found : place_from (recorded want) list 0 ≡ None → error_rsp f.op start AttributeNotFound ≡ answer
  unfolding list_from
  none_found e = rw (starts, starts_nowhere (recorded want) [] list e)

  module _ (i : ℕ) (e : place_from (recorded want) list 0 ≡ Some i) where
    inside : i < length list
    inside = (placed (recorded want) [] list 0 i e).inside

    abbrev r : List ℕ
    r = get_or list i []

    abbrev first_got : Contents → List ℕ
    first_got g = first_rsp f want room (seen_by link store t r) (map (seen_by link store t) (drop (i + 1) list)) g

    rows : (n : ℕ) → run (row_at f link store t want n) (drop i list) room ≡ run (row_turn f want n) (seen_by link store t r ∷ map (seen_by link store t) (drop (i + 1) list)) room
    rows n = rw (drop-cons list i [] (inside), add-one) (sym (run_map (seen_by link store t) (row_turn f want n) (r ∷ drop (suc i) list) room))

    module _ (v : Located) (q : v ≡ read_span link t (attribute_of r)) where
      first_is : first_got (contents_of store t v) ≡ answer
      unfolding list_from
      first_is = rw (starts, starts_at (recorded want) [] list i e) (ap first_got (ap (contents_of store t) q ∙ at_got store t link r))

      pub first_code : (c : AttError) (h : ℕ) → v ≡ Err c → h ≡ handle_of r → error_rsp f.op h c ≡ answer
      unfolding first_rsp contents_of seen_by entry_of attribute_of
      first_code c h d x = (let z : error_rsp f.op h c ≡ first_got (contents_of store t v) = rw (d, x) in z) ∙ first_is

      pub first_value : ReadyToRead list (length store) t → (s : ValueSpan) → v ≡ Ok s → (size : ℕ) → size ≡ cut_to f room s.len → f.rsp ∷ (size + extra_of f) ∷ run (row_at f link store t want size) (drop i list) room ≡ answer
      unfolding first_rsp contents_of
      first_value k s d size m =
          let b : LiesInside store t v = rw q (at_inside store t k.table list k.right i (inside) link) in
          let y : size ≡ length (cut f room (span_bytes store t s)) = m ∙ sym (cut_is f store t room s (span_inside store t v s d b)) in
          let z : f.rsp ∷ (size + extra_of f) ∷ run (row_at f link store t want size) (drop i list) room ≡ first_got (contents_of store t v) = rw (d, ← y, rows size) in
          z ∙ first_is

-- the two bytes before the rows, and the rows behind them
module _ (old o₁ o₂ : List ℕ) (a b : ℕ) (c₀ c₁ c₂ : WriteCursor) (room : 2 ≤ length old) (z : c₀.len ≡ 0) (m₁ : c₁ ≡ moved (length old) c₀ 1) (p₁ : o₁ ≡ written old c₀.len (a ∷ [])) (m₂ : c₂ ≡ moved (length o₁) c₁ 1) (p₂ : o₂ ≡ written o₁ c₁.len (b ∷ [])) where
  header : Wrote old o₂ c₀ c₂ (a ∷ b ∷ [])
  header = wrote_next old o₁ o₂ (a ∷ []) (b ∷ []) c₀ c₁ c₂ (one_byte old o₁ a c₀ c₁ z (omega arith) m₁ p₁) (omega arith) m₂ p₂

  header_end : (c₂.len ≡ 2) × (length o₂ ≡ length old)
  header_end = (ap (λ (x : WriteCursor). x.len) header.cursor ∙ omega arith, wrote_length _ _ _ _ _ header)

  pub header_fits : c₂.len ≤ length o₂
  header_fits = omega (arith, header_end.0, header_end.1)

  pub sent_rows : (turn : List ℕ → List (List ℕ) → ℕ → Chunk) (l : List (List ℕ)) (new rsp : List ℕ) (last : WriteCursor) (n : ℕ) → b ≡ n → Wrote o₂ new c₂ last (run turn l (length o₂ - c₂.len)) → a ∷ n ∷ run turn l (length old - 2) ≡ rsp → Sent old new last.len rsp
  sent_rows turn l new rsp last n q w e =
      let y : a ∷ b ∷ run turn l (length o₂ - c₂.len) ≡ rsp = rw (header_end.0, header_end.1, q) e in
      sent_as old new _ rsp last.len (sent old new _ c₀ last z (wrote_then old c₀ o₂ new (a ∷ b ∷ []) _ c₂ last header w)) y
