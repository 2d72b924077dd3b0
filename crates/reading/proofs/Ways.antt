-- The ways of the readers: a code, an offset past the end, or the part that goes in. Assumes nothing.
use Rattle.std.specs.Prelude.{Ok, Err}
use mathlib.Core.Path.{◌≡◌, refl, sym, ap, ◌∙◌}
use mathlib.Core.List.{List, [], ◌∷◌, ◌++◌}
use mathlib.Core.Logic.{⊎_elim}
use Prim.Native.Nat.{ℕ, ◌+◌, ◌-◌, ◌≤◌, ◌<◌, min}
use native.Mathlib.Omega.{arith}
use lib.ListN.{length, take, drop, length-drop}
use lib.Seq.{sets, take_all, length-take-le}
use borrow.Author.Tests.{lt-ltb, le-ltb}
use Rattle.wire.specs.Number.{word}
use Rattle.wire.specs.Cursor.{Wrote}
use Rattle.wire.specs.declared.cursor.WriteCursor.{WriteCursor}
use Rattle.wire.proofs.Tests.{split}
use Rattle.model.specs.Value.{Contents, Bytes, Code, read_from}
use Rattle.model.specs.Answer.{error_rsp, value_rsp, multiple_rsp}
use Rattle.values.specs.declared.ValueSpan.{ValueSpan}
use Rattle.values.specs.Locate.{side_of, span_bytes, contents_of, LiesInside, Located}
use Rattle.values.proofs.Meaning.{span_length}
use Rattle.reading.specs.Copy.{copied_of, copy_of}
use Rattle.wire.specs.declared.att.AttError.{AttError}
use Rattle.wire.specs.declared.att.AttError.TheVariants.{InvalidPdu, InvalidOffset, AttributeNotFound}

-- bytes that are cut to their own length are not cut
take_min : (x : List ℕ) (m n : ℕ) → n ≡ min (length x) m → take n x ≡ take m x
take_min x m n e =
    ⊎_elim
    (λ (l : m < length x). let z : n ≡ m = omega arith in rw z)
    (λ (g : length x ≤ m). take_all n x (omega arith) ∙ sym (take_all m x g))
    (split m (length x))

-- from the start on is the whole
pub from_start : (g : Contents) → read_from 0 g ≡ g
unfolding read_from
from_start (Bytes v) = rw (le-ltb (length v) 0 (omega arith))
from_start (Code c) = refl

-- what is located in the store and a table t means the contents g
module _ (store t : List ℕ) (v : Located) (g : Contents) (means : contents_of store t v ≡ g) where
  pub by_code : (rsp op h room off : ℕ) (c : AttError) → v ≡ Err c → error_rsp op h c ≡ value_rsp rsp op h room (read_from off g)
  unfolding contents_of read_from value_rsp
  by_code rsp op h room off c e = rw (← means, e)

  module _ (s : ValueSpan) (e : v ≡ Ok s) (i : LiesInside store t v) where
    pub in_bytes : s.start + s.len ≤ length (side_of store t s)
    in_bytes = rw e at i

    pub past_end : (rsp op h room off : ℕ) → s.len < off → error_rsp op h InvalidOffset ≡ value_rsp rsp op h room (read_from off g)
    unfolding contents_of read_from value_rsp
    past_end rsp op h room off l = rw (← means, e, span_length store t s in_bytes, lt-ltb _ _ l)

    pub value_part : (rsp op h room off n : ℕ) → off ≤ s.len → n ≡ min (s.len - off) (room - 1) → (rsp ∷ []) ++ take n (drop off (span_bytes store t s)) ≡ value_rsp rsp op h room (read_from off g)
    unfolding contents_of read_from value_rsp
    value_part rsp op h room off n l m =
        let k : length (drop off (span_bytes store t s)) ≡ s.len - off = simp (length-drop, span_length store t s in_bytes) in
        let z : n ≡ min (length (drop off (span_bytes store t s))) (room - 1) = rw k m in
        rw (← means, e, span_length store t s in_bytes, le-ltb _ _ l, take_min (drop off (span_bytes store t s)) (room - 1) n z)

-- Read Multiple
module _ (hs : List ℕ) where
  pub no_handle : length hs < 2 → error_rsp 0x0E 0 InvalidPdu ≡ multiple_rsp hs
  unfolding multiple_rsp
  no_handle l = rw (lt-ltb _ _ l)

  pub a_handle : 2 ≤ length hs → error_rsp 0x0E (word hs 0) AttributeNotFound ≡ multiple_rsp hs
  unfolding multiple_rsp
  a_handle l = rw (le-ltb _ _ l)

-- copying out
module _ (store t out : List ℕ) (l : Located) (g : Contents) (means : contents_of store t l ≡ g) where
  pub no_copy : (c : AttError) → l ≡ Err c → (Err c ≡ copied_of (length out) g) × (out ≡ copy_of out g)
  unfolding contents_of copied_of copy_of
  no_copy c e = rw (← means, e) (refl, refl)

  pub a_copy : (s : ValueSpan) (new : List ℕ) (c next : WriteCursor) (n : ℕ) → l ≡ Ok s → LiesInside store t l → n ≡ min s.len (length out) → c.len ≡ 0 → Wrote out new c next (take n (drop 0 (span_bytes store t s)))
      → (Ok next.len ≡ copied_of (length out) g) × (new ≡ copy_of out g)
  unfolding contents_of copied_of copy_of
  a_copy s new c next n e i m z w =
      let b : s.start + s.len ≤ length (side_of store t s) = rw e at i in
      let k = span_length store t s b in
      let q : n ≡ min (length (span_bytes store t s)) (length out) = rw k m in
      let r : length (take n (span_bytes store t s)) ≡ n = length-take-le n (span_bytes store t s) (omega arith) in
      let u : next.len ≡ min (length (span_bytes store t s)) (length out) = ap (λ (x : WriteCursor). x.len) w.cursor ∙ (omega (arith, r, q, z)) in
      let o : new ≡ sets out 0 (take n (span_bytes store t s)) = rw z at w.bytes in
      rw (← means, e) (ap Ok u, o ∙ rw (take_min (span_bytes store t s) (length out) n q))
