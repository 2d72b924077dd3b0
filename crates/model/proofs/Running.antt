-- One loop for every list answer: the laws of its invariant, and of where a list starts. Assumes nothing.
use Rattle.std.specs.Prelude.{Some, None}
use mathlib.Core.Path.{◌≡◌, refl, sym, ap, ◌∙◌}
use mathlib.Core.Bool.{Bool, true, false, cond}
use mathlib.Core.List.{List, [], ◌∷◌, ◌++◌, map, append-nil}
use Prim.Native.Nat.{ℕ, zero, suc, ◌+◌, ◌-◌, ◌≤◌, ◌<◌}
use native.Mathlib.Numerals.{add-one}
use native.Mathlib.Omega.{arith}
use lib.ListN.{length, get_or, drop, length-append, drop_of_length-le}
use lib.Seq.{sets, drop-cons}
use borrow.Author.Tests.{lt-ltb, le-ltb}
use Rattle.wire.specs.Walk.{place_from}
use Rattle.wire.specs.Cursor.{Wrote}
use Rattle.wire.specs.declared.cursor.WriteCursor.{WriteCursor}
use Rattle.wire.proofs.Sets.{sets-append}
use Rattle.wire.proofs.Walk.{placed, none_passes}
use Rattle.wire.proofs.Written.{wrote_length, wrote_none}
use Rattle.model.specs.Run.{Chunk, stop, skip, emit, run, from_first, Rowed}

-- the invariant of a list answer's loop: what is still to be written, written, gives what the whole run, written from
-- the first cursor on, gives
pub record Going {A : Type 0} (turn : A → List A → ℕ → Chunk) (l : List A) (old : List ℕ) (from : WriteCursor) (whole out : List ℕ) (c : WriteCursor) (i : ℕ) : Type 0 where
  pub place : i ≤ length l
  pub size : length out ≡ length old
  pub room : c.len ≤ length out
  pub full : c.full ≡ from.full
  pub bytes : sets out c.len (run turn (drop i l) (length out - c.len)) ≡ sets old from.len whole
  pub total : c.len + length (run turn (drop i l) (length out - c.len)) ≡ from.len + length whole

same_cursor : (c : WriteCursor) (n : ℕ) (f : Bool) → c.len ≡ n → c.full ≡ f → c ≡ record { len = n; full = f }
same_cursor c n f p q = rw (← p, ← q)

module _ {A : Type 0} (turn : A → List A → ℕ → Chunk) (d : A) (l : List A) where
  one_turn : (i room : ℕ) → i < length l
      → run turn (drop i l) room ≡ (turn (get_or l i d) (drop (i + 1) l) room).bytes ++ cond (turn (get_or l i d) (drop (i + 1) l) room).more (run turn (drop (i + 1) l) (room - length (turn (get_or l i d) (drop (i + 1) l) room).bytes)) []
  unfolding run
  one_turn i room h = rw (drop-cons l i d h, add-one)

  none_left : (i room : ℕ) → length l ≤ i → run turn (drop i l) room ≡ []
  unfolding run
  none_left i room h = rw (drop_of_length-le l h)

  pub going_start : (out : List ℕ) (c : WriteCursor) (i : ℕ) → i ≤ length l → c.len ≤ length out → Going turn l out c (run turn (drop i l) (length out - c.len)) out c i
  going_start out c i p r = record { place = p; size = refl; room = r; full = refl; bytes = refl; total = refl }

  module _ (old : List ℕ) (from : WriteCursor) (whole out : List ℕ) (c : WriteCursor) (i : ℕ) (g : Going turn l old from whole out c i) where
    done : (new : List ℕ) (last : WriteCursor) → last.full ≡ from.full → last.len ≡ from.len + length whole → from.len + length whole ≤ length old → new ≡ sets old from.len whole → Wrote old new from last whole
    done new last f n h e = record { cursor = same_cursor last (from.len + length whole) from.full n f; fits = h; bytes = e }

    pub going_end : length l ≤ i → Wrote old out from c whole
    going_end h =
        let b = rw (none_left i (length out - c.len) h) at g.bytes in
        let t = rw (none_left i (length out - c.len) h) at g.total in
        done out c g.full (omega (arith, t)) (omega (arith, t, g.room, g.size)) b

    module _ (h : i < length l) where
      -- an element that the list goes on without
      pub going_skip : skip ≡ turn (get_or l i d) (drop (i + 1) l) (length out - c.len) → Going turn l old from whole out c (i + 1)
      going_skip e =
          let z : (length out - c.len) - 0 ≡ length out - c.len = omega arith in
          let r = rw (one_turn i (length out - c.len) h, ← e, z) at g.bytes in
          let q = rw (one_turn i (length out - c.len) h, ← e, z) at g.total in
          record { place = omega arith; size = g.size; room = g.room; full = g.full; bytes = r; total = q }

      -- an element whose row was written, or ends the list
      module _ (new : List ℕ) (next : WriteCursor) (m : Rowed out new c next (turn (get_or l i d) (drop (i + 1) l) (length out - c.len))) where
        abbrev k : Chunk
        k = turn (get_or l i d) (drop (i + 1) l) (length out - c.len)

        same : length new ≡ length old
        same = wrote_length _ _ _ _ _ m.wrote ∙ g.size

        next_len : next.len ≡ c.len + length k.bytes
        next_len = ap (λ (x : WriteCursor). x.len) m.wrote.cursor

        next_full : next.full ≡ from.full
        next_full = ap (λ (x : WriteCursor). x.full) m.wrote.cursor ∙ g.full

        pub going_stop : next.len ≤ c.len → Wrote old new from next whole
        going_stop e =
            let s : k.more ≡ false = sym m.more ∙ le-ltb _ _ e in
            let r = rw (one_turn i (length out - c.len) h, s, append-nil k.bytes) at g.bytes in
            let q = rw (one_turn i (length out - c.len) h, s, append-nil k.bytes) at g.total in
            done new next next_full (next_len ∙ q) (omega (arith, q, m.wrote.fits, g.size)) (m.wrote.bytes ∙ r)

        pub going_more : c.len < next.len → Going turn l old from whole new next (i + 1)
        going_more e =
            let s : k.more ≡ true = sym m.more ∙ lt-ltb _ _ e in
            let left : (length out - c.len) - length k.bytes ≡ length new - next.len = omega (arith, same, g.size, next_len) in
            let r = rw (one_turn i (length out - c.len) h, s, left, ← sets-append k.bytes, ← m.wrote.bytes, ← next_len) at g.bytes in
            let q = rw (one_turn i (length out - c.len) h, s, left, length-append) at g.total in
            record {
              place = omega arith;
              size = same;
              room = omega (arith, m.wrote.fits, same, g.size, next_len);
              full = next_full;
              bytes = r;
              total = omega (arith, q, next_len);
            }

  -- the list goes on without all that is left, n elements
  going_out : (n : ℕ) (old : List ℕ) (from : WriteCursor) (whole out : List ℕ) (c : WriteCursor) (i : ℕ) → i + n ≡ length l
      → ((j : ℕ) → i ≤ j → j < length l → skip ≡ turn (get_or l j d) (drop (j + 1) l) (length out - c.len)) → Going turn l old from whole out c i → Wrote old out from c whole
  going_out zero old from whole out c i e f g = going_end old from whole out c i g (omega arith)
  going_out (suc n) old from whole out c i e f g =
      going_out n old from whole out c (i + 1) (omega arith) (λ j a b. f j (omega arith) b) (going_skip old from whole out c i g (omega arith) (f i (omega arith) (omega arith)))

  pub going_rest : (old : List ℕ) (from : WriteCursor) (whole out : List ℕ) (c : WriteCursor) (i : ℕ) → Going turn l old from whole out c i
      → ((j : ℕ) → i ≤ j → j < length l → skip ≡ turn (get_or l j d) (drop (j + 1) l) (length out - c.len)) → Wrote old out from c whole
  going_rest old from whole out c i g f = going_out (length l - i) old from whole out c i (omega (arith, g.place)) f g

  -- a run that begins with elements that it goes on without, from place i on, n of them
  pub run_from : (n i room : ℕ) → i + n ≤ length l → ((j : ℕ) → i ≤ j → j < i + n → skip ≡ turn (get_or l j d) (drop (j + 1) l) room) → run turn (drop i l) room ≡ run turn (drop (i + n) l) room
  run_from zero i room h f = let z : i + 0 ≡ i = omega arith in rw z
  run_from (suc n) i room h f =
      let z : room - 0 ≡ room = omega arith in
      let y : i + suc n ≡ (i + 1) + n = omega arith in
      let a : run turn (drop i l) room ≡ run turn (drop (i + 1) l) room = rw (one_turn i room (omega arith), ← f i (omega arith) (omega arith), z) in
      a ∙ rw y (run_from n (i + 1) room (omega arith) (λ j a b. f j (omega arith) (omega arith)))

-- a run over a list of pictures
pub run_map : {A B : Type 0} (g : A → B) (turn : B → List B → ℕ → Chunk) (l : List A) (room : ℕ) → run turn (map g l) room ≡ run (λ (x : A) (xs : List A). turn (g x) (map g xs)) l room
unfolding run
run_map g turn [] room = refl
run_map g turn (x ∷ l) room =
    let k = turn (g x) (map g l) room in
    ap (λ (r : List ℕ). k.bytes ++ cond k.more r []) (run_map g turn l (room - length k.bytes))

-- a row that ends the list, and one that was written
pub row_stopped : (out : List ℕ) (c : WriteCursor) (k : Chunk) → c.len ≤ length out → stop ≡ k → Rowed out out c c k
row_stopped out c k h e = rw (← e) (record { more = le-ltb c.len c.len (omega arith); wrote = wrote_none out c h })

pub row_written : (old new : List ℕ) (c next : WriteCursor) (bs : List ℕ) (k : Chunk) → emit bs ≡ k → 0 < length bs → Wrote old new c next bs → Rowed old new c next k
row_written old new c next bs k e l w =
    let n : next.len ≡ c.len + length bs = ap (λ (x : WriteCursor). x.len) w.cursor in
    rw (← e) (record { more = lt-ltb c.len next.len (omega arith); wrote = w })

pub row_as : (old new : List ℕ) (c next : WriteCursor) (k m : Chunk) → Rowed old new c next k → k ≡ m → Rowed old new c next m
row_as old new c next k m h e = rw e at h

pub row_room : (old new : List ℕ) (c next : WriteCursor) (k : Chunk) → Rowed old new c next k → (length new ≡ length old) × (next.len ≤ length new)
row_room old new c next k h =
    let n : next.len ≡ c.len + length k.bytes = ap (λ (x : WriteCursor). x.len) h.wrote.cursor in
    let e = wrote_length _ _ _ _ _ h.wrote in
    (e, omega (arith, h.wrote.fits))

-- where a list starts
module _ {A : Type 0} (p : A → Bool) where
  from_at : (d : A) (l : List A) (i : ℕ) → i < length l → ((j : ℕ) → j < i → p (get_or l j d) ≡ false) → p (get_or l i d) ≡ true → from_first p l ≡ drop i l
  unfolding from_first
  from_at d [] i h f t = absurd (omega arith)
  from_at d (x ∷ l) zero h f t = rw t
  from_at d (x ∷ l) (suc i) h f t = rw (f 0 (omega arith)) (from_at d l i (omega arith) (λ j b. f (suc j) (omega arith)) t)

  from_none : (d : A) (l : List A) → ((j : ℕ) → j < length l → p (get_or l j d) ≡ false) → from_first p l ≡ []
  unfolding from_first
  from_none d [] f = refl
  from_none d (x ∷ l) f = rw (f 0 (omega arith)) (from_none d l (λ j b. f (suc j) (omega arith)))

  pub starts_at : (d : A) (l : List A) (i : ℕ) → place_from p l 0 ≡ Some i → from_first p l ≡ get_or l i d ∷ drop (i + 1) l
  starts_at d l i h =
      let w = placed p d l 0 i h in
      from_at d l i w.inside (λ j b. w.first j (omega arith) b) w.passes ∙ rw (drop-cons l i d w.inside, add-one)

  pub starts_nowhere : (d : A) (l : List A) → place_from p l 0 ≡ None → from_first p l ≡ []
  starts_nowhere d l h = from_none d l (λ j b. none_passes p d l (length l) 0 (omega arith) h j (omega arith) b)

choose_map : {A B : Type 0} (g : A → B) (t : Bool) (x : A) (xs ys : List A) (zs : List B) → zs ≡ map g ys → cond t (g x ∷ map g xs) zs ≡ map g (cond t (x ∷ xs) ys)
choose_map g true x xs ys zs e = refl
choose_map g false x xs ys zs e = e

pub from_map : {A B : Type 0} (g : A → B) (p : B → Bool) (l : List A) → from_first p (map g l) ≡ map g (from_first (λ (x : A). p (g x)) l)
unfolding from_first
from_map g p [] = refl
from_map g p (x ∷ l) = choose_map g (p (g x)) x l _ _ (from_map g p l)

pub map-map : {A B C : Type 0} (f : B → C) (g : A → B) (l : List A) → map f (map g l) ≡ map (λ (x : A). f (g x)) l
map-map f g [] = refl
map-map {C = C} f g (x ∷ l) = ap (λ (r : List C). f (g x) ∷ r) (map-map f g l)
