-- Laws of `specs/Walk.antt`: what a stretch is of a range, and the test by a short form. Assumes nothing.
use Rattle.std.specs.Prelude.{Option, Some, None}
use Rattle.std.specs.Option.{unwrap_or}
use mathlib.Core.Path.{◌≡◌, refl, sym, ap, ◌∙◌}
use mathlib.Core.Bool.{Bool, true, false, cond}
use mathlib.Core.List.{List, [], ◌∷◌}
use mathlib.Core.Logic.{⊎_elim}
use Prim.Native.Nat.{ℕ, ◌+◌, ◌-◌, ◌≤◌, ◌<◌}
use native.Mathlib.Omega.{arith}
use lib.ListN.{length, get_or, take, drop, length-take, length-drop}
use lib.Seq.{get_or-take}
use lib.Dec.{eqb}
use borrow.Author.Tests.{eq-eqb, ne_eqb, eqb-true, eqb-false, le-leb, lt-leb, not-false}
use Rattle.wire.specs.Size.{record_bytes}
use Rattle.wire.specs.Test.{both}
use Rattle.wire.specs.Number.{word, word_bytes}
use Rattle.wire.specs.Bytes.{alike}
use Rattle.wire.specs.Uuid.{based, wide, same_uuid}
use Rattle.wire.specs.Walk.{place_from}
use Rattle.wire.proofs.Tests.{split}
use Rattle.wire.proofs.Fold.{alike_eq, alike_self}
use Rattle.wire.proofs.Walk.{hit, miss, none_left, placed, none_passes, at_first, nowhere}
use Rattle.wire.proofs.Widening.{wide_short, wide_long, one_length}
use Rattle.attribute.specs.Record.{Entry, entry_of, uuid_of}
use Rattle.attribute.specs.Lookup.{handle_of, recorded, is_within, is_wanted}
use Rattle.attribute_walk.specs.Walk.{Parts, short_of, may_be, may_match, is_of_type, any_record, Picks}
use Rattle.attribute_walk.specs.declared.Stretch.{Stretch}
use Rattle.attribute.proofs.Entries.{low, not_low, outside, inside}
use Rattle.attribute_walk.proofs.Short.{short, first, second}

-- the walk along a stretch: a hit, a miss, and the end
module _ (test : List ℕ → Bool) (list : List (List ℕ)) (to i : ℕ) (inside : to ≤ length list) where
  short_list : length (take to list) ≡ to
  short_list = simp length-take (omega arith)

  pub stretch_hit : i < to → test (get_or list i []) ≡ true → place_from test (take to list) i ≡ Some i
  stretch_hit l e = hit test [] (take to list) i (omega (arith, short_list)) (rw (get_or-take to list i [] l) e)

  pub stretch_miss : i < to → test (get_or list i []) ≡ false → place_from test (take to list) i ≡ place_from test (take to list) (i + 1)
  stretch_miss l e = miss test [] (take to list) i (omega (arith, short_list)) (rw (get_or-take to list i [] l) e)

  pub stretch_end : to ≤ i → place_from test (take to list) i ≡ None
  stretch_end l = none_left test [] (take to list) i (omega (arith, short_list))

-- what it finds is in the stretch, of the type, and the first
module _ (test : List ℕ → Bool) (list : List (List ℕ)) (to from : ℕ) (inside : to ≤ length list) where
  whole : length (take to list) ≡ to
  whole = short_list test list to from inside

  module _ (r : ℕ) (e : place_from test (take to list) from ≡ Some r) where
    pub found_late : from ≤ r
    found_late = (placed test [] (take to list) from r e).late

    pub found_early : r < to
    found_early = omega (arith, (placed test [] (take to list) from r e).inside, whole)

    found_passes : test (get_or list r []) ≡ true
    found_passes = rw (get_or-take to list r [] found_early) at (placed test [] (take to list) from r e).passes

    found_none : (j : ℕ) → from ≤ j → j < r → test (get_or list j []) ≡ false
    found_none j a b = rw (get_or-take to list j [] (omega (arith, found_early))) at ((placed test [] (take to list) from r e).first j a b)

  no_hit : place_from test (take to list) from ≡ None → (j : ℕ) → from ≤ j → j < to → test (get_or list j []) ≡ false
  no_hit e j a b = rw (get_or-take to list j [] b) at (none_passes test [] (take to list) (to - from) from (omega (arith, whole)) e j a (omega (arith, whole)))

-- a test that picks from one place on picks from a later one on
pub picks_later : (want : Entry → Bool) (test : List ℕ → Bool) (list : List (List ℕ)) (i j to : ℕ) → i ≤ j → Picks want test list i to → Picks want test list j to
picks_later want test list i j to h k = record { before = λ n a b. k.before n (omega arith) b; behind = k.behind }

-- the stretch of a range that is not backwards is not backwards
pub ordered : (list : List (List ℕ)) (start end : ℕ) (p : Stretch) → Parts list start p.from → Parts list (end + 1) p.to → start ≤ end → p.from ≤ p.to
ordered list start end p a b h =
    ⊎_elim
    (λ (m : p.to < p.from). absurd (omega (arith, a.below p.to m, b.above p.to (omega arith) (omega (arith, a.inside)))))
    (λ (m : p.from ≤ p.to). m)
    (split p.to p.from)

-- a range and its stretch
module _ (list : List (List ℕ)) (start end : ℕ) (p : Stretch) (a : Parts list start p.from) (b : Parts list (end + 1) p.to) where
  within : (i : ℕ) → p.from ≤ i → i < p.to → is_within start end (entry_of (get_or list i [])) ≡ true
  within i f t =
      let l : i < length list = omega (arith, b.inside) in
      sym (not_low start end (get_or list i []) (a.above i f l)) ∙ le-leb (handle_of (get_or list i [])) end (omega (arith, b.below i t))

  without_before : (i : ℕ) → i < p.from → is_within start end (entry_of (get_or list i [])) ≡ false
  without_before i f = sym (low start end (get_or list i []) (a.below i f))

  without_behind : (i : ℕ) → p.to ≤ i → i < length list → is_within start end (entry_of (get_or list i [])) ≡ false
  without_behind i t l =
      ⊎_elim
      (λ (m : i < p.from). without_before i m)
      (λ (m : p.from ≤ i). sym (not_low start end (get_or list i []) (a.above i m l)) ∙ lt-leb (handle_of (get_or list i [])) end (omega (arith, b.above i t l)))
      (split i p.from)

  -- the entries of the range
  pub picks_all : Picks (is_within start end) any_record list p.from p.to
  picks_all = record { before = within; behind = without_behind }

  pub first_within : p.from < p.to → place_from (recorded (is_within start end)) list 0 ≡ Some p.from
  first_within l =
      at_first (recorded (is_within start end)) [] list p.from 0 p.from (omega arith) (omega (arith, b.inside))
      (λ j x y. without_before j y)
      (within p.from (omega arith) l)

  pub none_within : p.to ≤ p.from → place_from (recorded (is_within start end)) list 0 ≡ None
  none_within l = nowhere (recorded (is_within start end)) [] list 0 (λ j z m. ⊎_elim (λ (x : j < p.from). without_before j x) (λ (x : p.from ≤ j). without_behind j (omega arith) m) (split j p.from))

  -- and those of a type among them
  module _ (u : List ℕ) where
    wanted : (i : ℕ) → p.from ≤ i → i < p.to → is_wanted start end u (entry_of (get_or list i [])) ≡ is_of_type u (get_or list i [])
    wanted i f t = sym (inside start end (get_or list i []) u (within i f t))

    pub unwanted_before : (i : ℕ) → i < p.from → is_wanted start end u (entry_of (get_or list i [])) ≡ false
    unwanted_before i f = sym (outside start end (get_or list i []) u (without_before i f))

    unwanted_behind : (i : ℕ) → p.to ≤ i → i < length list → is_wanted start end u (entry_of (get_or list i [])) ≡ false
    unwanted_behind i t l = sym (outside start end (get_or list i []) u (without_behind i t l))

    pub picks_type : Picks (is_wanted start end u) (is_of_type u) list p.from p.to
    picks_type = record { before = wanted; behind = unwanted_behind }

    pub first_wanted : (r : ℕ) → place_from (is_of_type u) (take p.to list) p.from ≡ Some r → place_from (recorded (is_wanted start end u)) list 0 ≡ Some r
    first_wanted r e =
        let t = found_early (is_of_type u) list p.to p.from b.inside r e in
        at_first (recorded (is_wanted start end u)) [] list r 0 r (omega arith) (omega (arith, b.inside))
        (λ j x y.
        ⊎_elim
        (λ (m : j < p.from). unwanted_before j m)
        (λ (m : p.from ≤ j). wanted j m (omega arith) ∙ found_none (is_of_type u) list p.to p.from b.inside r e j m y)
        (split j p.from))
        (wanted r (found_late (is_of_type u) list p.to p.from b.inside r e) t ∙ found_passes (is_of_type u) list p.to p.from b.inside r e)

    pub none_wanted : place_from (is_of_type u) (take p.to list) p.from ≡ None → place_from (recorded (is_wanted start end u)) list 0 ≡ None
    none_wanted e =
        nowhere (recorded (is_wanted start end u)) [] list 0
        (λ j z l.
        ⊎_elim
        (λ (m : j < p.from). unwanted_before j m)
        (λ (m : p.from ≤ j). ⊎_elim (λ (y : j < p.to). wanted j m y ∙ no_hit (is_of_type u) list p.to p.from b.inside e j m y) (λ (y : p.to ≤ j). unwanted_behind j y l) (split j p.to))
        (split j p.from))

-- the short form of a UUID of two bytes, and of the Base UUID with two bytes in it
same_is : (u v : List ℕ) → same_uuid u v ≡ alike (wide u) (wide v)
unfolding same_uuid
same_is u v = refl

own_short : (u : List ℕ) → length u ≡ 2 → short_of u ≡ Some (word u 0)
unfolding short_of
own_short u l = rw (eq-eqb (length u) 2 l)

one_based : (x y : ℕ) → same_uuid (x ∷ y ∷ []) (based x y) ≡ true
unfolding same_uuid wide based
one_based x y = alike_self (based x y)

based_last : (x y : ℕ) → get_or (based x y) 15 0 ≡ 0
unfolding based
based_last x y = refl

based_short : (x y : ℕ) → short_of (based x y) ≡ Some (word (x ∷ y ∷ []) 0)
unfolding short_of based word both
based_short x y =
    let z : both (eqb (length (based x y)) 16) (same_uuid (take 2 (drop 12 (based x y))) (based x y)) ≡ true = one_based x y in
    rw z

pub short_word : (n : ℕ) → n ≡ unwrap_or (short_of (word_bytes n)) 0
unfolding word
short_word n = omega (arith, ap (λ (x : Option ℕ). unwrap_or x 0) (own_short (word_bytes n) refl))

-- a type and its short form: a record with a short UUID of that type has that number
module _ (r u : List ℕ) (lr : length r ≡ record_bytes) (s : get_or r 11 0 ≡ 2) where
  abbrev a : ℕ
  a = get_or (uuid_of r) 0 0

  abbrev b : ℕ
  b = get_or (uuid_of r) 1 0

  number : word (uuid_of r) 0 ≡ word r 12
  unfolding word
  number = rw (first r u lr s, second r u lr s)

  pair_number : word (a ∷ b ∷ []) 0 ≡ word r 12
  unfolding word
  pair_number = rw (first r u lr s, second r u lr s)

  pub short_form : is_of_type u r ≡ true → short_of u ≡ Some (word r 12)
  short_form e = by (eqb (length u) 2) refl
    where
      by : (t : Bool) → eqb (length u) 2 ≡ t → short_of u ≡ Some (word r 12)
      by true h =
          let l = eqb-true (length u) 2 h in
          let q : uuid_of r ≡ u = alike_eq _ _ (one_length (uuid_of r) u (short r u lr s ∙ sym l) ∙ e) in
          rw (← q) (own_short (uuid_of r) (short r u lr s) ∙ ap (λ (n : ℕ). Some n) number)
      by false h =
          let q : based a b ≡ u = sym (wide_short (uuid_of r) (short r u lr s)) ∙ alike_eq _ _ (sym (same_is (uuid_of r) u) ∙ e) ∙ wide_long u (eqb-false (length u) 2 h) in
          rw (← q) (based_short a b ∙ ap (λ (n : ℕ). Some n) pair_number)

-- the tests by the short form, and what they rule out
module _ (r u : List ℕ) (lr : length r ≡ record_bytes) where
  -- by its number
  pub may_not : (n : ℕ) → n ≡ unwrap_or (short_of u) 0 → may_be n r ≡ false → is_of_type u r ≡ false
  unfolding may_be
  may_not n v e = by (eqb (get_or r 11 0) 2) (is_of_type u r) refl refl
    where
      by : (t w : Bool) → eqb (get_or r 11 0) 2 ≡ t → is_of_type u r ≡ w → w ≡ false
      by t false h q = refl
      by true true h q =
          let f : n ≡ word r 12 = v ∙ ap (λ (x : Option ℕ). unwrap_or x 0) (short_form r u lr (eqb-true _ _ h) q) in
          absurd (eqb-false _ _ (rw h at e) (sym f))
      by false true h q = let z : true ≡ false = rw h at e in cc

  -- or by a long UUID where there is none
  pub match_not : (s : Option ℕ) → s ≡ short_of u → may_match s r ≡ false → is_of_type u r ≡ false
  unfolding may_match
  match_not (Some n) e f = may_not n (ap (λ (x : Option ℕ). unwrap_or x 0) e) f
  match_not None e f = by (is_of_type u r) refl
    where
      by : (w : Bool) → is_of_type u r ≡ w → w ≡ false
      by false q = refl
      by true q =
          let z = short_form r u lr (eqb-true (get_or r 11 0) 2 (not-false _ f)) q in
          cc

-- a UUID's short form, in the ways of its code
module _ (u : List ℕ) where
  pub short_own : length u ≡ 2 → (n : ℕ) → n ≡ word u 0 → Some n ≡ short_of u
  short_own l n e = rw (own_short u l, e)

  module _ (l : length u ≡ 16) where
    by_base : short_of u ≡ cond (same_uuid (take 2 (drop 12 u)) u) (Some (word u 12)) None
    unfolding short_of both
    by_base = rw (ne_eqb (length u) 2 (λ q. omega arith), eq-eqb (length u) 16 l)

    pub short_based : (t : Bool) → t ≡ same_uuid (take 2 (drop 12 u)) u → t ≡ true → (n : ℕ) → n ≡ word u 12 → Some n ≡ short_of u
    short_based t e h n q = rw (by_base, ← e, h, q)

    pub short_other : (t : Bool) → t ≡ same_uuid (take 2 (drop 12 u)) u → t ≡ false → None ≡ short_of u
    short_other t e h = rw (by_base, ← e, h)

    -- the Base UUID ends in 0
    pub short_last : (get_or u 15 0 ≡ 0 → ⊥) → None ≡ short_of u
    short_last h = short_other false (by (same_uuid (take 2 (drop 12 u)) u) refl) refl
      where
        by : (t : Bool) → same_uuid (take 2 (drop 12 u)) u ≡ t → false ≡ same_uuid (take 2 (drop 12 u)) u
        by true e =
            let m : length (take 2 (drop 12 u)) ≡ 2 = simp (length-take, length-drop) (omega arith) in
            let q : based (get_or (take 2 (drop 12 u)) 0 0) (get_or (take 2 (drop 12 u)) 1 0) ≡ u = sym (wide_short _ m) ∙ alike_eq _ _ (sym (same_is _ u) ∙ e) ∙ wide_long u (λ x. omega arith) in
            absurd (h (rw (← q) (based_last _ _)))
        by false e = sym e

  pub short_none : (length u ≡ 2 → ⊥) → (length u ≡ 16 → ⊥) → None ≡ short_of u
  unfolding short_of both
  short_none a b = rw (ne_eqb (length u) 2 a, ne_eqb (length u) 16 b)
