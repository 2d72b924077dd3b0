-- The straight walk and the plain one of `specs/Lookup.antt` find the same in an accepted table; and what a place that
-- is found has. Assumes nothing.
use Rattle.std.specs.Prelude.{Option, Some, None}
use mathlib.Core.Path.{◌≡◌, refl, sym}
use mathlib.Core.Bool.{Bool, true, false, cond}
use mathlib.Core.List.{List}
use mathlib.Core.Logic.{⊎_elim}
use Prim.Native.Nat.{ℕ, zero, suc, ◌+◌, ◌≤◌, ◌<◌}
use native.Mathlib.Omega.{arith}
use native.Mathlib.Nat.{eq-or-lt_of_le}
use lib.Dec.{eqb}
use borrow.Author.Tests.{eq-eqb, ne_eqb, eqb-true}
use Rattle.wire.proofs.Tests.{split}
use Rattle.table_view.specs.Layout.{count_of, key_at}
use Rattle.table_view.specs.Rules.{accepts}
use Rattle.table_view.specs.Lookup.{place_from, index_place, sought_index}
use Rattle.table_view.specs.Walk.{ComesTo, StopsAt}
use Rattle.table_view.specs.declared.Place.{Place}
use Rattle.table_view.proofs.Shape.{ascends}

module _ (bs : List ℕ) (k : ℕ) where
  -- the plain walk comes to p first
  walk_at : (n i p : ℕ) → i ≤ p → p < i + n → key_at bs p ≡ k → ((j : ℕ) → j < p → key_at bs j ≡ k → ⊥) → place_from bs k n i ≡ Some (record { 0 = p })
  unfolding place_from
  walk_at zero i p a b e f = absurd (omega arith)
  walk_at (suc n) i p a b e f =
      ⊎_elim
      (λ (s : i ≡ p). rw (s, eq-eqb _ _ e))
      (λ (l : i < p). rw (ne_eqb _ _ (f i l)) (walk_at n (suc i) p l (omega arith) e f))
      (eq-or-lt_of_le a)

  -- the plain walk comes to none
  walk_none : (n i : ℕ) → ((j : ℕ) → j < i + n → key_at bs j ≡ k → ⊥) → place_from bs k n i ≡ None
  unfolding place_from
  walk_none zero i f = refl
  walk_none (suc n) i f =
      rw (ne_eqb _ _ (f i (omega arith))) (walk_none n (suc i) (λ j l. f j (omega arith)))

  -- the index holds no key of 0x8000 or more
  pub no_high_key : 32768 ≤ k → index_place bs k ≡ None
  unfolding index_place
  no_high_key h = walk_none (count_of bs) 0 (λ j l e. omega arith)

  -- the straight walk: it starts, goes on past a key below k, and stops
  pub comes_first : ComesTo bs k 0
  comes_first = record { inside = omega arith; below = λ j l. absurd (omega arith) }

  pub comes_on : (i : ℕ) → ComesTo bs k i → i < count_of bs → key_at bs i < k → ComesTo bs k (i + 1)
  comes_on i w h l =
      record {
        inside = omega arith;
        below =
            λ j b.
            let m : j ≤ i = omega arith in
            ⊎_elim (λ (s : j ≡ i). rw s l) (λ (q : j < i). w.below j q) (eq-or-lt_of_le m);
      }

  -- where it stops for k, a walk for a greater key comes by
  pub comes_by : (i k' : ℕ) → StopsAt bs k i → k ≤ k' → ComesTo bs k' i
  comes_by i k' w h =
      record { inside = w.comes.inside; below = λ j b. let l = w.comes.below j b in omega arith }

  -- where it stops, the plain walk finds the key, or it finds none
  found : (p : ℕ) → StopsAt bs k p → p < count_of bs → key_at bs p ≡ k → Some (record { 0 = p }) ≡ index_place bs k
  unfolding index_place
  found p w h e =
      sym (walk_at (count_of bs) 0 p (omega arith) (omega arith) e (λ j l q. let b = w.comes.below j l in omega arith))

  missing : (p : ℕ) → accepts bs ≡ true → StopsAt bs k p → (p < count_of bs → key_at bs p ≡ k → ⊥) → None ≡ index_place bs k
  unfolding index_place
  missing p ok w other =
      sym (walk_none (count_of bs) 0
      (λ j l e.
      ⊎_elim
      (λ (s : j < p). let b = w.comes.below j s in omega arith)
      (λ (s : p ≤ j).
      ⊎_elim
      (λ (q : p ≡ j). other (omega arith) (rw q e))
      (λ (q : p < j).
      let a = ascends bs ok p j q (omega arith) in
      let r = w.reached (omega arith) in
      omega arith)
      (eq-or-lt_of_le s))
      (split j p)))

  -- it stops at the key, at one above it, or at the index's end: what it answers, as a lookup
  module _ (p : Place) (ok : accepts bs ≡ true) (w : ComesTo bs k p.0) where
    pub stops_on_key : p.0 < count_of bs → key_at bs p.0 ≡ k → StopsAt bs k p.0 × (Some p ≡ index_place bs k)
    stops_on_key h e =
        let s : StopsAt bs k p.0 = record { comes = w; reached = λ i. omega arith } in
        (s, found p.0 s h e)

    pub stops_above_key : k < key_at bs p.0 → StopsAt bs k p.0 × (None ≡ index_place bs k)
    stops_above_key l =
        let s : StopsAt bs k p.0 = record { comes = w; reached = λ i. omega arith } in
        (s, missing p.0 ok s (λ i q. omega arith))

    pub stops_at_end : count_of bs ≤ p.0 → StopsAt bs k p.0 × (None ≡ index_place bs k)
    stops_at_end h =
        let s : StopsAt bs k p.0 = record { comes = w; reached = λ i. absurd (omega arith) } in
        (s, missing p.0 ok s (λ i. absurd (omega arith)))

-- a place that the plain walk finds is one of the index, and has the key
pub record KeyPlaced (bs : List ℕ) (k i : ℕ) : Type 0 where
  pub inside : i < count_of bs
  pub key : key_at bs i ≡ k

module _ (bs : List ℕ) (k : ℕ) where
  tested : (i : ℕ) (p : Place) (f : Option Place) (t : Bool) → i < count_of bs → eqb (key_at bs i) k ≡ t → cond t (Some (record { 0 = i })) f ≡ Some p → (f ≡ Some p → KeyPlaced bs k p.0) → KeyPlaced bs k p.0
  tested i p f true l t h go =
      let s : i ≡ p.0 = cc in
      rw (← s) (record { inside = l; key = eqb-true _ _ t })
  tested i p f false l t h go = go h

  walked : (n i : ℕ) (p : Place) → i + n ≡ count_of bs → place_from bs k n i ≡ Some p → KeyPlaced bs k p.0
  unfolding place_from
  walked zero i p e h = let z : ◌≡◌ {A = ℕ} 0 1 = cc in absurd (omega arith)
  walked (suc n) i p e h = tested i p _ (eqb (key_at bs i) k) (omega arith) refl h (walked n (suc i) p (omega arith))

  pub placed : (p : Place) → index_place bs k ≡ Some p → KeyPlaced bs k p.0
  unfolding index_place
  placed p h = walked (count_of bs) 0 p (omega arith) h

-- equal tellings are equal answers: of a lookup there is one
pub one_index : (f g : Option Place) → sought_index f ≡ sought_index g → f ≡ g
one_index (Some p) (Some q) e = let s : p.0 ≡ q.0 = cc in λ i. Some (record { 0 = s i })
one_index (Some p) None e = let z : ◌≡◌ {A = ℕ} 0 1 = cc in absurd (omega arith)
one_index None (Some q) e = let z : ◌≡◌ {A = ℕ} 0 1 = cc in absurd (omega arith)
one_index None None e = refl
