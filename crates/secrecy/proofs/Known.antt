-- What is known of a list decides where a handle lies, which needs and capacities its entries have, the table that it
-- lays out, and what is known of it after a write. Assumes nothing.
use Rattle.std.specs.Prelude.{Option, Ok, Err}
use mathlib.Core.Path.{◌≡◌, refl, sym, ap, ◌∙◌}
use mathlib.Core.Bool.{Bool, true, false, cond}
use mathlib.Core.List.{List, [], ◌∷◌, map}
use Prim.Native.Nat.{ℕ, zero, suc, ◌+◌}
use lib.Dec.{eqb}
use lib.ListN.{length, get_or, set, length-map, get_or-map}
use Rattle.wire.specs.Size.{record_bytes}
use Rattle.wire.specs.Walk.{place_in}
use Rattle.table_builder.specs.AsList.{Push}
use Rattle.attribute.specs.Record.{Entry, entry_of, attribute_of, with_length}
use Rattle.attribute.specs.Lookup.{place_of, has_handle}
use Rattle.attribute.proofs.Kept.{fields_kept, known_kept}
use Rattle.state.specs.State.{State}
use Rattle.state.specs.Fresh.{clients_of, fresh_table}
use Rattle.model.specs.Value.{write_rule}
use Rattle.model.specs.Change.{if_granted, length_put, shared_list, put_at}
use Rattle.secrecy.specs.Agree.{Known, known_of}
use Rattle.attribute.specs.Needs.{Access}
use Rattle.peers.specs.declared.Seat.{Seat}

-- two lists with one picture
module _ {A B : Type 0} (f : A → B) where
  -- a walk by a test of pictures finds its place in the picture
  walk_map : (p : A → Bool) (q : B → Bool) → ((x : A) → p x ≡ q (f x)) → (l : List A) (i : ℕ) → place_in p l i ≡ place_in q (map f l) i
  unfolding place_in
  walk_map p q e [] i = refl
  walk_map p q e (x ∷ l) i = rw (e x, walk_map p q e l (suc i))

  map-set : (l : List A) (i : ℕ) (x : A) → map f (set l i x) ≡ set (map f l) i (f x)
  map-set [] i x = refl
  map-set (y ∷ l) zero x = refl
  map-set (y ∷ l) (suc i) x = ap (λ (r : List B). f y ∷ r) (map-set l i x)

  module _ (l l' : List A) (same : map f l ≡ map f l') where
    pub walk_same : (p : A → Bool) (q : B → Bool) → ((x : A) → p x ≡ q (f x)) → place_in p l 0 ≡ place_in p l' 0
    walk_same p q e = walk_map p q e l 0 ∙ ap (λ (ys : List B). place_in q ys 0) same ∙ sym (walk_map p q e l' 0)

    pub length_same : length l ≡ length l'
    length_same = sym (length-map l f) ∙ ap length same ∙ length-map l' f

    pub at_same : (d : A) (i : ℕ) → f (get_or l i d) ≡ f (get_or l' i d)
    at_same d i = sym (get_or-map f l i d) ∙ ap (λ (ys : List B). get_or ys i (f d)) same ∙ get_or-map f l' i d

    pub set_same : (i : ℕ) (x y : A) → f x ≡ f y → map f (set l i x) ≡ map f (set l' i y)
    set_same i x y e = map-set l i x ∙ (λ j. set (same j) i (e j)) ∙ sym (map-set l' i y)

-- the fields of two records of which the same is known
pub record SameFields (r r' : List ℕ) : Type 0 where
  pub entry : entry_of r ≡ entry_of r'
  pub handle : (attribute_of r).handle ≡ (attribute_of r').handle
  pub cap : (attribute_of r).cap ≡ (attribute_of r').cap
  pub reads : (attribute_of r).reads ≡ (attribute_of r').reads
  pub writes : (attribute_of r).writes ≡ (attribute_of r').writes
  pub variable : (attribute_of r).variable ≡ (attribute_of r').variable
  pub client : (attribute_of r).client ≡ (attribute_of r').client

pub entry_fields : (r r' : List ℕ) → entry_of r ≡ entry_of r' → SameFields r r'
unfolding entry_of
entry_fields r r' e =
    record {
      entry = e;
      handle = ap (λ (x : Entry). x.handle) e;
      cap = ap (λ (x : Entry). x.cap) e;
      reads = ap (λ (x : Entry). x.reads) e;
      writes = ap (λ (x : Entry). x.writes) e;
      variable = ap (λ (x : Entry). x.variable) e;
      client = ap (λ (x : Entry). x.client) e;
    }

known_entry : (r r' : List ℕ) → known_of r ≡ known_of r' → entry_of r ≡ entry_of r'
unfolding known_of
known_entry r r' e = ap (λ (k : Known). k.entry) e

known_length : (r r' : List ℕ) → known_of r ≡ known_of r' → (attribute_of r).client ≡ false → (attribute_of r).len ≡ (attribute_of r').len
unfolding known_of
known_length r r' e c =
    let c' = sym (entry_fields r r' (known_entry r r' e)).client ∙ c in
    rw (c, c') at (ap (λ (k : Known). k.len) e)

-- the handle is known
handle_known : (h : ℕ) (r : List ℕ) → has_handle h r ≡ eqb (known_of r).entry.handle h
unfolding known_of entry_of attribute_of
handle_known h r = refl

-- the pushes that lay out the table are known
pushes_of : List Known → List Push
pushes_of [] = []
pushes_of (k ∷ ks) = let e = k.entry in cond e.client (record { key = e.handle; size = e.cap; variable = e.variable } ∷ pushes_of ks) (pushes_of ks)

clients_known : (list : List (List ℕ)) → clients_of list ≡ pushes_of (map known_of list)
unfolding clients_of known_of entry_of pushes_of
clients_known [] = refl
clients_known (r ∷ rs) = rw (clients_known rs)

module _ (list list' : List (List ℕ)) (same : map known_of list ≡ map known_of list') where
  pub places_same : (h : ℕ) → place_of list h ≡ place_of list' h
  places_same h = walk_same known_of list list' same (has_handle h) (λ k. eqb k.entry.handle h) (handle_known h)

  pub fields_same : (i : ℕ) → SameFields (get_or list i []) (get_or list' i [])
  fields_same i = entry_fields _ _ (known_entry _ _ (at_same known_of list list' same [] i))

  pub lengths_same : (i : ℕ) → (attribute_of (get_or list i [])).client ≡ false → (attribute_of (get_or list i [])).len ≡ (attribute_of (get_or list' i [])).len
  lengths_same i c = known_length _ _ (at_same known_of list list' same [] i) c

  pub fresh_same : fresh_table list ≡ fresh_table list'
  unfolding fresh_table
  fresh_same = rw (clients_known list, clients_known list', same)

-- what is known after a write: of the entry that is written, the new length
resized_known : (r : List ℕ) (n : ℕ) → length r ≡ record_bytes → (attribute_of r).client ≡ false → known_of (with_length r n) ≡ record { entry = entry_of r; len = n }
unfolding known_of
resized_known r n l c = rw (known_kept r n l, fields_kept r n l, c)

-- both lists are written, or both stay
one_way : (c c' v v' : Bool) (g g' : Access) (l l' new new' : List (List ℕ)) → c ≡ c' → v ≡ v' → (c ≡ false → g ≡ g') → map known_of l ≡ map known_of l' → (c ≡ false → map known_of new ≡ map known_of new')
    → map known_of (cond c l (if_granted g (cond v new l) l)) ≡ map known_of (cond c' l' (if_granted g' (cond v' new' l') l'))
one_way c c' v v' g g' l l' new new' ec ev eg old e = rw (← ec, ← ev) (by c v eg e)
  where
    met : (v : Bool) (r : Access) → map known_of new ≡ map known_of new' → map known_of (if_granted r (cond v new l) l) ≡ map known_of (if_granted r (cond v new' l') l')
    met v (Err n) k = old
    met true (Ok tt) k = k
    met false (Ok tt) k = old

    by : (c v : Bool) → (c ≡ false → g ≡ g') → (c ≡ false → map known_of new ≡ map known_of new') → map known_of (cond c l (if_granted g (cond v new l) l)) ≡ map known_of (cond c l' (if_granted g' (cond v new' l') l'))
    by true v h k = old
    by false v h k = rw (← h refl) (met v g (k refl))

module _ (a b : State) (same : map known_of a.list ≡ map known_of b.list) (slot : Option Seat) (i off : ℕ) (d : List ℕ)
    (size : length (get_or a.list i []) ≡ record_bytes) (size' : length (get_or b.list i []) ≡ record_bytes) where
  abbrev r : List ℕ
  r = get_or a.list i []

  abbrev r' : List ℕ
  r' = get_or b.list i []

  f : SameFields r r'
  f = fields_same a.list b.list same i

  resized_same : (attribute_of r).client ≡ false → map known_of (set a.list i (with_length r (off + length d))) ≡ map known_of (set b.list i (with_length r' (off + length d)))
  resized_same c =
      set_same known_of a.list b.list same i _ _
      (resized_known r (off + length d) size c
      ∙ (λ j. record { entry = f.entry j; len = off + length d })
      ∙ sym (resized_known r' (off + length d) size' (sym f.client ∙ c)))

  rule_same : (attribute_of r).client ≡ false → write_rule (attribute_of r).len (attribute_of r).cap off (length d) ≡ write_rule (attribute_of r').len (attribute_of r').cap off (length d)
  rule_same c = rw (lengths_same a.list b.list same i c, f.cap)

  pub put_known : map known_of (put_at a slot i off d).list ≡ map known_of (put_at b slot i off d).list
  unfolding put_at shared_list length_put
  put_known =
      one_way (attribute_of r).client (attribute_of r').client (attribute_of r).variable (attribute_of r').variable _ _ a.list b.list _ _ f.client f.variable rule_same same resized_same
