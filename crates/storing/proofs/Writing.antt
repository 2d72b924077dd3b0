-- Laws of a write by place and by handle: the answer that the link's view gives, and what stands after it. Assumes
-- nothing.
use Rattle.std.specs.Prelude.{Option, Some, None, Ok, Err}
use mathlib.Core.Path.{◌≡◌, refl, sym, ◌∙◌}
use mathlib.Core.Bool.{Bool, true, false, cond}
use mathlib.Core.List.{List, []}
use Prim.Native.Nat.{ℕ, ◌<◌}
use native.Mathlib.Omega.{arith}
use lib.ListN.{length, get_or, drop, length-drop}
use lib.Seq.{length-take-le}
use Rattle.attribute.specs.Record.{attribute_of}
use Rattle.attribute.specs.Lookup.{place_of}
use Rattle.attribute.specs.Needs.{may_write, Access}
use Rattle.attribute.specs.Rules.{list_ok}
use Rattle.attribute.specs.declared.Attribute.{Attribute}
use Rattle.attribute.specs.declared.Link.{Link}
use Rattle.attribute.proofs.Shape.{shared}
use Rattle.state.specs.State.{Becomes}
use Rattle.model.specs.Value.{shared_item, at_value, own_write, write_of}
use Rattle.model.specs.View.{Seen, seen_by, seen_all, table_at, write_at}
use Rattle.model.specs.Change.{own_tables, put_at, written}
use Rattle.model.proofs.Looking.{seen_at, seen_nowhere}
use Rattle.model.proofs.States.{same_state}
use Rattle.storing.proofs.Putting.{Put}
use Rattle.peers.specs.declared.Seat.{Seat}
use Rattle.wire.specs.declared.att.AttError.{AttError}
use Rattle.wire.specs.declared.att.AttError.TheVariants.{AttributeNotFound}

-- a shared value has as many bytes as its entry says
pub item_length : (list : List (List ℕ)) (store : List ℕ) → list_ok list (length store) ≡ true → (i : ℕ) → i < length list → (attribute_of (get_or list i [])).client ≡ false
    → length (shared_item store (attribute_of (get_or list i []))).value ≡ (attribute_of (get_or list i [])).len
unfolding shared_item
item_length list store ok i l c =
    let a = attribute_of (get_or list i []) in
    let g = shared list (length store) ok i l c in
    length-take-le a.len (drop a.start store) (rw (length-drop a.start store) (omega (arith, g.inside, g.len)))

second : {A : Type 0} (t : Bool) (x y : A) → t ≡ false → y ≡ cond t x y
second t x y e = rw e

-- by place
module _ (list : List (List ℕ)) (store : List ℕ) (ts : List (List ℕ)) (slot : Option Seat) (i off : ℕ) (d : List ℕ) (a : Attribute) (is : a ≡ attribute_of (get_or list i [])) where
  pub own_put : a.client ≡ true → (r : Access) (ts' : List (List ℕ)) → r ≡ own_write (table_at ts slot) a.handle off (length d) → ts' ≡ own_tables ts slot a.handle off d
      → (r ≡ write_of store (table_at ts slot) (attribute_of (get_or list i [])) off (length d)) × Becomes (λ s. put_at s slot i off d) list store ts list store ts'
  unfolding write_of at_value put_at
  own_put t r ts' p q =
      let u = rw is at t in
      let v = rw is at p in
      let w = rw is at q in
      rw u (v, λ row. same_state row refl refl w)

  pub shared_put : i < length list → list_ok list (length store) ≡ true → a.client ≡ false → (r : Access) (list' : List (List ℕ)) (store' : List ℕ)
      → Put list store i off d r list' store'
      → (r ≡ write_of store (table_at ts slot) (attribute_of (get_or list i [])) off (length d)) × Becomes (λ s. put_at s slot i off d) list store ts list' store' ts
  unfolding write_of at_value shared_item put_at
  shared_put l ok t r list' store' p =
      let u = rw is at t in
      let m = item_length list store ok i l u in (
        p.0 ∙ rw (u, m),
        λ row.
            same_state row (p.1 ∙ second (attribute_of (get_or list i [])).client _ _ u) (p.2 ∙ second (attribute_of (get_or list i [])).client _ _ u)
            (second (attribute_of (get_or list i [])).client _ _ u),
      )

-- by handle
module _ (link : Link) (list : List (List ℕ)) (store : List ℕ) (ts : List (List ℕ)) (slot : Option Seat) (h off : ℕ) (d : List ℕ) where
  pub not_listed : place_of list h ≡ None
      → (Err AttributeNotFound ≡ write_at h off (length d) (seen_all link list store (table_at ts slot))) × Becomes (λ s. written link s slot h off d) list store ts list store ts
  unfolding write_at
  not_listed e =
      (sym (seen_nowhere link list store (table_at ts slot) h (λ (s : Seen). s.write off (length d)) (Err AttributeNotFound) e), rw e (λ row. refl))

  module _ (i : ℕ) (e : place_of list h ≡ Some i) where
    at_place_lem : write_at h off (length d) (seen_all link list store (table_at ts slot)) ≡ (seen_by link store (table_at ts slot) (get_or list i [])).write off (length d)
    unfolding write_at
    at_place_lem = seen_at link list store (table_at ts slot) h (λ (s : Seen). s.write off (length d)) (Err AttributeNotFound) i e

    pub not_met : (c : AttError) → may_write (attribute_of (get_or list i [])) link ≡ Err c
        → (Err c ≡ write_at h off (length d) (seen_all link list store (table_at ts slot))) × Becomes (λ s. written link s slot h off d) list store ts list store ts
    unfolding seen_by
    not_met c m = (sym (at_place_lem ∙ rw m), rw (e, m) (λ row. refl))

    pub met : may_write (attribute_of (get_or list i [])) link ≡ Ok tt → (r : Access) (list' : List (List ℕ)) (store' : List ℕ) (ts' : List (List ℕ))
        → (r ≡ write_of store (table_at ts slot) (attribute_of (get_or list i [])) off (length d)) × Becomes (λ s. put_at s slot i off d) list store ts list' store' ts'
        → (r ≡ write_at h off (length d) (seen_all link list store (table_at ts slot))) × Becomes (λ s. written link s slot h off d) list store ts list' store' ts'
    unfolding seen_by
    met m r list' store' ts' p = (p.0 ∙ sym (at_place_lem ∙ rw m), rw (e, m) p.1)
