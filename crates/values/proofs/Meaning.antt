-- What is located is what the view shows, and it lies in its bytes. Assumes nothing.
use Rattle.std.specs.Prelude.{Option, Some, None, Ok, Err}
use mathlib.Core.Path.{◌≡◌, refl, sym, ◌∙◌}
use mathlib.Core.Bool.{Bool, true, false, cond}
use mathlib.Core.List.{List, []}
use Prim.Native.Nat.{ℕ, ◌+◌, ◌≤◌, ◌<◌}
use native.Mathlib.Omega.{arith}
use lib.ListN.{length, get_or, take, drop, length-drop}
use lib.Seq.{length-take-le}
use Rattle.wire.specs.First.{first}
use Rattle.wire.proofs.Walk.{placed}
use Rattle.table_view.specs.Layout.{value_at}
use Rattle.table_view.specs.Rules.{accepts}
use Rattle.table_view.specs.Lookup.{index_place as key_place}
use Rattle.table_view.specs.View.{Item, view, is_of, item_at}
use Rattle.table_view.proofs.Items.{at_place, first_place}
use Rattle.table_view.proofs.Search.{placed as key-placed}
use Rattle.table_view.proofs.Shape.{fits, entry_at}
use Rattle.attribute.specs.Record.{attribute_of}
use Rattle.attribute.specs.Rules.{list_ok}
use Rattle.attribute.specs.Lookup.{place_of, has_handle}
use Rattle.attribute.specs.Needs.{may_read, Access}
use Rattle.attribute.specs.declared.Attribute.{Attribute}
use Rattle.attribute.specs.declared.Link.{Link}
use Rattle.attribute.proofs.Shape.{shared}
use Rattle.model.specs.Value.{Contents, Bytes, Code, shared_item, at_value, read_of}
use Rattle.model.specs.View.{Seen, if_met, seen_by, seen_all, read_at}
use Rattle.model.proofs.Looking.{seen_at, seen_nowhere}
use Rattle.values.specs.declared.ValueSpan.{ValueSpan}
use Rattle.values.specs.Locate.{own_at, own_span, value_span, read_span, span_at, side_of, span_bytes, contents_of, LiesInside, Located}
use Rattle.table_view.specs.declared.Place.{Place}
use Rattle.wire.specs.declared.att.AttError.TheVariants.{AttributeNotFound}

module _ (store t : List ℕ) where
  at_place_lem : (f : Option Place) → contents_of store t (own_at t f) ≡ at_place f (λ (j : ℕ). Bytes (item_at t j).value) (Code AttributeNotFound)
  unfolding contents_of own_at span_bytes item_at value_at
  at_place_lem None = refl
  at_place_lem (Some p) = refl

  own_got : (h : ℕ) → contents_of store t (own_span t h) ≡ first (is_of h) (λ (x : Item). Bytes x.value) (Code AttributeNotFound) (view t)
  unfolding own_span
  own_got h = at_place_lem (key_place t h) ∙ sym (first_place t h (λ (x : Item). Bytes x.value) (Code AttributeNotFound))

  pub value_got : (a : Attribute) → contents_of store t (value_span t a) ≡ read_of store t a
  unfolding value_span read_of at_value shared_item contents_of span_bytes
  value_got a = by a.client
    where
      by : (b : Bool) → contents_of store t (cond b (own_span t a.handle) (Ok (record { client = false; start = a.start; len = a.len }))) ≡ cond b (first (is_of a.handle) (λ (x : Item). Bytes x.value) (Code AttributeNotFound) (view t)) (Bytes (take a.len (drop a.start store)))
      by true = own_got a.handle
      by false = refl

  met_got : (m : Access) (l : Located) (g : Contents) → contents_of store t l ≡ g → contents_of store t (if_met m l Err) ≡ if_met m g Code
  unfolding contents_of
  met_got (Ok tt) l g e = e
  met_got (Err c) l g e = refl

  module _ (link : Link) where
    pub at_got : (r : List ℕ) → contents_of store t (read_span link t (attribute_of r)) ≡ (seen_by link store t r).read
    unfolding read_span seen_by
    at_got r = met_got (may_read (attribute_of r) link) _ _ (value_got (attribute_of r))

    none : contents_of store t (Err AttributeNotFound) ≡ Code AttributeNotFound
    unfolding contents_of
    none = refl

    pub got : (list : List (List ℕ)) (h : ℕ) → contents_of store t (span_at link list t (place_of list h)) ≡ read_at h (seen_all link list store t)
    unfolding read_at span_at
    got list h = by (place_of list h) refl
      where
        by : (f : Option ℕ) → place_of list h ≡ f → contents_of store t (span_at link list t f) ≡ read_at h (seen_all link list store t)
        by None e = none ∙ sym (seen_nowhere link list store t h (λ (s : Seen). s.read) (Code AttributeNotFound) e)
        by (Some i) e = at_got (get_or list i []) ∙ sym (seen_at link list store t h (λ (s : Seen). s.read) (Code AttributeNotFound) i e)

-- the length of a span that lies in its bytes
pub span_length : (store t : List ℕ) (s : ValueSpan) → s.start + s.len ≤ length (side_of store t s) → length (span_bytes store t s) ≡ s.len
unfolding span_bytes
span_length store t s h = length-take-le s.len (drop s.start (side_of store t s)) (simp length-drop (omega arith))

module _ (store t : List ℕ) (ok : accepts t ≡ true) where
  own_inside : (h : ℕ) (f : Option Place) → key_place t h ≡ f → LiesInside store t (own_at t f)
  unfolding own_at
  own_inside h None e = tt
  own_inside h (Some p) e =
      let i = (key-placed t h p e).inside in
      let k = entry_at t ok p.0 i in
      omega (arith, fits t ok, k.len, k.within, k.room)

  module _ (list : List (List ℕ)) (right : list_ok list (length store) ≡ true) (i : ℕ) (l : i < length list) where
    pub value_inside : LiesInside store t (value_span t (attribute_of (get_or list i [])))
    unfolding value_span own_span
    value_inside = by (attribute_of (get_or list i [])).client refl
      where
        by : (b : Bool) → (attribute_of (get_or list i [])).client ≡ b → LiesInside store t (cond b (own_span t (attribute_of (get_or list i [])).handle) (Ok (record { client = false; start = (attribute_of (get_or list i [])).start; len = (attribute_of (get_or list i [])).len })))
        by true e = own_inside (attribute_of (get_or list i [])).handle (key_place t (attribute_of (get_or list i [])).handle) refl
        by false e = let s = shared list (length store) right i l e in omega (arith, s.inside, s.len)

    met_inside : (m : Access) → LiesInside store t (if_met m (value_span t (attribute_of (get_or list i []))) Err)
    met_inside (Ok tt) = value_inside
    met_inside (Err c) = tt

    pub at_inside : (link : Link) → LiesInside store t (read_span link t (attribute_of (get_or list i [])))
    unfolding read_span
    at_inside link = met_inside (may_read (attribute_of (get_or list i [])) link)

  pub inside : (list : List (List ℕ)) → list_ok list (length store) ≡ true → (link : Link) (h : ℕ) → LiesInside store t (span_at link list t (place_of list h))
  unfolding span_at
  inside list right link h = by (place_of list h) refl
    where
      by : (f : Option ℕ) → place_of list h ≡ f → LiesInside store t (span_at link list t f)
      by None e = tt
      by (Some i) e = at_inside list right i (placed (has_handle h) [] list 0 i e).inside link
