-- The ways of the lookup's code, in its order. Assumes nothing.
use Rattle.std.specs.Prelude.{Option, Some, None, Ok, Err}
use mathlib.Core.Path.{◌≡◌}
use mathlib.Core.Bool.{true, false}
use mathlib.Core.List.{List, []}
use Prim.Native.Nat.{ℕ}
use lib.ListN.{get_or}
use Rattle.table_view.specs.Layout.{start_at, len_at}
use Rattle.table_view.specs.Lookup.{index_place}
use Rattle.table_view.specs.declared.Place.{Place}
use Rattle.attribute.specs.Record.{attribute_of}
use Rattle.attribute.specs.Needs.{may_read}
use Rattle.attribute.specs.declared.Attribute.{Attribute}
use Rattle.attribute.specs.declared.Link.{Link}
use Rattle.values.specs.Locate.{own_at, own_span, value_span, read_span, span_at}
use Rattle.wire.specs.declared.att.AttError.{AttError}
use Rattle.wire.specs.declared.att.AttError.TheVariants.{AttributeNotFound}

module _ (t : List ℕ) (h : ℕ) where
  pub none_own : index_place t h ≡ None → Err AttributeNotFound ≡ own_span t h
  unfolding own_span own_at
  none_own e = rw e

  pub one_own : (p : Place) (from n : ℕ) → index_place t h ≡ Some p → from ≡ start_at t p.0 → n ≡ len_at t p.0 → Ok (record { client = true; start = from; len = n }) ≡ own_span t h
  unfolding own_span own_at
  one_own p from n e a b = rw (e, a, b)

module _ (t : List ℕ) (a : Attribute) where
  pub of_client : a.client ≡ true → own_span t a.handle ≡ value_span t a
  unfolding value_span
  of_client e = rw e

  pub of_store : a.client ≡ false → Ok (record { client = false; start = a.start; len = a.len }) ≡ value_span t a
  unfolding value_span
  of_store e = rw e

  pub may : (link : Link) → may_read a link ≡ Ok tt → value_span t a ≡ read_span link t a
  unfolding read_span
  may link e = rw e

  pub may_not : (link : Link) (c : AttError) → may_read a link ≡ Err c → Err c ≡ read_span link t a
  unfolding read_span
  may_not link c e = rw e

module _ (link : Link) (list : List (List ℕ)) (t : List ℕ) (f : Option ℕ) where
  pub absent : f ≡ None → Err AttributeNotFound ≡ span_at link list t f
  unfolding span_at
  absent e = rw e

  pub listed : (i : ℕ) → f ≡ Some i → read_span link t (attribute_of (get_or list i [])) ≡ span_at link list t f
  unfolding span_at
  listed i e = rw e
