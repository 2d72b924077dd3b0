-- Where a value lies, in bytes, and what a span means. `proofs/Meaning.antt` shows that it is what the view shows.
-- Assumes nothing.
use Rattle.std.specs.Prelude.{ℕ, ◌+◌, ◌≤◌, ◌≡◌, true, false, cond, List, [], length, get_or, take, drop, Option, Some, None, Result, Ok, Err}
use Rattle.table_view.specs.Layout.{start_at, len_at}
use Rattle.table_view.specs.Rules.{accepts}
use Rattle.table_view.specs.Lookup.{index_place}
use Rattle.attribute.specs.Record.{attribute_of}
use Rattle.attribute.specs.Rules.{list_ok}
use Rattle.attribute.specs.Needs.{may_read}
use Rattle.attribute.specs.declared.Attribute.{Attribute}
use Rattle.attribute.specs.declared.Link.{Link}
use Rattle.model.specs.Value.{Contents, Bytes, Code}
use Rattle.model.specs.View.{if_met}
use Rattle.values.specs.declared.ValueSpan.{ValueSpan}
use Rattle.table_view.specs.declared.Place.{Place}
use Rattle.wire.specs.declared.att.AttError.{AttError}
use Rattle.wire.specs.declared.att.AttError.TheVariants.{AttributeNotFound}

-- a value, or the ATT error that stands for it
abbrev pub Located : Type 0
Located = Result ValueSpan AttError

-- the peer's own value, at its place in the table
unfoldable pub own_at : List ℕ → Option Place → Located
own_at t None = Err AttributeNotFound
own_at t (Some p) = Ok (record { client = true; start = start_at t p.0; len = len_at t p.0 })

unfoldable pub own_span : List ℕ → ℕ → Located
own_span t h = own_at t (index_place t h)

-- whoever asks
unfoldable pub value_span : List ℕ → Attribute → Located
value_span t a = cond a.client (own_span t a.handle) (Ok (record { client = false; start = a.start; len = a.len }))

-- permission first
unfoldable pub read_span : Link → List ℕ → Attribute → Located
read_span link t a = if_met (may_read a link) (value_span t a) Err

-- by place, after the lookup of the handle
unfoldable pub span_at : Link → List (List ℕ) → List ℕ → Option ℕ → Located
span_at link list t None = Err AttributeNotFound
span_at link list t (Some i) = read_span link t (attribute_of (get_or list i []))

-- the bytes that a span names
abbrev pub side_of : List ℕ → List ℕ → ValueSpan → List ℕ
side_of store t s = cond s.client t store

unfoldable pub span_bytes : List ℕ → List ℕ → ValueSpan → List ℕ
span_bytes store t s = take s.len (drop s.start (side_of store t s))

-- what was located, as the view has it
unfoldable pub contents_of : List ℕ → List ℕ → Located → Contents
contents_of store t (Err e) = Code e
contents_of store t (Ok s) = Bytes (span_bytes store t s)

-- a span that lies in its bytes
abbrev pub LiesInside : List ℕ → List ℕ → Located → Type 0
LiesInside store t (Err e) = Unit {0}
LiesInside store t (Ok s) = s.start + s.len ≤ length (side_of store t s)

-- what reading asks of the state: a right list, and an own table that the reading rules accept
pub record ReadyToRead (list : List (List ℕ)) (store : ℕ) (t : List ℕ) : Type 0 where
  pub right : list_ok list store ≡ true
  pub table : accepts t ≡ true
