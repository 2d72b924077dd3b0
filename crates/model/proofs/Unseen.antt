-- What a link may not read, its view does not show: the view is made of the entries, of the values that the link may
-- read, of the lengths of shared values and of the plain list that the peer's own table is; and an entry that can't be
-- read ends a list, without a byte of it. Assumes nothing.
use Rattle.std.specs.Prelude.{Ok, Err}
use mathlib.Core.Path.{◌≡◌, refl, ap, ap₂, ◌∙◌}
use mathlib.Core.Bool.{Bool, true, false, cond}
use mathlib.Core.List.{List, [], ◌∷◌, map}
use Prim.Native.Nat.{ℕ, zero, suc, ◌<◌}
use native.Mathlib.Omega.{arith}
use lib.ListN.{length, get_or}
use lib.Dec.{ltb}
use Rattle.wire.specs.First.{first}
use Rattle.table_view.specs.View.{Item, view, is_of}
use Rattle.attribute.specs.Record.{Entry, entry_of, attribute_of}
use Rattle.attribute.specs.Needs.{access_of, may_read, may_write, Access}
use Rattle.attribute.specs.declared.Link.{Link}
use Rattle.model.specs.Value.{Contents, Bytes, Code, shared_item, at_value, read_of, write_rule, item_write, write_of}
use Rattle.model.specs.View.{Seen, if_met, seen_by, seen_all}
use Rattle.model.specs.Run.{stop}
use Rattle.model.specs.Rows.{value_turn, row_turn}
use Rattle.model.specs.declared.Form.{Form}
use Rattle.wire.specs.declared.att.AttError.{AttError}
use Rattle.wire.specs.declared.att.AttError.TheVariants.{ReadNotPermitted, WriteNotPermitted, AttributeNotFound}

-- a code alone
pub hidden_read : (link : Link) (store table r : List ℕ) (c : AttError) → may_read (attribute_of r) link ≡ Err c → (seen_by link store table r).read ≡ Code c
unfolding seen_by
hidden_read link store table r c e = ap (λ (a : Access). if_met a (read_of store table (attribute_of r)) Code) e

-- what a link sees is made of the entry, the shared value, and the plain list that the peer's own table is
abbrev value_in : {X : Type 0} → (Item → X) → X → Item → List Item → Entry → X
value_in f d x own e = cond e.client (first (is_of e.handle) f d own) (f x)

abbrev read_in : Link → Item → List Item → Entry → Contents
read_in link x own e = if_met (access_of link ReadNotPermitted e.reads) (value_in (λ y. Bytes y.value) (Code AttributeNotFound) x own e) Code

abbrev write_in : Link → ℕ → ℕ → Item → List Item → Entry → Access
write_in link off n x own e = if_met (access_of link WriteNotPermitted e.writes) (value_in (item_write off n) (Err AttributeNotFound) x own e) Err

-- two records of one entry: one shared value where the link may read it, and one length wherever
pub record Alike (link : Link) (r r' s s' : List ℕ) : Type 0 where
  pub entry : entry_of r ≡ entry_of r'
  pub value : may_read (attribute_of r) link ≡ Ok tt → (attribute_of r).client ≡ false → shared_item s (attribute_of r) ≡ shared_item s' (attribute_of r')
  pub size : (attribute_of r).client ≡ false → length (shared_item s (attribute_of r)).value ≡ length (shared_item s' (attribute_of r')).value

value_same : {X : Type 0} (f : Item → X) (d : X) (x x' : Item) (own own' : List Item) (e : Entry) → own ≡ own' → (e.client ≡ false → f x ≡ f x')
    → value_in f d x own e ≡ value_in f d x' own' e
value_same f d x x' own own' e one same = by e.client same
  where
    by : (c : Bool) → (c ≡ false → f x ≡ f x') → cond c (first (is_of e.handle) f d own) (f x) ≡ cond c (first (is_of e.handle) f d own') (f x')
    by true h = ap (first (is_of e.handle) f d) one
    by false h = h refl

met_same : (a : Access) (x y : Contents) → (a ≡ Ok tt → x ≡ y) → if_met a x Code ≡ if_met a y Code
met_same (Ok tt) x y h = h refl
met_same (Err c) x y h = refl

-- with two tables that are one list
module _ (link : Link) (r r' s s' t t' : List ℕ) (own : view t ≡ view t') (k : Alike link r r' s s') where
  read_same : (seen_by link s t r).read ≡ (seen_by link s' t' r').read
  unfolding seen_by read_of at_value entry_of
  read_same =
      met_same (may_read (attribute_of r) link) _ _
      (λ m. value_same (λ y. Bytes y.value) (Code AttributeNotFound) (shared_item s (attribute_of r)) (shared_item s' (attribute_of r')) _ _ (entry_of r) own (λ c. ap (λ (x : Item). Bytes x.value) (k.value m c)))
      ∙ ap (read_in link (shared_item s' (attribute_of r')) (view t')) k.entry

  room_same : (attribute_of r).cap ≡ (attribute_of r').cap
  unfolding entry_of
  room_same = ap (λ (e : Entry). e.cap) k.entry

  write_same : (off n : ℕ) → (seen_by link s t r).write off n ≡ (seen_by link s' t' r').write off n
  unfolding seen_by write_of at_value shared_item entry_of
  write_same off n =
      ap (λ (a : Access). if_met (may_write (attribute_of r) link) a Err)
      (value_same (item_write off n) (Err AttributeNotFound) (shared_item s (attribute_of r)) (shared_item s' (attribute_of r')) _ _ (entry_of r) own
      (λ c. ap₂ (λ (len cap : ℕ). write_rule len cap off n) (k.size c) room_same))
      ∙ ap (write_in link off n (shared_item s' (attribute_of r')) (view t')) k.entry

  pub seen_same : seen_by link s t r ≡ seen_by link s' t' r'
  unfolding seen_by
  seen_same = λ i. record { entry = k.entry i; read = read_same i; write = λ off n. write_same off n i }

-- the whole view
map_same : {X : Type 0} (f g : List ℕ → X) (list list' : List (List ℕ)) → length list ≡ length list' → ((i : ℕ) → i < length list → f (get_or list i []) ≡ g (get_or list' i [])) → map f list ≡ map g list'
map_same f g [] [] n h = refl
map_same f g [] (r ∷ rs) n h = absurd (omega arith)
map_same f g (r ∷ rs) [] n h = absurd (omega arith)
map_same f g (r ∷ rs) (r' ∷ rs') n h = ap₂ ◌∷◌ (h zero (omega arith)) (map_same f g rs rs' (omega arith) (λ i l. h (suc i) (omega arith)))

pub all_seen_same : (link : Link) (list list' : List (List ℕ)) (s s' t t' : List ℕ) → view t ≡ view t' → length list ≡ length list'
    → ((i : ℕ) → i < length list → Alike link (get_or list i []) (get_or list' i []) s s')
    → seen_all link list s t ≡ seen_all link list' s' t'
all_seen_same link list list' s s' t t' own n h =
    map_same (seen_by link s t) (seen_by link s' t') list list' n (λ i l. seen_same link (get_or list i []) (get_or list' i []) s s' t t' own (h i l))

-- a list of the two reads by type ends at an entry that can't be read
hidden_row : (f : Form) (n : ℕ) (e : Entry) (es : List Entry) (room : ℕ) (c : AttError) (t : Bool) → cond t stop (value_turn f n e es room (Code c)) ≡ stop
unfolding value_turn
hidden_row f n e es room c true = refl
hidden_row f n e es room c false = refl

pub hidden_ends : (f : Form) (want : Entry → Bool) (n : ℕ) (s : Seen) (l : List Seen) (room : ℕ) (c : AttError) → want s.entry ≡ true → s.read ≡ Code c → row_turn f want n s l room ≡ stop
unfolding row_turn
hidden_ends f want n s l room c w e = rw (w, e) (hidden_row f n s.entry _ room c (ltb room _))
