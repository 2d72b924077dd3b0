-- Laws of the rule for a write and of a shared value: what a granted write has room for, and what stands after it.
-- Assumes nothing.
use Rattle.std.specs.Prelude.{Ok, Err}
use mathlib.Core.Path.{◌≡◌, refl}
use mathlib.Core.Bool.{Bool, true, false, cond}
use mathlib.Core.List.{List, []}
use Prim.Native.Nat.{ℕ, ◌+◌, ◌≤◌, ◌<◌}
use lib.ListN.{length, get_or, set}
use lib.Seq.{sets}
use lib.Dec.{ltb}
use borrow.Author.Tests.{ltb-false}
use Rattle.wire.specs.Size.{value_bytes}
use Rattle.attribute.specs.Record.{attribute_of, with_length}
use Rattle.attribute.specs.Rules.{list_ok}
use Rattle.attribute.specs.declared.Attribute.{Attribute}
use Rattle.attribute.proofs.Shape.{entry, shared}
use Rattle.model.specs.Value.{write_rule}
use Rattle.model.specs.Change.{length_put, shared_list, shared_store}
use Rattle.attribute.specs.Needs.{Access}
use Rattle.wire.specs.declared.att.AttError.{AttError}

-- a write that is granted has room
passed : (t : Bool) (c : AttError) (b : Access) → cond t (Err c) b ≡ Ok tt → (t ≡ false) × (b ≡ Ok tt)
passed true c b h = absurd (cc)
passed false c b h = (refl, h)

pub has_room : (len cap off n : ℕ) → write_rule len cap off n ≡ Ok tt → off + n ≤ cap
unfolding write_rule
has_room len cap off n h =
    let h1 = passed (ltb len off) _ _ h in
    let h2 = passed (ltb cap (off + n)) _ _ h1.1 in
    ltb-false _ _ h2.0

-- n bytes at an offset lie within the value, and that within the store
pub record Room (a : Attribute) (store off n : ℕ) : Type 0 where
  pub value : off + n ≤ a.cap
  pub cap : a.cap ≤ value_bytes
  pub inside : a.start + a.cap ≤ store

pub room : (list : List (List ℕ)) (store i : ℕ) → i < length list → list_ok list store ≡ true → (attribute_of (get_or list i [])).client ≡ false → (a : Attribute) → a ≡ attribute_of (get_or list i []) → (off n : ℕ) → write_rule a.len a.cap off n ≡ Ok tt → Room a store off n
room list store i l ok s a is off n h =
    let e = entry list store ok i l in
    let g = shared list store ok i l s in
    record { value = has_room _ _ _ _ h; cap = rw is e.cap; inside = rw is g.inside }

-- a write to a shared value: the answer, and what stands then in the list and in the store
abbrev pub Put : List (List ℕ) → List ℕ → ℕ → ℕ → List ℕ → Access → List (List ℕ) → List ℕ → Type 0
Put list store i off d r list' store' =
    (r ≡ write_rule (attribute_of (get_or list i [])).len (attribute_of (get_or list i [])).cap off (length d))
    × (list' ≡ shared_list list i (attribute_of (get_or list i [])) off (length d))
    × (store' ≡ shared_store store (attribute_of (get_or list i [])) off d)

module _ (list : List (List ℕ)) (store : List ℕ) (i off : ℕ) (d : List ℕ) (a : Attribute) (is : a ≡ attribute_of (get_or list i [])) where
  pub refused : (c : AttError) → write_rule a.len a.cap off (length d) ≡ Err c → Put list store i off d (Err c) list store
  unfolding shared_list shared_store
  refused c h = let w = rw is at h in rw w (refl, refl, refl)

  module _ (h : write_rule a.len a.cap off (length d) ≡ Ok tt) (store' : List ℕ) (put : store' ≡ sets store (a.start + off) d) where
    pub with_length_lem : (list' : List (List ℕ)) → a.variable ≡ true → list' ≡ set list i (with_length (get_or list i []) (off + length d)) → Put list store i off d (Ok tt) list' store'
    unfolding shared_list shared_store length_put
    with_length_lem list' v e =
        let w = rw is at h in
        let u = rw is at v in
        let p = rw is at put in
        rw (w, u) (refl, e, p)

    pub as_it_is : a.variable ≡ false → Put list store i off d (Ok tt) list store'
    unfolding shared_list shared_store length_put
    as_it_is v =
        let w = rw is at h in
        let u = rw is at v in
        let p = rw is at put in
        rw (w, u) (refl, refl, p)
