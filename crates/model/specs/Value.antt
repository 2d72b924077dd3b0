-- The values behind the entries, decoded from the lent bytes, and the rules for reading and writing one at an offset
-- (document 01, "Attributes" and "Client table"). Assumes nothing.
use Rattle.std.specs.Prelude.{ℕ, ◌+◌, cond, List, ltb, length, take, drop, Ok, Err}
use Rattle.wire.specs.First.{first}
use Rattle.table_view.specs.View.{Item, view, is_of}
use Rattle.attribute.specs.declared.Attribute.{Attribute}
use Rattle.attribute.specs.Needs.{Access}
use Rattle.wire.specs.declared.att.AttError.{AttError}
use Rattle.wire.specs.declared.att.AttError.TheVariants.{InvalidOffset, AttributeNotFound, InvalidAttributeValueLength}

-- what a read finds: the bytes, or an ATT code
pub data Contents : Type 0 where
  Bytes : List ℕ → Contents
  Code : AttError → Contents

-- a shared value lies in the store; it is an item like those of a client table
unfoldable pub shared_item : List ℕ → Attribute → Item
shared_item store a =
    record { key = a.handle; variable = a.variable; room = a.cap; value = take a.len (drop a.start store) }

-- f of the value behind an entry: a shared one, or the item under its handle in the peer's own table; d where there is
-- none
unfoldable pub at_value : {X : Type 0} → (Item → X) → X → List ℕ → List ℕ → Attribute → X
at_value f d store table a = cond a.client (first (is_of a.handle) f d (view table)) (f (shared_item store a))

-- reading: a client value that is not there is 0x0A
unfoldable pub read_of : List ℕ → List ℕ → Attribute → Contents
read_of store table a = at_value (λ x. Bytes x.value) (Code AttributeNotFound) store table a

-- from an offset on: above the length 0x07; at the length there are no bytes
unfoldable pub read_from : ℕ → Contents → Contents
read_from off (Bytes v) = cond (ltb (length v) off) (Code InvalidOffset) (Bytes (drop off v))
read_from off (Code c) = Code c

-- writing n bytes at an offset of a value of len bytes that can hold cap: the offset is tested before the capacity
unfoldable pub write_rule : ℕ → ℕ → ℕ → ℕ → Access
write_rule len cap off n = cond (ltb len off) (Err InvalidOffset) (cond (ltb cap (off + n)) (Err InvalidAttributeValueLength) (Ok tt))

-- of a client value in the peer's own table, and of any value
abbrev pub item_write : ℕ → ℕ → Item → Access
item_write off n x = write_rule (length x.value) x.room off n

abbrev pub own_write : List ℕ → ℕ → ℕ → ℕ → Access
own_write table h off n = first (is_of h) (item_write off n) (Err AttributeNotFound) (view table)

unfoldable pub write_of : List ℕ → List ℕ → Attribute → ℕ → ℕ → Access
write_of store table a off n = at_value (item_write off n) (Err AttributeNotFound) store table a
