-- `attribute::inner::uuid` meets its contract. The part is cut to the bytes that a record has. Assumes nothing.
use mathlib.Core.Path.{◌≡◌}
use mathlib.Core.List.{List}
use Prim.Native.Nat.{ℕ, ◌+◌, ◌-◌, min}
use native.Mathlib.Omega.{arith}
use lib.ListN.{length, get_or, take, drop, length-drop}
use Rattle.std.proofs.lemmas.List.{take_min}
use Rattle.wire.specs.Size.{record_bytes}
use Rattle.attribute.specs.Record.{uuid_of}
use Rattle.attribute.proofs.inner.uuid.Goals as goal

uuid_part : (r : List ℕ) (to : ℕ) → length r ≡ record_bytes → to ≡ min (12 + get_or r 11 0) 32 → take (to - 12) (drop 12 r) ≡ uuid_of r
unfolding uuid_of
uuid_part r to l e =
    let m : to - 12 ≡ min (get_or r 11 0) (length (drop 12 r)) = simp length-drop (omega arith) in
    rw m (take_min (get_or r 11 0) (drop 12 r))

pub returns : goal.returns
returns c = uuid_part _ _ c.requires c.min-to.ensures
