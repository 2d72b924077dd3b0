-- `peers::inner::first` meets its contract. The invariant: what is left of the walk is the walk. Assumes nothing.
use mathlib.Core.Path.{◌≡◌}
use mathlib.Core.List.{map}
use Rattle.wire.specs.Walk.{place_from}
use Rattle.peers.specs.Slots.{wanted, seated_at, walk}
use Rattle.peers.proofs.inner.first.Given as goal

abbrev pub invariant-loop-i : goal.invariant-loop-i
invariant-loop-i g l =
    seated_at (place_from (wanted l.want l.who) (map g.S.AsSlot.slot l.row) l.i) ≡ walk l.want (g.S.AsSlot.slots l.row) l.who
