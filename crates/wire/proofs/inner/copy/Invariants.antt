-- `wire::inner::copy` meets its contract. The loop's invariant is residual: to store what is left of d from here gives
-- what storing all of d at the start gives. Assumes nothing.
use lib.Seq.{sets}
use lib.ListN.{length, drop}
use Prim.Native.Nat.{◌+◌}
use mathlib.Core.Path.{◌≡◌}
use Rattle.wire.proofs.inner.copy.Given as goal

abbrev pub invariant-loop-i : goal.invariant-loop-i
invariant-loop-i l = (length l.b ≡ length l.initial.b) × (sets l.b (l.at + l.i) (drop l.i l.d) ≡ sets l.initial.b l.at l.d)
