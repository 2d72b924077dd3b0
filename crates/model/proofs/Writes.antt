-- A row of two writes of the cursor. Assumes nothing.
use mathlib.Core.Path.{◌≡◌}
use mathlib.Core.List.{List, ◌++◌}
use Prim.Native.Nat.{ℕ, ◌+◌, ◌≤◌, ◌<◌}
use native.Mathlib.Omega.{arith}
use lib.ListN.{length, length-append}
use Rattle.wire.specs.Cursor.{put, moved}
use Rattle.wire.specs.declared.cursor.WriteCursor.{WriteCursor}
use Rattle.wire.proofs.Written.{wrote, wrote_next}
use Rattle.model.specs.Run.{Chunk, emit, Rowed}
use Rattle.model.proofs.Running.{row_written}

-- two writes, of which the first is not empty, are a row of both
module _ (old mid new : List ℕ) (c n m : WriteCursor) (vs ws : List ℕ) where
  pub row : 0 < length vs → c.len + (length vs + length ws) ≤ length old
      → n ≡ moved (length old) c (length vs) → mid ≡ put old c.len vs
      → m ≡ moved (length mid) n (length ws) → new ≡ put mid n.len ws
      → (k : Chunk) → emit (vs ++ ws) ≡ k → Rowed old new c m k
  row z room e p f q k h =
      row_written old new c m (vs ++ ws) k h (omega (arith, length-append vs ws))
      (wrote_next old mid new vs ws c n m (wrote old c mid vs n (omega arith) e p) room f q)
