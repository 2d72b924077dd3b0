-- A value copied into a buffer of any length: as much of it as goes in, and every byte past that stays as lent. Assumes
-- nothing.
use Rattle.std.specs.Prelude.{ℕ, min, List, length, take, Result, Ok, Err}
use Rattle.std.proofs.lemmas.List.Edits.{sets}
use Rattle.model.specs.Value.{Contents, Bytes, Code}
use Rattle.wire.specs.declared.att.AttError.{AttError}

unfoldable pub copied_of : ℕ → Contents → Result ℕ AttError
copied_of room (Bytes v) = Ok (min (length v) room)
copied_of room (Code c) = Err c

unfoldable pub copy_of : List ℕ → Contents → List ℕ
copy_of out (Bytes v) = sets out 0 (take (length out) v)
copy_of out (Code c) = out
