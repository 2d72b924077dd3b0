-- `peers::who::number` meets its contract: what is read of the seven bytes and a zero is their number. The type has six
-- in the address. Assumes nothing.
use mathlib.Core.Path.{◌≡◌}
use Prim.Native.Nat.{ℕ, ◌<◌}
use native.Mathlib.Omega.{arith}
use lib.ListN.{length, get_or}
use borrow.Author.Rules.{rules}
use Rattle.peers.proofs.Numbers.{is_number, seven_bytes}
use Rattle.peers.proofs.who.number.Goals as goal

pub returns : goal.returns
returns c =
    let six : length c.args.a.addr ≡ 6 = search rules in
    let small : (i : ℕ) → get_or c.args.a.addr i 0 < 256 = search rules in
    (omega (arith, c.from_le_bytes.ensures, is_number c.args.a six), seven_bytes c.args.a six (search rules) small)
