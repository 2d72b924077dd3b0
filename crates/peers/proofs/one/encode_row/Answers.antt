-- `peers::one::encode_row` meets its contract: each of the eight decodes to its slot. Assumes nothing.
use mathlib.Core.Path.{◌≡◌, ◌∙◌}
use mathlib.Core.List.{[]}
use Prim.Native.Nat.{◌<◌}
use native.Mathlib.Omega.{arith}
use lib.ListN.{length}
use lib.Seq.{ext_get_or}
use borrow.Author.Rules.{rules}
use Rattle.peers.specs.Bytes.{row_of}
use Rattle.peers.specs.Slots.{no_slot}
use Rattle.peers.proofs.Rows.{length_row, row_at}
use Rattle.peers.proofs.one.encode_row.Goals as goal
use Rattle.peers.proofs.one.encode_row.Goals.{Start}

-- the type has eight
eight : (c : Start) → length c.args.row ≡ 8
eight c = search rules

pub returns : goal.returns
returns c =
    let m = c.map.ensures.items in
    let n = eight (goal.at.returns c).Start in
    ext_get_or no_slot (row_of c.map.result) c.args.row (omega (arith, length_row c.map.result, m.long))
    (λ i h.
    let l : i < length c.map.result = omega (arith, length_row c.map.result) in
    row_at c.map.result i l ∙ (m.at i no_slot [] (omega (arith, m.long))).2.met)
