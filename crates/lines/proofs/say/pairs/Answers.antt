-- `lines::say::pairs` is safe: 256 bytes at most make 512 digits at most. Assumes nothing.
use Rattle.std.proofs.Common.{arith, length-take}
use Rattle.text.proofs.Turns.{hex_length}
use Rattle.lines.proofs.say.pairs.Goals as goal

pub hex-requires : goal.hex-requires
hex-requires g c =
    omega (arith, hex_length c.args.d.now, c.requires)

pub slice_bounds-say-end : goal.slice_bounds-say-end
slice_bounds-say-end g c = simp length-take (omega arith)
