use Rattle.isa.proofs.Nibbles.{weight}
use Rattle.isa.proofs.short.nibble.Goals as goal

pub pow-requires : goal.pow-requires
pow-requires c = (weight c.args.k c.requires).below

pub nonzero_div-result : goal.nonzero_div-result
nonzero_div-result c = rw c.pow.ensures (weight c.args.k c.requires).above
