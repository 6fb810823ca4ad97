-- `encoding::above_bits` meets its contract.
-- Assumes nothing.
use Rattle.encoding.proofs.Bits.{leading-highest}
use Rattle.encoding.proofs.above_bits.Goals as goal

pub returns : goal.returns
returns c = leading-highest c.args.x c.ranges.x.fits
