-- `reads::columns_read` meets its contract.
-- Assumes nothing.
use native.Mathlib.Omega.{arith}
use Rattle.reads.proofs.Reading.{listed_part}
use Rattle.reads.proofs.columns_read.Goals as goal

pub returns : goal.returns
returns c =
    let l = c.list_noted-count in
    (c.note_all.new.seen, c.note_all.ensures, listed_part c.note_all.new.seen 32 l.result l.new.list (omega (arith, l.ensures.fits)) l.ensures)
