-- `printout::Text::put_number` calls itself on a tenth of the number: the measure is the number.
-- Assumes nothing.
use Rattle.printout.proofs.Text.+put_number.Given as goal

abbrev pub decreases-put_number : goal.decreases-put_number
decreases-put_number l = l.n
