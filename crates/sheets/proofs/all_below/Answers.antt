-- `sheets::all_below` meets its contract.
-- Assumes nothing.
use Prim.Native.Nat.{◌<◌}
use borrow.Author.Rules.{rules}
use Rattle.sheets.proofs.Entries.{entries-tell}
use Rattle.sheets.proofs.all_below.Goals as goal

pub returns : goal.returns
returns c = entries-tell (λ x. x < c.args.limit) c.args.s.now _ _ _ _ (search rules) c.all.ensures.ran (λ x f k. search rules) (λ x f k. search rules)
