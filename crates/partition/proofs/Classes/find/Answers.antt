-- `partition::Classes::find` meets its contract.
-- Assumes nothing.
use native.Mathlib.Omega.{arith}
use mathlib.Core.Path.{sym, ◌∙◌}
use borrow.Author.Tests.{not-false}
use Rattle.std.proofs.lemmas.Slice.Eq.{bytes_eq-Decides}
use Rattle.partition.proofs.Rows.{row-of}
use Rattle.partition.proofs.Classes.find.Goals as goal

pub returns : goal.returns
returns c =
    let same = (bytes_eq-Decides _ _).0 (not-false _ (sym c.ne.ensures ∙ c.if-ne.false)) in
    (omega arith, row-of c.args.self.now.rows _ c.args.row.now same)
