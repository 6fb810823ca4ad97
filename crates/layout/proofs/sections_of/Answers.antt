-- `layout::sections_of` meets its contract.
-- Assumes nothing.
use Rattle.layout.specs.Layout.{sections_of}
use Rattle.layout.proofs.sections_of.Goals as goal

pub returns : goal.returns
unfolding sections_of
returns c =
    simp (
      c.head_of-terms.ensures,
      c.word.ensures.0,
      c.word-2.ensures.0,
      c.word-3.ensures.0,
      c.word-4.ensures.0,
      c.count_pairs.ensures.value,
    )
