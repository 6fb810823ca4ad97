-- `counts::count_names` meets its contract.
-- Assumes nothing.
use mathlib.Core.Path.{◌∙◌}
use borrow.Author.Rules.{rules}
use Rattle.semantics.specs.Books.{name_above}
use Rattle.sections.specs.Terms.{term_at, terms_of}
use Rattle.counts.proofs.Counts.{highest_over}
use Rattle.counts.proofs.count_names.Goals as goal

pub returns : goal.returns
unfolding terms_of
returns c =
    c.highest_of.ensures (λ i. name_above (term_at c.args.s.now i)) (λ i x l p. search rules) ∙ highest_over name_above (term_at c.args.s.now) _
