-- `counts::count_mentioned` meets its contract.
-- Assumes nothing.
use mathlib.Core.Path.{◌∙◌}
use borrow.Author.Rules.{rules}
use Rattle.semantics.specs.Books.{membership_individuals}
use Rattle.claims.specs.Claims.{membership_at, memberships_of}
use Rattle.counts.proofs.Counts.{highest_over}
use Rattle.counts.proofs.count_mentioned.Goals as goal

pub returns : goal.returns
unfolding memberships_of
returns c =
    c.highest_of.ensures (λ i. membership_individuals (membership_at c.args.s.now i)) (λ i x l p. search rules)
    ∙ highest_over membership_individuals (membership_at c.args.s.now) _
