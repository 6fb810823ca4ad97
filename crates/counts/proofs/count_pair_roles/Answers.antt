-- `counts::count_pair_roles` meets its contract.
-- Assumes nothing.
use mathlib.Core.Path.{◌∙◌}
use borrow.Author.Rules.{rules}
use Rattle.semantics.specs.Books.{pair_roles}
use Rattle.claims.specs.Pairs.{pair_at, pairs_of}
use Rattle.counts.proofs.Counts.{highest_over}
use Rattle.counts.proofs.count_pair_roles.Goals as goal

pub returns : goal.returns
unfolding pairs_of
returns c =
    c.highest_of.ensures (λ i. pair_roles (pair_at c.args.s.now i)) (λ i x l p. search rules) ∙ highest_over pair_roles (pair_at c.args.s.now) _
