-- `counts::count_link_roles` meets its contract.
-- Assumes nothing.
use mathlib.Core.Path.{◌∙◌}
use borrow.Author.Rules.{rules}
use Rattle.semantics.specs.Books.{link_roles}
use Rattle.claims.specs.Claims.{link_at, links_of}
use Rattle.counts.proofs.Counts.{highest_over}
use Rattle.counts.proofs.count_link_roles.Goals as goal

pub returns : goal.returns
unfolding links_of
returns c =
    c.highest_of.ensures (λ i. link_roles (link_at c.args.s.now i)) (λ i x l p. search rules) ∙ highest_over link_roles (link_at c.args.s.now) _
