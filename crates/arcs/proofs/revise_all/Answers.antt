-- `arcs::revise_all` meets its contract. It is revised by the individuals below `i`.
-- Assumes nothing.
use mathlib.Core.Path.{◌≡◌}
use Prim.Native.Nat.{◌+◌}
use borrow.Author.Count.{below_more}
use Rattle.supports.proofs.Arcs.{revised_or}
use Rattle.supports.specs.Arcs.{SupportedBy, SupportedTo}
use Rattle.arcs.proofs.revise_all.Goals as goal

pub loop-i-preserved : goal.loop-i-preserved
loop-i-preserved c =
    let p = c.args.instance.now in
    let j = c.args.j in
    let l = c.loop-i in
    let t = c.revise_by-changed in record {
      domains = t.ensures.domains_2;
      revised = revised_or p (SupportedTo p j l.i) (SupportedBy p j l.i) (SupportedTo p j (l.i + 1)) c.args.table.now l.table _ l.changed t.result
          (λ z f r. below_more (λ x. ¬ (x ≡ j) → SupportedBy p j x z) l.i f (λ _. r)) l.invariant.revised t.ensures.revised;
    }
