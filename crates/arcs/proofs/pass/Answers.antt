-- `arcs::pass` meets its contract. The individuals below `j` are revised.
-- Assumes nothing.
use Prim.Native.Nat.{◌+◌}
use borrow.Author.Count.{below_more}
use Rattle.supports.proofs.Arcs.{revised_or}
use Rattle.supports.specs.Arcs.{SupportedTo, ConsistentTo}
use Rattle.arcs.proofs.pass.Goals as goal

pub loop-j-preserved : goal.loop-j-preserved
loop-j-preserved c =
    let p = c.args.instance.now in
    let l = c.loop-j in
    let t = c.revise_all-changed in record {
      domains = t.ensures.domains_2;
      revised = revised_or p (ConsistentTo p l.j) (SupportedTo p l.j p.individuals) (ConsistentTo p (l.j + 1)) c.args.table.now l.table _ l.changed t.result
          (λ z f r. below_more (λ x. SupportedTo p x p.individuals z) l.j f r) l.invariant.revised t.ensures.revised;
    }
