-- `arcs::revise` meets its contract. The candidates below `next` that have no support went, and nothing else did.
-- Assumes nothing.
use Prim.Native.Nat.{◌+◌, ◌*◌, ◌<◌}
use native.Mathlib.Omega.{arith}
use lib.ListN.{length-set}
use Rattle.domains.proofs.Gaps.{gaps-set}
use Rattle.supports.proofs.Arcs.{revised_kept, revised_taken, domains_set}
use Rattle.arcs.proofs.revise.Goals as goal

pub support-requires-clause-j_lt_individuals : goal.support-requires-clause-j_lt_individuals
support-requires-clause-j_lt_individuals c =
    let l = c.loop-next in
    let p = c.requires.j_lt_individuals in
    let on = l.invariant.domains.graded c.args.j l.next p.0 c.loop-next-test.true (c.leap-gap.ensures.0 (omega arith)) in
    (p.0, p.1, c.loop-next-test.true, l.invariant.hint_le, on, omega arith)

pub loop-next-preserved-in-Some : goal.loop-next-preserved-in-Some
loop-next-preserved-in-Some c =
    let a = c.args in
    let l = c.loop-next in record {
      hint_le = omega (arith, c.in-Some.ensures.0);
      domains = l.invariant.domains;
      revised = revised_kept a.instance.now a.j a.i l.next l.changed a.table.now l.table l.invariant.revised c.in-Some.ensures.1;
    }

pub loop-next-preserved : goal.loop-next-preserved
loop-next-preserved c =
    let a = c.args in
    let l = c.loop-next in
    let p = c.requires.j_lt_individuals in
    let room : 16384 * a.j + l.next < 131072 =
    omega (arith, c.loop-next-test.true, p.0, a.instance.now.problem.candidates_few, a.instance.now.problem.individuals_few) in record {
      hint_le = l.invariant.hint_le;
      domains = domains_set a.instance.now l.table a.j l.next (omega (arith, l.invariant.domains.long)) l.invariant.domains;
      revised = revised_taken a.instance.now a.j a.i l.next l.changed a.table.now l.table l.invariant.revised p.2 c.loop-next-test.true room
          l.invariant.domains.long (c.leap-gap.ensures.0 (omega arith)) c.in-None.ensures;
    }
