-- `passes::sweep` meets its contract.
-- Assumes nothing.
use native.Mathlib.Omega.{arith}
use lib.ListN.{length}
use Rattle.passes.specs.Lent.{classes_of}
use Rattle.passes.proofs.Sweeps.{swept, swept_state}
use Rattle.passes.proofs.sweep.Goals as goal

pub returns-clause-state_2 : goal.returns-clause-state_2
returns-clause-state_2 c =
    let a = c.args in
    let k = a.k.now in
    let J = c.judge_all in
    let D = c.pass_all in
    swept_state (classes_of k) a.marks.now a.memory.now a.alive.now a.present.now a.left c.requires.state (length k.tables.now.own.now)
    (λ i h. k.sources i (omega (arith, c.requires.sizes.0))) J.new.alive D.new.marks D.result J.ensures.judged D.ensures.dropped J.new.memory
    D.new.present J.ensures.remembers_2 D.ensures.value D.ensures.noted

pub returns-clause-swept : goal.returns-clause-swept
returns-clause-swept c =
    let a = c.args in
    let k = a.k.now in
    let J = c.judge_all in
    let D = c.pass_all in
    swept (classes_of k) a.marks.now a.memory.now a.alive.now a.present.now a.left c.requires.state (length k.tables.now.own.now)
    (λ i h. k.sources i (omega (arith, c.requires.sizes.0))) J.new.alive D.new.marks D.result J.ensures.judged D.ensures.dropped
