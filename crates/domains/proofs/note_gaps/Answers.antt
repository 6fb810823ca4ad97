-- `domains::note_gaps` meets its contract. The gaps from `c` on are noted.
-- Assumes nothing.
use mathlib.Core.Path.{subst, ◌≡◌}
use Prim.Native.Nat.{ℕ, ◌+◌, ◌-◌}
use native.Mathlib.Omega.{arith}
use Rattle.domains.proofs.Gaps.{noting_start, noting_on, noting_off, noting_end}
use Rattle.domains.specs.Gaps.{Noting}
use Rattle.domains.proofs.note_gaps.Goals as goal

pub loop-c-init : goal.loop-c-init
loop-c-init c = noting_start c.args.j c.args.count c.args.table.now

pub loop-c-preserved-then-table-at-eq1 : goal.loop-c-preserved-then-table-at-eq1
loop-c-preserved-then-table-at-eq1 c =
    let a = c.args in
    let l = c.loop-c in
    let e : l.c ≡ l.c - 1 + 1 = omega arith in
    noting_on a.j (l.c - 1) l.gap a.count a.table.now l.table (subst (λ (x : ℕ). Noting a.j x l.gap a.count a.table.now l.table) e l.invariant)
    c.if-table-at-eq1.true

pub loop-c-preserved : goal.loop-c-preserved
loop-c-preserved c =
    let a = c.args in
    let l = c.loop-c in
    let m = c.min-gap in
    let e : l.c ≡ l.c - 1 + 1 = omega arith in
    noting_off a.j (l.c - 1) l.gap a.count a.table.now l.table (subst (λ (x : ℕ). Noting a.j x l.gap a.count a.table.now l.table) e l.invariant)
    (m.result + 1) (omega (arith, l.auto.c)) (omega (arith, l.auto.c, l.auto.table)) c.if-table-at-eq1.false (omega (arith, m.ensures)) (omega arith)

pub returns : goal.returns
returns c =
    let a = c.args in
    let l = c.loop-c in
    let z : l.c ≡ 0 = omega arith in
    noting_end a.j l.gap a.count a.table.now l.table (subst (λ (x : ℕ). Noting a.j x l.gap a.count a.table.now l.table) z l.invariant)
