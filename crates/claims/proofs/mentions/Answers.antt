-- `claims::mentions` meets its contract.
-- Assumes nothing.
use native.Mathlib.Omega.{arith}
use borrow.Author.Tests.{ltb-true}
use Rattle.chain.proofs.Decisions.{tells_map}
use Rattle.encoding.proofs.Bits.{bits_mem}
use Rattle.claims.proofs.mentions.Goals as goal

pub returns-then-j-lt8 : goal.returns-then-j-lt8
returns-then-j-lt8 c =
    let w = bits_mem c.in-Set.members c.args.j in
    rw (← c.in-Set.ensures) (tells_map _ (λ b. w.1 (c.if-j-lt8.true, b)) (λ m. (w.0 m).1) c.bit.ensures)

pub returns-else-j-lt8 : goal.returns-else-j-lt8
returns-else-j-lt8 c =
    rw (← c.in-Set.ensures) (
      λ e. absurd (omega (arith, ltb-true _ _ e, c.if-j-lt8.false)),
      λ e m. omega (arith, ((bits_mem c.in-Set.members c.args.j).0 m).0, c.if-j-lt8.false),
    )
