-- `printout::Text::put_text` meets its contract.
-- Assumes nothing.
use Prim.Native.Nat.{◌+◌, ◌-◌}
use native.Mathlib.Omega.{arith}
use mathlib.Core.Path.{◌≡◌, refl}
use lib.ListN.{length}
use Rattle.printout.proofs.Adding.{added_text}
use Rattle.printout.proofs.Text.put_text.Goals as goal

pub returns-clause-added : goal.returns-clause-added
returns-clause-added c =
    let t = c.args.text.now in
    let e : c.args.self.now.end + length t - c.args.self.now.end ≡ length t = omega arith in
    rw (c.copy_from_slice.ensures.after, e) (added_text c.args.self.now.buffer.now t c.args.self.now.end (length t) c.requires refl)
