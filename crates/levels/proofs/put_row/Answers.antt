-- `levels::put_row` meets its contract.
-- Assumes nothing.
use mathlib.Core.Path.{◌≡◌, sym, ap, subst, ◌∙◌}
use Prim.Native.Nat.{ℕ, ◌≤◌, ◌*◌}
use native.Mathlib.Omega.{arith}
use lib.ListN.{length}
use Rattle.chain.proofs.Blocks.{block_part, length_block, put-before, put-here}
use Rattle.slots.specs.Rows.{SlotRow}
use Rattle.grades.specs.Rows.{entry}
use Rattle.levels.proofs.put_row.Goals as goal

pub returns : goal.returns
returns c =
    let a = c.args in
    let f = c.put_slot_row in
    let row = f.new.part in
    let start : ℕ = 32 * a.k in
    let within : start ≤ length a.rows.now = omega (arith, c.requires.2) in
    let long : length row ≡ 32 = f.auto.part ∙ ap length (block_part 32 start a.rows.now) ∙ length_block 32 start a.rows.now c.requires.2 in record {
      rows_unchanged = put-before a.rows.now row _ start within;
      slot_row = subst (SlotRow a.slots.now (entry a.row.now)) (sym (put-here a.rows.now row _ start within 32 long)) f.ensures;
    }
