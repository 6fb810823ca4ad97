-- `written::write_few` meets its contract.
-- Assumes nothing.
use mathlib.Core.Path.{◌≡◌, ap, ◌∙◌}
use mathlib.Core.List.{◌++◌}
use Prim.Native.Nat.{ℕ}
use native.Mathlib.Omega.{arith}
use lib.ListN.{drop, length}
use Rattle.std.specs.Prelude.{Ok}
use Rattle.refusals.specs.declared.Refusal.TheVariants as refusal
use Rattle.book.specs.Reading.{book_of}
use Rattle.book.proofs.Opening.{opened_accepted}
use Rattle.decisions.specs.declared.Decision.{Decision}
use Rattle.elimination.specs.Survivors.{survivors_of}
use Rattle.written.specs.Writing.{model_bytes}
use Rattle.written.proofs.Writing.{model_19, model_none, written_no, written_yes, end_model, shape-few}
use Rattle.written.proofs.write_few.Goals as goal

pub end_at-length-requires : goal.end_at-length-requires
end_at-length-requires c =
    let k = c.args.held.marked.counted in
    let p = c.shape_in-p in
    omega (
      arith,
      shape-few k.book.bytes.now k.book.sections (opened_accepted _ _ k.book.opened) p.result (omega (arith, p.ensures.0, c.requires.1))
          p.ensures.1 p.ensures.2 p.ensures.3,
    )

pub returns-then-sheet-length : goal.returns-then-sheet-length
returns-then-sheet-length c =
    let B = book_of c.args.held.marked.counted.book.bytes.now in
    let p = c.shape_in-p in
    let n : c.args.held.answer.survivors ≡ length (survivors_of B) = ap (λ (a : Decision). a.survivors) c.args.held.answered in
    let e = end_model B p.result (p.ensures.0 ∙ n) p.ensures.1 p.ensures.2 p.ensures.3 in
    let w = written_no _ _ refusal.SheetBuffer c.args.sheet.now
    (model_19 B (length c.args.sheet.now) c.requires.0 (omega (arith, n, c.requires.1))
    (λ h. omega (arith, c.if-sheet-length.true, c.end_at-length.ensures, e, h))) in
    record { value = w.0; sheet_after = w.1 }

pub write_marked-requires : goal.write_marked-requires
write_marked-requires c =
    let B = book_of c.args.held.marked.counted.book.bytes.now in
    let p = c.shape_in-p in
    let n : c.args.held.answer.survivors ≡ length (survivors_of B) = ap (λ (a : Decision). a.survivors) c.args.held.answered in
    record {
      elements_value = (p.ensures.0 ∙ n, p.ensures.1, p.ensures.2, p.ensures.3);
      elements_bound = (omega (arith, p.ensures.0, c.requires.1), c.requires.0, omega (arith, c.if-sheet-length.false, c.end_at-length.ensures));
    }

pub returns : goal.returns
returns c =
    let B = book_of c.args.held.marked.counted.book.bytes.now in
    let p = c.shape_in-p in
    let end-at = c.end_at-length in
    let n : c.args.held.answer.survivors ≡ length (survivors_of B) = ap (λ (a : Decision). a.survivors) c.args.held.answered in
    let e = end_model B p.result (p.ensures.0 ∙ n) p.ensures.1 p.ensures.2 p.ensures.3 in
    let u = written_yes _ _ c.args.sheet.now
    (model_none B (length c.args.sheet.now) c.requires.0 (omega (arith, n, c.requires.1)) (omega (arith, c.if-sheet-length.false, end-at.ensures, e))) in
    record {
      value = ap Ok (end-at.ensures ∙ e) ∙ u.0;
      sheet_after = c.write_marked.ensures ∙ ap (λ (n : ℕ). model_bytes B ++ drop n c.args.sheet.now) e ∙ u.1;
    }
