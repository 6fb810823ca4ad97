-- The bytes of one more read stand behind those of the reads before.
use Rattle.std.proofs.Common.{◌≡◌, ℕ, ◌+◌, ◌-◌, ◌≤◌, List, ◌++◌, rules, length, take, drop, sym, ap, ◌∙◌, subst, le_refl, drop_at, length-take-le}
use Rattle.std.proofs.lemmas.Slice.{take-put_mid_below}
use Rattle.std.specs.Io.KnownBytes.{Consumes}
use Rattle.std.proofs.KnownBytes.{Consumes-trans}
use borrow.Rule.Slice.PartMut.{put_mid, post_of}
use lib.Seq.{take-add, take-append-le}
use Rattle.reading.proofs.read_full.Goals as goal

front_grows : (a k n : ℕ) (xs ys : List ℕ) → a ≤ length xs → n ≤ length ys → take a xs ++ take n ys ≡ take (a + n) (put_mid a k xs ys)
front_grows a k n xs ys within fits =
    let after = post_of a k xs in
    let new = put_mid a k xs ys in
    let front = take-put_mid_below a k xs ys a (le_refl _) within in
    let next = ap (take n) (drop_at (take a xs) (ys ++ after) a (length-take-le a xs within)) ∙ take-append-le n ys after fits in
    ap (λ l. take a xs ++ l) (sym next) ∙ ap (λ l. l ++ take n (drop a new)) (sym front) ∙ sym (take-add a n new)

pub loop-done-preserved : goal.loop-done-preserved
loop-done-preserved g c =
    let at = c.loop-done.done in
    let old = c.loop-done.buffer in
    let got = c.read.new.buf in
    let both = front_grows at (length old - at) c.in_ok-count.count old got c.loop-done.invariant.0 c.in_ok-count.ensures.bound.0 in
    (search rules, search rules, subst (Consumes _ _) both (Consumes-trans _ _ _ _ _ c.loop-done.invariant.2 c.in_ok-count.ensures.bytes.0))
