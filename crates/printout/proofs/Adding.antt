-- Laws of adding text to a buffer.
-- Assumes nothing.
use mathlib.Core.Path.{◌≡◌, refl, sym, ap, subst, ◌∙◌}
use mathlib.Core.List.{List, [], ◌∷◌, ◌++◌, append-nil, append_assoc}
use Prim.Native.Nat.{ℕ, ◌+◌, ◌≤◌, ◌<◌}
use native.Mathlib.Numerals.{add-one}
use native.Mathlib.Omega.{arith}
use borrow.Rule.Slice.PartMut.{put_mid, same_len_mid}
use lib.ListN.{length, take, drop, set, length-append, length-set}
use lib.Seq.{take-suc-set, drop-set-lt, drop-drop}
use Rattle.std.proofs.Common.{length-take-le, length-drop}
use Rattle.std.proofs.lemmas.Slice.{take-put_mid, drop-put_mid}
use Rattle.printout.specs.Text.{Added}

pub added_none : (a : List ℕ) (at : ℕ) → Added a at [] a at
added_none a at = record { ends = omega arith; holds = sym (append-nil (take at a)); kept = refl; as_long = refl }

pub added_byte : (a : List ℕ) (at b : ℕ) → at < length a → Added a at (b ∷ []) (set a at b) (at + 1)
added_byte a at b h = record {
  ends = refl;
  holds = rw add-one (take-suc-set a at b h);
  kept = drop-set-lt (at + 1) a at b (omega arith);
  as_long = length-set {A = ℕ} a at b;
}

pub added_text : (a t : List ℕ) (at k : ℕ) → at + k ≤ length a → length t ≡ k → Added a at t (put_mid at k a t) (at + k)
added_text a t at k h e = record {
  ends = omega arith;
  holds = take-put_mid at k a t (at + k) (omega arith) (omega arith);
  kept = drop-put_mid at k a t (at + k) (omega arith) (omega arith) e;
  as_long = same_len_mid at k a t (omega (arith, length-take-le k (drop at a) (omega (arith, length-drop at a))));
}

-- one text, and then another after it
pub added_then : {a b c t u : List ℕ} {at m r : ℕ} → Added a at t b m → Added b m u c r → Added a at (t ++ u) c r
added_then {a} {b} {c} {t} {u} {at} {m} {r} f g = record {
  ends = rw length-append (omega (arith, f.ends, g.ends));
  holds = g.holds ∙ ap (λ (l : List ℕ). l ++ u) f.holds ∙ append_assoc (take at a) t u;
  kept = g.kept ∙ further b ∙ ap (drop (length u)) f.kept ∙ sym (further a);
  as_long = g.as_long ∙ f.as_long;
}
  where
    further : (l : List ℕ) → drop r l ≡ drop (length u) (drop m l)
    further l = ap (λ (n : ℕ). drop n l) g.ends ∙ sym (drop-drop (length u) m l)

-- the same text, written in another way
pub added_same : {a b t u : List ℕ} {at r : ℕ} → t ≡ u → Added a at t b r → Added a at u b r
added_same {a} {b} {t} {u} {at} {r} e f = subst (λ (l : List ℕ). Added a at l b r) e f
