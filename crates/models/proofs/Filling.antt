-- Laws of a list that code fills from the front, stretch by stretch.
-- Assumes nothing.
use mathlib.Core.Path.{◌≡◌, refl, ◌∙◌}
use mathlib.Core.List.{List, [], ◌++◌, append-nil, append_assoc}
use Prim.Native.Nat.{ℕ, ◌+◌, ◌-◌, ◌≤◌}
use native.Mathlib.Omega.{arith}
use lib.ListN.{length, take, drop, length-append, length-drop, length-take}
use lib.Seq.{take_at, drop_at, drop-drop, drop-length, sets, sets-eq}

-- what a list becomes when its stretch from a up to c is written anew
abbrev pub pasted : List ℕ → (a c : ℕ) → List ℕ → List ℕ
pasted l a c part = take a l ++ (part ++ drop (c - a) (drop a l))

-- the stretch after what is done: then it is done too
pub paste_next : (done d l part : List ℕ) (a c : ℕ) → l ≡ done ++ drop a d → length done ≡ a → a ≤ c → pasted l a c part ≡ done ++ part ++ drop c d
paste_next done d l part a c e h g =
    let w : a + (c - a) ≡ c = omega arith in
    rw (e, take_at done (drop a d) a h, drop_at done (drop a d) a h, drop-drop, w, append_assoc)

-- four stretches, one after another, from the front
pub paste_four : (d h ns ls js : List ℕ) (l i e : ℕ) → length h ≡ 12 → length ns ≡ l - 12 → length ls ≡ i - l → 12 ≤ l → l ≤ i → i ≤ e
    → pasted (pasted (pasted (pasted d 0 12 h) 12 l ns) l i ls) i e js ≡ h ++ ns ++ ls ++ js ++ drop e d
paste_four d h ns ls js l i e lh ln ll h12 hl hi =
    let names : length (h ++ ns) ≡ l = omega (arith, length-append h ns) in
    let links : length (h ++ ns ++ ls) ≡ i = omega (arith, length-append (h ++ ns) ls) in
    paste_next (h ++ ns ++ ls) d _ js i e
    (paste_next (h ++ ns) d _ ls l i (paste_next h d _ ns 12 l (paste_next [] d d h 0 12 refl refl (omega arith)) lh h12) names hl) links hi

pub length_part : (l : List ℕ) (a c : ℕ) → c ≤ length l → length (take (c - a) (drop a l)) ≡ c - a
length_part l a c h = rw (length-take, length-drop) (omega arith)

-- stores from the first entry to the last
pub stored : (vs l : List ℕ) → length l ≡ length vs → sets l 0 vs ≡ vs
stored vs l e =
    let h : 0 + length vs ≡ length l = omega arith in
    sets-eq vs l 0 (omega arith) ∙ rw (h, drop-length) (append-nil vs)

-- all of it filled
pub whole : (b d l : List ℕ) (n : ℕ) → l ≡ b ++ drop n d → length d ≡ n → l ≡ b
whole b d l n e h = e ∙ rw (← h, drop-length, append-nil)
