-- Laws of seating: what one individual more comes to, and the turns of the loop over candidates.
-- Assumes nothing.
use mathlib.Core.Path.{◌≡◌, refl, sym, ap, ◌∙◌}
use mathlib.Core.Bool.{true}
use mathlib.Core.Logic.{dite, ◌↔◌}
use mathlib.Core.Option.{Option, none, some}
use mathlib.Core.List.{List, [], ◌∷◌, ◌++◌, append_assoc, append-nil}
use Prim.Native.Nat.{ℕ, suc, ◌+◌, ◌-◌, ◌≤◌, ◌<◌}
use native.Mathlib.Numerals.{add-one}
use native.Mathlib.Nat.{sub-zero}
use native.Mathlib.Decide.{ℕ_discrete, dec_lt}
use native.Mathlib.Omega.{arith}
use lib.ListN.{length, get_or, take, drop, set, length-set}
use lib.Seq.{take-suc-set, take-set-le, take-take, drop-cons, get_or-take, get_or-set_same, get_or-set_other, length-take-le}
use Rattle.gradings.specs.declared.Logic.{Logic}
use Rattle.network.specs.declared.Constraint.{Constraint}
use Rattle.domains.specs.declared.Instance.{Instance}
use Rattle.placer.specs.Walk.{walk}
use Rattle.placer.specs.Seats.{FitsNext, May, walk_of, FitsNextIn, MayIn, may_in?, walk_in, SeatedBelow, FirstFit, Finds}
use Rattle.placer.proofs.Walk.{placed_true, rest, rest_start, rest_end, rest_skip, rest_back, rest-found}

-- ---- those seated

seated-same : (v u : List ℕ) (k : ℕ) → take k u ≡ take k v → SeatedBelow v k → SeatedBelow u k
seated-same v u k e h i l = rw (← get_or-take k u i 0 l, e, get_or-take k v i 0 l) (h i l)

-- the next one sits at c
pub seated-next : (v : List ℕ) (k c : ℕ) → k < length v → c < 16384 → SeatedBelow v k → SeatedBelow (set v k c) (k + 1)
seated-next v k c in-seats small h i l = dite (ℕ_discrete i k)
    (λ e. rw (e, get_or-set_same v k c 0 in-seats) small)
    (λ n. rw (get_or-set_other v k i c 0 n) (h i (omega (arith, n))))

-- what may come after the first k of the seats, as code has it
pub may-fits : (l : Logic) (net : List Constraint) (ends rows table seats : List ℕ) (k : ℕ) → k ≤ length seats → (c : ℕ)
    → May l net ends rows table (take k seats) c ↔ FitsNext l net ends rows table seats k c
may-fits l net ends rows table seats k h c = (
  λ m. let f : FitsNext l net ends rows table (take k seats) k c = rw (length-take-le k seats h) at m in
      (f.0, λ i z. rw (← get_or-take k seats i 0 z) (f.1 i z)),
  λ f. rw (length-take-le k seats h) (f.0, λ i z. rw (get_or-take k seats i 0 z) (f.1 i z)),
)

module _ (p : Instance) (table : List ℕ) where
  -- ---- one turn of the loop over candidates

  -- the rest of the search for individual k and those after it, from the candidate c on
  abbrev rest_of : (k : ℕ) (q : List ℕ) (c : ℕ) → Option (List ℕ)
  rest_of k q c = rest (MayIn p table) (may_in? p table) p.count (p.individuals - (k + 1)) q c

  -- individual k is next, after those seated by q, which are the first k of the seats; and of the search what is left is the rest from the
  -- candidate c on
  pub record Turn (k : ℕ) (q seats : List ℕ) (c : ℕ) : Type 0 where
    pub some_left : k < p.individuals
    pub room : p.individuals ≤ length seats
    pub seated : SeatedBelow seats k
    pub same : take k seats ≡ q
    pub left : walk_in p table (p.individuals - k) q ≡ rest_of k q c

  pub no_one_left : (k : ℕ) (seats v : List ℕ) → k ≡ p.individuals
      → some (take (p.individuals - k) v) ≡ walk_in p table (p.individuals - k) (take k seats)
  unfolding walk_of walk
  no_one_left k seats v e = let z : p.individuals - k ≡ 0 = omega arith in rw z refl

  pub first_turn : (k : ℕ) (seats : List ℕ) → k < p.individuals → p.individuals ≤ length seats → SeatedBelow seats k → Turn k (take k seats) seats 0
  unfolding walk_of
  first_turn k seats h l s = record {
    some_left = h;
    room = l;
    seated = s;
    same = refl;
    left = rest_start (MayIn p table) (may_in? p table) p.count (p.individuals - (k + 1)) (take k seats) (p.individuals - k) (omega arith);
  }

module _ {p : Instance} {table : List ℕ} {k : ℕ} {q seats : List ℕ} {c : ℕ} (t : Turn p table k q seats c) where
  -- the whole search, and what is left of it from a candidate on
  abbrev W : Option (List ℕ)
  W = walk_in p table (p.individuals - k) q

  abbrev R : ℕ → Option (List ℕ)
  R = rest_of p table k q

  past : (a : ℕ) → p.count ≤ a → R a ≡ none
  past = rest_end (MayIn p table) (may_in? p table) p.count (p.individuals - (k + 1)) q

  may : (e : ℕ) → MayIn p table q e ↔ FitsNextIn p table seats k e
  may e = rw (← t.same) (may-fits p.network.logic p.network.constraints.now p.network.ends.now p.rows.now table seats k (omega (arith, t.some_left, t.room)) e)

  -- those before d do not fit: they are passed over
  over : (d : ℕ) → d ≤ p.count → c ≤ d → ((e : ℕ) → c ≤ e → e < d → ¬ FitsNextIn p table seats k e) → R c ≡ R d
  over d g l unfit =
      let z : c + (d - c) ≡ d = omega arith in
      rest_skip (MayIn p table) (may_in? p table) p.count (p.individuals - (k + 1)) q c (d - c)
      (λ e a b m. unfit e a (omega arith) ((may e).0 m))
      ∙ ap R z

  -- none fits
  pub turn_none : ((e : ℕ) → c ≤ e → e < p.count → ¬ FitsNextIn p table seats k e) → none ≡ W
  turn_none unfit =
      sym (t.left ∙ dite (dec_lt c p.count) (λ l. over p.count (omega arith) (omega arith) unfit ∙ past p.count (omega arith)) (λ l. past c (omega arith)))

  -- r is the first that fits
  module _ {r : ℕ} (next : FirstFit p table seats k c r) where
    turn_next : W ≡ R r
    turn_next = t.left ∙ over r (omega (arith, next.below)) next.from_start next.none

    -- the search behind it
    abbrev behind : Option (List ℕ)
    behind = walk_in p table (p.individuals - (k + 1)) (take (k + 1) (set seats k r))

    begins : take (k + 1) (set seats k r) ≡ q ++ r ∷ []
    begins = rw (add-one k, take-suc-set seats k r (omega (arith, t.some_left, t.room)), t.same) refl

    turn_some : (v : List ℕ) → behind ≡ some v → W ≡ some (r ∷ v)
    unfolding walk_of
    turn_some v e =
        turn_next
        ∙ rest-found (MayIn p table) (may_in? p table) p.count (p.individuals - (k + 1)) q r next.below ((may r).1 next.fits) v (rw (← begins) e)

    -- u are the seats after it: they are found, or the loop goes on
    module _ (u : List ℕ) (long : length u ≡ length seats) (first : take (k + 1) u ≡ take (k + 1) (set seats k r)) where
      pub record Turned : Type 0 where
        pub kept : take k u ≡ q
        pub found : some (take (p.individuals - (k + 1)) (drop (k + 1) u)) ≡ behind → some (take (p.individuals - k) (drop k u)) ≡ W
        pub back : none ≡ behind → Turn p table k q u (r + 1)

      pub turned : Turned
      unfolding walk_of
      turned = record {
        kept = kept ∙ t.same;
        found = λ e. rw part (sym (turn_some (take (p.individuals - (k + 1)) (drop (k + 1) u)) (sym e)));
        back = λ e. record {
          some_left = t.some_left;
          room = omega (arith, t.room);
          seated = seated-same seats u k kept t.seated;
          same = kept ∙ t.same;
          left = turn_next
              ∙ rest_back (MayIn p table) (may_in? p table) p.count (p.individuals - (k + 1)) q r next.below ((may r).1 next.fits) (rw (← begins) (sym e));
        };
      }
        where
          kept : take k u ≡ take k seats
          kept =
              rw (← take-take k (k + 1) u (omega arith), first, take-take k (k + 1) (set seats k r) (omega arith), take-set-le k seats k r (omega arith)) refl

          here : get_or u k 0 ≡ r
          here =
              rw (← get_or-take (k + 1) u k 0 (omega arith), first, get_or-take (k + 1) (set seats k r) k 0 (omega arith))
              (get_or-set_same seats k r 0 (omega (arith, t.some_left, t.room)))

          part : take (p.individuals - k) (drop k u) ≡ r ∷ take (p.individuals - (k + 1)) (drop (k + 1) u)
          part =
              let z : p.individuals - k ≡ suc (p.individuals - (k + 1)) = omega (arith, t.some_left) in
              rw (z, drop-cons u k 0 (omega (arith, t.some_left, t.room)), here, add-one k) refl

-- ---- all at once

-- the first k individuals are seated, and what is found behind them is found behind none
pub record AtOnce (p : Instance) (table : List ℕ) (k : ℕ) (seats : List ℕ) : Type 0 where
  pub few : k ≤ p.individuals
  pub room : p.individuals ≤ length seats
  pub seated : SeatedBelow seats k
  pub onward : (v : List ℕ) → walk_in p table (p.individuals - k) (take k seats) ≡ some v → walk_in p table p.individuals [] ≡ some (take k seats ++ v)

pub at_once_none : (p : Instance) (table seats : List ℕ) → p.individuals ≤ length seats → AtOnce p table 0 seats
at_once_none p table seats l = record {
  few = omega arith;
  room = l;
  seated = λ i h. absurd (omega arith);
  onward = λ v e. rw (sub-zero p.individuals) at e;
}

module _ {p : Instance} {table : List ℕ} {k : ℕ} {seats : List ℕ} (a : AtOnce p table k seats) where
  pub at_once_next : {r : ℕ} → FirstFit p table seats k 0 r → k < p.individuals → AtOnce p table (k + 1) (set seats k r)
  at_once_next {r} next l = record {
    few = omega arith;
    room = omega (arith, a.room, length-set seats k r);
    seated = seated-next seats k r (omega (arith, a.room)) (omega (arith, next.below, p.problem.candidates_few)) a.seated;
    onward = λ v e. let t = first_turn p table k seats l a.room a.seated in
        rw (begins t next, append_assoc (take k seats) (r ∷ []) v) (a.onward (r ∷ v) (turn_some t next v e));
  }

  pub at_once_all : p.individuals ≤ k → Finds p table true seats
  unfolding walk_of walk
  at_once_all h =
      let e : k ≡ p.individuals = omega (arith, a.few) in
      let z : p.individuals - k ≡ 0 = omega arith in
      placed_true true (take p.individuals seats) refl ∙ rw (append-nil (take k seats), e) at (sym (a.onward [] (rw z refl)))
