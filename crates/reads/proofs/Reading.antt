-- Laws of what constraints read of a row: how it is noted and listed, and that rows with the same grades there meet the same constraints.
-- Assumes nothing.
use mathlib.Core.Path.{◌≡◌, sym, subst, ◌∙◌}
use mathlib.Core.Logic.{dite}
use mathlib.Core.Bool.{Bool, true, false}
use mathlib.Core.List.{List}
use Prim.Native.Nat.{ℕ, ◌+◌, ◌*◌, ◌≤◌, ◌<◌}
use native.Mathlib.Decide.{ℕ_discrete}
use native.Mathlib.Omega.{arith}
use lib.ListN.{length, get_or, set, take}
use lib.Seq.{get_or-set_same, get_or-set_other, get_or-take, length-take-le}
use borrow.Author.Count.{below_more}
use Rattle.gradings.specs.declared.Logic.{Logic}
use Rattle.network.specs.Constraints.{column_at, constraint_count, constraint_at, AllMet}
use Rattle.network.specs.Network.{between}
use Rattle.network.specs.declared.Constraint.{Constraint}
use Rattle.domains.specs.Consistent.{Fits, Problem}
use Rattle.network.specs.declared.End.{End}
use Rattle.network.specs.declared.End.TheVariants.{Source, Target}
use Rattle.reads.specs.Reads.{Noted, ListRead, Read, More, Listed}
use Rattle.reads.specs.Classes.{Alike}

-- ---- noting

-- a column more is read
pub more-set : (seen : List Bool) (t : ℕ) → t < length seen → More seen (set seen t true)
more-set seen t h x e = dite (ℕ_discrete x t)
    (λ z. subst (Noted (set seen t true)) (sym z) (get_or-set_same seen t true false h))
    (λ n. get_or-set_other seen t x true false n ∙ e)

-- the one that constraint y reads
pub list_read_more : (s : List Constraint) (e : End) (y : ℕ) (seen : List Bool) (t : ℕ) → t ≡ column_at e (constraint_at s y) → t < length seen
    → ListRead s e y seen → ListRead s e (y + 1) (set seen t true)
list_read_more s e y seen t is h f = below_more _ y
    (λ z l. more-set seen t h (column_at e (constraint_at s z)) (f z l))
    (subst (Noted (set seen t true)) is (get_or-set_same seen t true false h))

module _ (net : List Constraint) (ends : List ℕ) (j i : ℕ) where
  -- the individual itself
  pub read_self : (seen : List Bool) → i ≡ j → Read net ends j i seen → Read net ends j (i + 1) seen
  read_self seen e f = below_more _ i f (λ n. absurd (n e))

  -- another one, by the constraints to it and from it
  pub read_other : (a b c : List Bool) (s t : List Constraint) → s ≡ between net ends j i → t ≡ between net ends i j → More a b → More b c → Read net ends j i a
      → ListRead s Source (constraint_count s) b → ListRead t Target (constraint_count t) c → Read net ends j (i + 1) c
  read_other a b c s t is it m n f g h = below_more _ i
      (λ x l d. (
        λ y k. later (column_at Source (constraint_at (between net ends j x) y)) ((f x l d).0 y k),
        λ y k. later (column_at Target (constraint_at (between net ends x j) y)) ((f x l d).1 y k),
      ))
      (λ _. (
        subst (λ (l : List Constraint). ListRead l Source (constraint_count l) c) is (λ y k. n (column_at Source (constraint_at s y)) (g y k)),
        subst (λ (l : List Constraint). ListRead l Target (constraint_count l) c) it h,
      ))
    where
      later : More a c
      later x e = n x (m x e)

-- ---- listing

module _ (seen : List Bool) where
  pub listed-none : (list : List ℕ) → Listed seen 0 0 list
  listed-none list = record { fits = omega arith; columns = λ x l. absurd (omega arith); each = λ t l. absurd (omega arith) }

  module _ (t m : ℕ) (list : List ℕ) (w : Listed seen t m list) where
    pub listed_unread : get_or seen t false ≡ false → Listed seen (t + 1) m list
    listed_unread n = record {
      fits = omega (arith, w.fits);
      columns = w.columns;
      each = below_more _ t w.each (λ e. cc);
    }

    pub listed_read : t < 32 → 32 ≤ length list → Listed seen (t + 1) (m + 1) (set list m t)
    listed_read small long = record {
      fits = omega (arith, w.fits);
      columns = below_more _ m (λ x l. rw (before x l) (w.columns x l)) (rw here small);
      each = below_more _ t
          (λ x l e. let u = w.each x l e in (u.0, omega (arith, u.1), before u.0 u.1 ∙ u.2))
          (λ _. (m, omega arith, here));
    }
      where
        here : get_or (set list m t) m 0 ≡ t
        here = get_or-set_same list m t 0 (omega (arith, w.fits))

        before : (x : ℕ) → x < m → get_or (set list m t) x 0 ≡ get_or list x 0
        before x l = get_or-set_other list m x t 0 (omega arith)

  -- without the rest of the room
  pub listed_part : (k m : ℕ) (list : List ℕ) → m ≤ length list → Listed seen k m list → Listed seen k (length (take m list)) (take m list)
  listed_part k m list h w = rw (length-take-le m list h) (record {
    fits = w.fits;
    columns = λ x l. rw (get_or-take m list x 0 l) (w.columns x l);
    each = λ t l e. let u = w.each t l e in (u.0, u.1, get_or-take m list u.0 0 u.1 ∙ u.2);
  })

  -- rows that are alike for the list have the same grade wherever one is read
  pub listed_same : (list : List ℕ) → Listed seen 32 (length list) list → (a b : List ℕ) → Alike list a b → (t : ℕ) → t < 32 → Noted seen t
      → get_or a t 0 ≡ get_or b t 0
  listed_same list w a b alike t l e = let u = w.each t l e in subst (λ (x : ℕ). get_or a x 0 ≡ get_or b x 0) u.2 (alike u.0 u.1)

-- ---- rows with the same grades where these are read

module _ (lg : Logic) (s : List Constraint) (a b v : List ℕ) where
  -- at the source, and at the target
  met_source : ((y : ℕ) → y < constraint_count s → get_or a (constraint_at s y).own 0 ≡ get_or b (constraint_at s y).own 0)
      → AllMet lg s a v → AllMet lg s b v
  met_source same f y l = rw (← same y l) (f y l)

  met_target : ((y : ℕ) → y < constraint_count s → get_or a (constraint_at s y).child 0 ≡ get_or b (constraint_at s y).child 0)
      → AllMet lg s v a → AllMet lg s v b
  met_target same f y l = rw (← same y l) (f y l)

-- both are compatible with the same row of another individual
pub same-fits : (lg : Logic) (m : ℕ) (net : List Constraint) (ends : List ℕ) (count n : ℕ) (rows : List ℕ) → Problem lg m net ends count n rows
    → (j i : ℕ) → j < 8 → i < 8 → ¬ (i ≡ j) → (seen : List Bool) → Read net ends j 8 seen → (a b : List ℕ)
    → ((t : ℕ) → t < 32 → Noted seen t → get_or a t 0 ≡ get_or b t 0)
    → (v : List ℕ) → Fits lg net ends j i a v → Fits lg net ends j i b v
same-fits lg m net ends count n rows p j i lj li apart seen read a b same v f = (
  met_source lg (between net ends j i) a b v
      (λ y l. same (constraint_at (between net ends j i) y).own (omega (arith, p.wired.few, (p.wired.right (8 * j + i) (omega arith) y l).own_lt))
      ((read i li apart).0 y l)) f.0,
  met_target lg (between net ends i j) a b v
      (λ y l. same (constraint_at (between net ends i j) y).child (omega (arith, p.wired.few, (p.wired.right (8 * i + j) (omega arith) y l).child_lt))
      ((read i li apart).1 y l)) f.1,
)
