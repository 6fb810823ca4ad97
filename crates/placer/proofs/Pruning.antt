-- The search finds the first consistent placement; so it finds the same in fewer candidates, if they keep for each consistent placement one that
-- is not after it.
-- Assumes nothing.
use mathlib.Core.Path.{◌≡◌, refl, sym, ◌∙◌}
use mathlib.Core.Bool.{false}
use mathlib.Core.Logic.{dite}
use mathlib.Core.Option.{none}
use mathlib.Core.List.{List, []}
use Prim.Native.Nat.{ℕ, ◌+◌, ◌*◌, ◌≤◌, ◌<◌}
use native.Mathlib.Decide.{dec_lt}
use native.Mathlib.Omega.{arith}
use lib.ListN.{length, take}
use Rattle.chain.specs.Lists.{Mem, from, table as table_of}
use Rattle.chain.proofs.Lists.{each_mem, mem_each, mem_at, at_mem, length-table, get_or-table, mem_from, from_mem, ascending_from}
use Rattle.gradings.specs.declared.Logic.{Logic}
use Rattle.network.specs.declared.Constraint.{Constraint}
use Rattle.placement.specs.Dictionary.{NotAfter, Drawn, Finds as FindsFirst}
use Rattle.placement.specs.Outcome.{seat}
use Rattle.placement.proofs.Dictionary.{finds_same, finds_fewer, not-after-below}
use Rattle.domains.specs.Tables.{Allowed, Vain}
use Rattle.domains.specs.Gaps.{Gaps, SameAllowed}
use Rattle.domains.specs.Consistent.{Consistent, Graded}
use Rattle.domains.specs.declared.Instance.{Instance}
use Rattle.reads.specs.Classes.{Thinned}
use Rattle.supports.specs.Arcs.{ConsistentIn, Domains, Pruned}
use Rattle.placer.specs.Seats.{FitsNext, May, may?, walk_of, MayIn, may_in?, walk_in, Finds}
use Rattle.placer.proofs.Seats.{may-fits}
use Rattle.placer.proofs.Walk.{placed_false, Follows, walk_finds, follows-at, follows_made}

-- a seat of a placement at members of xs
pub seat_mem : (n : ℕ) (p xs : List ℕ) → Drawn xs n p → (j : ℕ) → j < n → Mem (seat p j) xs
seat_mem n p xs d j h = each_mem (λ x. Mem x xs) p d.1 (seat p j) (mem_at p j 0 (omega (arith, d.0)))

-- a placement whose seats are members of xs
pub seats_drawn : (n : ℕ) (p xs : List ℕ) → length p ≡ n → ((j : ℕ) → j < n → Mem (seat p j) xs) → Drawn xs n p
seats_drawn n p xs e f = (e, mem_each p (λ x m. let u = at_mem p 0 x m in rw (← u.2) (f u.0 (omega (arith, e, u.1)))))

module _ (lg : Logic) (net : List Constraint) (ends rows : List ℕ) (count n : ℕ) where
  module _ (table : List ℕ) where
    abbrev Next : (q : List ℕ) (c : ℕ) → Type 0
    Next = May lg net ends rows table

    abbrev next? : (q : List ℕ) (c : ℕ) → Dec (Next q c)
    next? = may? lg net ends rows table

    -- ---- what the search draws and passes are the consistent placements

    pub passed : (p : List ℕ) → Drawn (from 0 count) n p → Follows Next next? [] p → Consistent lg net ends count rows n table (seat p)
    passed p d f = record {
      below = λ j h. omega (arith, mem_from 0 count (seat p j) (seat_mem n p (from 0 count) d j h));
      allowed = λ j h. (may j h).0;
      fits = λ j i h k a. dite (dec_lt j i) (λ l. (may i k).1 j l) (λ l. let u = (may j h).1 i (omega (arith, a)) in (u.1, u.0));
    }
      where
        may : (j : ℕ) → j < n → FitsNext lg net ends rows table p j (seat p j)
        may j h = (may-fits lg net ends rows table p j (omega (arith, d.0)) (seat p j)).0 (follows-at Next next? p [] f j (omega (arith, d.0)))

    pub asked : (p : List ℕ) → length p ≡ n → Consistent lg net ends count rows n table (seat p) → Drawn (from 0 count) n p × Follows Next next? [] p
    asked p len s = (
      seats_drawn n p (from 0 count) len (λ j h. from_mem 0 count (seat p j) (omega arith) (omega (arith, s.below j h))),
      follows_made Next next? p [] (λ j l. let h : j < n = omega (arith, len) in
          (may-fits lg net ends rows table p j (omega arith) (seat p j)).1 (s.allowed j h, λ i k. s.fits i j (omega arith) h (λ z. omega arith))),
    )

    pub walk-follows : FindsFirst (from 0 count) n (Follows Next next? []) (walk_of lg net ends rows table count n [])
    unfolding walk_of
    walk-follows = walk_finds Next next? (from 0 count) (ascending_from 0 count) n []

  -- ---- fewer candidates

  pub fewer-walk : (old new : List ℕ) → ((j c : ℕ) → Allowed new j c → Allowed old j c)
      → ((s : ℕ → ℕ) → Consistent lg net ends count rows n old s → (t : ℕ → ℕ) × Consistent lg net ends count rows n new t × ((j : ℕ) → j < n → t j ≤ s j))
      → walk_of lg net ends rows new count n [] ≡ walk_of lg net ends rows old count n []
  fewer-walk old new fewer keeps =
      finds_same (from 0 count) n (Follows (Next old) (next? old) []) (walk_of lg net ends rows new count n []) (walk_of lg net ends rows old count n [])
      (finds_fewer (from 0 count) (from 0 count) n (Follows (Next new) (next? new) []) (Follows (Next old) (next? old) [])
      (λ p d f. let s = passed new p d f in
      asked old p d.0 (record { below = s.below; allowed = λ j h. fewer j (seat p j) (s.allowed j h); fits = s.fits })) kept (walk_of lg net ends rows new count n [])
      (walk-follows new))
      (walk-follows old)
    where
      kept : (p : List ℕ) → Drawn (from 0 count) n p → Follows (Next old) (next? old) [] p
          → (q : List ℕ) × Drawn (from 0 count) n q × Follows (Next new) (next? new) [] q × NotAfter q p
      kept p d f =
          let v = keeps (seat p) (passed old p d f) in
          let q = table_of v.0 n in
          let long : length q ≡ n = length-table v.0 n in
          let sits : (j : ℕ) → j < n → seat q j ≡ v.0 j = λ j h. get_or-table v.0 n j 0 h in
          let u = asked new q long (record {
            below = λ j h. rw (sits j h) (v.1.below j h);
            allowed = λ j h. rw (sits j h) (v.1.allowed j h);
            fits = λ j i h k a. rw (sits j h, sits i k) (v.1.fits j i h k a);
          }) in (
            q,
            u.0,
            u.1,
            not-after-below q p (long ∙ sym d.0) (λ j l. let k : j < n = omega (arith, long) in omega (arith, sits j k, v.2 j k)),
          )

-- ---- of an instance

module _ (p : Instance) where
  fewer-in : (old new : List ℕ) → ((j c : ℕ) → Allowed new j c → Allowed old j c)
      → ((s : ℕ → ℕ) → ConsistentIn p old s → (t : ℕ → ℕ) × ConsistentIn p new t × ((j : ℕ) → j < p.individuals → t j ≤ s j))
      → walk_in p new p.individuals [] ≡ walk_in p old p.individuals []
  fewer-in = fewer-walk p.network.logic p.network.constraints.now p.network.ends.now p.rows.now p.count p.individuals

  -- where an individual may have no candidate nothing is found
  pub vain_finds : (table seats : List ℕ) → Vain table p.count p.individuals → Finds p table false seats
  vain_finds table seats w =
      let net = p.network.constraints.now in
      let ends = p.network.ends.now in
      placed_false false (take p.individuals seats) refl
      ∙ finds_same (from 0 p.count) p.individuals (Follows (MayIn p table) (may_in? p table) []) none (walk_in p table p.individuals [])
      (λ v d f. let s = passed p.network.logic net ends p.rows.now p.count p.individuals table v d f in
      w.2 (seat v w.0) (s.below w.0 w.1) (s.allowed w.0 w.1))
      (walk-follows p.network.logic net ends p.rows.now p.count p.individuals table)

  -- one candidate a class, and gaps noted; arc consistency
  module _ {old new : List ℕ} where
    pub thinned_walk : Thinned p.network.logic p.network.constraints.now p.network.ends.now p.count p.rows.now p.individuals old new → (last : List ℕ)
        → SameAllowed new last → walk_in p last p.individuals [] ≡ walk_in p old p.individuals []
    thinned_walk w last same =
        fewer-in new last (λ j c. (same (16384 * j + c)).0)
        (λ s z. (s, record { below = z.below; allowed = λ j h. (same (16384 * j + s j)).1 (z.allowed j h); fits = z.fits }, λ j h. omega arith))
        ∙ fewer-in old new (λ j c. w.fewer (16384 * j + c)) w.keeps

    -- the table is one of domains then
    pub thinned_domains : Thinned p.network.logic p.network.constraints.now p.network.ends.now p.count p.rows.now p.individuals old new → (last : List ℕ)
        → SameAllowed new last → 131072 ≤ length last → Gaps last p.individuals p.count
        → Graded p.network.logic p.network.columns p.count p.individuals p.rows.now old → Domains p last
    thinned_domains w last same long gaps graded = record {
      long = long;
      gaps = gaps;
      graded = λ j c h l a. graded j c h l (w.fewer (16384 * j + c) ((same (16384 * j + c)).0 a));
    }

    pub pruned-walk : Pruned p old new → walk_in p new p.individuals [] ≡ walk_in p old p.individuals []
    pruned-walk w = fewer-in old new (λ j c. w.fewer (16384 * j + c)) (λ s z. (s, w.keeps s z, λ j h. omega arith))
