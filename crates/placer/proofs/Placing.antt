-- From the search to the book's placement: in the filter's table the consistent placements are those that meet the claims.
-- Assumes nothing.
use mathlib.Core.Path.{◌≡◌, ◌∙◌, sym, subst}
use mathlib.Core.Bool.{Bool}
use mathlib.Core.Logic.{dite}
use mathlib.Core.List.{List, []}
use Prim.Native.Nat.{ℕ, ◌*◌, ◌<◌}
use native.Mathlib.Decide.{ℕ_discrete}
use native.Mathlib.Omega.{arith}
use lib.ListN.{length, take}
use Rattle.chain.specs.Lists.{from}
use Rattle.semantics.specs.Books.{Book}
use Rattle.gradings.specs.declared.Logic.{Logic}
use Rattle.slots.specs.Slots.{slot_count}
use Rattle.elimination.specs.Marks.{Marked, marked}
use Rattle.elimination.proofs.Marks.{marked_mem, marked_ascending}
use Rattle.placement.specs.Dictionary.{Drawn, Finds as FindsFirst}
use Rattle.placement.specs.Outcome.{seat, HoldsAt, placement_among}
use Rattle.placement.proofs.Dictionary.{finds_same, finds_fewer, not-after_refl}
use Rattle.placement.proofs.Outcome.{among_finds}
use Rattle.levels.specs.Rows.{row_at}
use Rattle.network.specs.declared.Constraint.{Constraint}
use Rattle.network.specs.Constraints.{AllMet}
use Rattle.network.specs.Network.{between}
use Rattle.domains.specs.Consistent.{Consistent, Graded}
use Rattle.filter.specs.Filter.{Admits, grades_of, Filtered}
use Rattle.placer.specs.Walk.{placed}
use Rattle.placer.specs.Seats.{May, may?, walk_of}
use Rattle.placer.specs.Placing.{claims_book, Places}
use Rattle.placer.proofs.Walk.{Follows}
use Rattle.placer.proofs.Pruning.{seat_mem, seats_drawn, passed, asked, walk-follows}
use Rattle.placer.proofs.Prepared.{Prepared, on_chain, members_hold, links_hold}

module _ {lg : Logic} {ts slots ms ls marks : List ℕ} {count n : ℕ} {net : List Constraint} {ends : List ℕ}
    (w : Prepared lg ts slots ms ls marks count n net ends) (rows table : List ℕ) (f : Filtered lg ts slots ms net ends marks n count rows table) where
  abbrev B : Book
  B = claims_book lg ts ms ls

  -- the rows of its candidates are on the chain
  pub filtered_graded : Graded lg (2 * slot_count slots) count n rows table
  filtered_graded j c h l a =
      let u = (f.allowed j c h (omega (arith, w.task.few))).0 a in
      on_chain w c (row_at rows c) (f.rowed c u.0 u.1)

  -- ---- a consistent placement in the filter's table meets the claims

  module _ (p : List ℕ) (d : length p ≡ n) (z : Consistent lg net ends count rows n table (seat p)) where
    cell : (j : ℕ) → j < n
        → (seat p j < count) × Marked marks (seat p j) × Admits lg ms net ends j (grades_of lg ts (seat p j)) (row_at rows (seat p j))
    cell j h = (f.allowed j (seat p j) h (omega (arith, z.below j h, w.task.few))).0 (z.allowed j h)

    pair : (a b : ℕ) → a < n → b < n
        → AllMet lg (between net ends a b) (row_at rows (seat p a)) (row_at rows (seat p b))
    pair a b h k = dite (ℕ_discrete b a) (λ e. rw e (cell a h).2.1) (λ g. (z.fits a b h k g).0)

    consistent_meets : Drawn (marked marks count) n p × HoldsAt B p
    consistent_meets = (
      seats_drawn n p (marked marks count) d (λ j h. let u = cell j h in (marked_mem marks count (seat p j)).1 (u.0, u.1)),
      (
        (members_hold w (seat p)).0 (λ j h. (cell j h).2.0),
        (links_hold w (seat p) rows (λ j h. let u = cell j h in f.rowed (seat p j) u.0 u.1)).0 pair,
      ),
    )

  -- ---- and the other way round

  module _ (p : List ℕ) (d : Drawn (marked marks count) n p) (m : HoldsAt B p) where
    marks-at : (j : ℕ) → j < n → (seat p j < count) × Marked marks (seat p j)
    marks-at j h = (marked_mem marks count (seat p j)).0 (seat_mem n p (marked marks count) d j h)

    meets_consistent : Consistent lg net ends count rows n table (seat p)
    meets_consistent =
        let pair = (links_hold w (seat p) rows (λ j h. let u = marks-at j h in f.rowed (seat p j) u.0 u.1)).1 m.1 in
        record {
          below = λ j h. (marks-at j h).0;
          allowed = λ j h. let u = marks-at j h in
              (f.allowed j (seat p j) h (omega (arith, u.0, w.task.few))).1 (u.0, u.1, ((members_hold w (seat p)).1 m.0 j h, pair j j h h));
          fits = λ j i h k _. (pair j i h k, pair i j k h);
        }

  -- ---- so the search finds the book's placement

  walk-placement : walk_of lg net ends rows table count n [] ≡ placement_among B (marked marks count)
  walk-placement =
      finds_same (marked marks count) n (HoldsAt B) (walk_of lg net ends rows table count n []) (placement_among B (marked marks count))
      (finds_fewer (from 0 count) (marked marks count) n (Follows (May lg net ends rows table) (may? lg net ends rows table) []) (HoldsAt B)
      (λ p d g. consistent_meets p d.0 (passed lg net ends rows count n table p d g))
      (λ p d m. let u = asked lg net ends rows count n table p d.0 (meets_consistent p d m) in (p, u.0, u.1, not-after_refl p))
      (walk_of lg net ends rows table count n []) (walk-follows lg net ends rows count n table))
      (subst (λ (k : ℕ). FindsFirst (marked marks count) k (HoldsAt B) (placement_among B (marked marks count))) (sym w.task.individuals_are)
      (among_finds B (marked marks count) (marked_ascending marks count)))

  -- as code has it
  pub found-placement : (r : Bool) (seats : List ℕ) → placed r (take n seats) ≡ walk_of lg net ends rows table count n []
      → Places lg ts ms ls marks count n r seats
  found-placement r seats e = e ∙ walk-placement
