-- Laws of the verdict by bytes: it is the verdict on the book and the sheet that the bytes stand for, and the checks on these establish what it
-- asks.
-- Assumes nothing.
use mathlib.Core.Path.{◌≡◌}
use mathlib.Core.List.{List}
use Prim.Native.Nat.{ℕ, suc, ◌*◌, ◌≤◌, ◌<◌, max}
use native.Mathlib.Nat.{mul-le-mul_right}
use native.Mathlib.Omega.{arith}
use lib.ListN.{length}
use Rattle.chain.specs.Lists.{highest}
use Rattle.chain.proofs.Lists.{highest-at}
use Rattle.semantics.specs.Interpretations.{Grading, Interpretation, grade_at}
use Rattle.semantics.specs.Books.{Book, Valid, membership_individuals, link_individuals, link_roles, pair_roles}
use Rattle.claims.specs.Rules.{rules_of, RulesRight}
use Rattle.claims.specs.Pairs.{pair_count, pair_at, pairs_of}
use Rattle.claims.specs.Claims.{claim_count, membership_at, memberships_of, MembershipsRight, link_at, links_of}
use Rattle.claims.specs.Books.{book_of_sections}
use Rattle.working.specs.Working.{link_verdict, links_verdict, verdict_by, verdict_of}
use Rattle.working.proofs.Working.{verdict_same}
use Rattle.sheets.specs.Reading.{interpretation}
use Rattle.sheets.proofs.Reading.{everywhere}
use Rattle.columns.specs.Columns.{cell_at, HoldsGrades}
use Rattle.columns.specs.declared.Columns.{Columns}
use Rattle.verdicts.specs.Verdicts.{verdict_in, Covered}
use Rattle.cells.specs.Cells.{Seated}

-- ---- the verdict on the book

module _ (G : Grading) (rs ps ms qs : List ℕ) (n A : ℕ) (ns ls js : List ℕ) (v : Columns) where
  abbrev book : Book
  book = book_of_sections G rs ps ms qs

  abbrev whole : Interpretation
  whole = interpretation n A ns ls js

  -- where the columns hold the grades; no rule, pair or claim asks for the sheet's names besides
  pub verdict_in_lem : Valid book → 0 < n → Seated n js → HoldsGrades G whole v → verdict_in rs ps ms qs v n ls js ≡ verdict_of book whole
  unfolding verdict_in verdict_of verdict_by links_verdict link_verdict
  verdict_in_lem ok z s h =
      verdict_same (cell_at v) (grade_at G whole) whole (length G.terms) h (everywhere (λ e. e < n) js z s) (rules_of rs) (pairs_of ps)
      (memberships_of ms) (links_of qs) ok.rules_in ok.terms_in_range

-- ---- what the checks establish: on rules and claims against t terms, and on a sheet with as many individuals and roles, of pairs too, as the book counts

module _ (rs ps ms qs : List ℕ) (n : ℕ) (ls js : List ℕ) (N t R : ℕ) where
  pub covered : RulesRight rs t → MembershipsRight ms N t → t ≤ 64
      → max (highest membership_individuals (memberships_of ms)) (highest link_individuals (links_of qs)) ≤ length js
      → max (highest link_roles (links_of qs)) (highest pair_roles (pairs_of ps)) ≤ R → R * (n * n) ≤ length ls → Covered rs ps ms qs n ls js
  unfolding pairs_of memberships_of links_of
  covered r m c i l w = record {
    rules_right = λ k b. let a = r k b in (omega arith, omega arith);
    pairs_covered = λ k b.
        let a = highest-at pair_roles (pair_at ps) (pair_count ps) k b in (
          omega (arith, mul-le-mul_right {m = suc (pair_at ps k).lower} {n = R} (n * n) (omega arith)),
          omega (arith, mul-le-mul_right {m = suc (pair_at ps k).upper} {n = R} (n * n) (omega arith)),
        );
    memberships_covered = λ k b. let a = m k b in (omega arith, omega (arith, highest-at membership_individuals (membership_at ms) (claim_count ms) k b));
    links_covered = λ k b. (
      omega (arith, mul-le-mul_right {m = link_roles (link_at qs k)} {n = R} (n * n) (omega (arith, highest-at link_roles (link_at qs) (claim_count qs) k b))),
      omega (arith, highest-at link_individuals (link_at qs) (claim_count qs) k b),
    );
  }
