-- The verdict by the bytes that code has: a book's sections, a sheet's links and individuals, and columns of grades; and what these must cover.
-- Assumes nothing.
use Rattle.std.specs.Prelude.{List, ℕ}
use Rattle.claims.specs.Rules.{rules_of, RulesRight}
use Rattle.claims.specs.Pairs.{pairs_of}
use Rattle.claims.specs.Claims.{memberships_of, links_of}
use Rattle.working.specs.Working.{verdict_by}
use Rattle.working.specs.declared.Verdict.{Verdict}
use Rattle.columns.specs.Columns.{cell_at}
use Rattle.columns.specs.declared.Columns.{Columns}
use Rattle.cells.specs.Cells.{sheet}
use Rattle.rule_verdicts.specs.Covered.{PairsCovered}
use Rattle.claim_verdicts.specs.Covered.{MembershipsCovered, LinksCovered}

unfoldable pub verdict_in : (rules pairs memberships claims : List ℕ) (columns : Columns) (n : ℕ) (links individuals : List ℕ) → Verdict
verdict_in rs ps ms qs v n ls js = verdict_by (cell_at v) (sheet n ls js) (rules_of rs) (pairs_of ps) (memberships_of ms) (links_of qs)

pub record Covered (rs ps ms qs : List ℕ) (n : ℕ) (ls js : List ℕ) : Type 0 where
  pub rules_right : RulesRight rs 64
  pub pairs_covered : PairsCovered n ls ps
  pub memberships_covered : MembershipsCovered js ms
  pub links_covered : LinksCovered n ls js qs
