-- `models::write_sheet` meets its contract. The four parts stand one after another.
-- Assumes nothing.
use mathlib.Core.Path.{◌≡◌, refl, ◌∙◌}
use mathlib.Core.List.{List}
use Prim.Native.Nat.{ℕ, ◌*◌, ◌-◌, ◌≤◌}
use native.Mathlib.Omega.{arith}
use lib.ListN.{length}
use borrow.Author.Rules.{rules}
use Rattle.models.specs.Rows.{Small}
use Rattle.models.proofs.Filling.{pasted, length_part}
use Rattle.models.proofs.Rows.{sheet-written}
use Rattle.models.proofs.write_sheet.Goals as goal

module _ (types seats : List ℕ) (names roles : ℕ) (few : (length types ≤ 64) × (length seats ≤ 8) × (names ≤ 16) × (roles ≤ 8)) where
  small : Small (record { elements = length types; names = names; roles = roles; individuals = length seats })
  small = record { elements_le = few.0; names_le = few.2; roles_le = few.3; individuals_le = few.1 }

pub write_head-requires : goal.write_head-requires
write_head-requires c =
    let l = c.args.listed in
    (small l.types.now l.seats.now l.names l.roles l.few, search rules)

pub write_names-requires : goal.write_names-requires
write_names-requires c =
    let l = c.args.listed in
    let to = c.links_at-links in
    let head = c.write_head.new.head in
    let q : to.result - 12 ≡ length l.types.now * l.names = omega (arith, to.ensures) in record {
      n_bound = (l.few.0, c.requires.rows_long);
      exact = length_part (pasted c.args.sheet.now 0 12 head) 12 to.result (search rules) ∙ q;
    }

pub write_links-requires : goal.write_links-requires
write_links-requires c =
    let l = c.args.listed in
    let from = c.links_at-links in
    let to = c.individuals_at-individuals in
    let n = length l.types.now in
    let q : to.result - from.result ≡ l.roles * (n * n) = omega (arith, from.ensures, to.ensures) in record {
      counts_bound = (l.few.3, l.few.0, c.requires.rows_long);
      exact = length_part _ from.result to.result (search rules) ∙ q;
    }

pub returns : goal.returns
returns c =
    let g = c.args.grader.now in
    let l = c.args.listed in
    sheet-written c.args.steps g.logic g.terms.now c.args.rows.now l.types.now l.seats.now
    (record { elements = length l.types.now; names = l.names; roles = l.roles; individuals = length l.seats.now }) refl refl c.args.sheet.now
    _ _ _ _ _ _ _ c.write_head.ensures c.write_names.ensures c.write_links.ensures c.write_seats.ensures c.links_at-links.ensures
    c.individuals_at-individuals.ensures c.end_at-end.ensures
