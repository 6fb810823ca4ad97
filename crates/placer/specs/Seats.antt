-- Placing the next individual: at a candidate that the table allows and that is compatible with those of the individuals before it.
-- Assumes nothing.
use Rattle.std.specs.Prelude.{Option as OptionOfCode, MatchOption, ◌≡◌, Bool, List, [], ℕ, ◌+◌, ◌*◌, ◌≤◌, ◌<◌, get_or, take}
use Rattle.std.proofs.Math.Option.{Option}
use Rattle.std.proofs.Math.Decide.{ℕ_discrete}
use Rattle.std.proofs.Math.ListN.{length}
use Rattle.chain.specs.Decisions.{dec_and}
use Rattle.chain.specs.Search.{all?}
use Rattle.chain.specs.Lists.{from}
use Rattle.chain.specs.Connectives.{through, within?}
use Rattle.sections.specs.Values.{as_quantifier}
use Rattle.gradings.specs.Gradings.{connectives_of}
use Rattle.gradings.specs.declared.Logic.{Logic}
use Rattle.grades.specs.Rows.{entry}
use Rattle.placement.specs.Outcome.{seat}
use Rattle.levels.specs.Rows.{row_at}
use Rattle.network.specs.declared.Constraint.{Constraint}
use Rattle.network.specs.Constraints.{constraint_count, constraint_at, AllMet}
use Rattle.network.specs.Network.{between}
use Rattle.domains.specs.Tables.{Allowed}
use Rattle.domains.specs.Consistent.{Fits}
use Rattle.domains.specs.declared.Instance.{Instance}
use Rattle.placer.specs.Walk.{walk, placed}

-- whether all constraints of a list are met
unfoldable pub all_met? : (l : Logic) (s : List Constraint) (a b : List ℕ) → Dec (AllMet l s a b)
unfolding all? within?
all_met? l s a b =
    all? (λ y. let k = constraint_at s y in
    within? (as_quantifier k.quantifier) (through (connectives_of l) (as_quantifier k.quantifier) k.level (entry b k.child)) (entry a k.own)) (constraint_count s)

module _ (l : Logic) (net : List Constraint) (ends rows table : List ℕ) where
  -- candidate c is allowed to individual k and compatible with those of the k before it, who sit at the seats
  abbrev pub FitsNext : (seats : List ℕ) (k c : ℕ) → Type 0
  FitsNext seats k c = Allowed table k c × ((i : ℕ) → i < k → Fits l net ends i k (row_at rows (seat seats i)) (row_at rows c))

  -- so it is after all those seated by q
  abbrev pub May : (q : List ℕ) (c : ℕ) → Type 0
  May q c = FitsNext q (length q) c

  unfoldable pub may? : (q : List ℕ) (c : ℕ) → Dec (May q c)
  unfolding ℕ_discrete all? dec_and all_met?
  may? q c =
      dec_and (ℕ_discrete (get_or table (16384 * length q + c) 0) 1)
      (all? (λ i. dec_and (all_met? l (between net ends i (length q)) (row_at rows (seat q i)) (row_at rows c))
      (all_met? l (between net ends (length q) i) (row_at rows c) (row_at rows (seat q i)))) (length q))

  -- the search for the seats of k individuals more, after those of q, at candidates below count
  unfoldable pub walk_of : (count k : ℕ) (q : List ℕ) → Option (List ℕ)
  unfolding walk may? from
  walk_of count k q = walk May may? (from 0 count) k q

-- ---- the same of an instance

module _ (p : Instance) (table : List ℕ) where
  abbrev pub FitsNextIn : (seats : List ℕ) (k c : ℕ) → Type 0
  FitsNextIn = FitsNext p.network.logic p.network.constraints.now p.network.ends.now p.rows.now table

  abbrev pub MayIn : (q : List ℕ) (c : ℕ) → Type 0
  MayIn = May p.network.logic p.network.constraints.now p.network.ends.now p.rows.now table

  abbrev pub may_in? : (q : List ℕ) (c : ℕ) → Dec (MayIn q c)
  may_in? = may? p.network.logic p.network.constraints.now p.network.ends.now p.rows.now table

  abbrev pub walk_in : (k : ℕ) (q : List ℕ) → Option (List ℕ)
  walk_in = walk_of p.network.logic p.network.constraints.now p.network.ends.now p.rows.now table p.count

  -- c is the first candidate from `start` on that fits
  pub record FirstFit (seats : List ℕ) (k start c : ℕ) : Type 0 where
    pub below : c < p.count
    pub from_start : start ≤ c
    pub fits : FitsNextIn seats k c
    pub none : (e : ℕ) → start ≤ e → e < c → ¬ FitsNextIn seats k e

  -- it is found, or none fits
  abbrev pub NextFit : (seats : List ℕ) (k start : ℕ) → OptionOfCode ℕ → Type 0
  NextFit seats k start found = MatchOption found ((e : ℕ) → start ≤ e → e < p.count → ¬ FitsNextIn seats k e) (FirstFit seats k start)

  -- r and the seats are what the search for all individuals finds
  abbrev pub Finds : (r : Bool) (seats : List ℕ) → Type 0
  Finds r seats = placed r (take p.individuals seats) ≡ walk_in p.individuals []

-- the first k individuals sit at candidates
abbrev pub SeatedBelow : (seats : List ℕ) (k : ℕ) → Type 0
SeatedBelow seats k = (i : ℕ) → i < k → seat seats i < 16384
