-- The chain 0..N of document 01 ("Grades are 0 to N; grade k stands for the degree k/N") and the connectives on it: a record of operations,
-- the laws that the theory asks of them, and the base instance.
-- Assumes nothing.
use Rattle.std.specs.Prelude.{◌≡◌, ◌↔◌, ℕ, zero, suc, ◌-◌, ◌≤◌, min, max}
use Rattle.std.proofs.Math.Decide.{dec_le}

-- the operations by which a term's grade comes from its children's; grades above N do not occur
pub record Connectives : Type 0 where
  pub negation : ℕ → ℕ
  pub conjunction : ℕ → ℕ → ℕ
  pub disjunction : ℕ → ℕ → ℕ
  -- "all" asks it of link and child, as "some" asks the conjunction
  pub implication : ℕ → ℕ → ℕ

-- the base instance: min, max, complement; "some" by min(link, child), "all" by max(N − link, child)
abbrev pub zadeh : ℕ → Connectives
zadeh N = record { negation = λ x. N - x; conjunction = min; disjunction = max; implication = λ r x. max (N - r) x }

-- what the theory asks: the chain is closed under the operations; a stronger link gives a conjunction that is no smaller and an implication
-- that is no greater; and through a link of 0 "some" takes 0 and "all" takes N
pub record Lawful (N : ℕ) (L : Connectives) : Type 0 where
  pub negation_le : (x : ℕ) → x ≤ N → L.negation x ≤ N
  pub conjunction_le : (x y : ℕ) → x ≤ N → y ≤ N → L.conjunction x y ≤ N
  pub disjunction_le : (x y : ℕ) → x ≤ N → y ≤ N → L.disjunction x y ≤ N
  pub implication_le : (x y : ℕ) → x ≤ N → y ≤ N → L.implication x y ≤ N
  pub conjunction_mono : (r s x : ℕ) → r ≤ s → s ≤ N → x ≤ N → L.conjunction r x ≤ L.conjunction s x
  pub implication_anti : (r s x : ℕ) → r ≤ s → s ≤ N → x ≤ N → L.implication s x ≤ L.implication r x
  pub conjunction_zero : (x : ℕ) → x ≤ N → L.conjunction 0 x ≡ 0
  pub implication_zero : (x : ℕ) → x ≤ N → L.implication 0 x ≡ N

-- ---- the two quantifiers, "some" and "all": one notion with two directions

pub data Quantifier : Type 0 where
  existential universal : Quantifier
  deriving Discrete as Quantifier-discrete

-- what a quantifier takes through a link of grade r from a child of grade x
abbrev pub through : Connectives → Quantifier → ℕ → ℕ → ℕ
through L existential r x = L.conjunction r x
through L universal r x = L.implication r x

-- x does not pass y in the quantifier's direction: "some" is bounded from above, "all" from below
abbrev pub Within : Quantifier → ℕ → ℕ → Type 0
Within existential x y = x ≤ y
Within universal x y = y ≤ x

unfoldable pub within? : (q : Quantifier) (x y : ℕ) → Dec (Within q x y)
unfolding dec_le
within? existential x y = dec_le x y
within? universal x y = dec_le y x

-- ---- a term graded o, through a link of grade s to a child of grade y

-- it takes no more than its grade, and so allows the link; and it takes no less
abbrev pub Permits : Connectives → Quantifier → (s y o : ℕ) → Type 0
Permits L q s y o = Within q (through L q s y) o

abbrev pub Reaches : Connectives → Quantifier → (s y o : ℕ) → Type 0
Reaches L q s y o = Within q o (through L q s y)

-- the children that permit the link are those up to b ("some"), or from b on ("all")
abbrev pub Bounds : (N : ℕ) (L : Connectives) → Quantifier → (s o b : ℕ) → Type 0
Bounds N L q s o b = (y : ℕ) → y ≤ N → Within q y b ↔ Permits L q s y o

-- ---- the link that a term wants of its witness

-- Through a link of grade s a term of grade g takes its grade, or passes it, from a child of grade y, exactly if s is at least w: w is the
-- least such link, and above N where there is none.
abbrev pub Wants : (N : ℕ) (L : Connectives) → Quantifier → (g y w : ℕ) → Type 0
Wants N L q g y w = (s : ℕ) → s ≤ N → (w ≤ s) ↔ Reaches L q s y g

-- over nothing, "some" comes to 0 and "all" to N
abbrev pub neutral : Quantifier → ℕ → ℕ
neutral existential N = 0
neutral universal N = N

abbrev pub join : Quantifier → ℕ → ℕ → ℕ
join existential = max
join universal = min

-- the greatest (existential) or the least (universal) of f 0, .., f (n - 1)
unfoldable pub over : Quantifier → ℕ → (ℕ → ℕ) → ℕ → ℕ
over q N f zero = neutral q N
over q N f (suc n) = join q (over q N f n) (f n)
