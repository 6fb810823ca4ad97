-- Terms (concepts), as document 01's table has them, and their evaluation once for every carrier.
-- Assumes nothing.
use Rattle.std.specs.Prelude.{List, ℕ, zero, suc, ◌<◌, length, get_or}

-- "A term is three bytes: kind, a, b": kinds 0 to 7, in order. A name and a role are numbers, and so is a child: the number of a term.
pub data Term : Type 0 where
  name : ℕ → Term
  not : ℕ → Term
  and or : ℕ → ℕ → Term
  some all : ℕ → ℕ → Term
  top bottom : Term
  deriving Discrete as Term-discrete

-- term number i of a list of terms
abbrev pub term : List Term → ℕ → Term
term ts i = get_or ts i bottom

-- "A child is a term number below the term's own", i
abbrev pub Children : ℕ → Term → Type 0
Children i (name a) = Unit {0}
Children i (not c) = c < i
Children i (and c d) = (c < i) × (d < i)
Children i (or c d) = (c < i) × (d < i)
Children i (some r c) = c < i
Children i (all r c) = c < i
Children i top = Unit {0}
Children i bottom = Unit {0}

abbrev pub Ordered : List Term → Type 0
Ordered ts = (i : ℕ) → i < length ts → Children i (term ts i)

-- ---- evaluation

-- What each kind of term makes of the values of its children. Names and quantified terms are also told their own number, i.
pub record Carrier (X : Type 0) : Type 0 where
  pub at_name : (i : ℕ) (a : ℕ) → X
  pub at_not : X → X
  pub at_and : X → X → X
  pub at_or : X → X → X
  pub at_some : (i : ℕ) (r : ℕ) → X → X
  pub at_all : (i : ℕ) (r : ℕ) → X → X
  pub at_top : X
  pub at_bottom : X

module _ {X : Type 0} (A : Carrier X) where
  -- term t, of number i, from the values v of earlier terms
  abbrev pub local : ℕ → Term → (ℕ → X) → X
  local i (name a) v = A.at_name i a
  local i (not c) v = A.at_not (v c)
  local i (and c d) v = A.at_and (v c) (v d)
  local i (or c d) v = A.at_or (v c) (v d)
  local i (some r c) v = A.at_some i r (v c)
  local i (all r c) v = A.at_all i r (v c)
  local i top v = A.at_top
  local i bottom v = A.at_bottom

  module _ (ts : List Term) where
    -- by a bound on the depth, n
    unfoldable pub deep : ℕ → ℕ → X
    deep zero i = A.at_bottom
    deep (suc n) i = local i (term ts i) (deep n)

    -- the value of term i: for ordered terms, the one solution of `value i = local i (term i) value` (proofs/Terms)
    unfoldable pub value : ℕ → X
    value i = deep (suc i) i
