-- Laws of terms as values: the operands of one that is read from terms that are as described.
-- Assumes nothing.
use mathlib.Core.Path.{◌≡◌, refl, sym, ap, subst}
use mathlib.Core.List.{List}
use Prim.Native.Nat.{ℕ, ◌≤◌, ◌<◌}
use native.Mathlib.Omega.{arith}
use Rattle.chain.specs.Connectives.{Quantifier as TheQuantifier, existential, universal}
use Rattle.semantics.specs.Terms.{Term as TheTerm, name, not, and, or, some, all, top, bottom}
use Rattle.semantics.specs.Quantified.{quantified}
use Rattle.sections.specs.declared.Quantifier.{Quantifier}
use Rattle.sections.specs.declared.Quantifier.TheVariants.{Existential, Universal}
use Rattle.sections.specs.declared.Term.{Term}
use Rattle.sections.specs.declared.Term.TheVariants.{Name, Not, And, Or, Quantified, Top, Bottom}
use Rattle.sections.specs.Terms.{Described, kind_at, a_at, b_at, term_count, term_at, TermsRight}
use Rattle.sections.specs.Values.{as_term, OperandsBelow}
use Rattle.sections.proofs.Terms.{by_kind, kind_number}

-- the same of what the value stands for
unfoldable Below : (i : ℕ) → TheTerm → Type 0
Below i (name a) = a < 16
Below i (not c) = c < i
Below i (and c d) = (c < i) × (d < i)
Below i (or c d) = (c < i) × (d < i)
Below i (some r c) = (r < 8) × (c < i)
Below i (all r c) = (r < 8) × (c < i)
Below i top = Unit {0}
Below i bottom = Unit {0}

below-operands : (i : ℕ) (t : Term) → Below i (as_term t) → OperandsBelow i t
unfolding Below
below-operands i (Name a) h = h
below-operands i (Not c) h = h
below-operands i (And c d) h = h
below-operands i (Or c d) h = h
below-operands i (Quantified Existential r c) h = h
below-operands i (Quantified Universal r c) h = h
below-operands i Top h = h
below-operands i Bottom h = h

pub operands-right : (s : List ℕ) (i : ℕ) (t : Term) → TermsRight s → i < term_count s → as_term t ≡ term_at s i → OperandsBelow i t
unfolding Below
operands-right s i t ok h e =
    below-operands i t (subst (Below i) (sym e)
    (by_kind (λ k u. Described i k (a_at s i) (b_at s i) → Below i u) (a_at s i) (b_at s i) (λ d. d.0) (λ d. d.0) (λ d. d) (λ d. d) (λ d. d) (λ d. d)
    (λ _. tt) (λ _. tt) (λ k _ _. tt) (kind_at s i) (ok i h)))

kinds : (q : TheQuantifier) (r x : ℕ) → (4 ≤ kind_number (quantified q r x)) × (kind_number (quantified q r x) ≤ 5)
kinds existential r x = (omega arith, omega arith)
kinds universal r x = (omega arith, omega arith)

-- a value that is no quantified term stands for none
pub other_value : (t : Term) → ((k : Quantifier) (r c : ℕ) → ¬ (t ≡ Quantified k r c)) → (q : TheQuantifier) (r x : ℕ)
    → ¬ (as_term t ≡ quantified q r x)
other_value (Name a) n q r x e = absurd (omega (arith, kinds q r x, ap kind_number e))
other_value (Not c) n q r x e = absurd (omega (arith, kinds q r x, ap kind_number e))
other_value (And c d) n q r x e = absurd (omega (arith, kinds q r x, ap kind_number e))
other_value (Or c d) n q r x e = absurd (omega (arith, kinds q r x, ap kind_number e))
other_value (Quantified k r c) n q t x e = absurd (n k r c refl)
other_value Top n q r x e = absurd (omega (arith, kinds q r x, ap kind_number e))
other_value Bottom n q r x e = absurd (omega (arith, kinds q r x, ap kind_number e))
