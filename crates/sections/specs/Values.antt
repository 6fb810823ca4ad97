-- What a quantifier and a term stand for, as code has them as values, and how far the operands of a term may go.
-- Assumes nothing.
use Rattle.std.specs.Prelude.{ℕ, ◌<◌}
use Rattle.chain.specs.Connectives.{Quantifier as TheQuantifier, existential, universal}
use Rattle.semantics.specs.Terms.{Term as TheTerm, name, not, and, or, top, bottom}
use Rattle.semantics.specs.Quantified.{quantified}
use Rattle.sections.specs.declared.Quantifier.{Quantifier}
use Rattle.sections.specs.declared.Quantifier.TheVariants.{Existential, Universal}
use Rattle.sections.specs.declared.Term.{Term}
use Rattle.sections.specs.declared.Term.TheVariants.{Name, Not, And, Or, Quantified, Top, Bottom}

abbrev pub as_quantifier : Quantifier → TheQuantifier
as_quantifier Existential = existential
as_quantifier Universal = universal

abbrev pub as_term : Term → TheTerm
as_term (Name a) = name a
as_term (Not c) = not c
as_term (And c d) = and c d
as_term (Or c d) = or c d
as_term (Quantified q r c) = quantified (as_quantifier q) r c
as_term Top = top
as_term Bottom = bottom

-- of term i as described: its name is below 16, its role below 8, its children below i
abbrev pub OperandsBelow : (i : ℕ) → Term → Type 0
OperandsBelow i (Name a) = a < 16
OperandsBelow i (Not c) = c < i
OperandsBelow i (And c d) = (c < i) × (d < i)
OperandsBelow i (Or c d) = (c < i) × (d < i)
OperandsBelow i (Quantified q r c) = (r < 8) × (c < i)
OperandsBelow i Top = Unit {0}
OperandsBelow i Bottom = Unit {0}
