-- The quantified terms of a list, "some" and "all" as one form, and whether something holds at each of them.
-- Assumes nothing.
use Rattle.std.specs.Prelude.{◌≡◌, refl, List, ℕ, ◌<◌, length}
use Rattle.std.proofs.Common.{subst}
use Rattle.chain.specs.Decisions.{dec_map}
use Rattle.chain.specs.Search.{all?}
use Rattle.chain.specs.Connectives.{Quantifier, existential, universal}
use Rattle.semantics.specs.Terms.{Term, name, not, and, or, some, all, top, bottom, term}

abbrev pub quantified : Quantifier → ℕ → ℕ → Term
quantified existential r c = some r c
quantified universal r c = all r c

-- what holds of each quantified term: of its number, quantifier, role and child
abbrev pub EachQuantified : List Term → (ℕ → Quantifier → ℕ → ℕ → Type 0) → Type 0
EachQuantified ts P = (i : ℕ) → i < length ts → (q : Quantifier) (r c : ℕ) → term ts i ≡ quantified q r c → P i q r c

-- what holds of each term of one quantifier and role: of its number and child
abbrev pub EachOfRole : List Term → Quantifier → (r : ℕ) → (ℕ → ℕ → Type 0) → Type 0
EachOfRole ts q r P = (i : ℕ) → i < length ts → (c : ℕ) → term ts i ≡ quantified q r c → P i c

-- ---- their decisions, by cases on the term

module _ (P : Quantifier → ℕ → ℕ → Type 0) where
  abbrev pub Case : Term → Type 0
  Case (name a) = Unit {0}
  Case (not c) = Unit {0}
  Case (and c d) = Unit {0}
  Case (or c d) = Unit {0}
  Case (some r c) = P existential r c
  Case (all r c) = P universal r c
  Case top = Unit {0}
  Case bottom = Unit {0}

  pub case_at : (t : Term) → Case t → (q : Quantifier) (r c : ℕ) → t ≡ quantified q r c → P q r c
  case_at t h existential r c e = subst Case e h
  case_at t h universal r c e = subst Case e h

  pub case_of : (t : Term) → ((q : Quantifier) (r c : ℕ) → t ≡ quantified q r c → P q r c) → Case t
  case_of (name a) f = tt
  case_of (not c) f = tt
  case_of (and c d) f = tt
  case_of (or c d) f = tt
  case_of (some r c) f = f existential r c refl
  case_of (all r c) f = f universal r c refl
  case_of top f = tt
  case_of bottom f = tt

  unfoldable case? : ((q : Quantifier) (r c : ℕ) → Dec (P q r c)) → (t : Term) → Dec (Case t)
  case? p (name a) = yes tt
  case? p (not c) = yes tt
  case? p (and c d) = yes tt
  case? p (or c d) = yes tt
  case? p (some r c) = p existential r c
  case? p (all r c) = p universal r c
  case? p top = yes tt
  case? p bottom = yes tt

unfoldable pub each_quantified? : (ts : List Term) (P : ℕ → Quantifier → ℕ → ℕ → Type 0) → ((i : ℕ) (q : Quantifier) (r c : ℕ) → Dec (P i q r c)) → Dec (EachQuantified ts P)
unfolding all? dec_map case?
each_quantified? ts P p = all? (λ i. dec_map (case_at (P i) (term ts i)) (case_of (P i) (term ts i)) (case? (P i) (p i) (term ts i))) (length ts)
