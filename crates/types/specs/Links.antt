-- The link (role degree) between two candidates. Document 01, "Types and links", and document 02, P1.
-- Assumes nothing.
use Rattle.std.specs.Prelude.{◌≡◌, ℕ, ◌≤◌}
use Rattle.semantics.specs.Interpretations.{Grading}
use Rattle.semantics.specs.Links.{link_between, alone}
use Rattle.types.specs.Candidates.{grade_in}

abbrev pub link : Grading → (r c d : ℕ) → ℕ
link G r c d = link_between G r (grade_in G c) (grade_in G d)

-- "its own bound": the link by the terms of that role alone, which is document 01's
abbrev pub own_bound : Grading → (r c d : ℕ) → ℕ
own_bound G r c d = link_between (alone G) r (grade_in G c) (grade_in G d)

-- x is the least of the numbers f t, for the t in S
pub record LeastOf (S : ℕ → Type 0) (f : ℕ → ℕ) (x : ℕ) : Type 0 where
  pub none_less : (t : ℕ) → S t → x ≤ f t
  pub one_of_them : (t : ℕ) × S t × (f t ≡ x)
