-- Books that differ in their pairs alone: what meets more pairs meets fewer, and pairs play no part in a grade. So with more pairs fewer types occur, and
-- the outcome is no better.
-- Assumes nothing.
use mathlib.Core.Logic.{inl, inr}
use mathlib.Core.List.{List}
use Prim.Native.Nat.{ℕ, ◌≤◌, ◌<◌}
use native.Mathlib.Omega.{arith}
use Rattle.chain.specs.Lists.{Mem}
use Rattle.chain.proofs.Lists.{each_mem, mem_each}
use Rattle.semantics.specs.Terms.{Term}
use Rattle.semantics.specs.Roles.{RolePair}
use Rattle.semantics.specs.Interpretations.{Interpretation, graded, grade_at}
use Rattle.semantics.specs.Books.{Rule, MembershipClaim, LinkClaim, Book, Valid, MeetsPair, RuleModel, MeetsClaims}
use Rattle.types.specs.Candidates.{candidates, grade_in}
use Rattle.elimination.specs.Survivors.{Survives}
use Rattle.elimination.specs.Listed.{Occurs}
use Rattle.elimination.proofs.Listed.{survives_realised}
use Rattle.placement.specs.Outcome.{outcome}
use Rattle.placement.proofs.Outcome.{OutcomeSays, verdict}

module _ (N : ℕ) (ts : List Term) (rs : List Rule) (ms : List MembershipClaim) (ls : List LinkClaim) where
  -- the book of these with the pairs ps
  abbrev pub with_pairs : List RolePair → Book
  with_pairs ps = record { grading = graded N ts ps; rules = rs; pairs = ps; memberships = ms; links = ls }

  module _ (ps qs : List RolePair) (more : (q : RolePair) → Mem q ps → Mem q qs) where
    model_with-fewer : (I : Interpretation) → RuleModel (with_pairs qs) I → RuleModel (with_pairs ps) I
    unfolding grade_at
    model_with-fewer I m = record {
      on_chain = m.on_chain;
      rules_met = m.rules_met;
      pairs_met = mem_each ps (λ q k. each_mem (MeetsPair I) qs m.pairs_met q (more q k));
    }

    claims_with-fewer : (I : Interpretation) → MeetsClaims (with_pairs qs) I → MeetsClaims (with_pairs ps) I
    unfolding grade_at
    claims_with-fewer I m = record { memberships_met = m.memberships_met; links_met = m.links_met }

    occurs_with-fewer : (c : ℕ) → (c < candidates (with_pairs qs).grading) × Occurs (with_pairs qs) c → (c < candidates (with_pairs ps).grading) × Occurs (with_pairs ps) c
    unfolding candidates grade_at grade_in
    occurs_with-fewer c (l, (I, m, e, h, t)) = (l, (I, model_with-fewer I m, e, h, t))

    module _ (v : Valid (with_pairs ps)) (w : Valid (with_pairs qs)) where
      -- what survives more pairs survives fewer
      pub survives_fewer : (c : ℕ) → Survives (with_pairs qs).grading rs c → Survives (with_pairs ps).grading rs c
      survives_fewer c m = (survives_realised (with_pairs ps) v c).1 (occurs_with-fewer c ((survives_realised (with_pairs qs) w c).0 m))

      pub outcome_no_better : outcome (with_pairs ps) ≤ outcome (with_pairs qs)
      outcome_no_better = go (outcome (with_pairs ps)) (outcome (with_pairs qs)) (verdict (with_pairs ps) v) (verdict (with_pairs qs) w)
        where
          go : (n m : ℕ) → OutcomeSays (with_pairs ps) v n → OutcomeSays (with_pairs qs) w m → n ≤ m
          go n m (inl u) (inl t) = omega (arith, u.0, t.0)
          go n m (inl u) (inr (inl t)) = omega (arith, u.0, t.0)
          go n m (inl u) (inr (inr t)) = omega (arith, u.0, t.0)
          go n m (inr (inl u)) (inl t) = absurd (u.2 (t.1.0, model_with-fewer t.1.0 t.1.1, claims_with-fewer t.1.0 t.1.2))
          go n m (inr (inl u)) (inr (inl t)) = omega (arith, u.0, t.0)
          go n m (inr (inl u)) (inr (inr t)) = omega (arith, u.0, t.0)
          go n m (inr (inr u)) (inl t) = absurd (u.1 (t.1.0, model_with-fewer t.1.0 t.1.1))
          go n m (inr (inr u)) (inr (inl t)) = absurd (u.1 (t.1.0, model_with-fewer t.1.0 t.1.1))
          go n m (inr (inr u)) (inr (inr t)) = omega (arith, u.0, t.0)
