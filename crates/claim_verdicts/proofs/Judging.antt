-- Laws for the functions: one claim judged by numbers that are read from the cells; the first that is broken of a section's claims.
-- Assumes nothing.
use mathlib.Core.Bool.{Bool, true, false}
use mathlib.Core.Path.{◌≡◌, subst, ◌∙◌}
use mathlib.Core.List.{List}
use Prim.Native.Nat.{ℕ, ◌+◌, ◌-◌, ◌≤◌, ◌<◌}
use native.Mathlib.Omega.{arith}
use lib.ListN.{length}
use Rattle.std.specs.Bool.{MatchBool}
use Rattle.std.specs.List.{range_with_len, AllWithin, HoldsAt}
use Rattle.std.proofs.lemmas.Bool.{MatchBool-at_true, MatchBool-at_false}
use Rattle.std.proofs.lemmas.List.FromFn.{length-range_with_len, get_or-range_with_len}
use Rattle.chain.proofs.Lists.{each_mem, mem_each}
use Rattle.semantics.specs.Interpretations.{Interpretation}
use Rattle.semantics.specs.Books.{MembershipClaim, membership_individuals}
use Rattle.semantics.proofs.Claims.{mentioned_below}
use Rattle.claims.specs.Claims.{claim_count, membership_at, memberships_of, link_at, links_of}
use Rattle.working.specs.Working.{first_broken, membership_verdict, link_verdict, memberships_verdict, links_verdict}
use Rattle.working.proofs.Working.{first-table}
use Rattle.claim_verdicts.specs.Covered.{MeetsMember, MeetsIfMentioned, MembersMeet}

-- ---- one claim

-- each member meets a claim if the individuals below n do that it mentions, where it mentions no others; and one that does not is enough
module _ (grade : (term element : ℕ) → ℕ) (element : (individual : ℕ) → ℕ) (q : MembershipClaim) where
  pub members_met : (n : ℕ) → membership_individuals q ≤ n → ((j : ℕ) → j < n → MeetsIfMentioned grade element q j) → MembersMeet grade element q
  members_met n within h = mem_each q.members (λ j m. h j (mentioned_below q n within j m) m)

  pub members_unmet : (j : ℕ) → ¬ MeetsIfMentioned grade element q j → ¬ MembersMeet grade element q
  members_unmet j n h = n (λ m. each_mem (MeetsMember grade element q) q.members h j m)

-- what `all` answers of the numbers from a on, below b
pub range_told : (P : ℕ → Type 0) (a b : ℕ) (r : Bool)
    → MatchBool r (AllWithin P (range_with_len a (b - a)) 0 (length (range_with_len a (b - a))))
    ((k : ℕ) × (k < length (range_with_len a (b - a))) × HoldsAt (λ j. ¬ P j) (range_with_len a (b - a)) k)
    → (r ≡ true → (j : ℕ) → a ≤ j → j < b → P j) × (r ≡ false → (j : ℕ) × ¬ P j)
range_told P a b r m = (
  λ t j lo hi. let e : a + (j - a) ≡ j = omega arith in
      subst P (get_or-range_with_len a (b - a) (j - a) 0 (omega arith) ∙ e)
      (MatchBool-at_true _ _ t m (j - a) 0 (omega arith) (rw length-range_with_len (omega arith))),
  λ f. let w = MatchBool-at_false _ _ f m in
      (a + w.0, subst (λ (j : ℕ). ¬ P j) (get_or-range_with_len a (b - a) w.0 0 (omega (arith, length-range_with_len a (b - a)))) (w.2 0)),
)

-- ---- a section's claims, as a loop goes through them

module _ (grade : (term element : ℕ) → ℕ) (s : List ℕ) where
  pub memberships-first : (element : (individual : ℕ) → ℕ)
      → memberships_verdict grade element (memberships_of s) ≡ first_broken (λ k. membership_verdict grade element k (membership_at s k)) (claim_count s)
  unfolding memberships_verdict memberships_of
  memberships-first element = first-table (membership_verdict grade element) (membership_at s) _ (claim_count s)

pub links-first : (I : Interpretation) (s : List ℕ) → links_verdict I (links_of s) ≡ first_broken (λ k. link_verdict I k (link_at s k)) (claim_count s)
unfolding links_verdict links_of
links-first I s = first-table (link_verdict I) (link_at s) _ (claim_count s)
