-- The layout of a book's bodies. Document 01, "The book", and check 5; document 02, P1, for edition 2.
-- Assumes nothing.
use Rattle.std.specs.Prelude.{◌≡◌, List, ℕ, ◌+◌, ◌*◌, ◌-◌, ◌/◌, ◌≤◌, length}
use Rattle.std.proofs.Math.Decide.{ℕ_discrete}
use Rattle.chain.specs.Decisions.{dec_and, dec_imp}
use Rattle.encoding.specs.Stretches.{stretch}
use Rattle.layout.specs.declared.Sections.{Sections}
use Rattle.heads.specs.Heads.{edition, steps, offset_at, count_at, head, count_of_pairs}

module _ (b : List ℕ) where
  -- "terms (3 bytes each), rules (2 ..), membership claims (4 ..) and link claims (4 ..). The bodies follow .. in that order, without gaps"; "pairs of
  -- lower and upper role, body last": where each body begins, and where the last ends
  unfoldable pub sections_of : Sections
  sections_of = record {
    steps = steps b;
    terms = head (edition b);
    rules = head (edition b) + 3 * count_at b 0;
    memberships = head (edition b) + 3 * count_at b 0 + 2 * count_at b 1;
    links = head (edition b) + 3 * count_at b 0 + 2 * count_at b 1 + 4 * count_at b 2;
    pairs = head (edition b) + 3 * count_at b 0 + 2 * count_at b 1 + 4 * count_at b 2 + 4 * count_at b 3;
    end = head (edition b) + 3 * count_at b 0 + 2 * count_at b 1 + 4 * count_at b 2 + 4 * count_at b 3 + 2 * count_of_pairs b;
  }

  -- ---- check 5

  -- "Do offsets and length agree with the layout?"
  abbrev pub LaidOut : Sections → Type 0
  LaidOut s =
      (offset_at b 0 ≡ s.terms)
      × ((offset_at b 1 ≡ s.rules)
      × ((offset_at b 2 ≡ s.memberships) × ((offset_at b 3 ≡ s.links) × ((edition b ≡ 2 → offset_at b 4 ≡ s.pairs) × (length b ≡ s.end)))))

  unfoldable pub laid_out? : (s : Sections) → Dec (LaidOut s)
  unfolding dec_and dec_imp ℕ_discrete
  laid_out? s =
      dec_and (ℕ_discrete (offset_at b 0) s.terms)
      (dec_and (ℕ_discrete (offset_at b 1) s.rules)
      (dec_and (ℕ_discrete (offset_at b 2) s.memberships)
      (dec_and (ℕ_discrete (offset_at b 3) s.links)
      (dec_and (dec_imp (ℕ_discrete (edition b) 2) (ℕ_discrete (offset_at b 4) s.pairs)) (ℕ_discrete (length b) s.end)))))

  -- ---- "Each section is handed on as the stretch its entry names."

  -- the sections follow one another within the bytes
  abbrev pub InOrder : Sections → Type 0
  InOrder s =
      (s.terms ≤ s.rules) × (s.rules ≤ s.memberships) × (s.memberships ≤ s.links) × (s.links ≤ s.pairs) × (s.pairs ≤ s.end)
      × (s.end ≤ length b)

  abbrev pub term_bytes : Sections → List ℕ
  term_bytes s = stretch b s.terms s.rules

  abbrev pub rule_bytes : Sections → List ℕ
  rule_bytes s = stretch b s.rules s.memberships

  abbrev pub membership_bytes : Sections → List ℕ
  membership_bytes s = stretch b s.memberships s.links

  abbrev pub link_bytes : Sections → List ℕ
  link_bytes s = stretch b s.links s.pairs

  abbrev pub pair_bytes : Sections → List ℕ
  pair_bytes s = stretch b s.pairs s.end

-- the number of terms
abbrev pub terms_in : Sections → ℕ
terms_in s = (s.rules - s.terms) / 3
