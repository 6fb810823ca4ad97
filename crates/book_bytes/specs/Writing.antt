-- From an abstract book back to its bytes: document 01, "The book", and document 02, P1 and P2, read the other way. The edition is no part of an
-- abstract book: one without pairs may be of either. Nor is it whether a claim is written for an individual or for a set, which the sense's byte says: a
-- claim about one individual may be either.
-- Assumes nothing.
use Rattle.std.proofs.Math.Logic.{ite}
use mathlib.Core.List.{List, [], ◌∷◌, ◌++◌, flat_map, zip_with}
use Rattle.std.specs.Prelude.{ℕ, ◌+◌, ◌*◌, length, get_or}
use Rattle.std.proofs.Math.Decide.{dec_lt}
use Rattle.chain.specs.Lists.{table}
use Rattle.encoding.specs.Words.{word_bytes}
use Rattle.encoding.specs.Bits.{byte_of}
use Rattle.semantics.specs.Terms.{Term, name, not, and, or, some, all, top, bottom}
use Rattle.semantics.specs.Roles.{RolePair}
use Rattle.semantics.specs.Books.{Rule, MembershipClaim, LinkClaim, Book}
use Rattle.claims.specs.Claims.{claim_count, membership_record}
use Rattle.heads.specs.Heads.{by_edition, head}

-- ---- the records of the bodies

-- "A term is three bytes: kind, a, b."
abbrev pub term_bytes_of : Term → List ℕ
term_bytes_of (name a) = 0 ∷ a ∷ 0 ∷ []
term_bytes_of (not c) = 1 ∷ c ∷ 0 ∷ []
term_bytes_of (and c d) = 2 ∷ c ∷ d ∷ []
term_bytes_of (or c d) = 3 ∷ c ∷ d ∷ []
term_bytes_of (some r c) = 4 ∷ r ∷ c ∷ []
term_bytes_of (all r c) = 5 ∷ r ∷ c ∷ []
term_bytes_of top = 6 ∷ 0 ∷ 0 ∷ []
term_bytes_of bottom = 7 ∷ 0 ∷ 0 ∷ []

-- "rules (2: left, right)"
abbrev pub rule_bytes_of : Rule → List ℕ
rule_bytes_of q = q.left ∷ q.right ∷ []

-- whom a claim of this sense names: the individual, or "bit i set for individual i"
abbrev pub first_byte : (sense : ℕ) → List ℕ → ℕ
first_byte k js = ite {C = ℕ} (dec_lt k 2) (get_or js 0 0) (byte_of js)

-- "membership claims (4: individual 0–7, term, sense .., grade)"
abbrev pub membership_bytes_of : (sense : ℕ) → MembershipClaim → List ℕ
membership_bytes_of k q = first_byte k q.members ∷ q.term ∷ k ∷ q.grade ∷ []

-- the senses of a section's claims
abbrev pub senses_in : List ℕ → List ℕ
senses_in s = table (λ i. (membership_record s i).sense) (claim_count s)

-- "link claims (4: role, from, to, grade ..)"
abbrev pub link_bytes_of : LinkClaim → List ℕ
link_bytes_of q = q.role ∷ q.source ∷ q.target ∷ q.grade ∷ []

-- "pairs of lower and upper role"
abbrev pub pair_bytes_of : RolePair → List ℕ
pair_bytes_of q = q.lower ∷ q.upper ∷ []

-- ---- the book

-- "four entries of offset and count", for so many terms, rules, membership claims and link claims, and in edition 2 "a fifth", for so many pairs:
-- "The bodies follow .. in that order, without gaps."
abbrev pub entries_of : (edition terms rules memberships links pairs : ℕ) → List ℕ
entries_of e t r m l p =
    head e ∷ t
    ∷ (head e + 3 * t) ∷ r
    ∷ (head e + 3 * t + 2 * r) ∷ m
    ∷ (head e + 3 * t + 2 * r + 4 * m) ∷ l
    ∷ by_edition e ((head e + 3 * t + 2 * r + 4 * m + 4 * l) ∷ p ∷ []) []

-- "Contents first: byte 0 is the edition ..; byte 1 is N; then .. entries of offset and count (two bytes each)"
abbrev pub contents_of : (edition : ℕ) → Book → List ℕ
contents_of e B =
    e ∷ B.grading.steps
    ∷ flat_map word_bytes (entries_of e (length B.grading.terms) (length B.rules) (length B.memberships) (length B.links) (length B.pairs))

-- the contents, and then the bodies; the membership claims in these senses
unfoldable pub bytes_of : (edition : ℕ) (senses : List ℕ) → Book → List ℕ
bytes_of e senses B =
    contents_of e B
    ++ flat_map term_bytes_of B.grading.terms
    ++ flat_map rule_bytes_of B.rules
    ++ flat_map (λ r. r) (zip_with membership_bytes_of senses B.memberships)
    ++ flat_map link_bytes_of B.links
    ++ flat_map pair_bytes_of B.pairs
