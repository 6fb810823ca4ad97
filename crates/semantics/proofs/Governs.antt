-- Laws of whose terms bound a link: those of the roles that are reached upward, and of no role but itself where the roles stand alone.
-- Assumes nothing.
use mathlib.Core.Path.{◌≡◌}
use mathlib.Core.Logic.{inl, inr, ◌↔◌}
use mathlib.Core.List.{List}
use Prim.Native.Nat.{ℕ}
use Rattle.chain.specs.Lists.{Each}
use Rattle.semantics.specs.Roles.{RolePair, Upward, hierarchy}
use Rattle.semantics.specs.Interpretations.{Grading, WellFormed}
use Rattle.semantics.specs.Books.{Book, Valid, RolesInRange}
use Rattle.semantics.specs.Links.{Governs, alone}
use Rattle.semantics.proofs.Roles.{upward_trans, above-upward}

-- a role above one that is above another is above that one
abbrev pub Transitive : Grading → Type 0
Transitive G = (r s t : ℕ) → Governs G s r → Governs G t s → Governs G t r

-- in a hierarchy of pairs of roles 0–7 these are the roles that are reached
pub governs-upward : (G : Grading) (ps : List RolePair) → Each RolesInRange ps → G.above ≡ hierarchy ps → (t r : ℕ) → Governs G t r ↔ Upward ps r t
governs-upward G ps ok e t r = rw e (above-upward ps ok r t)

ranked_transitive : (G : Grading) (ps : List RolePair) → Each RolesInRange ps → G.above ≡ hierarchy ps → Transitive G
ranked_transitive G ps ok e r s t h g =
    (governs-upward G ps ok e t r).1
    (upward_trans ps r s t ((governs-upward G ps ok e s r).0 h) ((governs-upward G ps ok e t s).0 g))

pub valid_transitive : (B : Book) → Valid B → Transitive B.grading
valid_transitive B w = ranked_transitive B.grading B.pairs w.pairs_in w.ranked

pub alone-same : (G : Grading) (t r : ℕ) → Governs (alone G) t r → t ≡ r
alone-same G t r (inl e) = e
alone-same G t r (inr a) = absurd a.1

pub alone-formed : (G : Grading) → WellFormed G → WellFormed (alone G)
alone-formed G w = record { lawful = w.lawful; ordered = w.ordered }
