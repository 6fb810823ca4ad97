-- A witness by the tables is a witness: no link has to be worked out for it.
-- Assumes nothing.
use mathlib.Core.Path.{◌≡◌, sym, ap, ◌∙◌}
use mathlib.Core.Logic.{◌↔◌}
use mathlib.Core.List.{List}
use Prim.Native.Nat.{ℕ, ◌<◌}
use Rattle.chain.specs.Connectives.{Quantifier}
use Rattle.semantics.specs.Terms.{Term, term, Ordered}
use Rattle.semantics.specs.Quantified.{quantified}
use Rattle.semantics.specs.Interpretations.{Grading}
use Rattle.semantics.specs.Links.{Allows}
use Rattle.semantics.proofs.Quantified.{quantified_alike}
use Rattle.types.specs.Candidates.{grade_in}
use Rattle.gradings.specs.Gradings.{grading}
use Rattle.gradings.proofs.Gradings.{grading_well_formed}
use Rattle.slots.specs.Slots.{slot_count, slot_role, slot_child, slot_term, slot_quantifier, SlotsOf}
use Rattle.slots.proofs.Slots.{slots_allow}
use Rattle.elimination.specs.Survivors.{Witnesses}
use Rattle.elimination.proofs.Witnesses.{witnesses_through}
use Rattle.zones.specs.Rows.{cell}
use Rattle.witness_boxes.specs.Tables.{Tables, RowOf}
use Rattle.witness_boxes.specs.Search.{AllowsAt, Witness}

-- source a has the row of candidate c, target b that of candidate d
module _ (ts : List Term) (o : Ordered ts) (T : Tables) (S : SlotsOf ts T.slots) (a c : ℕ) (A : RowOf T.logic ts T.slots slot_term T.own a c) (b d : ℕ)
    (B : RowOf T.logic ts T.slots slot_child T.child b d) (q : ℕ) (hq : q < slot_count T.slots) where
  abbrev Γ : Grading
  Γ = grading T.logic ts

  abbrev kind : ℕ → Quantifier
  kind = slot_quantifier T.slots

  -- the terms allow by the candidates' grades what the slots allow by the tables
  allowed : (s : ℕ) → ((j : ℕ) → j < slot_count T.slots → AllowsAt T a q s j (cell T.child b j))
      ↔ Allows Γ (slot_role T.slots q) (grade_in Γ c) (grade_in Γ d) s
  allowed s =
      let u = slots_allow Γ T.slots S (slot_role T.slots q) (grade_in Γ c) (grade_in Γ d) s in (
        λ f. u.0 (λ j h. rw (← A j h, ← B j h) (f j h)),
        λ f j h. rw (A j h, B j h) (u.1 f j h),
      )

  law : Witness T a q b ↔ Witnesses Γ c (slot_term T.slots q) (kind q) (slot_role T.slots q) (slot_child T.slots q) d
  law =
      let u = witnesses_through Γ (grading_well_formed T.logic ts o) c d (slot_term T.slots q) (S.terms q hq) (kind q)
      (slot_role T.slots q) (slot_child T.slots q) (S.are q hq) in (
        λ w. u.1 (w.0, (w.1, rw (← A q hq, ← B q hq) w.2, (allowed w.0).0 w.3)),
        λ t. let v = u.0 t in (v.0, v.1.0, rw (A q hq, B q hq) v.1.1, (allowed v.0).1 v.1.2),
      )

  -- from the tables, to the term that the slot is
  pub witness_witnesses : Witness T a q b → (i : ℕ) (k : Quantifier) (r x : ℕ) → slot_term T.slots q ≡ i → term ts i ≡ quantified k r x
      → Witnesses Γ c i k r x d
  witness_witnesses w i k r x f e =
      let e' = quantified_alike (kind q) k (slot_role T.slots q) r (slot_child T.slots q) x (sym (S.are q hq) ∙ ap (term ts) f ∙ e) in
      rw (← e'.0, ← e'.1, ← e'.2, ← f) (law.0 w)

  -- and to the tables
  pub witnesses_witness : Witnesses Γ c (slot_term T.slots q) (kind q) (slot_role T.slots q) (slot_child T.slots q) d → Witness T a q b
  witnesses_witness = law.1
