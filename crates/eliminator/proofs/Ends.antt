-- Where the sweeps start and what they end in: what is entered are the classes of the terms' grades, and the marks that are left are the survivors'.
-- Assumes nothing.
use mathlib.Core.Path.{◌≡◌, sym, ap, subst, ◌∙◌}
use mathlib.Core.Logic.{dite, ◌↔◌}
use mathlib.Core.List.{List, []}
use Prim.Native.Nat.{ℕ, ◌*◌, ◌≤◌, ◌<◌}
use native.Mathlib.Decide.{dec_lt}
use native.Mathlib.Omega.{arith}
use lib.ListN.{length, get_or, take, get_or-eq_default}
use lib.Seq.{get_or-take}
use Rattle.semantics.specs.Terms.{Term, Ordered}
use Rattle.semantics.specs.Interpretations.{Grading, WellFormed}
use Rattle.semantics.specs.Books.{Rule}
use Rattle.types.specs.Candidates.{candidates, grade_in}
use Rattle.types.proofs.Candidates.{grade_in_le}
use Rattle.gradings.specs.Gradings.{grading}
use Rattle.gradings.specs.declared.Logic.{Logic}
use Rattle.gradings.proofs.Gradings.{grading_well_formed}
use Rattle.zones.specs.Rows.{cell}
use Rattle.zones.specs.Zones.{Zoned}
use Rattle.zones.specs.declared.Zone.{Zone}
use Rattle.slots.specs.Slots.{slot_count, slot_quantifier, slot_role, slot_child, slot_term, SlotsOf}
use Rattle.slots.proofs.Slots.{slot_child_lem}
use Rattle.elimination.specs.Survivors.{Sound, survivors, Survives, Covers}
use Rattle.elimination.specs.Marks.{marks_of, Marked}
use Rattle.elimination.proofs.Survivors.{survivors_ascending, survivors_sound, covers_sound}
use Rattle.elimination.proofs.Marks.{marked_lt, marks_of_lem, marks-number}
use Rattle.witness_boxes.specs.Tables.{tables, Ready, RowOf}
use Rattle.witness_boxes.proofs.Tables.{witness_witnesses, witnesses_witness}
use Rattle.partition.specs.Rows.{Classified}
use Rattle.partition.specs.declared.Classes.{Classes as Entries}
use Rattle.passes.specs.Sweeps.{Classes, classes, Closed, Counted, Settled}
use Rattle.entries.specs.Filling.{Entered}

-- what holds of each member's entries holds of each class's
rows_are : (P : ℕ → Type 0) (f : ℕ → ℕ → ℕ) (m : ℕ) (rows : List (List ℕ)) (class : List ℕ) (b count : ℕ) → Classified f m rows class b count
    → ((c q : ℕ) → c < b → q < m → P (f c q)) → (a q : ℕ) → a < count → q < m → P (cell rows a q)
rows_are P f m rows class b count C each a q h l =
    let u = C.each a h in
    subst (λ (z : ℕ). P (cell rows z q)) u.2 (subst P (sym (C.are u.0 u.1 q l)) (each u.0 q u.1 l))

-- what is said of all rows and classes, of those that there are
pub classified_used : (f : ℕ → ℕ → ℕ) (m : ℕ) (rows : List (List ℕ)) (class : List ℕ) (b count : ℕ) → Classified f m rows class b count
    → Classified f m (take count rows) (take b class) b count
classified_used f m rows class b count C = record {
  known = λ c h. rw (get_or-take b class c 0 h) (C.known c h);
  are = λ c h q l. rw (get_or-take b class c 0 h)
      (ap (λ (v : List ℕ). get_or v q 0) (get_or-take count rows (get_or class c 0) [] (C.known c h)) ∙ C.are c h q l);
  each = λ k h. let u = C.each k h in (u.0, u.1, get_or-take b class u.0 0 u.1 ∙ u.2);
  few = C.few;
}

module _ (lg : Logic) {ts : List Term} {rs : List Rule} {count left sources targets : ℕ} {slots source target marks : List ℕ} {own child : List (List ℕ)}
    {X Y : Entries} (zones : List Zone) (o : Ordered ts) (S : SlotsOf ts slots) (E : Entered (grading lg ts) rs slots X Y marks count left)
    (A : Classified (λ c q. grade_in (grading lg ts) c (slot_term slots q)) (slot_count slots) own source count sources)
    (B : Classified (λ c q. grade_in (grading lg ts) c (slot_child slots q)) (slot_count slots) child target count targets)
    (long-own : length own ≡ sources) (long-child : length child ≡ targets) where
  abbrev G : Grading
  G = grading lg ts

  abbrev K : Classes
  K = classes (tables lg slots own child zones) source target

  w : WellFormed G
  w = grading_well_formed lg ts o

  -- ---- the start

  pub ready_of : lg.steps ≤ 16 → slot_count slots ≤ 16 → count ≤ 16384 → length child ≤ 64 * length zones → Zoned child zones (slot_count slots) → Ready K.rows
  ready_of low few few_candidates room zoned = record {
    low_steps = low;
    few = few;
    few_sources = omega (arith, A.few);
    few_targets = omega (arith, B.few);
    zone_room = room;
    zoned = zoned;
    kinds = S.kinds;
    own_le = λ a q h. rows_are (λ x. x ≤ lg.steps) _ (slot_count slots) own source count sources A
        (λ c q _ l. grade_in_le G w c (slot_term slots q) (S.terms q l)) a q (omega arith);
    child_le = λ a q h. rows_are (λ x. x ≤ lg.steps) _ (slot_count slots) child target count targets B
        (λ c q _ l. grade_in_le G w c (slot_child slots q) (slot_child_lem ts o slots S q l)) a q (omega arith);
  }

  module _ (size : length marks ≡ count) where
    pub counted_of_lem : Counted (length marks) marks left
    counted_of_lem = rw size (record {
      bits = λ c. dite (dec_lt c count) (E.bits c) (λ n. omega (arith, get_or-eq_default marks 0 {n = c} (omega arith)));
      number = E.counted;
    })

  -- ---- the end

  module _ (e : count ≡ candidates G) where
    -- candidates' rows, for the laws of witnesses
    own_row : (c : ℕ) → c < count → RowOf lg ts slots slot_term own (get_or source c 0) c
    own_row c h = A.are c h

    child-row : (c : ℕ) → c < count → RowOf lg ts slots slot_child child (get_or target c 0) c
    child-row c h = B.are c h

    survivor_lt : (c : ℕ) → Survives G rs c → c < count
    survivor_lt c m = omega (arith, (survivors_sound G rs).candidate c m)

    survivors_closed : Closed K (survivors G rs)
    survivors_closed c m q h =
        let u = ((survivors_sound G rs).fits c m).1 (slot_term slots q) (S.terms q h) (slot_quantifier slots q) (slot_role slots q) (slot_child slots q) (S.are q h) in (
          u.0,
          u.1,
          witnesses_witness ts o K.rows S (get_or source c 0) c (own_row c (survivor_lt c m)) (get_or target u.0 0) u.0
              (child-row u.0 (survivor_lt u.0 u.1)) q h u.2,
        )

    module _ (after : List ℕ) (r : ℕ) (size : length marks ≡ count) (long : length after ≡ count) (Z : Settled K (length marks) marks after r) where
      marked-candidate : (c : ℕ) → Marked after c → c < count
      marked-candidate c h = omega (arith, marked_lt after c h)

      covers : Covers G rs (Marked after)
      covers = Z.reduced.keeps (survivors G rs) survivors_closed (λ c m. (E.marked c (survivor_lt c m)).1 ((survivors_sound G rs).fits c m).0)

      sound : Sound G rs (Marked after)
      sound = record {
        candidate = λ c h. omega (arith, marked-candidate c h);
        fits = λ c h. (
          (E.marked c (marked-candidate c h)).0 (Z.reduced.part c h),
          λ i l k p x f.
              let u = S.onto i l k p x f in
              let v = Z.supported c h u.0 u.1 in (
                v.0,
                v.1,
                witness_witnesses ts o K.rows S (get_or source c 0) c (own_row c (marked-candidate c h)) (get_or target v.0 0) v.0
                    (child-row v.0 (marked-candidate v.0 v.1)) u.0 u.1 v.2 i k p x u.2 f,
              ),
        );
      }

      same : (c : ℕ) → Marked after c ↔ Survives G rs c
      same = covers_sound G rs (Marked after) covers sound

      pub settled_survivors : (r ≡ length (survivors G rs)) × (after ≡ marks_of (survivors G rs) count)
      settled_survivors = (
        rw size at Z.counted.number ∙ marks-number (survivors G rs) after count long same (survivors_ascending G rs),
        marks_of_lem (survivors G rs) after count long same Z.counted.bits,
      )
