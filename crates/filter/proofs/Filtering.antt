-- Laws of the filter: whom an unmet membership claim strikes, by what code reads, and how the rows and the table fill.
-- Assumes nothing.
use mathlib.Core.Path.{◌≡◌, refl, sym, ap, subst, ◌∙◌}
use mathlib.Core.Logic.{◌↔◌, ⊎_elim}
use mathlib.Core.Bool.{Bool, true, false}
use mathlib.Core.List.{List, [], ◌∷◌}
use Prim.Native.Nat.{ℕ, ◌+◌, ◌*◌, ◌≤◌, ◌<◌}
use native.Mathlib.Numerals.{add-one}
use native.Mathlib.Decide.{ℕ_discrete, dec_lt}
use native.Mathlib.Omega.{arith}
use lib.ListN.{length, get_or, set, take, length-set, get_or-replicate, get_or-eq_default}
use borrow.Author.Count.{below_more}
use lib.Seq.{get_or-set_same, get_or-set_other}
use Rattle.network.specs.declared.Constraint.{Constraint}
use Rattle.chain.proofs.Search.{below_cases}
use Rattle.chain.proofs.Blocks.{block_kept, each_block_more}
use Rattle.semantics.specs.Terms.{Ordered}
use Rattle.semantics.specs.Books.{Claimed, Mentions}
use Rattle.sections.specs.Terms.{term_count, terms_of}
use Rattle.claims.specs.Claims.{membership_of, membership_record, membership_at}
use Rattle.claims.specs.declared.MembershipRecord.{MembershipRecord}
use Rattle.sections.proofs.Terms.{length-terms, terms-ordered}
use Rattle.gradings.specs.Gradings.{grading}
use Rattle.gradings.specs.declared.Logic.{Logic}
use Rattle.slots.specs.Rows.{TermsBelow, SlotRow}
use Rattle.slots.proofs.Rows.{slots-below, slot_row-same}
use Rattle.grades.specs.Rows.{HasGrades, entry}
use Rattle.elimination.specs.Marks.{Marked}
use Rattle.levels.specs.Rows.{row_at}
use Rattle.domains.specs.Tables.{Allowed}
use Rattle.filter.specs.Filter.{Task, ClaimsBelow, MembershipBy, MembershipsBy, Struck, Admits, grades_of, Column, Entered, Filtered}

-- ---- membership claims

-- ---- individuals that a claim mentions are struck

-- a false that is put there, or past the end, is read
false_put : (xs : List Bool) (n : ℕ) → get_or (set xs n false) n false ≡ false
false_put xs n = go (dec_lt n (length xs))
  where
    go : Dec (n < length xs) → get_or (set xs n false) n false ≡ false
    go (yes l) = get_or-set_same xs n false false l
    go (no m) = get_or-eq_default (set xs n false) false (rw length-set (omega arith))

module _ {P : ℕ → Type 0} {old : List Bool} where
  -- none below n is as P says
  pub struck_start : {n : ℕ} → ((j : ℕ) → P j → n ≤ j) → Struck P n old old
  struck_start from = record { left = λ j l. (λ h. (h, λ m p. omega (arith, from j p)), λ h. h.0) }

  -- n is, and goes; or it is not
  pub struck_on : {n : ℕ} {now : List Bool} → Struck P n old now → P n → Struck P (n + 1) old (set now n false)
  struck_on {n} {now} w p = record { left = λ j l. go j l (ℕ_discrete j n) }
    where
      go : (j : ℕ) → j < 8 → Dec (j ≡ n) → (get_or (set now n false) j false ≡ true) ↔ ((get_or old j false ≡ true) × (j < n + 1 → ¬ P j))
      go j l (yes q) =
          let gone : get_or (set now n false) j false ≡ false = ap (λ (z : ℕ). get_or (set now n false) z false) q ∙ false_put now n in
          (λ h. cc, λ h. absurd (h.1 (omega arith) (subst P (sym q) p)))
      go j l (no m) =
          let same : get_or (set now n false) j false ≡ get_or now j false = get_or-set_other now n j false false m in (
            λ h. let u = (w.left j l).0 (sym same ∙ h) in (u.0, λ k. u.1 (omega arith)),
            λ h. same ∙ (w.left j l).1 (h.0, λ k. h.1 (omega arith)),
          )

  pub struck_off : {n : ℕ} {now : List Bool} → Struck P n old now → ¬ P n → Struck P (n + 1) old now
  struck_off {n} {now} w m = record {
    left = λ j l. (
      λ h. let u = (w.left j l).0 h in (u.0, λ k p. ⊎_elim (λ q. m (subst P q p)) (λ g. u.1 g p) (below_cases n j (rw (← add-one n) k))),
      λ h. (w.left j l).1 (h.0, λ k. h.1 (omega arith)),
    );
  }

  pub struck_all : {n : ℕ} {new : List Bool} → 8 ≤ n → Struck P n old new → Struck P 8 old new
  struck_all h w = record { left = λ j l. (λ e. let u = (w.left j l).0 e in (u.0, λ _. u.1 (omega arith)), λ e. (w.left j l).1 (e.0, λ _. e.1 l)) }

-- a claim, by what code reads: its four bytes, and the number of its term. Met, it strikes none; unmet, those that it mentions
module _ (ms : List ℕ) (f : ℕ → ℕ) (i : ℕ) (q : MembershipRecord) (term : ℕ) (e : q ≡ membership_record ms i) (t : term ≡ q.term) where
  abbrev Met : MembershipRecord → ℕ → Type 0
  Met p x = Claimed (membership_of p).sense (membership_of p).grade (f x)

  claim_met : Met q term ↔ Met (membership_record ms i) (membership_record ms i).term
  claim_met =
      let z : term ≡ (membership_record ms i).term = t ∙ ap (λ (p : MembershipRecord). p.term) e in (
        λ h. subst (λ (p : MembershipRecord). Met p (membership_record ms i).term) e (subst (Met q) z h),
        λ h. subst (Met q) (sym z) (subst (λ (p : MembershipRecord). Met p (membership_record ms i).term) (sym e) h),
      )

  pub met_strikes_none : Met q term → (j : ℕ) (x : Bool) → (x ≡ true) ↔ ((x ≡ true) × MembershipBy ms j f i)
  met_strikes_none h j x = (λ o. (o, λ _. claim_met.0 h), λ o. o.0)

  pub unmet_strikes : {old new : List Bool} → ¬ Met q term → Struck (Mentions (membership_of q)) 8 old new
      → (j : ℕ) → j < 8 → (get_or new j false ≡ true) ↔ ((get_or old j false ≡ true) × MembershipBy ms j f i)
  unmet_strikes n w j l = (
    λ o. let u = (w.left j l).0 o in (u.0, λ m. absurd (u.1 l (subst (λ (p : MembershipRecord). Mentions (membership_of p) j) (sym e) m))),
    λ o. (w.left j l).1 (o.0, λ _ m. n (claim_met.1 (o.1 (subst (λ (p : MembershipRecord). Mentions (membership_of p) j) e m)))),
  )

-- no claim has struck anyone, and one more has
pub all_left : (j : ℕ) → j < 8 → get_or (true ∷ true ∷ true ∷ true ∷ true ∷ true ∷ true ∷ true ∷ []) j false ≡ true
all_left j l = get_or-replicate 8 j true false l

pub fits_more : {A B : Type 0} {P : ℕ → Type 0} (i : ℕ) → A ↔ ((x : ℕ) → x < i → P x) → B ↔ (A × P i) → B ↔ ((x : ℕ) → x < i + 1 → P x)
fits_more {A} {B} {P} i a b = (
  λ h. let u = b.0 h in below_more P i (a.0 u.0) u.1,
  λ h. b.1 (a.1 (λ x l. h x (omega arith)), h i (omega arith)),
)

-- where they are about terms below n, they ask the same of grades that are the same there
memberships_same : (ms : List ℕ) (n : ℕ) → ClaimsBelow ms n → (f g : ℕ → ℕ) → ((i : ℕ) → i < n → f i ≡ g i) → (j : ℕ) → MembershipsBy ms j f
    → MembershipsBy ms j g
memberships_same ms n below f g same j h i l e = rw (← same (membership_at ms i).term (below i l)) (h i l e)

-- ---- what the table says of one candidate, individual by individual

module _ {lg : Logic} {ms : List ℕ} {net : List Constraint} {ends : List ℕ} {f : ℕ → ℕ} {row : List ℕ} {c : ℕ} {old : List ℕ} where
  pub column_start : Column lg ms net ends f row 0 c old old
  column_start = record { here = λ j h. absurd (omega arith); elsewhere = λ j d l n. refl }

  pub column_turn : {k b : ℕ} {u : List ℕ} → c < 16384 → 16384 * k + c < length u → (b ≡ 1) ↔ Admits lg ms net ends k f row
      → Column lg ms net ends f row k c old u → Column lg ms net ends f row (k + 1) c old (set u (16384 * k + c) b)
  column_turn {k} {b} {u} small l a w = record {
    here = λ j h. ⊎_elim
        (λ e. subst (λ (z : ℕ). Allowed (set u at b) z c ↔ Admits lg ms net ends z f row) (sym e)
        (subst (λ (y : ℕ). (y ≡ 1) ↔ Admits lg ms net ends k f row) (sym (get_or-set_same u at b 0 l)) a))
        (λ g. subst (λ (y : ℕ). (y ≡ 1) ↔ Admits lg ms net ends j f row) (sym (get_or-set_other u at (16384 * j + c) b 0 (λ e. omega arith))) (w.here j g))
        (below_cases k j (rw (← add-one k) h));
    elsewhere = λ j d m n. get_or-set_other u at (16384 * j + d) b 0 (λ e. n (omega arith)) ∙ w.elsewhere j d m n;
  }
    where
      at : ℕ
      at = 16384 * k + c

  column-same : {g : ℕ → ℕ} {k : ℕ} {new : List ℕ} (n : ℕ) → ClaimsBelow ms n → ((i : ℕ) → i < n → f i ≡ g i) → Column lg ms net ends f row k c old new
      → Column lg ms net ends g row k c old new
  column-same {g} n below same w = record {
    here = λ j h. let u = w.here j h in (
      λ e. let v = u.0 e in (memberships_same ms n below f g same j v.0, v.1),
      λ v. u.1 (memberships_same ms n below g f (λ i l. sym (same i l)) j v.0, v.1),
    );
    elsewhere = w.elsewhere;
  }

-- ---- the sections, by what is asked of them

module _ {lg : Logic} {ts slots ms : List ℕ} (w : Task lg ts slots ms) where
  ordered : Ordered (terms_of ts)
  ordered = terms-ordered ts w.terms_right

  -- slots and membership claims are about terms of which a row of n grades has one
  pub slots-within : (n : ℕ) → term_count ts ≤ n → TermsBelow slots n
  slots-within n l q h = omega (arith, length-terms ts, slots-below (terms_of ts) ordered slots w.slots_are q h)

  pub claims_within : (n : ℕ) → term_count ts ≤ n → ClaimsBelow ms n
  claims_within n l i h = omega (arith, (w.memberships_right i h).1.0)

  -- candidate c is entered by its row of all grades
  pub entered_by : {net : List Constraint} {ends : List ℕ} {n c : ℕ} {rows rows' table table' row : List ℕ} (grades : List ℕ)
      → HasGrades (grading lg (terms_of ts)) c grades → take (32 * c) rows' ≡ take (32 * c) rows → SlotRow slots (entry grades) (row_at rows' c) → row ≡ row_at rows' c
      → Column lg ms net ends (entry grades) row n c table table' → Entered lg ts slots ms net ends n c rows rows' table table'
  entered_by {net} {ends} {n} {c} {rows} {rows'} {table} {table'} {row} grades are before here at column = record {
    before = before;
    row = slot_row-same slots (entry grades) m (grades_of lg ts c) (row_at rows' c) (slots-below (terms_of ts) ordered slots w.slots_are) are here;
    column = column-same m (claims_within m (omega (arith, length-terms ts))) are
        (subst (λ (v : List ℕ). Column lg ms net ends (entry grades) v n c table table') at column);
  }
    where
      m : ℕ
      m = length (terms_of ts)

-- ---- candidate by candidate

module _ {lg : Logic} {ts slots ms : List ℕ} {net : List Constraint} {ends marks : List ℕ} {n : ℕ} where
  pub filtered_start : {rows table : List ℕ} → ((i : ℕ) → get_or table i 0 ≡ 0) → Filtered lg ts slots ms net ends marks n 0 rows table
  filtered_start z = record {
    rowed = λ c h. absurd (omega arith);
    allowed = λ j c h l. (λ e. absurd (omega (arith, z (16384 * j + c))), λ u. absurd (omega (arith, u.0)));
  }

  module _ {c : ℕ} {rows table : List ℕ} (f : Filtered lg ts slots ms net ends marks n c rows table) where
    pub filtered_off : ¬ Marked marks c → Filtered lg ts slots ms net ends marks n (c + 1) rows table
    filtered_off m = record {
      rowed = λ d h k. ⊎_elim (λ e. absurd (m (subst (Marked marks) e k))) (λ g. f.rowed d g k) (below_cases c d (rw (← add-one c) h));
      allowed = λ j d h l. (
        λ e. let u = (f.allowed j d h l).0 e in (omega (arith, u.0), u.1, u.2),
        λ u. ⊎_elim (λ e. absurd (m (subst (Marked marks) e u.1))) (λ g. (f.allowed j d h l).1 (g, u.1, u.2))
            (below_cases c d (rw (← add-one c) u.0)),
      );
    }

    pub filtered_on : {rows' table' : List ℕ} → Marked marks c → Entered lg ts slots ms net ends n c rows rows' table table'
        → Filtered lg ts slots ms net ends marks n (c + 1) rows' table'
    filtered_on {rows'} {table'} m w = record {
      rowed = each_block_more 32 c rows rows' w.before (λ d v. Marked marks d → SlotRow slots (grades_of lg ts d) v) f.rowed (λ _. w.row);
      allowed = λ j d h l. (λ e. into j d h l e (ℕ_discrete d c), λ u. back j d h l u (ℕ_discrete d c));
    }
      where
        Passes : (j d : ℕ) → List ℕ → Type 0
        Passes j d = Admits lg ms net ends j (grades_of lg ts d)

        kept : (d : ℕ) → d < c → row_at rows' d ≡ row_at rows d
        kept = block_kept 32 c rows rows' w.before

        here : (j d : ℕ) → j < n → d ≡ c → Allowed table' j d ↔ Passes j d (row_at rows' d)
        here j d h q = subst (λ (z : ℕ). Allowed table' j z ↔ Passes j z (row_at rows' z)) (sym q) (w.column.here j h)

        into : (j d : ℕ) → j < n → d < 16384 → Allowed table' j d → Dec (d ≡ c) → (d < c + 1) × Marked marks d × Passes j d (row_at rows' d)
        into j d h l e (yes q) = (omega arith, subst (Marked marks) (sym q) m, (here j d h q).0 e)
        into j d h l e (no g) =
            let u = (f.allowed j d h l).0 (sym (w.column.elsewhere j d l g) ∙ e) in
            (omega (arith, u.0), u.1, subst (Passes j d) (sym (kept d u.0)) u.2)

        back : (j d : ℕ) → j < n → d < 16384 → (d < c + 1) × Marked marks d × Passes j d (row_at rows' d) → Dec (d ≡ c) → Allowed table' j d
        back j d h l u (yes q) = (here j d h q).1 u.2
        back j d h l u (no g) =
            let k : d < c = omega (arith, u.0, g) in
            w.column.elsewhere j d l g ∙ (f.allowed j d h l).1 (k, u.1, subst (Passes j d) (kept d k) u.2)
