-- Laws of entering the candidates.
-- Assumes nothing.
use mathlib.Core.Path.{◌≡◌, refl, sym, ap, ◌∙◌}
use mathlib.Core.Logic.{dite, ◌↔◌}
use mathlib.Core.List.{List}
use Prim.Native.Nat.{ℕ, ◌+◌, ◌≤◌, ◌<◌}
use native.Mathlib.Decide.{ℕ_discrete}
use native.Mathlib.Numerals.{add-one}
use native.Mathlib.Omega.{arith}
use lib.ListN.{length, get_or, set, take, drop}
use lib.Seq.{get_or-set_same, get_or-set_other, get_or-take, get_or-drop}
use borrow.Author.Count.{below_more}
use Rattle.chain.specs.Search.{rank}
use Rattle.chain.proofs.Search.{rank_yes, rank_no, rank_same}
use Rattle.chain.proofs.Lists.{each-table, table-each}
use Rattle.semantics.specs.Interpretations.{Grading}
use Rattle.semantics.specs.Books.{Rule}
use Rattle.types.specs.Candidates.{grade_in}
use Rattle.claims.specs.Rules.{rule_count, rule_at, rules_of, RulesRight}
use Rattle.slots.specs.Slots.{slot_count, slot_child, slot_term}
use Rattle.slots.specs.Rows.{SlotRow}
use Rattle.grades.specs.Rows.{HasGrades}
use Rattle.elimination.specs.Survivors.{Obeys}
use Rattle.elimination.specs.Marks.{Marked, marked?}
use Rattle.partition.specs.Rows.{Names, Enrolled}
use Rattle.partition.specs.declared.Classes.{Classes}
use Rattle.partition.proofs.Rows.{classified_none, classified_more}
use Rattle.rule_marks.specs.Obeying.{RowObeys}
use Rattle.entries.specs.Filling.{Entered}

-- ---- rules

-- a candidate's row meets the rules when the candidate does
module _ (G : Grading) (t : List ℕ) (ok : RulesRight t (length G.terms)) (c : ℕ) (row : List ℕ) (g : HasGrades G c row) where
  pub row_obeys : RowObeys t row ↔ Obeys G (rules_of t) c
  unfolding rules_of
  row_obeys = (
    λ h. each-table (λ q. grade_in G c q.left ≤ grade_in G c q.right) (rule_at t) (rule_count t)
        (λ i l. rw (← g (rule_at t i).left (ok i l).0, ← g (rule_at t i).right (ok i l).1) (h i l)),
    λ h i l. rw (g (rule_at t i).left (ok i l).0, g (rule_at t i).right (ok i l).1)
        (table-each (λ q. grade_in G c q.left ≤ grade_in G c q.right) (rule_at t) (rule_count t) h i l),
  )

-- ---- candidates entered

pub entered_none : (G : Grading) (rs : List Rule) (slots : List ℕ) (S T : Classes) (marks : List ℕ) → S.count ≡ 0 → T.count ≡ 0
    → Entered G rs slots S T marks 0 0
unfolding rank
entered_none G rs slots S T marks m n = record {
  sources = rw m (classified_none _ (slot_count slots) S.rows S.class);
  targets = rw n (classified_none _ (slot_count slots) T.rows T.class);
  bits = λ c h. absurd (omega arith);
  marked = λ c h. absurd (omega arith);
  counted = refl;
  at_most = omega arith;
}

-- an empty index names nothing
pub index-none : (index : List ℕ) (k : ℕ) → ((i : ℕ) → get_or index i 0 ≡ 0) → Names index k
index-none index k z i = omega (arith, z i)

-- the parts of a row of slots, as code cuts them
module _ (slots : List ℕ) (f : ℕ → ℕ) (part : List ℕ) (w : SlotRow slots f part) where
  pub part-own : (q : ℕ) → q < slot_count slots → get_or (take (slot_count slots) part) q 0 ≡ f (slot_term slots q)
  part-own q h = get_or-take (slot_count slots) part q 0 h ∙ w.own_is q h

  pub part-child : (q : ℕ) → q < slot_count slots → get_or (take (slot_count slots) (drop (slot_count slots) part)) q 0 ≡ f (slot_child slots q)
  part-child q h = get_or-take (slot_count slots) (drop (slot_count slots) part) q 0 h ∙ get_or-drop (slot_count slots) part q 0 ∙ w.child_is q h

module _ (G : Grading) (t : List ℕ) (ok : RulesRight t (length G.terms)) (slots marks : List ℕ) (b left : ℕ) (S T : Classes)
    (E : Entered G (rules_of t) slots S T marks b left) (S' T' : Classes) (row first second : List ℕ)
    (g : HasGrades G b row) (bit : ℕ) (fits : b < length marks) (one : bit ≤ 1) (tells : (bit ≡ 1) ↔ RowObeys t row)
    (long-first : length first ≡ slot_count slots) (mine : (q : ℕ) → q < slot_count slots → get_or first q 0 ≡ grade_in G b (slot_term slots q))
    (long-second : length second ≡ slot_count slots) (below : (q : ℕ) → q < slot_count slots → get_or second q 0 ≡ grade_in G b (slot_child slots q))
    (A : Enrolled first S.rows S'.rows S.class S'.class b S.count S'.count) (B : Enrolled second T.rows T'.rows T.class T'.class b T.count T'.count) where
  here : get_or (set marks b bit) b 0 ≡ bit
  here = get_or-set_same marks b bit 0 fits

  there : (c : ℕ) → c < b → get_or (set marks b bit) c 0 ≡ get_or marks c 0
  there c h = get_or-set_other marks b c bit 0 (omega arith)

  pub entered_more : Entered G (rules_of t) slots S' T' (set marks b bit) (b + 1) (left + bit)
  entered_more = record {
    sources = classified_more (λ c q. grade_in G c (slot_term slots q)) (slot_count slots) S.rows S'.rows S.class S'.class first b S.count S'.count
        long-first mine E.sources A;
    targets = classified_more (λ c q. grade_in G c (slot_child slots q)) (slot_count slots) T.rows T'.rows T.class T'.class second b T.count T'.count
        long-second below E.targets B;
    bits = below_more (λ c. get_or (set marks b bit) c 0 ≤ 1) b (λ c h. rw (there c h) (E.bits c h)) (rw here one);
    marked = below_more (λ c. Marked (set marks b bit) c ↔ Obeys G (rules_of t) c) b
        (λ c h. (λ m. (E.marked c h).0 (sym (there c h) ∙ m), λ m. there c h ∙ (E.marked c h).1 m))
        (λ m. (row_obeys G t ok b row g).0 (tells.0 (sym here ∙ m)), λ m. here ∙ tells.1 ((row_obeys G t ok b row g).1 m));
    counted = count;
    at_most = omega (arith, E.at_most);
  }
    where
      now : List ℕ
      now = set marks b bit

      count : left + bit ≡ rank (marked? now) (b + 1)
      count =
          let e : rank (marked? marks) b ≡ rank (marked? now) b =
          rank_same (marked? marks) (marked? now) b (λ c h. (λ m. there c h ∙ m, λ m. sym (there c h) ∙ m)) in
          let f = ap (rank (marked? now)) (add-one b) in
          dite (ℕ_discrete bit 1) (λ y. omega (arith, E.counted, rank_yes (marked? now) b (here ∙ y)))
          (λ n. omega (arith, E.counted, rank_no (marked? now) b (λ m. n (sym here ∙ m))))
