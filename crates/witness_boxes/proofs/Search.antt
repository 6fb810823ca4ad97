-- Laws of the search for witnesses by the tables.
-- Assumes nothing.
use mathlib.Core.Path.{◌≡◌, refl, sym, subst, ◌∙◌}
use mathlib.Core.Logic.{dite, ◌↔◌}
use mathlib.Core.List.{List}
use Prim.Native.Nat.{ℕ, ◌+◌, ◌-◌, ◌*◌, ◌/◌, ◌≤◌, ◌<◌}
use native.Mathlib.Decide.{ℕ_discrete, dec_lt}
use native.Mathlib.Nat.{le_refl, le_trans}
use native.Mathlib.Omega.{arith}
use lib.ListN.{length, get_or, set}
use lib.Seq.{get_or-set_same, get_or-set_other}
use borrow.Author.Count.{below_more}
use Rattle.std.proofs.Common.{Option, None, Some}
use Rattle.chain.specs.Decisions.{dec_and}
use Rattle.chain.proofs.Connectives.{within_trans, through_mono}
use Rattle.gradings.specs.Gradings.{connectives_of}
use Rattle.gradings.proofs.Gradings.{logic-lawful}
use Rattle.boxes.specs.Boxes.{OnChain, bound_at, BoxOf, Narrowed}
use Rattle.boxes.specs.declared.Bound.{Bound}
use Rattle.boxes.proofs.Boxes.{narrowed_kept, narrowed_last, box-part}
use Rattle.zones.specs.Rows.{row_in, cell}
use Rattle.zones.specs.Zones.{zone_in, Lies}
use Rattle.zones.specs.declared.Zone.{Zone}
use Rattle.zones.proofs.Rows.{put_cell, cell-put_same, cell-put_other}
use Rattle.slots.specs.Slots.{slot_count, slot_quantifier}
use Rattle.elimination.specs.Marks.{Marked}
use Rattle.elimination.proofs.Marks.{marked_lt}
use Rattle.witness_boxes.specs.Tables.{Tables, Ready}
use Rattle.witness_boxes.specs.declared.Span.{Span}
use Rattle.witness_boxes.specs.declared.Boxes.{Boxes}
use Rattle.witness_boxes.specs.Search.{WantsAt, AllowsRow, span_at, box_of, BoxAt, BoxFor, Boxed, Witness, Legible, InBox, MissedAt, Unreached, Leapt, NextHit, NextWitness, Remembered, Remembers, Backed}

-- ---- the boxes of slot q of source c

module _ (T : Tables) (c q : ℕ) where
  -- one grade more
  module _ (B : Boxes) (x : ℕ) (room : x < length B.spans) (M : Boxed B T c q x) where
    abbrev put : Option Span → List Bound → ℕ → Boxes
    put o bounds count = record { spans = set B.spans x o; bounds = bounds; count = count }

    boxed_more : (o : Option Span) (bounds : List Bound) (count : ℕ) → B.count ≤ count
        → ((z : ℕ) → z < B.count → bound_at bounds z ≡ bound_at B.bounds z) → BoxFor (put o bounds count) T c q x o
        → Boxed (put o bounds count) T c q (x + 1)
    boxed_more o bounds count more kept new =
        below_more (λ y. BoxFor (put o bounds count) T c q y (span_at (put o bounds count) y)) x
        (λ y h. let u = M y h in
        rw (get_or-set_other B.spans x y o None (omega arith)) (record {
          level = u.level;
          wants = u.wants;
          none = u.none;
          some = λ l. let s = u.some l in (
            s.0,
            s.1,
            record {
              level = s.2.level;
              box = narrowed_kept T.logic (slot_count T.slots) _ B.bounds bounds _ _ (λ z g. kept z (omega (arith, s.2.few))) s.2.box;
              few = omega (arith, s.2.few);
            },
          );
        }))
        (rw (get_or-set_same B.spans x o None room) new)

    -- its box is made
    pub boxed_made : (v : ℕ) → WantsAt T c q x v → v ≤ T.logic.steps → (bounds : List Bound) (count : ℕ) → Narrowed T.logic (slot_count T.slots) (AllowsRow T c q v) B.bounds B.count bounds count
        → (s : Span) → s.level ≡ v → s.begin ≡ B.count → s.end ≡ count → Boxed (put (Some s) bounds count) T c q (x + 1)
    boxed_made v w l bounds count made s g b e =
        boxed_more (Some s) bounds count made.more made.kept
        (record {
          level = v;
          wants = w;
          none = λ k. absurd (omega arith);
          some = λ _. (
            s,
            refl,
            record {
              level = g;
              box = rw (b, e) (narrowed_last T.logic (slot_count T.slots) _ B.bounds B.count bounds count made);
              few = omega arith;
            },
          );
        })

-- ---- the search

module _ (B : Boxes) (m : ℕ) where
  -- a box that is missed is reached by no row of the zone, and a grade that no row has by none
  pub missed_unreached : (zone : Zone) (q x : ℕ) → q < m
      → (get_or zone.lowest q 0 ≤ x → x ≤ get_or zone.highest q 0 → MissedAt B m zone x) → Unreached B m q zone x
  missed_unreached zone q x h f row lies at box =
      let u = lies q h in
      f (omega (arith, u.0)) (omega (arith, u.1)) box.0 (subst (λ (z : ℕ). span_at B z ≡ Some box.0) at box.1) row lies box.2

  -- no grade reaches into the zone of a block: no row of the block lies in its box
  pub block_leapt : (N q : ℕ) (child : List (List ℕ)) (zones : List Zone) (d : ℕ) → 64 * (d / 64) ≡ d
      → ((e : ℕ) → e < length child → Lies (zone_in zones (e / 64)) m (row_in child e)) → ((e : ℕ) → e < length child → cell child e q ≤ N)
      → ((x : ℕ) → x ≤ N → Unreached B m q (zone_in zones (d / 64)) x) → Leapt B q child d 64
  block_leapt N q child zones d g zoned le f e l h k =
      let b : e / 64 ≡ d / 64 = omega arith in
      f (cell child e q) (le e k) (row_in child e) (subst (λ (z : ℕ). Lies (zone_in zones z) m (row_in child e)) b (zoned e k)) refl

-- the rows in their boxes are the witnesses', and so the next hit is the next witness
module _ (T : Tables) (R : Ready T) (c q : ℕ) (hq : q < slot_count T.slots) (B : Boxes) (M : Boxed B T c q (T.logic.steps + 1)) (long : B.count ≤ length B.bounds) where
  abbrev N : ℕ
  N = T.logic.steps

  abbrev m : ℕ
  m = slot_count T.slots

  -- the box of the grade x, and the level that it is for
  box-at : (x : ℕ) (s : Span) → x ≤ N → span_at B x ≡ Some s → (v : ℕ) × (v ≤ N) × WantsAt T c q x v × BoxAt B T c q v s
  box-at x s h e = of (M x (omega arith))
    where
      of : BoxFor B T c q x (span_at B x) → (v : ℕ) × (v ≤ N) × WantsAt T c q x v × BoxAt B T c q v s
      of u =
          dite (dec_lt N u.level)
          (λ k. let n : Some s ≡ None = sym e ∙ u.none k in absurd (cc))
          (λ k.
          let o = u.some (omega arith) in
          let i : o.0 ≡ s = cc in
          (u.level, omega arith, u.wants, subst (BoxAt B T c q u.level) i o.2))

  part-box : (v : ℕ) (s : Span) → BoxAt B T c q v s → BoxOf T.logic m (AllowsRow T c q v) (box_of B s)
  part-box v s b = box-part T.logic m _ B.bounds _ B.bounds _ b.box (omega (arith, b.few))

  pub boxes_legible : Legible B N m
  boxes_legible x s h e =
      let u = box-at x s h e in
      (u.3.box.more, omega (arith, u.3.few), (part-box u.0 s u.3).columns)

  on_chain : (d : ℕ) → d < length T.child → OnChain T.logic m (row_in T.child d)
  on_chain d h j l = R.child_le d j h l

  in_box_witness : (d : ℕ) → d < length T.child → InBox B q (row_in T.child d) ↔ Witness T c q d
  in_box_witness d h = (
    λ i.
        let u = box-at x i.0 hx i.1 in
        (u.0, u.1, (u.2 u.0 u.1).0 (le_refl _), ((part-box u.0 i.0 u.3).exact (row_in T.child d) (on_chain d h)).0 i.2),
    λ w. reached w (M x (omega arith)),
  )
    where
      x : ℕ
      x = cell T.child d q

      hx : x ≤ N
      hx = R.child_le d q h hq

      reached : Witness T c q d → BoxFor B T c q x (span_at B x) → InBox B q (row_in T.child d)
      reached w u =
          let g = (u.wants w.0 w.1).1 w.2 in
          let n = le_trans g w.1 in
          let o = u.some n in (
            o.0,
            o.1,
            ((part-box u.level o.0 o.2).exact (row_in T.child d) (on_chain d h)).1 (λ j l e.
                within_trans (slot_quantifier T.slots j) _ _ _
                (through_mono T.logic.steps (connectives_of T.logic) (logic-lawful T.logic) (slot_quantifier T.slots j) u.level w.0
                (cell T.child d j) g w.1 (R.child_le d j h l)) (w.3 j l e)),
          )

  pub next_witness : (marks : List ℕ) → length marks ≡ length T.child → (start : ℕ) (o : Option ℕ) → NextHit B q T.child marks start o
      → NextWitness T marks c q start o
  next_witness marks size start None f = λ d l o w. f d l (o, (in_box_witness d (omega (arith, marked_lt marks d o))).1 w)
  next_witness marks size start (Some r) f = (
    f.0.0,
    (in_box_witness r (omega (arith, marked_lt marks r f.0.0))).0 f.0.1,
    λ d l k o w.
        f.1 d l k (o, (in_box_witness d (omega (arith, marked_lt marks d o))).1 w),
  )

-- ---- the memory

-- slot q of c, where w is remembered of it
module _ (T : Tables) (marks : List ℕ) (memory : List (List ℕ)) (M : Remembers T marks memory) (c q : ℕ) (hc : c < length T.own) (hq : q < slot_count T.slots) where
  -- what is remembered is a target, or nothing
  pub remembered_le : cell memory c q ≤ length T.child
  remembered_le = (M c q hc hq).within

  -- a witness that is still marked
  pub still_backed : (0 < cell memory c q) × Marked marks (cell memory c q - 1) → Backed T marks c q
  still_backed h = (cell memory c q - 1, h.1, (M c q hc hq).known h.0)

  -- none is, and a search from there on
  module _ (gone : ¬ ((0 < cell memory c q) × Marked marks (cell memory c q - 1))) where
    none_before : (d : ℕ) → (cell memory c q ≤ d → Marked marks d → ¬ Witness T c q d) → Marked marks d → ¬ Witness T c q d
    none_before d f o w =
        dite (dec_lt (d + 1) (cell memory c q)) (λ k. (M c q hc hq).passed d k o w)
        (λ k. dite (dec_lt d (cell memory c q))
        (λ g. let e : d ≡ cell memory c q - 1 = omega arith in gone (omega arith, subst (Marked marks) e o))
        (λ g. f (omega arith) o w))

    -- found none
    pub none_backed : NextWitness T marks c q (cell memory c q) None → ¬ Backed T marks c q
    none_backed f b = none_before b.0 (f b.0) b.1 b.2

    -- or found r
    module _ (r : ℕ) (f : NextWitness T marks c q (cell memory c q) (Some r)) where
      pub found_backed : Backed T marks c q
      found_backed = (r, f.0, f.1)

      found_remembered : length marks ≡ length T.child → Remembered T marks c q (r + 1)
      found_remembered size = record {
        within = omega (arith, marked_lt marks r f.0);
        known = λ _. let e : r ≡ r + 1 - 1 = omega arith in subst (Witness T c q) e f.1;
        passed = λ d l. none_before d (λ k. f.2 d k (omega arith));
      }

      pub found-remembers : length marks ≡ length T.child → c < length memory → q < length (row_in memory c) → Remembers T marks (put_cell memory c q (r + 1))
      found-remembers size room wide e p he hp =
          dite (dec_and (ℕ_discrete e c) (ℕ_discrete p q))
          (λ i. rw (i.0, i.1, cell-put_same memory c q (r + 1) room wide) (found_remembered size))
          (λ n. rw (cell-put_other memory c q (r + 1) room e p n) (M e p he hp))
