-- Laws of writing: the sheet written for an interpretation on the chain is right, and reads back as an interpretation that agrees with it.
-- Assumes nothing.
use mathlib.Core.Path.{◌≡◌, refl, sym, ap, ◌∙◌}
use mathlib.Core.List.{List, [], ◌∷◌, ◌++◌, flat_map, append_assoc}
use Prim.Native.Nat.{ℕ, zero, suc, ◌+◌, ◌*◌, ◌-◌, ◌/◌, ◌%◌, ◌≤◌, ◌<◌}
use native.Mathlib.Nat.{mul-suc, div-add-mod', mul-le-mul_left}
use native.Mathlib.Omega.{arith}
use lib.ListN.{length, get_or, length-append}
use lib.Seq.{take_at, drop_at, take_all}
use Rattle.chain.specs.Lists.{Each, table, from}
use Rattle.chain.proofs.Blocks.{length_blocks, at_rows}
use Rattle.chain.proofs.Lists.{each_at, each-table, length-table, get_or-table, table_same, flat_map-same}
use Rattle.semantics.specs.Interpretations.{Interpretation, OnChain, Agree}
use Rattle.semantics.specs.Books.{Book, Valid, name_count, role_count, individuals, RuleModel, MeetsClaims}
use Rattle.encoding.specs.Words.{word_at}
use Rattle.encoding.specs.Stretches.{stretch}
use Rattle.shapes.specs.Layout.{shape_of, names_at, links_at, individuals_at, end_at, name_bytes, link_bytes, individual_bytes}
use Rattle.sheets.specs.Reading.{sheet_of}
use Rattle.sheets.specs.Opening.{SheetRight}
use Rattle.sheets.specs.Writing.{shape_for, head_bytes, name_body, link_body, individual_body, sheet_bytes}
use Rattle.working.specs.Working.{verdict_of}
use Rattle.shapes.specs.declared.Shape.{Shape}
use Rattle.working.specs.declared.Verdict.TheVariants.{Meets}
use Rattle.working.proofs.Agreement.{agree_meets}

module _ (P : ℕ → Type 0) where
  each_append : (xs ys : List ℕ) → Each P xs → Each P ys → Each P (xs ++ ys)
  each_append [] ys h g = g
  each_append (x ∷ xs) ys h g = (h.0, each_append xs ys h.1 g)

  each_blocks : (f : ℕ → List ℕ) (a n : ℕ) → ((x : ℕ) → x < a + n → Each P (f x)) → Each P (flat_map f (from a n))
  unfolding flat_map from
  each_blocks f a zero h = tt
  each_blocks f a (suc n) h =
      each_append (f a) (flat_map f (from (suc a) n)) (h a (omega arith)) (each_blocks f (suc a) n (λ x l. h x (omega arith)))

-- ---- a stretch of three lists, one after another

stretch_middle : (xs ys zs : List ℕ) (at to : ℕ) → length xs ≡ at → length ys ≡ to - at → stretch (xs ++ ys ++ zs) at to ≡ ys
stretch_middle xs ys zs at to e h = rw (append_assoc xs ys zs, drop_at xs (ys ++ zs) at e) (take_at ys zs (to - at) h)

-- ---- the sheet

module _ (N A R I : ℕ) (M : Interpretation) where
  abbrev n : ℕ
  n = M.size

  abbrev p : Shape
  p = shape_for N A R I M

  abbrev b : List ℕ
  b = sheet_bytes N A R I M

  abbrev head : List ℕ
  head = head_bytes N A R I M

  -- one element's names, one element's links for a role, and all links for a role
  abbrev named_row : ℕ → List ℕ
  named_row e = table (λ a. M.names a e) A

  abbrev link_row : ℕ → ℕ → List ℕ
  link_row r e = table (λ f. M.links r e f) n

  abbrev square : ℕ → List ℕ
  square r = flat_map (link_row r) (from 0 n)

  -- ---- how long it is

  length-head : length head ≡ 12
  unfolding flat_map
  length-head = refl

  length-names : length (name_body N A R I M) ≡ n * A
  length-names = length_blocks named_row A (λ e. length-table (λ a. M.names a e) A) 0 n

  length-square : (r : ℕ) → length (square r) ≡ n * n
  length-square r = length_blocks (link_row r) n (λ e. length-table (λ f. M.links r e f) n) 0 n

  length-links : length (link_body N A R I M) ≡ R * (n * n)
  length-links = length_blocks square (n * n) length-square 0 R

  length-individuals : length (individual_body N A R I M) ≡ I
  length-individuals = length-table M.element I

  length-before-links : length (head ++ name_body N A R I M) ≡ links_at p
  length-before-links = omega (arith, length-append head (name_body N A R I M), length-head, length-names)

  length-before-individuals : length (head ++ name_body N A R I M ++ link_body N A R I M) ≡ individuals_at p
  length-before-individuals =
      omega (arith, length-append (head ++ name_body N A R I M) (link_body N A R I M), length-before-links, length-links)

  pub length-sheet : length b ≡ end_at p
  unfolding sheet_bytes
  length-sheet =
      omega (
        arith,
        length-append (head ++ name_body N A R I M ++ link_body N A R I M) (individual_body N A R I M),
        length-before-individuals,
        length-individuals,
      )

  -- ---- its head and its bodies

  pub shape-sheet : shape_of b ≡ p
  unfolding shape_of sheet_bytes
  shape-sheet = refl

  names-sheet : name_bytes b p ≡ name_body N A R I M
  unfolding sheet_bytes
  names-sheet =
      rw (append_assoc (head ++ name_body N A R I M) (link_body N A R I M) (individual_body N A R I M))
      (stretch_middle head (name_body N A R I M) (link_body N A R I M ++ individual_body N A R I M) names_at (links_at p) length-head
      (omega (arith, length-names)))

  links-sheet : link_bytes b p ≡ link_body N A R I M
  unfolding sheet_bytes
  links-sheet =
      stretch_middle (head ++ name_body N A R I M) (link_body N A R I M) (individual_body N A R I M) (links_at p) (individuals_at p) length-before-links
      (omega (arith, length-links))

  individuals-sheet : individual_bytes b p ≡ individual_body N A R I M
  unfolding sheet_bytes
  individuals-sheet =
      rw (drop_at (head ++ name_body N A R I M ++ link_body N A R I M) (individual_body N A R I M) (individuals_at p) length-before-individuals)
      (take_all (end_at p - individuals_at p) (individual_body N A R I M) (omega (arith, length-individuals)))

  -- ---- it reads back

  at_names : (a e : ℕ) → a < A → e < n → get_or (name_body N A R I M) (A * e + a) 0 ≡ M.names a e
  at_names a e h l = at_rows named_row A (λ e. length-table (λ a. M.names a e) A) n e a l h ∙ get_or-table (λ a. M.names a e) A a 0 h

  at-links : (r e f : ℕ) → r < R → e < n → f < n → get_or (link_body N A R I M) (n * (n * r + e) + f) 0 ≡ M.links r e f
  at-links r e f h l m =
      let i : n * (n * r + e) + f ≡ n * n * r + (n * e + f) = omega arith in
      let k : n * e + f < n * n = omega (arith, mul-le-mul_left n l, mul-suc n e) in
      rw i
      (at_rows square (n * n) length-square R r (n * e + f) h k ∙ at_rows (link_row r) n (λ e. length-table (λ f. M.links r e f) n) n e f l m
      ∙ get_or-table (λ f. M.links r e f) n f 0 m)

  pub sheet_reads : Agree A R I M (sheet_of b)
  unfolding sheet_of
  sheet_reads = rw shape-sheet (record {
    size_same = refl;
    names_same = λ a e h l. rw names-sheet (at_names a e h l);
    links_same = λ r e f h l m. rw links-sheet (at-links r e f h l m);
    element_same = λ j h. rw individuals-sheet (get_or-table M.element I j 0 h);
  })

  -- ---- it is right

  word_read : (v : ℕ) → v / 256 * 256 + v % 256 ≡ v
  word_read v = div-add-mod' v 256

  module _ (on : OnChain N M) (few : n ≤ 64) where
    names-right : Each (λ g. g ≤ N) (name_body N A R I M)
    names-right =
        each_blocks (λ g. g ≤ N) named_row 0 n (λ e l. each-table (λ g. g ≤ N) (λ a. M.names a e) A (λ a _. on.names_le a e (omega arith)))

    links_right : Each (λ g. g ≤ N) (link_body N A R I M)
    links_right =
        each_blocks (λ g. g ≤ N) square 0 R (λ r _. each_blocks (λ g. g ≤ N) (link_row r) 0 n (λ e l.
        each-table (λ g. g ≤ N) (λ f. M.links r e f) n (λ f m. on.links_le r e f (omega arith) m)))

    individuals-right : Each (λ x. x < n) (individual_body N A R I M)
    individuals-right = each-table (λ x. x < n) M.element I (λ j _. on.element_lt j)

    pub sheet-right : SheetRight b p N A R I
    unfolding word_at sheet_bytes flat_map
    sheet-right = record {
      shape_is = sym shape-sheet;
      head_right = (omega (arith, length-sheet), (refl, (refl, (on.inhabited, (few, (refl, (refl, refl)))))));
      laid_out = (word_read names_at, (word_read (links_at p), (word_read (individuals_at p), length-sheet)));
      entries_right = (
        rw names-sheet ((each_at (λ g. g ≤ N) (name_body N A R I M) 0).0 names-right),
        (
          rw links-sheet ((each_at (λ g. g ≤ N) (link_body N A R I M) 0).0 links_right),
          rw individuals-sheet ((each_at (λ x. x < n) (individual_body N A R I M) 0).0 individuals-right),
        ),
      );
    }

-- ---- what is written of a model

-- the sheet written for an interpretation that meets a book's rules, pairs and claims meets them
pub sheet_meets : (B : Book) (M : Interpretation) → Valid B → RuleModel B M → MeetsClaims B M
    → verdict_of B (sheet_of (sheet_bytes B.grading.steps (name_count B) (role_count B) (individuals B) M)) ≡ Meets
sheet_meets B M v r c = agree_meets B M _ v (sheet_reads B.grading.steps (name_count B) (role_count B) (individuals B) M) r c

-- interpretations that agree have one sheet
module _ (N A R I : ℕ) (M K : Interpretation) (same : Agree A R I M K) where
  head-same : head_bytes N A R I K ≡ head_bytes N A R I M
  head-same =
      ap (λ (n : ℕ). head_bytes N A R I (record { size = n; names = M.names; links = M.links; element = M.element })) same.size_same

  names_same : name_body N A R I K ≡ name_body N A R I M
  names_same = rw same.size_same (flat_map-same _ _ 0 M.size (λ e l. table_same _ _ A (λ a h. same.names_same a e h (omega arith))))

  links_same : link_body N A R I K ≡ link_body N A R I M
  links_same =
      rw same.size_same (flat_map-same _ _ 0 R (λ r h. flat_map-same _ _ 0 M.size (λ e l.
      table_same _ _ M.size (λ f m. same.links_same r e f (omega arith) (omega arith) m))))

  individuals_same : individual_body N A R I K ≡ individual_body N A R I M
  individuals_same = table_same _ _ I same.element_same

  pub sheet-same : sheet_bytes N A R I K ≡ sheet_bytes N A R I M
  unfolding sheet_bytes
  sheet-same = cc (head-same, names_same, links_same, individuals_same)
