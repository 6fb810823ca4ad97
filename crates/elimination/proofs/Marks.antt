-- Laws of marks: the marked candidates as a set and as a list, one mark less, how many there are, and that a list of candidates comes back from its
-- marks.
-- Assumes nothing.
use mathlib.Core.Path.{◌≡◌, refl, sym, ap, subst, ◌∙◌}
use mathlib.Core.Logic.{⊎_elim, ite, dite, ◌↔◌}
use mathlib.Core.List.{List, [], ◌∷◌, ◌++◌}
use Prim.Native.Nat.{ℕ, zero, suc, ◌+◌, ◌≤◌, ◌<◌}
use native.Mathlib.Nat.{not-suc-le-zero}
use native.Mathlib.Decide.{ℕ_discrete}
use native.Mathlib.Omega.{arith}
use lib.ListN.{length, get_or, set, length-set, get_or-append}
use lib.Seq.{get_or-set_same, get_or-set_other, ext_get_or}
use Rattle.chain.specs.Search.{rank}
use Rattle.chain.specs.Lists.{Mem, any?, keep, from, Ascending}
use Rattle.chain.proofs.Search.{below_cases, rank_yes, rank_no, rank_same}
use Rattle.chain.proofs.Lists.{length-table, get_or-table, mem_keep, keep_mem, from_mem, ascending_from, ascending_keep, ascending_same, mem_from, length-keep-from}
use Rattle.elimination.specs.Marks.{marks_of, Marked, marked?, marked}

-- ---- the marked candidates

pub marked_lt : (marks : List ℕ) (c : ℕ) → Marked marks c → c < length marks
marked_lt [] c h = let z : ◌≡◌ {A = ℕ} 0 1 = h in absurd (omega arith)
marked_lt (x ∷ xs) zero h = omega arith
marked_lt (x ∷ xs) (suc c) h = omega (arith, marked_lt xs c h)

-- without candidate c
pub marked-set : (marks : List ℕ) (c d : ℕ) → Marked (set marks c 0) d → Marked marks d × ¬ (d ≡ c)
marked-set marks c d h =
    dite (ℕ_discrete d c) (λ e. absurd (off e)) (λ n. (sym (get_or-set_other marks c d 0 0 n) ∙ h, n))
  where
    within : d < length marks
    within = omega (arith, marked_lt (set marks c 0) d h, length-set marks c 0)

    off : d ≡ c → ⊥
    off e =
        let z : ◌≡◌ {A = ℕ} 0 1 = sym (get_or-set_same marks d 0 0 within) ∙ ap (λ (z : ℕ). get_or (set marks z 0) d 0) e ∙ h in
        omega arith

pub set-marked : (marks : List ℕ) (c d : ℕ) → Marked marks d → ¬ (d ≡ c) → Marked (set marks c 0) d
set-marked marks c d h n = get_or-set_other marks c d 0 0 n ∙ h

-- ---- how many there are

-- one mark less
pub rank_unmarked : (marks : List ℕ) (c n : ℕ) → Marked marks c → c < n → rank (marked? marks) n ≡ rank (marked? (set marks c 0)) n + 1
rank_unmarked marks c zero o l = absurd (not-suc-le-zero l)
rank_unmarked marks c (suc n) o l =
    ⊎_elim (λ e. here (sym e)) (λ k. later k (rank_unmarked marks c n o k)) (below_cases n c l)
  where
    after : List ℕ
    after = set marks c 0

    same : (d : ℕ) → ¬ (d ≡ c) → Marked marks d ↔ Marked after d
    same d m = (λ h. set-marked marks c d h m, λ h. (marked-set marks c d h).0)

    later : c < n → rank (marked? marks) n ≡ rank (marked? after) n + 1 → rank (marked? marks) (suc n) ≡ rank (marked? after) (suc n) + 1
    later k ih =
        dite (marked? marks n)
        (λ p. omega (arith, rank_yes (marked? marks) n p, rank_yes (marked? after) n ((same n (omega arith)).0 p)))
        (λ p. omega (arith, rank_no (marked? marks) n p, rank_no (marked? after) n (λ h. p ((same n (omega arith)).1 h))))

    here : n ≡ c → rank (marked? marks) (suc n) ≡ rank (marked? after) (suc n) + 1
    here e =
        omega (
          arith,
          rank_yes (marked? marks) n (subst (Marked marks) (sym e) o),
          rank_no (marked? after) n (λ h. (marked-set marks c n h).1 e),
          rank_same (marked? marks) (marked? after) n (λ d k. same d (omega arith)),
        )

-- ---- the marked candidates as a list

pub marked_mem : (marks : List ℕ) (n c : ℕ) → Mem c (marked marks n) ↔ ((c < n) × Marked marks c)
unfolding marked
marked_mem marks n c = (
  λ m. let u = mem_keep (marked? marks) (from 0 n) c m in (omega (arith, mem_from 0 n c u.0), u.1),
  λ u. keep_mem (marked? marks) (from 0 n) c (from_mem 0 n c (omega arith) (omega (arith, u.0))) u.1,
)

pub marked_ascending : (marks : List ℕ) (n : ℕ) → Ascending 0 (marked marks n)
unfolding marked
marked_ascending marks n = ascending_keep (marked? marks) 0 (from 0 n) (ascending_from 0 n)

-- ---- the marks of a list

module _ (xs : List ℕ) (n : ℕ) where
  pub length-marks : length (marks_of xs n) ≡ n
  unfolding marks_of
  length-marks = length-table (λ c. ite (any? (ℕ_discrete c) xs) 1 0) n

  -- at the front of a longer buffer
  pub marks_mem : (zs : List ℕ) (c : ℕ) → c < n → Marked (marks_of xs n ++ zs) c ↔ Mem c xs
  unfolding marks_of
  marks_mem zs c h =
      let e = get_or-append (marks_of xs n) zs 0 c (rw length-marks h) ∙ get_or-table (λ c. ite (any? (ℕ_discrete c) xs) 1 0) n c 0 h in
      go (any? (ℕ_discrete c) xs) _ e
    where
      go : (d : Dec ((x : ℕ) × Mem x xs × (c ≡ x))) (m : ℕ) → m ≡ ite d 1 0 → (m ≡ 1) ↔ Mem c xs
      go (yes w) m e = (λ _. subst (λ (z : ℕ). Mem z xs) (sym w.2) w.1, λ _. e)
      go (no f) m e = (λ k. absurd (omega arith), λ k. absurd (f (c, k, refl)))

  -- an ascending list of candidates comes back
  pub marked-marks : (zs : List ℕ) → Ascending 0 xs → ((c : ℕ) → Mem c xs → c < n) → marked (marks_of xs n ++ zs) n ≡ xs
  marked-marks zs s below = ascending_same 0 (marked (marks_of xs n ++ zs) n) xs (marked_ascending (marks_of xs n ++ zs) n) s (λ c. (
    λ m. let u = (marked_mem (marks_of xs n ++ zs) n c).0 m in (marks_mem zs c u.0).0 u.1,
    λ m. (marked_mem (marks_of xs n ++ zs) n c).1 (below c m, (marks_mem zs c (below c m)).1 m),
  ))

-- ---- bytes 0 and 1 that mark just a list's members

module _ (xs marks : List ℕ) (n : ℕ) (size : length marks ≡ n) (same : (c : ℕ) → Marked marks c ↔ Mem c xs) where
  -- are its marks
  pub marks_of_lem : ((c : ℕ) → get_or marks c 0 ≤ 1) → marks ≡ marks_of xs n
  unfolding marks_of
  marks_of_lem bits =
      ext_get_or 0 marks _ (size ∙ sym (length-table (λ c. ite (any? (ℕ_discrete c) xs) 1 0) n))
      (λ c l. go c (any? (ℕ_discrete c) xs) (bits c) ∙ sym (get_or-table (λ c. ite (any? (ℕ_discrete c) xs) 1 0) n c 0 (omega arith)))
    where
      go : (c : ℕ) (d : Dec ((x : ℕ) × Mem x xs × (c ≡ x))) → get_or marks c 0 ≤ 1 → get_or marks c 0 ≡ ite d 1 0
      go c (yes w) l = (same c).1 (subst (λ (z : ℕ). Mem z xs) (sym w.2) w.1)
      go c (no f) l =
          let m : ¬ (get_or marks c 0 ≡ 1) = λ o. f (c, (same c).0 o, refl) in
          omega arith

  -- of an ascending list there are as many as it has members
  pub marks-number : Ascending 0 xs → rank (marked? marks) n ≡ length xs
  marks-number asc =
      sym (length-keep-from (marked? marks) n)
      ∙ ap length (ascending_same 0 (keep (marked? marks) (from 0 n)) xs (ascending_keep (marked? marks) 0 (from 0 n) (ascending_from 0 n)) asc (λ c. (
        λ m. (same c).0 (mem_keep (marked? marks) (from 0 n) c m).1,
        λ m. let o = (same c).1 m in keep_mem (marked? marks) (from 0 n) c (from_mem 0 n c (omega arith) (omega (arith, marked_lt marks c o))) o,
      )))
