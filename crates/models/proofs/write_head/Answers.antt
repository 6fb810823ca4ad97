-- `models::write_head` meets its contract. Six stores and three words, one after another.
-- Assumes nothing.
use mathlib.Core.Path.{ap, ◌∙◌}
use mathlib.Core.List.{List, [], ◌∷◌, flat_map}
use Prim.Native.Nat.{ℕ}
use native.Mathlib.Omega.{arith}
use lib.Seq.{sets, lt-length-sets, length-sets}
use Rattle.encoding.specs.Words.{word_bytes}
use Rattle.models.specs.Rows.{head_by}
use Rattle.models.proofs.Filling.{stored}
use Rattle.models.proofs.Rows.{small_indexable, small_offsets}
use Rattle.models.proofs.write_head.Goals as goal

pub links_at-links-requires : goal.links_at-links-requires
links_at-links-requires c = small_indexable c.args.p c.requires.0

pub individuals_at-individuals-requires : goal.individuals_at-individuals-requires
individuals_at-individuals-requires c = small_indexable c.args.p c.requires.0

pub bounds-head-4 : goal.bounds-head-4
bounds-head-4 c =
    lt-length-sets c.args.head.now 0
    (1 ∷ c.args.steps ∷ c.args.p.elements ∷ c.args.p.names ∷ [])
    (omega (arith, c.requires.1))

pub bounds-head-5 : goal.bounds-head-5
bounds-head-5 c =
    lt-length-sets c.args.head.now 0
    (1 ∷ c.args.steps ∷ c.args.p.elements ∷ c.args.p.names ∷ c.args.p.roles ∷ [])
    (omega (arith, c.requires.1))

pub write_word-requires : goal.write_word-requires
write_word-requires c =
    lt-length-sets c.args.head.now 0
    (1 ∷ c.args.steps ∷ c.args.p.elements ∷ c.args.p.names ∷ c.args.p.roles ∷ c.args.p.individuals ∷ [])
    (omega (arith, c.requires.1))

pub overflow_cast-links : goal.overflow_cast-links
overflow_cast-links c =
    omega (arith, small_offsets c.args.p c.requires.0, c.links_at-links.ensures)

pub write_word-requires-2 : goal.write_word-requires-2
write_word-requires-2 c =
    omega (arith, c.write_word.auto, length-sets c.args.head.now 0 (1 ∷ c.args.steps ∷ c.args.p.elements ∷ c.args.p.names ∷ c.args.p.roles ∷ c.args.p.individuals ∷ []), c.requires.1)

pub overflow_cast-individuals : goal.overflow_cast-individuals
overflow_cast-individuals c =
    omega (arith, small_offsets c.args.p c.requires.0, c.individuals_at-individuals.ensures)

pub write_word-requires-3 : goal.write_word-requires-3
write_word-requires-3 c =
    omega (
      arith,
      c.write_word-2.auto,
      c.write_word.auto,
      length-sets c.args.head.now 0 (1 ∷ c.args.steps ∷ c.args.p.elements ∷ c.args.p.names ∷ c.args.p.roles ∷ c.args.p.individuals ∷ []),
      c.requires.1,
    )

pub shape_of-head : goal.shape_of-head
shape_of-head c =
    omega (
      arith,
      c.write_word-3.auto,
      c.write_word-2.auto,
      c.write_word.auto,
      length-sets c.args.head.now 0 (1 ∷ c.args.steps ∷ c.args.p.elements ∷ c.args.p.names ∷ c.args.p.roles ∷ c.args.p.individuals ∷ []),
    )

pub returns : goal.returns
unfolding flat_map
returns c =
    let links = c.links_at-links in
    let individuals = c.individuals_at-individuals in
    c.write_word-3.ensures
    ∙ ap (λ (l : List ℕ). sets l 10 (word_bytes individuals.result))
    (c.write_word-2.ensures ∙ ap (λ (l : List ℕ). sets l 8 (word_bytes links.result)) c.write_word.ensures)
    ∙ rw (links.ensures, individuals.ensures) (stored (head_by c.args.steps c.args.p) c.args.head.now c.requires.1)
