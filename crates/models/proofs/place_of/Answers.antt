-- `models::place_of` meets its contract. The search finds the first type that is `c`, or none.
-- Assumes nothing.
use mathlib.Core.Path.{◌≡◌, ◌∙◌}
use native.Mathlib.Omega.{arith}
use borrow.Author.Rules.{rules}
use Rattle.std.proofs.lemmas.Iterator.{IsFirst-from_position, YieldsList-from_slice}
use Rattle.models.proofs.Listing.{each_option, index-found, index_missed}
use Rattle.models.proofs.place_of.Goals as goal

pub returns : goal.returns
returns c =
    let a = c.args in
    let w = IsFirst-from_position _ _ c.position.result (λ t. t ≡ a.c) (λ t. ¬ (t ≡ a.c)) c.position.ensures.ran
    (YieldsList-from_slice a.types.now cc) (λ x q k. search rules) (λ x q k. search rules) in
    each_option c.position.result
    (λ e. let m = rw e at c.map_or.ensures in let f = rw e at w in m ∙ index_missed a.types.now a.c (λ k l. f k 0 (omega arith) l))
    (λ i e. let m = rw e at c.map_or.ensures in
    let f = rw e at w in
    let is : c.map_or.result ≡ i = search rules in is ∙ index-found a.types.now a.c i f.0 (f.1 0) (λ k l. f.2 k 0 (omega arith) l))
