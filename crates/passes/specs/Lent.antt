-- The candidates and their classes that code is lent.
-- Assumes nothing.
use Rattle.witness_boxes.specs.Lent.{tables_of}
use Rattle.passes.specs.Sweeps.{Classes, classes}
use Rattle.passes.specs.declared.candidates.Candidates.{Candidates}

abbrev pub classes_of : Candidates → Classes
classes_of k = classes (tables_of k.tables.now) k.source.now k.target.now
