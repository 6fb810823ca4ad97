-- The tables that code is lent.
-- Assumes nothing.
use Rattle.witness_boxes.specs.Tables.{Tables, tables}
use Rattle.witness_boxes.specs.declared.lent.WitnessTables.{WitnessTables}

abbrev pub tables_of : WitnessTables → Tables
tables_of t = tables t.logic t.slots.now t.own.now t.child.now t.zones.now
