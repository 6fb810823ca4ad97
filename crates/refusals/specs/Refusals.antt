-- The document's number of each check.
-- Assumes nothing.
use Rattle.std.specs.Prelude.{ℕ}
use Rattle.refusals.specs.declared.Refusal.{Refusal}
use Rattle.refusals.specs.declared.Refusal.TheVariants.{BookLength, Edition, Steps, Counts, Layout, Terms, Rules, MembershipClaims, LinkClaims, Candidates, Marks, Placement, SheetHead, SheetLayout, SheetEntries, Grid, Outcome, Survivors, SheetBuffer, Candidate, TermOrRole, Pairs, Table}

abbrev pub number_of : Refusal → ℕ
number_of BookLength = 1
number_of Edition = 2
number_of Steps = 3
number_of Counts = 4
number_of Layout = 5
number_of Terms = 6
number_of Rules = 7
number_of MembershipClaims = 8
number_of LinkClaims = 9
number_of Candidates = 10
number_of Marks = 11
number_of Placement = 12
number_of SheetHead = 13
number_of SheetLayout = 14
number_of SheetEntries = 15
number_of Grid = 16
number_of Outcome = 17
number_of Survivors = 18
number_of SheetBuffer = 19
number_of Candidate = 20
number_of TermOrRole = 21
number_of Pairs = 22
number_of Table = 23
