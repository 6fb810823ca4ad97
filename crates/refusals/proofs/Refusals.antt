-- Laws of the numbers.
-- Assumes nothing.
use Prim.Native.Nat.{ℕ, ◌<◌}
use native.Mathlib.Omega.{arith}
use Rattle.refusals.specs.Refusals.{number_of}
use Rattle.refusals.specs.declared.Refusal.{Refusal}
use Rattle.refusals.specs.declared.Refusal.TheVariants.{BookLength, Edition, Steps, Counts, Layout, Terms, Rules, MembershipClaims, LinkClaims, Candidates, Marks, Placement, SheetHead, SheetLayout, SheetEntries, Grid, Outcome, Survivors, SheetBuffer, Candidate, TermOrRole, Pairs, Table}

-- 0 is no check's number
pub number-above : (r : Refusal) → 0 < number_of r
number-above BookLength = omega arith
number-above Edition = omega arith
number-above Steps = omega arith
number-above Counts = omega arith
number-above Layout = omega arith
number-above Terms = omega arith
number-above Rules = omega arith
number-above MembershipClaims = omega arith
number-above LinkClaims = omega arith
number-above Candidates = omega arith
number-above Marks = omega arith
number-above Placement = omega arith
number-above SheetHead = omega arith
number-above SheetLayout = omega arith
number-above SheetEntries = omega arith
number-above Grid = omega arith
number-above Outcome = omega arith
number-above Survivors = omega arith
number-above SheetBuffer = omega arith
number-above Candidate = omega arith
number-above TermOrRole = omega arith
number-above Pairs = omega arith
number-above Table = omega arith
