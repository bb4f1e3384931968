-- Demand 3. The steps, and the files that carry them; below they stand from the bottom up.
-- 1. A vector that the group cannot see, with the number 1 (Kernel); vectors that differ by a multiple of it (Near); a draw moved by one (Shift).
-- 2. The matched draw: every drawn vector is moved, by what the secrets differ (Moved) and, of triples (Triples), by what the factors of masks to
--    come differ (Reckoned). It is near the draw (Link, Linked), shows the group the same packs and D lines (Unchanged), and is undone (Back).
-- 3. In one run what marks, vectors, book and lines have to do with each other (State) holds from the start on (Dealings) and after a call (Advance).
-- 4. Two runs side by side (Pair): one call gets the same refusals, answers and lines (Twins, Relations, Answers, Alike, OneCall), then they stand
--    side by side again (Together, Sessions, Onward); so to the end of the list (Runs), and the matched draw shows the same record (Matched).
-- 5. So draws are matched one to one: of calls (CallTheorems, ForCallers), and of orders by the calls that they come to (AsCalls, Along, Again,
--    Theorems). As many draws show the record then: of the list of all draws (Listed) those that pass the test (Tests), counted (Counting, Counts).
-- 6. The same two runs go on through a last opening at which the group lies (LyingLast, LyingTheorems).
-- An inner step: lists of calls on a session alone.
pub mod CallRuns
pub mod CallClaims
-- The kernel: what a group does not see; vectors that differ by it, and the draws behind them.
pub mod Kernel
pub mod Near
pub mod Shift
pub mod Link
-- One post with two lists of rows that are near: the same refusals.
pub mod Twins
pub mod Relations
-- One run: acts, the book, what marks, vectors and lines have to do with each other, from the start on and after each call.
pub mod Moves
pub mod Entered
pub mod State
pub mod Dealings
pub mod Broadcasts
pub mod Advance
pub mod GoesOn
-- Two runs side by side: answers, lines, the group's posts, marks and vectors, sessions, through one call and through the list.
pub mod Pair
pub mod Answers
pub mod Alike
pub mod OneCall
pub mod Together
pub mod Sessions
pub mod Onward
pub mod Reckoned
pub mod Runs
-- The matched draw, what it leaves as it was, and the way back.
pub mod Triples
pub mod Moved
pub mod Linked
pub mod Unchanged
pub mod Back
-- The list of all draws, and the test that is counted.
pub mod Counting
pub mod Tests
pub mod Selections
pub mod Listed
pub mod Counts
-- What the rules ask, call by call.
pub mod Dealt
pub mod Asked
-- What demand 3 asks, in figures, and what its record holds, place by place.
pub mod Enough
pub mod Heard
pub mod Record
-- The theorems; that nobody gets 13; and that the record shows all check points of a group.
pub mod Matched
pub mod CallTheorems
pub mod Thirteen
pub mod Thirteens
pub mod Never
pub mod PointsShown
pub mod Called
pub mod ForCallers
pub mod Calling
-- Orders: the places that the book keeps, one turn, a list of orders as a list of calls, one run and two.
pub mod Frames
pub mod Places
pub mod Doings
pub mod Turning
pub mod AsCalls
pub mod Along
pub mod Again
pub mod Theorems
pub mod NeverOrders
pub mod Barred
pub mod Known
-- A last opening at which the group lies.
pub mod Lying
pub mod LyingLast
pub mod LyingTheorems
pub mod LyingAccepted
pub mod LyingRead
