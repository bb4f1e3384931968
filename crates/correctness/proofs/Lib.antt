-- Demand 2. The steps, and the files that carry them:
-- 1. By the ledger a row has one vector, whose number is the row's plain number; so have a − l and b − l' (Meanings).
-- 2. One post: each row that it holds is its part of the row's vector, and a call keeps that (Standing); what it broadcasts is of these
--    vectors (Said); a finish whose polynomials are truly their senders' fits them (Fitting). So for all posts S, event by event (Walking).
-- 3. Such a post, with any record that 5 and 8 let pass: whom it accepts (Accepting), that 1 to 8 refuse nothing (Permitted), what one half of
--    the masks opens to (Halves), what an opening and the two calls of a finish give (Openings). With 2: demand 2 (Theorems).
-- 4. A false polynomial passes at few lists of check points: counted (Tuples), of one row (Caught), of the rows opened in a run (Parts).
-- 5. Relations: what a finish gives (Relating, Recalling), that the sum's row stays held (Keeping), and its number (Relation).
-- 6. The sets of callers that a session keeps (Callers).
-- 7. Of the statements' words: they leave no choice (Alone), and ask no more of a call, of a run and of figures than is said (Asked, Enough, Given).
pub mod Tuples
pub mod Meanings
pub mod Alone
pub mod Asked
pub mod Standing
pub mod Said
pub mod Fitting
pub mod Walking
pub mod Accepting
pub mod Permitted
pub mod Halves
pub mod Openings
pub mod Theorems
pub mod Caught
pub mod Parts
pub mod Relating
pub mod Recalling
pub mod Keeping
pub mod Relation
pub mod Callers
pub mod Enough
pub mod Given
