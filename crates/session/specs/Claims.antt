-- Demand 1, of every call on a session and of a new one; proved in proofs/Lawful.antt. Law.antt says what Lawful is. And what
-- writing a row leaves as it was; proved in proofs/Kept.antt.
use Rattle.std.specs.Prelude.{ℕ, ◌*◌, ◌<◌, ◌≡◌, ◌≢◌, cond, List, eqb, length, replicate}
use Rattle.shape.specs.declared.Points.{Points}
use Rattle.refusal.specs.Refusal.{Test, first, outcome, Ordered, Keeps}
use Rattle.session.specs.declared.Session.{Session}
use Rattle.session.specs.declared.Answer.{Answer}
use Rattle.session.specs.Sessions.{answer, created}
use Rattle.session.specs.Rows.{row_at, with_row}
use Rattle.session.specs.Law.{Lawful}
use Rattle.session.specs.Table.{new_table}

-- A call whose tests stand in order, and whose answer and list are the outcome of their refusal, is lawful.
abbrev pub CallsLawful : Type 0
CallsLawful =
    (tests : List Test) → Ordered 1 tests → (value : ℕ) (new old : Session) (written before : List ℕ)
    → Lawful tests value new old written before (answer (first tests) value new old) (outcome (first tests) written before)

-- A session without rows, in figures: 96 times mark 0, and 96 zeros for the remembered rows and numbers, "0 when new"; 768
-- zeros where posts would be barred, eight numbers a row: "without that line it is all posts".
abbrev pub fresh_session : ℕ → ℕ → ℕ → ℕ → ℕ → ℕ → Session
fresh_session n t post points first second =
    record {
      n = n;
      t = t;
      post = post;
      points = points;
      first = first;
      second = second;
      marks = replicate 96 0;
      factor_a = replicate 96 0;
      factor_b = replicate 96 0;
      y_a = replicate 96 0;
      y_b = replicate 96 0;
      barred = replicate 768 0;
    }

-- "A new session has 96 rows, all with mark 0. A refused new session has 0 in every field." The second point stands in it where a post has
-- two, else 0.
abbrev pub NewLawful : Type 0
NewLawful =
    (n t post points : ℕ) (w : Points)
    → Keeps {A = Answer} (new_table n t post points w)
    (record { refusal = 0; value = 0; session = fresh_session n t post points w.first (cond (eqb points 2) w.second 0) })
    (record { refusal = first (new_table n t post points w); value = 0; session = fresh_session 0 0 0 0 0 0 }) (created n t post points w)

-- "rows that a call doesn't name keep every number": of k rows of w numbers, x takes the place of row r and of no other. Each call
-- that writes rows has an instance, in its crate's specs/Claims.antt.
abbrev pub OthersKept : Type 0
OthersKept =
    (w k : ℕ) (rows : List ℕ) (r : ℕ) (x : List ℕ) → length rows ≡ k * w → r < k → length x ≡ w → (q : ℕ) → q ≢ r
    → row_at w (with_row w r x rows) q ≡ row_at w rows q
