-- Document 02, (vii): "the session and rows that loading straight from the draw gives". Here that loading: `new`, and by rising row the
-- load of a row or of a triple, each of the post's part of what the factory's calls write.
use Rattle.std.specs.Prelude.{ℕ, suc, ◌+◌, ◌*◌, ◌-◌, cond, List, [], ◌∷◌, ◌++◌, eqb, take, drop, replicate}
use Rattle.shape.specs.Lengths.{row_length, rows_length}
use Rattle.shape.specs.Marks.{raw, unused}
use Rattle.refusal.specs.Refusal.{or_else}
use Rattle.session.specs.declared.Party.{Party}
use Rattle.session.specs.declared.Session.{Session}
use Rattle.session.specs.declared.Answer.{Answer}
use Rattle.session.specs.Sessions.{created}
use Rattle.session.specs.Rows.{row_at}
use Rattle.packs.specs.Packs.{packs, triple_packs}
use Rattle.load.specs.Load.{load_row_answer, load_row_rows_of, load_triple_answer, load_triple_rows_of}
use Rattle.kinds.specs.Kinds.{drawn_for_of}
use Rattle.packfile.specs.Writing.{post_at}

-- "each post's row is written into its own part of the lent list, post 1 first"
unfoldable pub row_pack : Party → List ℕ → List ℕ → List ℕ
row_pack q ws draw = row_at (row_length q.shape) (packs q.shape ws draw) (q.post - 1)

-- "The lent list holds all posts' rows of l, then of l', then of l''."
unfoldable pub triple_pack : Party → List ℕ → List ℕ → List ℕ
triple_pack q ws draw =
    let w = row_length q.shape in
    let n = q.shape.n in
    let all = triple_packs q.shape ws draw in
    row_at w all (q.post - 1) ++ (row_at w all (n + q.post - 1) ++ row_at w all (2 * n + q.post - 1))

-- A session with its rows, and the first refusal of the calls that led there, 0 where none was refused.
pub record Loaded : Type 0 where
  pub session : Session
  pub rows : List ℕ
  pub refusal : ℕ

abbrev pub loaded_by : Loaded → Answer → List ℕ → Loaded
loaded_by l a rows = record { session = a.session; rows = rows; refusal = or_else l.refusal a.refusal }

-- A new session over a list of zeros.
abbrev pub new_post : Party → Loaded
new_post q =
    let a = created q.shape.n q.shape.t q.post q.shape.points q.points in
    record { session = a.session; rows = replicate (rows_length q.shape) 0; refusal = a.refusal }

abbrev pub row_loaded_of : Loaded → ℕ → List ℕ → Loaded
row_loaded_of l row pack =
    loaded_by l (load_row_answer l.session l.rows row pack) (load_row_rows_of l.session l.rows row pack)

abbrev pub triple_loaded : Loaded → ℕ → List ℕ → Loaded
triple_loaded l row pack =
    loaded_by l (load_triple_answer l.session l.rows row pack) (load_triple_rows_of l.session l.rows row pack)

-- "A kind is 0 for empty, 1 for raw, 3 for a triple's first row"
abbrev pub kind_loaded : Party → List ℕ → ℕ → ℕ → List ℕ → Loaded → Loaded
kind_loaded q ws row k draw l =
    cond (eqb k raw) (row_loaded_of l row (row_pack q ws draw))
    (cond (eqb k unused) (triple_loaded l row (triple_pack q ws draw)) l)

-- "The draws follow by rising row": the rows from `row` on, which have these kinds.
unfoldable pub rows_loaded : Party → List ℕ → ℕ → List ℕ → List ℕ → Loaded → Loaded
rows_loaded q ws row [] draws l = l
rows_loaded q ws row (k ∷ ks) draws l =
    let d = drawn_for_of q.shape k in
    rows_loaded q ws (suc row) ks (drop d draws) (kind_loaded q ws row k (take d draws) l)

unfoldable pub straight : ℕ → ℕ → ℕ → ℕ → List ℕ → List ℕ → List ℕ → Loaded
straight n t post points ws kinds draws =
    rows_loaded (post_at n t post points ws) ws 0 kinds draws (new_post (post_at n t post points ws))
