-- Document 01, "Calls on a session", as data: what each call is given; what it does, act by act; what it takes from outside for
-- that; and what it sends.
use Rattle.std.specs.Prelude.{ℕ, suc, ◌+◌, ◌*◌, ◌/◌, ◌≡◌, List, [], ◌∷◌, ◌++◌, map, length}
use Rattle.session.specs.Rows.{row_at}
use Rattle.terms.specs.declared.Term.{Term}
use Rattle.terms.specs.Listed.{products_of}
use Rattle.relation.specs.Finish.{number_row_of}

-- ---- What a call is given, but session and rows.

-- The j-th of m equal parts of a list, from 0 on.
abbrev pub cut : (m j : ℕ) → List ℕ → List ℕ
cut m j xs = row_at (length xs / m) xs j

-- What comes from outside: packs, dealers' numbers, records, lists to write into, who makes a message, and dealers' lines. In a list of calls for
-- all posts (demand 3) these are of other kinds than in one post's call. `part m j` is one of m records that are lent as one list.
pub record Kinds : Type 1 where
  pub Pack : Type 0
  pub Number : Type 0
  pub Record : Type 0
  pub Lent : Type 0
  pub Heard : Type 0
  pub Line : Type 0
  pub part : (m j : ℕ) → Record → Record

pub record ForLoad (K : Kinds) : Type 0 where
  pub r : ℕ
  pub pack : K.Pack

pub record ForDeal (K : Kinds) : Type 0 where
  pub r : ℕ
  pub c : K.Number

pub record ForMessage (K : Kinds) : Type 0 where
  pub r : ℕ
  -- the post that calls for the opening: one number at all posts
  pub caller : ℕ
  pub lent : K.Lent
  pub heard : K.Heard

-- Document 02, (xi): a line, the same at all posts.
pub record ForAccess : Type 0 where
  pub line : List ℕ

pub record ForOpening (K : Kinds) : Type 0 where
  pub r : ℕ
  pub blocks : K.Record

pub record ForLinear : Type 0 where
  pub r : ℕ
  pub a : ℕ
  pub b : ℕ
  pub scale : ℕ
  pub fee : ℕ

pub record ForMasks (K : Kinds) : Type 0 where
  pub a : ℕ
  pub b : ℕ
  pub r : ℕ
  pub lent : K.Lent

pub record ForCollect (K : Kinds) : Type 0 where
  pub r : ℕ
  pub blocks_a : K.Record
  pub blocks_b : K.Record

pub record ForMultiply : Type 0 where
  pub r : ℕ

-- Document 02, (v): the terms, and one list for the masks of all product terms.
pub record ForRelationMasks (K : Kinds) : Type 0 where
  pub terms : List Term
  pub lent : K.Lent

-- The terms, the sum's row, and the records of all product terms, which "follow one another by product term, those of a − l first".
pub record ForRelationFinish (K : Kinds) : Type 0 where
  pub terms : List Term
  pub r : ℕ
  pub blocks : K.Record

pub data CallOf (K : Kinds) : Type 0 where
  load_row_of : ForLoad K → CallOf K
  load_triple_of : ForLoad K → CallOf K
  deal : ForDeal K → CallOf K
  message : ForMessage K → CallOf K
  opening : ForOpening K → CallOf K
  linear : ForLinear → CallOf K
  masks : ForMasks K → CallOf K
  collect : ForCollect K → CallOf K
  multiply : ForMultiply → CallOf K
  relation_masks_of : ForRelationMasks K → CallOf K
  relation_finish_of : ForRelationFinish K → CallOf K
  access : ForAccess → CallOf K

-- ---- What it does and sends, where it is not refused.

-- A summand: row a; s times row b; a fee, which is added to the public sums alone.
pub data Summand : Type 0 where
  once : (a : ℕ) → Summand
  times : (s b : ℕ) → Summand
  fee : (k : ℕ) → Summand

-- The rows of a sum.
abbrev pub rows_in_of : List Summand → List ℕ
rows_in_of [] = []
rows_in_of (once a ∷ ts) = a ∷ rows_in_of ts
rows_in_of (times s b ∷ ts) = b ∷ rows_in_of ts
rows_in_of (fee k ∷ ts) = rows_in_of ts

-- An act: row r is loaded; the triple at r is; row r is dealt; row r is opened; row r becomes a sum, of one summand or more; the
-- triple at r waits with the factors a and b; its masks are opened, and the numbers remembered; its third row becomes the product; a line
-- says who may call for a row's opening.
pub data Act : Type 0 where
  loads : (r : ℕ) → Act
  loads_triple : (r : ℕ) → Act
  deals : (r : ℕ) → Act
  opens : (r : ℕ) → Act
  sums : (r : ℕ) (t : Summand) (ts : List Summand) → Act
  factors : (a b r : ℕ) → Act
  collects : (r : ℕ) → Act
  multiplies : (r : ℕ) → Act
  admits : (line : List ℕ) → Act

-- What an act takes from outside: the pack of row r; of the triple at r; the number of row r's dealer; a record of row r; records
-- of the two masks of the triple at r.
pub data Taking : Type 0 where
  nothing_taken : Taking
  a_row_pack : (r : ℕ) → Taking
  a_triple_pack : (r : ℕ) → Taking
  a_number : (r : ℕ) → Taking
  a_record : (r : ℕ) → Taking
  two_records : (r : ℕ) → Taking

abbrev pub takes : Act → Taking
takes (loads r) = a_row_pack r
takes (loads_triple r) = a_triple_pack r
takes (deals r) = a_number r
takes (opens r) = a_record r
takes (sums r t ts) = nothing_taken
takes (factors a b r) = nothing_taken
takes (collects r) = two_records r
takes (multiplies r) = nothing_taken
takes (admits line) = nothing_taken

abbrev pub Given : Kinds → Taking → Type 0
Given K nothing_taken = Unit {0}
Given K (a_row_pack r) = K.Pack
Given K (a_triple_pack r) = K.Pack
Given K (a_number r) = K.Number
Given K (a_record r) = K.Record
Given K (two_records r) = K.Record × K.Record

-- An act with what it takes.
abbrev pub Move : Kinds → Type 0
Move K = (act : Act) × Given K (takes act)

-- A line that is sent: the opening message of row r; the masks of a and b by the triple at r.
pub data Sending : Type 0 where
  its_opening : (r : ℕ) → Sending
  its_masks : (a b r : ℕ) → Sending

-- One act after the other, one line after the other; and who makes an opening message.
pub record Outline (K : Kinds) : Type 0 where
  pub moves : List (Move K)
  pub sends : List Sending
  pub heard : List K.Heard

abbrev acting : {K : Kinds} → List (Move K) → Outline K
acting moves = record { moves = moves; sends = []; heard = [] }

-- "One call makes the masks of all product terms": for each of them what a single product's masks do and send.
abbrev pub factoring : (K : Kinds) → List Term → List (Move K)
factoring K [] = []
factoring K (t ∷ ts) = (factors t.row t.second t.first, tt) ∷ factoring K ts

abbrev pub maskings : List Term → List Sending
maskings [] = []
maskings (t ∷ ts) = its_masks t.row t.second t.first ∷ maskings ts

-- "another finishes them": the product terms from place k on, by both calls of a finish, each with its two of m records.
abbrev pub finishing : (K : Kinds) → (m : ℕ) → K.Record → (k : ℕ) → List Term → List (Move K)
finishing K m blocks k [] = []
finishing K m blocks k (t ∷ ts) =
    (collects t.first, (K.part m (2 * k) blocks, K.part m (2 * k + 1) blocks))
    ∷ (multiplies t.first, tt)
    ∷ finishing K m blocks (suc k) ts

-- "and stores the sum in an empty row": of each term its coefficient times its row, or times its product in the third row of its
-- triple. (A list of no terms is refused with 14.)
abbrev pub summand : Term → Summand
summand t = times t.coefficient (number_row_of t)

abbrev pub summing : (K : Kinds) → (r : ℕ) → List Term → List (Move K)
summing K r [] = []
summing K r (t ∷ ts) = (sums r (summand t) (map summand ts), tt) ∷ []

abbrev pub outline : {K : Kinds} → CallOf K → Outline K
outline (load_row_of x) = acting ((loads x.r, x.pack) ∷ [])
outline (load_triple_of x) = acting ((loads_triple x.r, x.pack) ∷ [])
outline (deal x) = acting ((deals x.r, x.c) ∷ [])
outline (message x) = record { moves = []; sends = its_opening x.r ∷ []; heard = x.heard ∷ [] }
outline (opening x) = acting ((opens x.r, x.blocks) ∷ [])
outline (linear x) = acting ((sums x.r (once x.a) (times x.scale x.b ∷ fee x.fee ∷ []), tt) ∷ [])
outline (masks x) =
    record { moves = (factors x.a x.b x.r, tt) ∷ []; sends = its_masks x.a x.b x.r ∷ []; heard = [] }
outline (collect x) = acting ((collects x.r, (x.blocks_a, x.blocks_b)) ∷ [])
outline (multiply x) = acting ((multiplies x.r, tt) ∷ [])
outline {K} (relation_masks_of x) =
    record { moves = factoring K (products_of x.terms); sends = maskings (products_of x.terms); heard = [] }
outline {K} (relation_finish_of x) =
    acting (finishing K (2 * length (products_of x.terms)) x.blocks 0 (products_of x.terms) ++ summing K x.r x.terms)
outline (access x) = acting ((admits x.line, tt) ∷ [])

abbrev pub moves : {K : Kinds} → CallOf K → List (Move K)
moves c = (outline c).moves

abbrev pub sends : {K : Kinds} → CallOf K → List Sending
sends c = (outline c).sends

abbrev pub acts_in : (K : Kinds) → List (Move K) → List Act
acts_in K ms = map (λ m. m.0) ms

abbrev pub acts : {K : Kinds} → CallOf K → List Act
acts {K} c = acts_in K (moves c)

-- P holds of each of a list; of a list of one, that is P of the one.
abbrev pub EveryFrom : {A : Type 0} → (A → Type 0) → A → List A → Type 0
EveryFrom P x [] = P x
EveryFrom P x (y ∷ ys) = P x × EveryFrom P y ys

abbrev pub Every : {A : Type 0} → (A → Type 0) → List A → Type 0
Every P [] = Unit {0}
Every P (x ∷ xs) = EveryFrom P x xs

-- ---- A call with what comes from outside put in.

pub record Filling (K K' : Kinds) : Type 0 where
  pub row : K.Pack → K'.Pack
  pub triple : K.Pack → K'.Pack
  pub number : ℕ → K.Number → K'.Number
  pub blocks : K.Record → K'.Record
  pub lent : K.Lent → K'.Lent
  pub heard : K.Heard → K'.Heard
  -- of records that are lent as one list, each part by itself
  pub parts : (m j : ℕ) (x : K.Record) → blocks (K.part m j x) ≡ K'.part m j (blocks x)

abbrev pub filled : {K K' : Kinds} → Filling K K' → CallOf K → CallOf K'
filled f (load_row_of x) = load_row_of (record { r = x.r; pack = f.row x.pack })
filled f (load_triple_of x) = load_triple_of (record { r = x.r; pack = f.triple x.pack })
filled f (deal x) = deal (record { r = x.r; c = f.number x.r x.c })
filled f (message x) = message (record { r = x.r; caller = x.caller; lent = f.lent x.lent; heard = f.heard x.heard })
filled f (opening x) = opening (record { r = x.r; blocks = f.blocks x.blocks })
filled f (linear x) = linear x
filled f (masks x) = masks (record { a = x.a; b = x.b; r = x.r; lent = f.lent x.lent })
filled f (collect x) = collect (record { r = x.r; blocks_a = f.blocks x.blocks_a; blocks_b = f.blocks x.blocks_b })
filled f (multiply x) = multiply x
filled f (relation_masks_of x) = relation_masks_of (record { terms = x.terms; lent = f.lent x.lent })
filled f (relation_finish_of x) = relation_finish_of (record { terms = x.terms; r = x.r; blocks = f.blocks x.blocks })
filled f (access x) = access x
