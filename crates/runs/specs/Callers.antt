-- Document 02, (xi): "Each row gets a set of posts that may call for its opening." Which posts these are, by the calls and by which of them are
-- refused: no session is looked at. That sessions bar just the other posts is a claim (correctness, Callers.antt).
use Rattle.std.specs.Prelude.{ℕ, ◌+◌, Bool, true, ◌&&◌, List, [], ◌∷◌}
use Rattle.refusal.specs.Refusal.{outcome}
use Rattle.access.specs.Access.{access_fields, access_row, access_posts}
use Rattle.access.specs.Claims.{listed}
use Rattle.runs.specs.Outline.{Kinds, CallOf, Act, loads, loads_triple, deals, opens, rows_in_of, sums, factors, collects, multiplies, admits, acts}
use Rattle.runs.specs.Calls.{at}

-- Whether row r's set has post c; and the factor rows that masks noted.
pub record Sets : Type 0 where
  pub has : ℕ → ℕ → Bool
  pub factor_a_is : ℕ → ℕ
  pub factor_b_is : ℕ → ℕ

-- "without that line it is all posts"
unfoldable pub all_posts : Sets
all_posts = record { has = λ r c. true; factor_a_is = λ r. 0; factor_b_is = λ r. 0 }

abbrev pub with_set_of : Sets → ℕ → (ℕ → Bool) → Sets
with_set_of X r set = record { has = at X.has r set; factor_a_is = X.factor_a_is; factor_b_is = X.factor_b_is }

-- "the posts that all of them share"
abbrev pub all_have : (ℕ → ℕ → Bool) → List ℕ → ℕ → Bool
all_have has [] c = true
all_have has (a ∷ rows) c = has a c && all_have has rows c

-- "sets it on a raw row"; "A row made from others has the posts that all of them share; for a product these are its factor rows".
abbrev pub set_by : Act → Sets → Sets
set_by (loads r) X = X
set_by (loads_triple r) X = X
set_by (deals r) X = X
set_by (opens r) X = X
set_by (sums r t ts) X = with_set_of X r (all_have X.has (rows_in_of (t ∷ ts)))
set_by (factors a b r) X = record { has = X.has; factor_a_is = at X.factor_a_is r a; factor_b_is = at X.factor_b_is r b }
set_by (collects r) X = X
set_by (multiplies r) X = with_set_of X (r + 2) (λ c. X.has (X.factor_a_is r) c && X.has (X.factor_b_is r) c)
set_by (admits line) X = with_set_of X (access_row (access_fields line)) (λ c. listed c (access_posts (access_fields line)))

abbrev pub set_all : List Act → Sets → Sets
set_all [] X = X
set_all (a ∷ todo) X = set_all todo (set_by a X)

-- After a call with this refusal.
abbrev pub set_after : {K : Kinds} → CallOf K → ℕ → Sets → Sets
set_after c k X = outcome k (set_all (acts c) X) X
