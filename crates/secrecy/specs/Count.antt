-- Demand 3: "exactly as many factory draws show the group's record under one list of secrets as under another", as the equality
-- of two counts over the finite list of all draws.
use Rattle.std.specs.Prelude.{ℕ, suc, ◌+◌, ◌-◌, ◌≡◌, Bool, true, false, cond, ◌&&◌, List, [], ◌∷◌, ◌++◌, map, eqb, replicate}
use Rattle.field.specs.Modulus.{p}
use Rattle.poly.specs.Counting.{Distinct}
use Rattle.parts.specs.Draw.{each_from}
use Rattle.shape.specs.Lengths.{checks_length}
use Rattle.runs.specs.Draws.{Plan, plan_shape, Draw, IsDraw, raw_length, triple_length}
use Rattle.runs.specs.Calls.{Among}
use Rattle.secrecy.specs.Steps.{Secrets, Item}
use Rattle.secrecy.specs.Seen.{Entry, Seen, all_rows, seen}
use Rattle.secrecy.specs.Claim.{Premises}

-- how many of a list pass a test
unfoldable pub count : {A : Type 0} → (A → Bool) → List A → ℕ
count test [] = 0
count test (x ∷ xs) = cond (test x) (suc (count test xs)) (count test xs)

-- Each that passes counts as one: without this a count that is always 0 would meet `EqualCounts`.
pub record CountsEach {A : Type 0} (test : A → Bool) : Type 0 where
  pub none : count test [] ≡ 0
  pub passing : (x : A) (xs : List A) → test x ≡ true → count test (x ∷ xs) ≡ count test xs + 1
  pub failing : (x : A) (xs : List A) → test x ≡ false → count test (x ∷ xs) ≡ count test xs

abbrev pub CountsPassing : Type 1
CountsPassing = (A : Type 0) (test : A → Bool) → CountsEach test

-- one list of what f lists for each of a list
unfoldable pub for_each : {A B : Type 0} → List A → (A → List B) → List B
for_each [] f = []
for_each (x ∷ xs) f = f x ++ for_each xs f

-- all lists with a first of the first list, a second of the second, and so on
unfoldable pub choices : {A : Type 0} → List (List A) → List (List A)
choices [] = [] ∷ []
choices (c ∷ cs) = for_each c (λ x. map (λ xs. x ∷ xs) (choices cs))

-- all lists of k of the `many` numbers from `low` on
unfoldable pub lists_of : ℕ → ℕ → ℕ → List (List ℕ)
lists_of low many k = choices (replicate k (each_from low many (λ x. x)))

-- all lists of a list for each row, the r-th of `many r` elements
unfoldable pub all_lists : (ℕ → ℕ) → List (List (List ℕ))
all_lists many = choices (map (λ r. lists_of 0 p (many r)) all_rows)

-- All draws of a plan: one check point of each post, or two, from 1 to p − 1, what is drawn raw, and what is drawn for triples.
unfoldable pub draws : Plan → List Draw
draws plan =
    for_each (lists_of 1 (p - 1) (checks_length (plan_shape plan))) (λ points.
    for_each (all_lists (raw_length plan)) (λ raws.
    map (λ triples. record { points = points; raws = raws; triples = triples }) (all_lists (triple_length plan))))

-- The list has every draw of the plan, nothing else, and each once.
abbrev pub AllDraws : Type 0
AllDraws =
    (plan : Plan)
    → ((d : Draw) → IsDraw plan d → Among d (draws plan))
    × ((d : Draw) → Among d (draws plan) → IsDraw plan d)
    × Distinct (draws plan)

-- whether two lists are the same, by a test of their members
unfoldable pub same_list : {A : Type 0} → (A → A → Bool) → List A → List A → Bool
same_list same [] [] = true
same_list same [] (y ∷ ys) = false
same_list same (x ∷ xs) [] = false
same_list same (x ∷ xs) (y ∷ ys) = same x y && same_list same xs ys

abbrev pub same_numbers : List ℕ → List ℕ → Bool
same_numbers = same_list eqb

abbrev pub same_lines : List (List ℕ) → List (List ℕ) → Bool
same_lines = same_list same_numbers

-- whether two entries, two records are the same
unfoldable pub same_entry : Entry → Entry → Bool
same_entry e e' =
    same_numbers e.refusals e'.refusals
    && same_numbers e.values e'.values
    && same_lines e.lines e'.lines
    && same_lines e.rows e'.rows

unfoldable pub same_seen : Seen → Seen → Bool
same_seen R R' =
    same_lines R.points R'.points
    && same_list same_lines R.raws R'.raws
    && same_list same_lines R.triples R'.triples
    && same_lines R.polynomials R'.polynomials
    && same_lines R.deals R'.deals
    && same_list same_entry R.entries R'.entries

-- whether the draw shows the record R under the secrets u
unfoldable pub shows : Plan → List ℕ → (ℕ → List ℕ) → List Item → Secrets → Seen → Draw → Bool
shows plan group rows os u R draw = same_seen (seen plan group draw u rows os) R

-- The test says exactly that.
abbrev pub ShowsRight : Type 0
ShowsRight =
    (plan : Plan) (group : List ℕ) (rows : ℕ → List ℕ) (os : List Item) (u : Secrets) (R : Seen) (d : Draw)
    → (shows plan group rows os u R d ≡ true → seen plan group d u rows os ≡ R)
    × (seen plan group d u rows os ≡ R → shows plan group rows os u R d ≡ true)

-- Of all draws, as many show R under u as under u'.
abbrev pub EqualCounts : Type 0
EqualCounts =
    (plan : Plan) (group : List ℕ) (rows : ℕ → List ℕ) (os : List Item) (u u' : Secrets) (R : Seen)
    → Premises plan group u u' os R
    → count (shows plan group rows os u R) (draws plan) ≡ count (shows plan group rows os u' R) (draws plan)
