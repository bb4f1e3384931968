-- Document 02, (xiv), what is claimed; proved in proofs/Returned, Taken, Changes and Nineteen.
use Rattle.std.specs.Prelude.{ℕ, ◌+◌, ◌*◌, ◌≤◌, ◌≡◌, false, List, [], ◌∷◌, map, length, drop, get_or, replicate}
use Rattle.shape.specs.declared.Shape.{Shape}
use Rattle.shape.specs.Lengths.{shape}
use Rattle.parts.specs.Draw.{drawn_f, drawn_v}
use Rattle.secrecy.specs.Seen.{Entry, member, posts}
use Rattle.otherdraw.specs.Other.{other_out, other_refusal_of}
use Rattle.otherdraw_law.specs.OneRow.{loads, deals, Setting, record_of, Behind}

-- The call in a setting: its refusal, and what stands in the lent list after it.
abbrev pub refusal_in : Setting → List ℕ → ℕ → ℕ → List ℕ → ℕ
refusal_in S draw secret wanted out = other_refusal_of S.n S.t S.points S.ws draw secret wanted S.posts out

abbrev pub returned : Setting → List ℕ → ℕ → ℕ → List ℕ → List ℕ
returned S draw secret wanted out = other_out S.n S.t S.points S.ws draw secret wanted S.posts out

-- A row of the session, dealt "by none of the posts listed": by a post that is not listed, or by someone who is no post.
pub record Dealt (S : Setting) : Type 0 where
  pub row : S.r ≤ 95
  pub dealer : member S.dealer S.posts ≡ false

-- "The call returns a draw with the same check points that shows those posts the same record for the wanted secret." Whatever stands in the
-- posts' lists of rows, and however long they are.
abbrev pub ShowsTheSame : Type 0
ShowsTheSame =
    (S : Setting) (draw : List ℕ) (secret wanted : ℕ) (out : List ℕ) → Dealt S → refusal_in S draw secret wanted out ≡ 0
    → Behind S draw secret wanted (returned S draw secret wanted out)

-- The two orders of a list answer 0 at every post.
abbrev pub AllTaken : Setting → List ℕ → ℕ → Type 0
AllTaken S draw u = map (λ (e : Entry). e.refusals) (record_of S draw u).entries ≡ replicate S.n 0 ∷ replicate S.n 0 ∷ []

-- A load and a deal do so where the posts' lists of rows have the right length: of the draw that is given with the secret, and of the one
-- returned with the wanted secret.
abbrev pub BothTaken : Type 0
BothTaken =
    (S : Setting) (draw : List ℕ) (secret wanted : ℕ) (out : List ℕ) → Dealt S → refusal_in S draw secret wanted out ≡ 0
    → S.todo ≡ loads ∷ deals ∷ []
    → ((i : ℕ) → 1 ≤ i → i ≤ S.n → length (S.rows i) ≡ 96 * (S.points * S.t + 1 + S.points * S.n + S.n))
    → AllTaken S draw secret × AllTaken S (returned S draw secret wanted out) wanted

-- The change from one list of coefficients to another has a degree below m: none changes from the m-th on.
abbrev pub Below : ℕ → List ℕ → List ℕ → Type 0
Below m old xs = (q : ℕ) → m ≤ q → get_or xs q 0 ≡ get_or old q 0

-- Of the lists that do something, the one whose change has the least degree, and the only one whose change has no greater degree.
pub record Least (Does : List ℕ → Type 0) (old new : List ℕ) : Type 0 where
  pub does : Does new
  pub least : (xs : List ℕ) → Does xs → (m : ℕ) → Below m old xs → Below m old new
  pub only : (xs : List ℕ) → Does xs → ((m : ℕ) → Below m old new → Below m old xs) → xs ≡ new

abbrev pub shape_in : Setting → Shape
shape_in S = shape S.n S.t S.points

module _ (S : Setting) (draw : List ℕ) (secret wanted : ℕ) where
  -- f of a draw behind the wanted secret; v of post j, of one with a given f
  abbrev pub AnF : List ℕ → Type 0
  AnF xs = (other : List ℕ) × Behind S draw secret wanted other × (drawn_f (shape_in S) other ≡ xs)

  abbrev pub AV : List ℕ → ℕ → List ℕ → Type 0
  AV f j xs =
      (other : List ℕ) × Behind S draw secret wanted other × (drawn_f (shape_in S) other ≡ f) × (drawn_v (shape_in S) other j ≡ xs)

-- "f, then each vi, changes by the polynomial of least degree that does this".
abbrev pub ChangesLeast : Type 0
ChangesLeast =
    (S : Setting) (draw : List ℕ) (secret wanted : ℕ) (out : List ℕ) → Dealt S → refusal_in S draw secret wanted out ≡ 0
    → (let new = returned S draw secret wanted out in
    Least (AnF S draw secret wanted) (drawn_f (shape_in S) draw) (drawn_f (shape_in S) new)
    × ((j : ℕ) → 1 ≤ j → j ≤ S.n
    → Least (AV S draw secret wanted (drawn_f (shape_in S) new) j) (drawn_v (shape_in S) draw j) (drawn_v (shape_in S) new j)))

-- "with no posts listed only f changes"
abbrev pub OnlyF : Type 0
OnlyF =
    (S : Setting) (draw : List ℕ) (secret wanted : ℕ) (out : List ℕ) → refusal_in S draw secret wanted out ≡ 0 → S.posts ≡ []
    → drop (S.t + 1) (returned S draw secret wanted out) ≡ drop (S.t + 1) draw

-- "No such draw exists where it gives 19." Whoever dealt.
abbrev pub NoneWhereNineteen : Type 0
NoneWhereNineteen =
    (S : Setting) (draw : List ℕ) (secret wanted : ℕ) (out : List ℕ) → S.r ≤ 95 → refusal_in S draw secret wanted out ≡ 19
    → (other : List ℕ) → Behind S draw secret wanted other → ⊥

-- "If the two secrets are equal it returns the draw it was given, even for all n posts": where the call takes no posts it takes all.
abbrev pub EqualSecrets : Type 0
EqualSecrets =
    (n t points : ℕ) (ws draw : List ℕ) (secret : ℕ) (out : List ℕ)
    → ((listed : List ℕ) → other_refusal_of n t points ws draw secret secret listed out ≡ 0
    → other_out n t points ws draw secret secret listed out ≡ draw)
    × (other_refusal_of n t points ws draw secret secret [] out ≡ 0 → other_refusal_of n t points ws draw secret secret (posts n) out ≡ 0)
