-- Document 02, (xiv), "Find the draw behind another secret": "The call returns a draw with the same check points that shows those posts the
-- same record for the wanted secret."
use Rattle.std.specs.Prelude.{ℕ, zero, suc, ◌*◌, ◌-◌, Bool, true, false, not, cond, ◌||◌, ◌&&◌, List, [], ◌∷◌, ◌++◌, eqb, ltb, length, take, drop}
use Rattle.field.specs.Arithmetic.{difference, product}
use Rattle.poly.specs.Polynomial.{value}
use Rattle.shape.specs.declared.Shape.{Shape}
use Rattle.shape.specs.Lengths.{shape, checks_length, f_length, v_length, draw_length}
use Rattle.refusal.specs.Refusal.{Test, ◌when◌, first, outcome}
use Rattle.refusal.specs.Conditions.{beyond, station_tests}
use Rattle.session.specs.Rows.{combined}
use Rattle.parts.specs.Draw.{drawn_f, drawn_v}
use Rattle.factory.specs.Calls.{lists_tests}
use Rattle.vanishing.specs.Vanishing.{vanishing, distinct}

-- ---- The other draw, by δ: the wanted secret less the secret. `known` are all check points that the listed posts have.

abbrev pub no_posts : List ℕ → Bool
no_posts [] = true
no_posts (i ∷ is) = false

module _ (s : Shape) (posts known : List ℕ) (δ : ℕ) (draw : List ℕ) where
  -- "f ... changes by the polynomial of least degree that does this": by δ times one that is 1 at 0 and 0 at each listed post.
  abbrev pub other_f : List ℕ
  other_f = combined δ (drawn_f s draw) (vanishing (f_length s) posts)

  -- by how much v of post j changes at 0: as much less as f at j more, so that mj stays; at a listed post nothing
  abbrev pub at_zero_of : ℕ → ℕ
  at_zero_of j = difference 0 (product δ (value (vanishing (f_length s) posts) j))

  -- "then each vi": by so much times one that is 1 at 0 and 0 at each check point of the listed posts. Equal points count once.
  abbrev pub other_v : ℕ → List ℕ
  other_v j = combined (at_zero_of j) (drawn_v s draw j) (vanishing (v_length s) (distinct known))

  -- those of m posts from j on
  unfoldable pub other_vs : ℕ → ℕ → List ℕ
  other_vs j zero = []
  other_vs j (suc m) = other_v j ++ other_vs (suc j) m

  -- "with no posts listed only f changes"
  unfoldable pub moved : List ℕ
  moved = other_f ++ cond (no_posts posts) (drop (f_length s) draw) (other_vs 1 s.n)

-- The check points of the posts in a list, of which each has k: "both points of each post in a list" follow one another.
unfoldable pub points_of : ℕ → List ℕ → List ℕ → List ℕ
points_of k ws [] = []
points_of k ws (i ∷ is) = take k (drop ((i - 1) * k) ws) ++ points_of k ws is

-- "If the two secrets are equal it returns the draw it was given, even for all n posts."
unfoldable pub other_draw : ℕ → ℕ → ℕ → List ℕ → List ℕ → ℕ → ℕ → List ℕ → List ℕ
other_draw n t points ws draw secret wanted posts =
    cond (eqb secret wanted) draw (moved (shape n t points) posts (points_of points ws posts) (difference wanted secret) draw)

-- ---- The call

-- 18: "a list of posts that isn't rising or leaves 1..n"; `last` is the post before, 0 before the first
unfoldable pub not_rising : ℕ → ℕ → List ℕ → Bool
not_rising n last [] = false
not_rising n last (i ∷ is) = not (ltb last i) || (ltb n i || not_rising n i is)

-- 19: "more than t posts when the secrets differ"
abbrev pub too_many_of : ℕ → ℕ → ℕ → List ℕ → Bool
too_many_of t secret wanted posts = not (eqb secret wanted) && ltb t (length posts)

-- 8 of the secrets; 18, 19
abbrev pub own_tests : ℕ → ℕ → ℕ → ℕ → List ℕ → List Test
own_tests n t secret wanted posts =
    8 when beyond secret
    ∷ 8 when beyond wanted
    ∷ 18 when not_rising n 0 posts
    ∷ 19 when too_many_of t secret wanted posts
    ∷ []

-- 1, 2 and 4 of the station, and 4, 5 and 8 of the lists, as of the factory's call for a row; what is written is a draw
abbrev pub other_tests : ℕ → ℕ → ℕ → List ℕ → List ℕ → ℕ → ℕ → List ℕ → List ℕ → List Test
other_tests n t points ws draw secret wanted posts out =
    station_tests n t points
    ++ (lists_tests (checks_length (shape n t points)) ws draw (draw_length (shape n t points)) out (draw_length (shape n t points))
    ++ own_tests n t secret wanted posts)

unfoldable pub other_refusal_of : ℕ → ℕ → ℕ → List ℕ → List ℕ → ℕ → ℕ → List ℕ → List ℕ → ℕ
other_refusal_of n t points ws draw secret wanted posts out = first (other_tests n t points ws draw secret wanted posts out)

abbrev pub other_out : ℕ → ℕ → ℕ → List ℕ → List ℕ → ℕ → ℕ → List ℕ → List ℕ → List ℕ
other_out n t points ws draw secret wanted posts out =
    outcome (other_refusal_of n t points ws draw secret wanted posts out) (other_draw n t points ws draw secret wanted posts) out
