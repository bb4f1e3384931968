-- Between the functions of the code. No theorem is stated with these.
use Rattle.std.specs.Prelude.{ℕ, zero, suc, ◌+◌, ◌*◌, ◌≤◌, ◌<◌, ◌≡◌, Bool, ◌&&◌, List, [], ◌++◌, eqb, ltb, length, get_or, take, drop}
use Rattle.field.specs.Arithmetic.{difference, product}
use Rattle.poly.specs.Polynomial.{value}
use Rattle.poly.specs.Counting.{All, Elements}
use Rattle.shape.specs.declared.Shape.{Shape}
use Rattle.shape.specs.Bounds.{most_posts}
use Rattle.shape.specs.Lengths.{Valid, f_length, v_length, checks_length, draw_length}
use Rattle.session.specs.Rows.{combined}
use Rattle.vanishing.specs.Between.{Nonzero}

-- posts of a station
abbrev pub PostsIn : ℕ → List ℕ → Type 0
PostsIn n posts = All (λ i. (1 ≤ i) × (i ≤ n)) posts

-- `to` with the k numbers of `from` that stand from `a` on, from b on
abbrev pub handed : ℕ → ℕ → ℕ → List ℕ → List ℕ → List ℕ
handed k a b from to = take b to ++ (take k (drop a from) ++ drop k (drop b to))

-- what the check points of the listed posts are gathered from, and in what
pub record Gathering (s : Shape) (ws posts known : List ℕ) : Type 0 where
  pub valid : Valid s
  pub posts_in : PostsIn s.n posts
  pub few : length posts ≤ s.t
  pub ws_length : length ws ≡ checks_length s
  pub ws_nonzero : Nonzero ws
  pub known_length : length known ≡ length posts * s.points

-- the list `out` with the part of the draw from `at` on changed by a multiple of the factor, which is as long
abbrev pub changed : ℕ → ℕ → List ℕ → List ℕ → List ℕ → List ℕ
changed at scale factor draw out =
    take at out ++ (combined scale (take (length factor) (drop at draw)) factor ++ drop (length factor) (drop at out))

-- by what the v of post i + 1 changes at 0, where f changes by δ times `root`
abbrev pub scale_of : ℕ → List ℕ → ℕ → ℕ
scale_of δ root i = difference 0 (product δ (value root (i + 1)))

-- whether post i + 1 is the listed post at `next`
unfoldable pub is_next_of : ℕ → ℕ → List ℕ → Bool
is_next_of i next posts = ltb next (length posts) && eqb (get_or posts next 0) (i + 1)

-- `root` is 0 at each listed post
abbrev pub Rooted : List ℕ → List ℕ → Type 0
Rooted root posts = (k : ℕ) → k < length posts → value root (get_or posts k 0) ≡ 0

-- the v's of m posts from post i + 1 on, whose k coefficients stand in the draw from `at` on
unfoldable pub vs_with : ℕ → List ℕ → List ℕ → ℕ → List ℕ → ℕ → ℕ → ℕ → List ℕ
vs_with k root factor δ draw at i zero = []
vs_with k root factor δ draw at i (suc m) =
    combined (scale_of δ root i) (take k (drop at draw)) factor ++ vs_with k root factor δ draw (at + k) (suc i) m

-- f's values are taken with room for the powers of a post
abbrev pub Valued : List ℕ → List ℕ → Type 0
Valued root powers = (length root ≤ length powers) × (length root ≤ most_posts)

-- what the v's are changed with
pub record Changing (n first : ℕ) (posts root factor draw powers out : List ℕ) : Type 0 where
  pub most : n ≤ most_posts
  pub valued : Valued root powers
  pub long : length draw ≡ first + n * length factor
  pub same : length draw ≡ length out
  pub rooted : Rooted root posts
  pub elements : Elements draw

-- and where some posts are listed: the rooms have the right lengths
pub record Seeing (s : Shape) (ws posts root draw known factor powers out : List ℕ) : Type 0 where
  pub gathering : Gathering s ws posts known
  pub root_length : length root ≡ f_length s
  pub factor_length : length factor ≡ v_length s
  pub powers_length : length powers ≡ f_length s
  pub draw_length_is : length draw ≡ draw_length s
  pub draw_elements : Elements draw
  pub out_length : length out ≡ draw_length s

-- what the tests leave, where the secrets differ
pub record Finding (s : Shape) (ws posts draw out : List ℕ) : Type 0 where
  pub valid : Valid s
  pub posts_in : PostsIn s.n posts
  pub few : length posts ≤ s.t
  pub ws_length : length ws ≡ checks_length s
  pub ws_nonzero : Nonzero ws
  pub draw_length_is : length draw ≡ draw_length s
  pub draw_elements : Elements draw
  pub out_length : length out ≡ draw_length s

-- rooms for so many posts, and for as many coefficients
pub record Roomed (s : Shape) (root known factor powers : List ℕ) : Type 0 where
  pub root_room : f_length s ≤ length root
  pub known_room : v_length s ≤ length known
  pub factor_room : v_length s ≤ length factor
  pub powers_room : f_length s ≤ length powers
