-- Document 02, (vii): what the factory makes for a post, as the numbers of a row's line in that post's file.
use Rattle.std.specs.Prelude.{ℕ, cond, List, [], ◌++◌, eqb}
use Rattle.shape.specs.Lengths.{draw_length}
use Rattle.shape.specs.Marks.{raw, unused}
use Rattle.parts.specs.Draw.{part, first_draw, second_draw, third_draw}
use Rattle.session.specs.declared.Party.{Party}

-- What the factory makes for this post of a row's draw.
unfoldable pub post_part : Party → List ℕ → List ℕ
post_part p draw = part p.shape p.post p.points draw

-- Its rows of a triple: of l, of l' and of l''.
unfoldable pub triple_parts : Party → List ℕ → List ℕ
triple_parts p draw =
    let d = draw_length p.shape in
    post_part p (first_draw d draw) ++ (post_part p (second_draw d draw) ++ post_part p (third_draw d draw))

-- The numbers of a row's line, by the row's kind: a raw row's, a triple's three rows', none.
unfoldable pub numbers_of_of : Party → ℕ → List ℕ → List ℕ
numbers_of_of p k draw = cond (eqb k raw) (post_part p draw) (cond (eqb k unused) (triple_parts p draw) [])
