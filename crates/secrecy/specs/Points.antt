-- Document 01, "What a group of posts sees": "its check points". They are those of the members' sessions, all of them; proved in
-- proofs/PointsShown.antt.
use Rattle.std.specs.Prelude.{ℕ, ◌≡◌, cond, List, [], ◌∷◌, map, eqb}
use Rattle.session.specs.declared.Session.{Session}
use Rattle.runs.specs.Draws.{Plan, Draw, Sound, IsDraw}
use Rattle.runs.specs.Calls.{new_post}
use Rattle.secrecy.specs.Steps.{Secrets, Item}
use Rattle.secrecy.specs.Seen.{seen}
use Rattle.secrecy.specs.Claim.{Group}

-- a session's one check point, or both
abbrev pub session_points : Session → List ℕ
session_points s = cond (eqb s.points 2) (s.first ∷ s.second ∷ []) (s.first ∷ [])

abbrev pub PointsShown : Type 0
PointsShown =
    (plan : Plan) (group : List ℕ) (draw : Draw) (u : Secrets) (rows : ℕ → List ℕ) (os : List Item)
    → Sound plan → IsDraw plan draw → Group plan group
    → (seen plan group draw u rows os).points ≡ map (λ i. session_points (new_post plan draw (rows i) i).session) group
