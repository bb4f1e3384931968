-- A run goes on from the posts that its orders left.
use Prim.Native.Nat.{ℕ}
use mathlib.Core.Path.{◌≡◌, ap, sym, ◌∙◌}
use mathlib.Core.List.{List, [], ◌∷◌, ◌++◌, map, append_assoc, append-nil}
use Rattle.runs.specs.Orders.{Desk, desk_after}
use Rattle.secrecy.specs.Seen.{Entry, joined, done_at, lines_of, desks_after, entry_of, run}
use Rattle.secrecy.specs.Claim.{RunGoesOn}

pub run_goes_on : RunGoesOn
unfolding run entry_of joined desks_after
run_goes_on plan group draw u [] more lines q = ap (λ (l : List (List ℕ)). run plan group draw u more l q) (sym (append-nil lines))
run_goes_on plan group draw u (o ∷ os) more lines q =
    let L : List (List ℕ) = lines ++ lines_of plan draw u lines o q in
    let next : ℕ → Desk = λ i. desk_after (done_at plan draw u lines o q i) in
    let told : List Entry = run plan group draw u os L next in
    ap (λ (es : List Entry). entry_of plan group draw u lines o q ∷ es)
    (run_goes_on plan group draw u os more L next
    ∙ ap (λ (l : List (List ℕ)). told ++ run plan group draw u more l (desks_after plan draw u os L next))
    (append_assoc lines (lines_of plan draw u lines o q) (joined (map (λ (e : Entry). e.lines) told))))
