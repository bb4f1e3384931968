-- A triple's pack stands where its rows are.
use Prim.Native.Nat.{ℕ, ◌+◌, ◌*◌}
use mathlib.Core.Path.{◌≡◌, sym, ◌∙◌, ap}
use mathlib.Core.List.{List, ◌++◌}
use native.Mathlib.Omega.{arith}
use lib.ListN.{length, get_or, take, drop, get_or-append}
use lib.Seq.{get_or-append-add, length-take-le}
use borrow.Rule.Slice.PartMut.{put_mid}
use Rattle.load.specs.Load.{with_triple}
use Rattle.load.specs.Places.{TriplePlaces}
use Rattle.load.proofs.Triples.{triple_put}

pub triple_places : TriplePlaces
triple_places w r pack rows room size i h =
    let front : length (take (r * w) rows) ≡ r * w = length-take-le (r * w) rows (omega arith) in
    let rest : List ℕ = drop (3 * w) (drop (r * w) rows) in
    ap (λ (l : List ℕ). get_or l (r * w + i) 0) (triple_put w r rows pack room size)
    ∙ ap (λ (n : ℕ). get_or (put_mid (r * w) (3 * w) rows pack) (n + i) 0) (sym front)
    ∙ get_or-append-add (take (r * w) rows) (pack ++ rest) i 0
    ∙ get_or-append pack rest 0 i (omega arith)
