-- A finish's first call keeps to the law of every call.
use Prim.Native.Nat.{ℕ}
use mathlib.Core.Path.{subst}
use mathlib.Core.Bool.{Bool, true, false}
use mathlib.Core.List.{List, [], ◌∷◌}
use lib.Dec.{T, leb, leb→le, ltb, ltb→lt}
use Rattle.refusal.specs.Refusal.{Test, ◌when◌, Ordered}
use Rattle.session.specs.Sessions.{collected_triple}
use Rattle.session.specs.Law.{Lawful}
use Rattle.session.proofs.Lawful.{lawful_by}
use Rattle.opening.proofs.Theorems.{kept}
use Rattle.collect.specs.Collect.{number_a, number_b, collect_refusal, collect_answer}
use Rattle.collect.specs.Table.{collect_table}
use Rattle.collect.specs.Claims.{CollectLawful}
use Rattle.collect.proofs.Tables.{collect_table_lem}

-- the order of a table's numbers, as a test that antt computes: a first call has too many tests for one `omega`
abbrev rises : ℕ → List Test → Bool
rises k [] = true
rises k (j when b ∷ ts) = elim (leb k j) [ true ↦ elim (ltb 0 j) [ true ↦ rises j ts | false ↦ false ] | false ↦ false ]

both : (a b : Bool) → T (elim a [ true ↦ b | false ↦ false ]) → T a × T b
both true b t = (tt, t)
both false b t = absurd t

ordered : (k : ℕ) (ts : List Test) → T (rises k ts) → Ordered k ts
ordered k [] t = tt
ordered k (j when b ∷ ts) t =
    let h = both (leb k j) (elim (ltb 0 j) [ true ↦ rises j ts | false ↦ false ]) t in
    let i = both (ltb 0 j) (rises j ts) h.1 in
    (leb→le k j h.0, ltb→lt 0 j i.0, ordered j ts i.1)

pub collect_lawful : CollectLawful
unfolding collect_refusal
collect_lawful s rows r blocks_a blocks_b =
    subst
    (Lawful (collect_table s rows r blocks_a blocks_b) 0 (collected_triple s r (number_a s rows r blocks_a) (number_b s rows r blocks_b)) s rows rows
    (collect_answer s rows r blocks_a blocks_b))
    (kept (collect_refusal s rows r blocks_a blocks_b) rows)
    (lawful_by (collect_table_lem s rows r blocks_a blocks_b) (ordered 1 (collect_table s rows r blocks_a blocks_b) tt) 0
    (collected_triple s r (number_a s rows r blocks_a) (number_b s rows r blocks_b)) s rows rows)
