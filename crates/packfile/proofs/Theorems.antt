-- The call's tests are document 02's, in order; refusal 0 exactly when none applies, otherwise the smallest number that does, and
-- the lent list is then as it came.
use mathlib.Core.Path.{◌≡◌, refl, ap}
use mathlib.Core.List.{List, [], ◌∷◌}
use Prim.Native.Nat.{ℕ, ◌+◌}
use native.Mathlib.Omega.{arith}
use lib.ListN.{length}
use Rattle.shape.specs.Lengths.{shape}
use Rattle.refusal.specs.Refusal.{first}
use Rattle.refusal.proofs.Decided.{keeps}
use Rattle.csv_fields.specs.Fields.{overwrite}
use Rattle.lines.specs.declared.Written.{Written}
use Rattle.lines.specs.Writing.{not_written_of}
use Rattle.kinds.specs.Kinds.{drawn_for_of, draws_length, late, crowded, unknown}
use Rattle.packlines.specs.File.{file}
use Rattle.packfile.specs.Writing.{post_at, pack_refusal}
use Rattle.packfile.specs.Table.{stated_length, pack_table}
use Rattle.packfile.specs.Claims.{PackLawful, PostPlaced}

-- The draws' length that the call reckons is the stated one.
stated : (n t points : ℕ) (kinds : List ℕ) → draws_length (shape n t points) kinds ≡ stated_length n t points kinds
unfolding draws_length drawn_for_of stated_length
stated n t points [] = refl
stated n t points (k ∷ ks) = ap (λ (m : ℕ). drawn_for_of (shape n t points) k + m) (stated n t points ks)

by_table : (n t post points : ℕ) (ws kinds draws : List ℕ) (room : ℕ)
    → pack_refusal n t post points ws kinds draws room ≡ first (pack_table n t post points ws kinds draws room)
unfolding pack_refusal late crowded unknown
by_table n t post points ws kinds draws room = rw (stated n t points kinds)

pub pack_lawful : PackLawful
pack_lawful = record {
  refusal = by_table;
  answer = λ n t post points ws kinds draws out.
      rw (by_table n t post points ws kinds draws (length out))
      (keeps Written 1 (pack_table n t post points ws kinds draws (length out)) (omega arith)
      (record { refusal = 0; len = length (file (post_at n t post points ws) kinds draws) })
      (not_written_of (first (pack_table n t post points ws kinds draws (length out)))));
  list = λ n t post points ws kinds draws out.
      rw (by_table n t post points ws kinds draws (length out))
      (keeps (List ℕ) 1 (pack_table n t post points ws kinds draws (length out)) (omega arith)
      (overwrite 0 (file (post_at n t post points ws) kinds draws) out) out);
}

pub post_placed : PostPlaced
post_placed n t post points ws = refl
