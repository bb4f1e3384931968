-- Demand 1 of the call that writes a pack file, with document 02's tests; proved in proofs/Theorems.antt.
use Rattle.std.specs.Prelude.{ℕ, ◌+◌, ◌*◌, ◌-◌, ◌≡◌, cond, List, eqb, length, get_or}
use Rattle.refusal.specs.Refusal.{first, Keeps}
use Rattle.csv_fields.specs.Fields.{overwrite}
use Rattle.lines.specs.declared.Written.{Written}
use Rattle.lines.specs.Writing.{written_as, part_as}
use Rattle.packlines.specs.File.{file}
use Rattle.packfile.specs.Writing.{post_at, pack_refusal}
use Rattle.packfile.specs.Table.{pack_table}

-- The answer: the file's length, or the refusal and 0. The list: the file at its start and the rest untouched, or as it came.
pub record PackLawful : Type 0 where
  pub refusal : (n t post points : ℕ) (ws kinds draws : List ℕ) (room : ℕ)
      → pack_refusal n t post points ws kinds draws room ≡ first (pack_table n t post points ws kinds draws room)
  pub answer : (n t post points : ℕ) (ws kinds draws out : List ℕ)
      → Keeps {A = Written} (pack_table n t post points ws kinds draws (length out))
      (record { refusal = 0; len = length (file (post_at n t post points ws) kinds draws) })
      (record { refusal = first (pack_table n t post points ws kinds draws (length out)); len = 0 })
      (written_as (pack_refusal n t post points ws kinds draws (length out)) (file (post_at n t post points ws) kinds draws))
  pub list : (n t post points : ℕ) (ws kinds draws out : List ℕ)
      → Keeps (pack_table n t post points ws kinds draws (length out)) (overwrite 0 (file (post_at n t post points ws) kinds draws) out) out
      (part_as (pack_refusal n t post points ws kinds draws (length out)) (file (post_at n t post points ws) kinds draws) out)

-- The post that the file is for, with the check points of its own place in the list, at every n: the first of post 1, 2, .. stand at 0, 1, .. with one
-- point a post, and at 0, 2, .. with two, each second behind its first. With one point the second is 0.
abbrev pub PostPlaced : Type 0
PostPlaced =
    (n t post points : ℕ) (ws : List ℕ)
    → post_at n t post points ws
    ≡ record {
      shape = record { n = n; t = t; points = points };
      post = post;
      points =
          record { first = get_or ws ((post - 1) * points) 0; second = cond (eqb points 2) (get_or ws ((post - 1) * points + 1) 0) 0 };
    }
