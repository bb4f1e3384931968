-- The loops of the A line: commas counted, posts walked, a set placed.
use Prim.Native.Nat.{ℕ, suc, ◌+◌, ◌*◌, ◌-◌, ◌/◌, ◌%◌, ◌^◌, ◌≤◌, ◌<◌}
use mathlib.Core.Path.{◌≡◌, refl, sym, ◌∙◌, ap}
use mathlib.Core.Bool.{cond}
use mathlib.Core.List.{List}
use native.Mathlib.Omega.{arith}
use native.Mathlib.Numerals.{add-one}
use lib.Bits.{bit_and}
use lib.ListN.{get_or, set}
use borrow.Author.Tests.{lt-ltb, le-ltb}
use lib.Pow.{shl_exact}
use native.Mathlib.Nat.{one-mul}
use Rattle.csv_fields.specs.declared.Run.{Run}
use Rattle.std.specs.Prelude.{Option, ◌==◌, count_by}
use Rattle.std.proofs.lemmas.List.Recursion.{is_count_by}
use Rattle.csv_fields.specs.Fields.{fields_at, run_of}
use Rattle.access.specs.declared.Posts.{Posts}
use Rattle.access.specs.Access.{commas, admitted, placed}
use Rattle.access.specs.Between.{further, walked}

-- ---- the commas of a line
pub commas_counted : (s : List ℕ) → commas s ≡ count_by (λ b. b == 44) s
unfolding commas
commas_counted =
    is_count_by commas (λ b. b == 44) refl
    (λ x xs. let e : suc (commas xs) ≡ 1 + commas xs = omega arith in ap (λ (k : ℕ). cond (x == 44) k (commas xs)) e)

-- ---- a byte, a post, a bit
module _ (words : List ℕ) (c : ℕ) where
  pub admit_low : c < 1 → words ≡ admitted words c
  unfolding admitted
  admit_low h = rw (lt-ltb c 1 h)

  pub admit_high : 1 ≤ c → 256 < c → words ≡ admitted words c
  unfolding admitted
  admit_high lo h = rw (le-ltb c 1 lo, lt-ltb 256 c h)

  pub admit_bit : 1 ≤ c → (c - 1) % 32 < 32
  admit_bit lo = omega arith

  pub admit_room : 1 ≤ c → c ≤ 256 → (c - 1) / 32 < 8
  admit_room lo hi = omega arith

  pub admit_sub : (1 * 2 ^ ((c - 1) % 32)) % 2 ^ 32 ≤ 4294967295
  admit_sub = omega arith

  pub admit_end : 1 ≤ c → c ≤ 256
      → set words ((c - 1) / 32) (bit_and (get_or words ((c - 1) / 32) 0) (4294967295 - (1 * 2 ^ ((c - 1) % 32)) % 2 ^ 32)) ≡ admitted words c
  unfolding admitted
  admit_end lo hi =
      let k : (1 * 2 ^ ((c - 1) % 32)) % 2 ^ 32 ≡ 1 * 2 ^ ((c - 1) % 32) = shl_exact 1 ((c - 1) % 32) 32 (omega arith) (omega arith) in
      rw (le-ltb c 1 lo, le-ltb 256 c hi, k, one-mul (2 ^ ((c - 1) % 32)))

-- ---- the walk
module _ (s : List ℕ) (n count : ℕ) where
  pub walked_more : (p q whole : Posts) (r : Option Run) (i : ℕ) → i < count → walked (count - i) n s p ≡ whole → r ≡ run_of (fields_at 1 s p.at) → q ≡ further n p r
      → walked (count - (i + 1)) n s q ≡ whole
  unfolding walked
  walked_more p q whole r i h e er eq =
      let k : count - i ≡ suc (count - (i + 1)) = omega arith in
      ap (walked (count - (i + 1)) n s) (eq ∙ ap (further n p) er) ∙ sym (ap (λ (j : ℕ). walked j n s p) k) ∙ e

  pub walked_start : (p : Posts) → walked (count - 0) n s p ≡ walked count n s p
  walked_start p = let k : count - 0 ≡ count = omega arith in ap (λ (j : ℕ). walked j n s p) k

  pub walked_end : (p whole : Posts) (i : ℕ) → count ≤ i → walked (count - i) n s p ≡ whole → p ≡ whole
  unfolding walked
  walked_end p whole i h e =
      let k : count - i ≡ 0 = omega arith in
      sym (ap (λ (j : ℕ). walked j n s p) k) ∙ e

-- ---- a set placed
pub placed_start : (sets : List ℕ) (r : ℕ) (words : List ℕ) → sets ≡ placed 0 sets r words
unfolding placed
placed_start sets r words = refl

pub placed_more : (sets now : List ℕ) (r k : ℕ) (words : List ℕ) → now ≡ placed k sets r words
    → set now (8 * r + k) (get_or words k 0) ≡ placed (k + 1) sets r words
unfolding placed
placed_more sets now r k words e =
    ap (λ (l : List ℕ). set l (8 * r + k) (get_or words k 0)) e ∙ ap (λ (j : ℕ). placed j sets r words) (sym (add-one k))

pub placed_end : (sets now : List ℕ) (r k : ℕ) (words : List ℕ) → k ≤ 8 → 8 ≤ k → now ≡ placed k sets r words → now ≡ placed 8 sets r words
placed_end sets now r k words lo hi e = let z : k ≡ 8 = omega arith in e ∙ ap (λ (j : ℕ). placed j sets r words) z
