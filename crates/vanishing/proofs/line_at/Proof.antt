-- `line_at` meets its contract: what is folded once fits into 32 bits.
use Prim.Native.Nat.{ℕ, ◌+◌, ◌*◌, ◌/◌, ◌%◌, ◌≤◌, ◌<◌}
use mathlib.Core.Path.{◌≡◌, ap}
use native.Mathlib.Omega.{arith}
use borrow.Author.Rules.{rules}
use lib.Dec.{lit<}
use Rattle.vanishing.specs.Between.{fold, line_at}
use Rattle.vanishing.proofs.Folded.{fold_once, fold_twice, line_whole}
use Rattle.vanishing.proofs.line_at.Statement.{statement}
use Rattle.vanishing.proofs.line_at.Tie as tie

line_is : (k c b y : ℕ) → y ≡ k * c
    → (y + b) % 2147483648 + (y + b) / 2147483648 ≡ fold (k * c + b)
unfolding fold
line_is k c b y e = ap (λ (z : ℕ). (z + b) % 2147483648 + (z + b) / 2147483648) e

all_line : (k c b y : ℕ) → y ≡ k * c
    → ((y + b) % 2147483648 + (y + b) / 2147483648) % 2147483648 + ((y + b) % 2147483648 + (y + b) / 2147483648) / 2147483648 ≡ line_at k c b
unfolding line_at fold
all_line k c b y e = ap (λ (z : ℕ). z % 2147483648 + z / 2147483648) (line_is k c b y e)

below : (x m n : ℕ) → x ≤ m → m < n → x < n
below x m n h l = omega arith

whole : tie.Need-overflow_add-whole
whole c = let r = c.requires in record { fits = below _ _ _ (line_whole _ _ _ r.0 r.1 r.2 _ c.whole_product.ensures) (lit< tt) }

once : tie.Need-overflow_add-once
once c = let r = c.requires in record { fits = below _ _ _ (fold_once _ (line_whole _ _ _ r.0 r.1 r.2 _ c.whole_product.ensures)) (lit< tt) }

short : tie.Need-overflow_cast-once
short c = let r = c.requires in record { fits = below _ _ _ (fold_once _ (line_whole _ _ _ r.0 r.1 r.2 _ c.whole_product.ensures)) (lit< tt) }

twice : tie.Need-overflow_add-result
twice c =
    let r = c.requires in
    record { fits = below _ _ _ (fold_twice _ (fold_once _ (line_whole _ _ _ r.0 r.1 r.2 _ c.whole_product.ensures))) (lit< tt) }

pub line_at_spec : {M : Type 1} → statement M
line_at_spec = tie.close (tie.spec (λ c κs. search rules) whole once short twice (λ c. all_line _ _ _ _ c.whole_product.ensures))
