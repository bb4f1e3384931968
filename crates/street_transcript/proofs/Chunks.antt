-- A chunk is taken line by line; how the input is cut into chunks makes no difference.
use Prim.Native.Nat.{ℕ, zero, suc, ◌-◌, ◌≤◌}
use mathlib.Core.Path.{◌≡◌, refl, ap, ◌∙◌}
use mathlib.Core.List.{List, [], ◌∷◌, ◌++◌, append_assoc}
use mathlib.Core.Bool.{Bool, true, false, cond}
use native.Mathlib.Omega.{arith}
use lib.ListN.{length, take, drop}
use lib.Dec.{eqb}
use Rattle.street_splitting.specs.Lines.{segment, kept_length, cut}
use Rattle.street_feeds.specs.Program.{Running, answered, grown, taken, fed}
use Rattle.street_feeds.specs.Between.{segmented}

-- chunk by chunk
pub fed_append : (p : Running) (s t : List ℕ) → fed p (s ++ t) ≡ fed (fed p s) t
unfolding fed
fed_append p [] t = refl
fed_append p (b ∷ s) t = fed_append (taken p b) s t

-- ---- bytes that are kept one by one are kept together
pub cut_again : (n : ℕ) (l x : List ℕ) → take n (take n l ++ x) ≡ take n (l ++ x)
cut_again zero l x = refl
cut_again (suc n) [] x = refl
cut_again (suc n) (y ∷ l) x = ap (λ (z : List ℕ). y ∷ z) (cut_again n l x)

grown_twice : (p : Running) (b : ℕ) (s : List ℕ) → grown (grown p (b ∷ [])) s ≡ grown p (b ∷ s)
unfolding grown
grown_twice p b s =
    let e : cut (cut (p.line ++ (b ∷ [])) ++ s) ≡ cut (p.line ++ (b ∷ s)) =
    cut_again kept_length (p.line ++ (b ∷ [])) s ∙ ap cut (append_assoc p.line (b ∷ []) s) in
    ap (λ (z : List ℕ). record { state = p.state; store = p.store; line = z; number = p.number; out = p.out }) e

pub segmented_more : (p : Running) (b c : ℕ) (s : List ℕ) → segmented (grown p (b ∷ [])) (c ∷ s) ≡ segmented p (b ∷ c ∷ s)
segmented_more p b c s =
    let m : length (c ∷ s) - 1 ≡ length s = omega arith in
    let n : length (b ∷ c ∷ s) - 1 ≡ suc (length s) = omega arith in
    rw (m, n, grown_twice p b (c ∷ s))

-- ---- one line, or what there is of it
pub segment_first : (b : ℕ) (s : List ℕ) → 1 ≤ segment (b ∷ s)
unfolding segment
segment_first b s = go (eqb b 10)
  where
    go : (t : Bool) → 1 ≤ cond t 1 (suc (segment s))
    go true = omega arith
    go false = omega arith

pub segment_within : (s : List ℕ) → segment s ≤ length s
unfolding segment
segment_within [] = omega arith
segment_within (b ∷ s) = go (eqb b 10) (segment_within s)
  where
    go : (t : Bool) → segment s ≤ length s → cond t 1 (suc (segment s)) ≤ suc (length s)
    go true h = omega arith
    go false h = omega arith

fed_line : (p : Running) (b : ℕ) (s : List ℕ)
    → fed p (b ∷ s) ≡ fed (segmented p (take (segment (b ∷ s)) (b ∷ s))) (drop (segment (b ∷ s)) (b ∷ s))
unfolding fed segment
fed_line p b [] = go (eqb b 10) refl
  where
    go : (t : Bool) → eqb b 10 ≡ t → taken p b ≡ fed (segmented p (take (cond t 1 1) (b ∷ []))) (drop (cond t 1 1) (b ∷ []))
    go true e = refl
    go false e = refl
fed_line p b (c ∷ s) = go (eqb b 10) refl (fed_line (grown p (b ∷ [])) c s)
  where
    inner : (k : ℕ) → 1 ≤ k → segmented (grown p (b ∷ [])) (take k (c ∷ s)) ≡ segmented p (b ∷ take k (c ∷ s))
    inner zero h = absurd (omega arith)
    inner (suc k) h = segmented_more p b c (take k s)

    go : (t : Bool) → eqb b 10 ≡ t
        → fed (grown p (b ∷ [])) (c ∷ s)
        ≡ fed (segmented (grown p (b ∷ [])) (take (segment (c ∷ s)) (c ∷ s))) (drop (segment (c ∷ s)) (c ∷ s))
        → fed (cond t (answered (grown p (b ∷ []))) (grown p (b ∷ []))) (c ∷ s)
        ≡ fed (segmented p (take (cond t 1 (suc (segment (c ∷ s)))) (b ∷ c ∷ s))) (drop (cond t 1 (suc (segment (c ∷ s)))) (b ∷ c ∷ s))
    go true e ih = rw e
    go false e ih =
        ih ∙ ap (λ (z : Running). fed z (drop (segment (c ∷ s)) (c ∷ s))) (inner (segment (c ∷ s)) (segment_first c s))

pub segment_some : (s : List ℕ) → 1 ≤ length s → 1 ≤ segment s
segment_some [] h = absurd (omega arith)
segment_some (b ∷ s) h = segment_first b s

pub fed_segment : (p : Running) (s : List ℕ) → 1 ≤ length s → fed p s ≡ fed (segmented p (take (segment s) s)) (drop (segment s) s)
fed_segment p [] h = absurd (omega arith)
fed_segment p (b ∷ s) h = fed_line p b s
