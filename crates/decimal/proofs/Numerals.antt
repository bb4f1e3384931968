-- One number, both ways: its numeral reads as the number, and what reads as a number is its numeral.
use Prim.Native.Nat.{ℕ, zero, suc, ◌+◌, ◌-◌, ◌*◌, ◌≤◌, ◌<◌}
use mathlib.Core.Path.{◌≡◌, refl, ap, sym, ◌∙◌}
use mathlib.Core.List.{List, [], ◌∷◌, ◌++◌}
use mathlib.Core.Bool.{Bool, true, false, not, ◌||◌, or-true, cond}
use native.Mathlib.Omega.{arith}
use borrow.Author.Tests.{le-leb, ne_eqb, leb-true, eqb-false, not-true}
use lib.ListN.{length, get_or, take, drop, take-append-drop, get_or-append}
use lib.Seq.{take_at, length-take-le, get_or-take}
use lib.Dec.{leb, eqb}
use Rattle.std.specs.Prelude.{Option, Some, None}
use Rattle.decimal.specs.declared.Field.{Field}
use Rattle.decimal.specs.Numeral.{tens, last_digits, size_within, size, numeral, leading, value_after, number, well_formed, field_of}
use Rattle.decimal.proofs.Digits.{Digits, and_true, tens_grow, length_digits, digits_are_digits, leading_append, leading_le, leading_are_digits, value_digits, digits_value, value_below}
use Rattle.decimal.proofs.Sizes.{size_pos, size_le, size_bound, size_one, size_value, first_digit}

-- ---- what is written is read
pub length_numeral : (x : ℕ) → length (numeral x) ≡ size x
length_numeral x = length_digits (size x) x

head_fine : (x : ℕ) → x < tens 10 → (eqb (size x) 1 || not (eqb (get_or (numeral x) 0 0) 48)) ≡ true
unfolding size_within
head_fine zero l = refl
head_fine (suc y) l =
    rw (ne_eqb (get_or (numeral (suc y)) 0 0) 48 (first_digit 9 (suc y) (omega arith) l)) (or-true (eqb (size (suc y)) 1))

numeral_formed : (x : ℕ) → x < tens 10 → well_formed (size x) (get_or (numeral x) 0 0) ≡ true
numeral_formed x l = rw (le-leb 1 (size x) (size_pos 9 x), le-leb (size x) 10 (size_le 9 x)) (head_fine x l)

numeral_leading : (x : ℕ) (rest : List ℕ) → leading rest ≡ 0 → leading (numeral x ++ rest) ≡ size x
numeral_leading x rest z = leading_append (numeral x) rest (digits_are_digits (size x) x) ∙ omega (arith, length_numeral x)

numeral_head : (x : ℕ) (rest : List ℕ) → get_or (numeral x ++ rest) 0 0 ≡ get_or (numeral x) 0 0
numeral_head x rest = get_or-append (numeral x) rest 0 0 (omega (arith, length_numeral x, size_pos 9 x))

pub numeral_reads : (x at : ℕ) (rest : List ℕ) → x < tens 10 → leading rest ≡ 0 → field_of (numeral x ++ rest) at ≡ number x (at + size x)
unfolding field_of
numeral_reads x at rest l z =
    rw (
      numeral_leading x rest z,
      numeral_head x rest,
      numeral_formed x l,
      take_at (numeral x) rest (size x) (length_numeral x),
      value_digits (size x) x (size_bound 9 x l),
    )

-- ---- what is read is what is written
size_is : (ds : List ℕ) → Digits ds → 1 ≤ length ds → length ds ≤ 10 → (eqb (length ds) 1 || not (eqb (get_or ds 0 0) 48)) ≡ true → size (value_after 0 ds) ≡ length ds
unfolding value_after
size_is [] h a b e = absurd (omega arith)
size_is (d ∷ []) h a b e = size_one 9 (0 * 10 + (d - 48)) (omega arith)
size_is (d ∷ c ∷ ds) h a b e =
    let ne : suc (suc (length ds)) ≡ 1 → ⊥ = omega arith in
    let n48 = eqb-false d 48 (not-true (eqb d 48) (rw (ne_eqb (suc (suc (length ds))) 1 ne) at e)) in
    let f : ℕ = 8 - length ds in
    let q : 9 ≡ suc (length ds) + f = omega arith in
    let pos : 1 ≤ 0 * 10 + (d - 48) = omega arith in
    ap (λ (n : ℕ). size_within n (value_after (0 * 10 + (d - 48)) (c ∷ ds))) q
    ∙ size_value (c ∷ ds) f (0 * 10 + (d - 48)) h.1 pos
    ∙ omega (arith, size_one f (0 * 10 + (d - 48)) (omega arith))

formed_is : (k b : ℕ) → well_formed k b ≡ true → (1 ≤ k) × (k ≤ 10) × ((eqb k 1 || not (eqb b 48)) ≡ true)
formed_is k b e =
    let h = and_true (leb 1 k) _ e in
    let g = and_true (leb k 10) _ h.1 in
    (leb-true 1 k h.0, leb-true k 10 g.0, g.1)

-- a list that begins with the numeral of x, where its leading digits end
pub record BeginsWith (s : List ℕ) (x : ℕ) : Type 0 where
  pub text : s ≡ numeral x ++ drop (leading s) s
  pub size_is : leading s ≡ size x
  pub small : x < tens 10

formed_begins : (s : List ℕ) → well_formed (leading s) (get_or s 0 0) ≡ true → BeginsWith s (value_after 0 (take (leading s) s))
unfolding last_digits
formed_begins s e =
    let k : ℕ = leading s in
    let h = formed_is k (get_or s 0 0) e in
    let ds : List ℕ = take k s in
    let n : length ds ≡ k = length-take-le k s (leading_le s) in
    let sz : size (value_after 0 ds) ≡ k =
    size_is ds (leading_are_digits s) (omega arith) (omega arith) (rw (n, get_or-take k s 0 0 (omega arith)) h.2) ∙ n in
    let dg : last_digits (length ds + 0) (value_after 0 ds) ≡ ds = digits_value ds 0 0 (leading_are_digits s) in
    let q : length ds + 0 ≡ size (value_after 0 ds) = omega arith in
    let m : 10 - k + (length ds + 0) ≡ 10 = omega arith in
    let b : tens (length ds + 0) ≤ tens (10 - k + (length ds + 0)) = tens_grow (length ds + 0) (10 - k) in
    record {
      text = sym (take-append-drop k s) ∙ ap (λ (l : List ℕ). l ++ drop k s) (sym dg ∙ ap (λ (m : ℕ). last_digits m (value_after 0 ds)) q);
      size_is = sym sz;
      small = omega (arith, value_below ds 0 0 (leading_are_digits s) (omega arith), ap tens m);
    }

abbrev value_in : Option Field → ℕ
value_in (Some f) = f.value
value_in None = 0

abbrev next_in : Option Field → ℕ
next_in (Some f) = f.next
next_in None = 0

pub number_same : (x n y m : ℕ) → number x n ≡ number y m → (x ≡ y) × (n ≡ m)
number_same x n y m e = (ap value_in e, ap next_in e)

pub number_is_numeral : (s : List ℕ) (at x next : ℕ) → field_of s at ≡ number x next → BeginsWith s x × (next ≡ at + leading s)
unfolding field_of
number_is_numeral s at x next = by_form (well_formed (leading s) (get_or s 0 0)) refl
  where
    by_form : (t : Bool) → well_formed (leading s) (get_or s 0 0) ≡ t → cond t (number (value_after 0 (take (leading s) s)) (at + leading s)) None ≡ number x next
        → BeginsWith s x × (next ≡ at + leading s)
    by_form true f e =
        let h = number_same (value_after 0 (take (leading s) s)) (at + leading s) x next e in
        let p : value_after 0 (take (leading s) s) ≡ x = h.0 in
        let q : next ≡ at + leading s = sym h.1 in
        (rw p at (formed_begins s f), q)
    by_form false f e = let z : ◌≡◌ {A = ℕ} 0 1 = cc in absurd (omega arith)
