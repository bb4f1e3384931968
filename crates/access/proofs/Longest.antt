-- The longest A line: no line that is taken has more bytes than the one that names the last row and all posts.
use Prim.Native.Nat.{ℕ, zero, suc, ◌+◌, ◌*◌, ◌-◌, ◌≤◌, ◌<◌}
use mathlib.Core.Path.{◌≡◌, refl, sym, ◌∙◌, ap, ap₂}
use mathlib.Core.Bool.{Bool, true, false, not, ◌||◌, cond}
use mathlib.Core.List.{List, [], ◌∷◌}
use native.Mathlib.Omega.{arith}
use borrow.Author.Tests.{lt-ltb, le-ltb, ltb-true, ltb-false}
use lib.Dec.{ltb}
use lib.ListN.{length, length-append}
use Rattle.refusal.specs.Refusal.{first, AllFail}
use Rattle.refusal.specs.Conditions.{outside}
use Rattle.refusal.proofs.Laws.{all_fail, not_refused, inside, or_false}
use Rattle.decimal.specs.Numeral.{size_within, size}
use Rattle.decimal.proofs.Digits.{and_true}
use Rattle.decimal.proofs.Sizes.{size_one, size_grows, size_places}
use Rattle.csv_fields.specs.Fields.{field, fields, Small, Parsed, parsed, malformed, numbers_of_of}
use Rattle.csv_fields.proofs.Overwriting.{length_field}
use Rattle.session.specs.declared.Session.{Session}
use Rattle.session.specs.Checks.{wrong_mark_of}
use Rattle.access.specs.Access.{access_fields, access_row, access_posts, bad_access, rising_from, rising, any_outside}
use Rattle.access.specs.Table.{access_table}
use Rattle.access.specs.Claims.{line_end_of, access_text, all_from, all_admitted, longest_access, LongestAccess}
use Rattle.access.proofs.Bytes.{access_bytes}

-- ---- bytes of posts

-- the bytes of posts 1 to n, each behind its comma
abbrev bytes : ℕ → ℕ
bytes n = 2 * n + (n - 9) + (n - 99)

-- a post's bytes are what it adds
one_post : (c : ℕ) → suc c ≤ 255 → 1 + size (suc c) + bytes c ≡ bytes (suc c)
one_post c h = by_size (ltb (suc c) 10) (ltb (suc c) 100) refl refl
  where
    by_size : (a b : Bool) → ltb (suc c) 10 ≡ a → ltb (suc c) 100 ≡ b → 1 + size (suc c) + bytes c ≡ bytes (suc c)
    by_size true b d e = let l = ltb-true (suc c) 10 d in omega (arith, l, size_one 9 (suc c) l)
    by_size false true d e =
        let l = ltb-false (suc c) 10 d in
        let u = ltb-true (suc c) 100 e in
        omega (arith, l, u, size_places 9 1 (suc c) (omega arith) (omega (arith, l)) (omega (arith, u)))
    by_size false false d e =
        let l = ltb-false (suc c) 100 e in
        omega (arith, l, size_places 9 2 (suc c) (omega arith) (omega (arith, l)) (omega (arith, h)))

next_field : (c : ℕ) (cs : List ℕ) → length (fields (c ∷ cs)) ≡ 1 + size c + length (fields cs)
unfolding fields
next_field c cs = omega (arith, length-append (field c) (fields cs), length_field c)

tail_grows : (k a b : ℕ) → a ≤ b → a - k ≤ b - k
tail_grows k a b h = omega (arith, h)

bytes_grow : (a b : ℕ) → a ≤ b → bytes a ≤ bytes b
bytes_grow a b h = sum (a - 9) (a - 99) (b - 9) (b - 99) (tail_grows 9 a b h) (tail_grows 99 a b h)
  where
    sum : (c d e f : ℕ) → c ≤ e → d ≤ f → 2 * a + c + d ≤ 2 * b + e + f
    sum c d e f g k = omega (arith, g, k, h)

one_more : (long rest s low before after all : ℕ) → long ≡ 1 + s + rest → 1 + s + before ≡ after → rest + after ≤ all → low ≤ before → long + low ≤ all
one_more long rest s low before after all a b c d = omega (arith, a, b, c, d)

-- posts that rise from above low, to n at most
rising_bytes : (n low : ℕ) (cs : List ℕ) → n ≤ 255 → low ≤ n → rising_from low cs ≡ true → any_outside n cs ≡ false
    → length (fields cs) + bytes low ≤ bytes n
unfolding fields
rising_bytes n low [] h l r o = nothing (bytes low) (bytes n) (bytes_grow low n l)
  where
    nothing : (a b : ℕ) → a ≤ b → 0 + a ≤ b
    nothing a b g = omega (arith, g)
rising_bytes n low (c ∷ cs) h l r o = go c (ltb-true low c up.0) (inside 1 n c at.0) (rising_bytes n c cs h (inside 1 n c at.0).1 up.1 at.1)
  where
    up : (ltb low c ≡ true) × (rising_from c cs ≡ true)
    up = and_true (ltb low c) (rising_from c cs) r

    at : (outside 1 n c ≡ false) × (any_outside n cs ≡ false)
    at = or_false (outside 1 n c) (any_outside n cs) o

    go : (c : ℕ) → low < c → (1 ≤ c) × (c ≤ n) → length (fields cs) + bytes c ≤ bytes n → length (fields (c ∷ cs)) + bytes low ≤ bytes n
    go zero b i rest = absurd (omega (arith, b))
    go (suc c) b i rest =
        one_more (length (fields (suc c ∷ cs))) (length (fields cs)) (size (suc c)) (bytes low) (bytes c) (bytes (suc c)) (bytes n) (next_field (suc c) cs) (one_post c (omega (arith, i.1, h))) rest
        (bytes_grow low c (omega (arith, b)))

-- any posts that a line may list
posts_bytes : (n : ℕ) (cs : List ℕ) → n ≤ 255 → rising cs ≡ true → any_outside n cs ≡ false → length (fields cs) ≤ bytes n
unfolding fields
posts_bytes n [] h r o = omega arith
posts_bytes n (c ∷ cs) h r o =
    let i = inside 1 n c (or_false (outside 1 n c) (any_outside n cs) o).0 in
    omega (arith, rising_bytes n 0 (c ∷ cs) h (omega arith) (rw (lt-ltb 0 c (omega (arith, i.0))) r) o)

-- all posts from one on
all_bytes : (k c : ℕ) → c + k ≤ 255 → length (fields (all_from (suc c) k)) + bytes c ≡ bytes (c + k)
unfolding fields
all_bytes zero c h = omega arith
all_bytes (suc k) c h =
    let e : suc c + k ≡ c + suc k = omega arith in
    omega (
      arith,
      h,
      next_field (suc c) (all_from (suc (suc c)) k),
      one_post c (omega (arith, h)),
      all_bytes k (suc c) (omega (arith, h)),
      ap bytes e,
    )

-- ---- no line is longer

text_long : (row : ℕ) (posts : List ℕ) → length (access_text row posts) ≡ 2 + size row + length (fields posts) + length (line_end_of posts)
text_long row posts = omega (arith, length-append (fields (row ∷ posts)) (line_end_of posts), next_field row posts)

two_digits : size 95 ≡ 2
unfolding size_within
two_digits = refl

text_at_most : (n row : ℕ) (posts : List ℕ) → 1 ≤ n → n ≤ 255 → row ≤ 95 → rising posts ≡ true → any_outside n posts ≡ false
    → length (access_text row posts) ≤ longest_access n
unfolding fields
text_at_most n row [] l h w r o = omega (arith, text_long row [], size_grows 9 row 95 w, two_digits)
text_at_most n row (c ∷ cs) l h w r o =
    omega (arith, text_long row (c ∷ cs), size_grows 9 row 95 w, two_digits, posts_bytes n (c ∷ cs) h r o)

module _ (s : Session) (line : List ℕ) (z : first (access_table s line) ≡ 0) where
  fail : AllFail (access_table s line)
  fail = all_fail (access_table s line) tt z

  posts_of_lem : (2 ≤ s.n) × (s.n ≤ 255)
  posts_of_lem = inside 2 255 s.n fail.0

  at_most : length line ≤ longest_access s.n
  at_most = go (access_fields line) refl fail.1.1.1.1.0 fail.1.1.1.1.1.0
    where
      none : {A : Type 0} → true ≡ false → A
      none e = let z : ◌≡◌ {A = ℕ} 0 1 = ap (λ (b : Bool). cond b 0 1) e in absurd (omega (arith, z))

      risen : (a : Bool) → not a ≡ false → a ≡ true
      risen true e = refl
      risen false e = none e

      spelled : (r : ℕ) (cs : List ℕ) (next : ℕ) → access_fields line ≡ parsed (r ∷ cs) next → line ≡ access_text r cs
      spelled r cs next e =
          let w = access_bytes.only line (r ∷ cs) next e in
          let same : r ∷ cs ≡ w.0 ∷ w.1 = w.2 in
          let row : w.0 ≡ r = cc in
          let posts : w.1 ≡ cs = cc in
          w.3 ∙ ap₂ access_text row posts

      go : (o : Parsed) → access_fields line ≡ o → bad_access o ≡ false → (ltb 95 (access_row o) || any_outside s.n (access_posts o)) ≡ false
          → length line ≤ longest_access s.n
      go malformed e b p = none b
      go (parsed [] next) e b p = none b
      go (parsed (r ∷ cs) next) e b p =
          let q = or_false (ltb 95 r) (any_outside s.n cs) p in
          let n = posts_of_lem in
          let a = text_at_most s.n r cs (omega (arith, n.0)) n.1 (ltb-false 95 r q.0) (risen (rising cs) b) q.1 in
          rw (spelled r cs next e) a

-- ---- and one is as long

pub as_long : (n : ℕ) → n ≤ 255 → 1 ≤ n → length (all_admitted n) ≡ longest_access n
unfolding fields
as_long zero h l = absurd (omega (arith, l))
as_long (suc k) h l =
    omega (arith, text_long 95 (all_from 1 (suc k)), two_digits, all_bytes (suc k) 0 (omega (arith, h)))

all_rise : (k c : ℕ) → rising_from c (all_from (suc c) k) ≡ true
all_rise zero c = refl
all_rise (suc k) c = rw (lt-ltb c (suc c) (omega arith)) (all_rise k (suc c))

all_inside : (n k c : ℕ) → c + k ≤ n → any_outside n (all_from (suc c) k) ≡ false
all_inside n zero c h = refl
all_inside n (suc k) c h =
    rw (le-ltb (suc c) 1 (omega arith), le-ltb n (suc c) (omega (arith, h))) (all_inside n k (suc c) (omega (arith, h)))

all_small : (k c : ℕ) → c + k ≤ 255 → Small (all_from (suc c) k)
all_small zero c h = tt
all_small (suc k) c h = (omega (arith, h), all_small k (suc c) (omega (arith, h)))

all_rising : (n : ℕ) → rising (all_from 1 n) ≡ true
all_rising zero = refl
all_rising (suc k) = all_rise k 1

read_as : (o : Parsed) (r : ℕ) (cs : List ℕ) → numbers_of_of o ≡ r ∷ cs → (next : ℕ) × (o ≡ parsed (r ∷ cs) next)
read_as malformed r cs e = absurd (omega (arith, ap length e))
read_as (parsed xs next) r cs e = (next, ap (λ (l : List ℕ). parsed l next) e)

module _ (s : Session) (line : List ℕ) (last : access_row (access_fields line) ≡ 95) (z : first (access_table s line) ≡ 0) where
  takes : first (access_table s (all_admitted s.n)) ≡ 0
  takes =
      let f = fail s line z in
      let n = posts_of_lem s line z in
      let posts = all_from 1 s.n in
      let is = read_as (access_fields (all_admitted s.n)) 95 posts
      (access_bytes.read 95 posts (omega arith, all_small s.n 0 (omega (arith, n.1)))) in
      let e = is.1 in
      let row : access_row (access_fields (all_admitted s.n)) ≡ access_row (access_fields line) = ap access_row e ∙ sym last in
      let bad = ap bad_access e ∙ ap not (all_rising s.n) in
      let out = ap (λ (o : Parsed). ltb 95 (access_row o) || any_outside s.n (access_posts o)) e ∙ all_inside s.n s.n 0 (omega arith) in
      let wrong = ap (λ (r : ℕ). wrong_mark_of s r 1) row ∙ f.1.1.1.1.1.1.0 in
      not_refused (access_table s (all_admitted s.n))
      (f.0, (f.1.0, (f.1.1.0, (f.1.1.1.0, (bad, (out, (wrong, tt)))))))

pub longest_access_lem : LongestAccess
longest_access_lem = record { none_longer = at_most; one_as_long = as_long; taken = takes; at_32 = refl; at_255 = refl }
