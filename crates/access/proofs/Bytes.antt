-- The A line, both ways: what is written is read, and what is read is what is written.
use Prim.Native.Nat.{ℕ, suc, ◌+◌, ◌-◌, ◌≤◌}
use mathlib.Core.Path.{◌≡◌, refl, sym, ◌∙◌, ap, ap₂}
use mathlib.Core.Bool.{Bool, true, false, ◌&&◌, cond}
use mathlib.Core.List.{List, [], ◌∷◌, ◌++◌, append_assoc}
use native.Mathlib.Omega.{arith}
use borrow.Author.Tests.{eq-eqb, ne_eqb, eqb-true, ltb-false, le-ltb}
use lib.Dec.{eqb, ltb}
use lib.ListN.{length, get_or, drop, length-append, drop_of_length-le}
use Rattle.decimal.specs.Numeral.{size, numeral, leading}
use Rattle.decimal.specs.Between.{Digits}
use Rattle.decimal.proofs.Digits.{and_true, digits_are_digits}
use Rattle.decimal.proofs.Sizes.{size_pos}
use Rattle.decimal.proofs.Positions.{head_at, drop_past, drop_head}
use Rattle.csv_fields.specs.Fields.{field, fields, Small, Parsed, parsed, malformed, push, fields_at, ended, numbers_of_of}
use Rattle.csv_fields.proofs.Overwriting.{length_field}
use Rattle.csv_fields.proofs.Reading.{fields_read, fields_spelled, ended_is}
use Rattle.access.specs.Access.{commas, alone, several_at, posts_at, behind_row, access_fields}
use Rattle.access.specs.Claims.{line_end_of, access_text, AccessBytes}

not_parsed : {A : Type 0} (xs : List ℕ) (n : ℕ) → malformed ≡ parsed xs n → A
not_parsed xs n e = let z : ◌≡◌ {A = ℕ} 0 1 = cc in absurd (omega arith)

-- ---- what is read is what is written

abbrev Spelled : List ℕ → List ℕ → Type 0
Spelled line xs = (row : ℕ) × (posts : List ℕ) × (xs ≡ row ∷ posts) × (line ≡ access_text row posts) × Small xs

module _ (s : List ℕ) where
  -- behind the row: the posts and the line's end
  abbrev Behind : ℕ → List ℕ → Type 0
  Behind at cs = (drop at s ≡ fields cs ++ line_end_of cs) × Small cs

  several : (at k : ℕ) (cs : List ℕ) (next : ℕ) → 1 ≤ k → ended s (fields_at k s at) ≡ parsed cs next → Behind at cs
  several at k cs next some e =
      let d = ended_is s cs next (fields_at k s at) e in
      let r = fields_spelled k s at cs next d.0 in
      let z : length s ≤ next + 1 = omega (arith, d.1) in
      let f : drop next s ≡ 10 ∷ [] = drop_head s next 9 d.2 ∙ ap (λ (l : List ℕ). 10 ∷ l) (drop_of_length-le s z) in
      (r.text ∙ ap (λ (l : List ℕ). fields cs ++ l) (f ∙ end cs r.number), r.small)
    where
      end : (cs : List ℕ) → length cs ≡ k → 10 ∷ [] ≡ line_end_of cs
      end [] e = absurd (omega arith)
      end (c ∷ cs) e = refl

  behind_row_lem : (at : ℕ) (cs : List ℕ) (next : ℕ) → posts_at s at ≡ parsed cs next → Behind at cs
  unfolding fields
  behind_row_lem at cs next e = go (alone s at) refl e
    where
      more : (b : Bool) → ltb (commas s) 2 ≡ b → cond b malformed (ended s (fields_at (commas s - 1) s at)) ≡ parsed cs next → Behind at cs
      more true h q = not_parsed cs next q
      more false h q = several at (commas s - 1) cs next (omega (arith, ltb-false (commas s) 2 h)) q

      go : (b : Bool) → alone s at ≡ b → cond b (parsed [] (at + 1)) (several_at s at) ≡ parsed cs next → Behind at cs
      go false h q = more (ltb (commas s) 2) refl q
      go true h q =
          let one = and_true (eqb (get_or s at 0) 44) _ h in
          let two = and_true (eqb (get_or s (at + 1) 0) 10) _ one.1 in
          let long : length s ≡ at + 2 = eqb-true (length s) (at + 2) two.1 in
          let none : cs ≡ [] = cc in
          let short : length s ≤ at + 1 + 1 = omega (arith, long) in
          let last : drop (at + 1) s ≡ 10 ∷ [] =
          drop_head s (at + 1) 9 (eqb-true (get_or s (at + 1) 0) 10 two.0) ∙ ap (λ (l : List ℕ). 10 ∷ l) (drop_of_length-le s short) in
          rw none (drop_head s at 43 (eqb-true (get_or s at 0) 44 one.0) ∙ ap (λ (l : List ℕ). 44 ∷ l) last, tt)

  spelled : (xs : List ℕ) (next : ℕ) → access_fields s ≡ parsed xs next → Spelled s xs
  unfolding fields
  spelled xs next e = letter (eqb (get_or s 0 0) 65) refl e
    where
      posts : (row at : ℕ) (o : Parsed) → get_or s 0 0 ≡ 65 → fields_at 1 s 1 ≡ parsed (row ∷ []) at → posts_at s at ≡ o → push row o ≡ parsed xs next → Spelled s xs
      posts row at malformed l f g q = not_parsed xs next q
      posts row at (parsed cs end) l f g q =
          let r = fields_spelled 1 s 1 (row ∷ []) at f in
          let b = behind_row_lem at cs end g in
          let is : xs ≡ row ∷ cs = cc in (
            row,
            cs,
            is,
            drop_head s 0 64 l ∙ ap (λ (x : List ℕ). 65 ∷ x)
                (r.text ∙ ap (λ (x : List ℕ). fields (row ∷ []) ++ x) b.0 ∙ sym (append_assoc (fields (row ∷ [])) (fields cs) (line_end_of cs))
                ∙ ap (λ (x : List ℕ). x ++ line_end_of cs) (append_assoc (field row) [] (fields cs))),
            rw is (r.small.0, b.1),
          )

      found : (o : Parsed) → get_or s 0 0 ≡ 65 → fields_at 1 s 1 ≡ o → behind_row s o ≡ parsed xs next → Spelled s xs
      found malformed l f q = not_parsed xs next q
      found (parsed [] at) l f q = not_parsed xs next q
      found (parsed (row ∷ rest) at) l f q =
          let none = empty rest (fields_spelled 1 s 1 (row ∷ rest) at f).number in
          posts row at (posts_at s at) l (f ∙ ap (λ (x : List ℕ). parsed (row ∷ x) at) none) refl q
        where
          empty : (l : List ℕ) → length (row ∷ l) ≡ 1 → l ≡ []
          empty [] e = refl
          empty (x ∷ l) e = absurd (omega arith)

      letter : (b : Bool) → eqb (get_or s 0 0) 65 ≡ b → cond b (behind_row s (fields_at 1 s 1)) malformed ≡ parsed xs next → Spelled s xs
      letter true l q = found (fields_at 1 s 1) (eqb-true (get_or s 0 0) 65 l) refl q
      letter false l q = not_parsed xs next q

-- ---- what is written is read

commas_join : (xs ys : List ℕ) → commas (xs ++ ys) ≡ commas xs + commas ys
unfolding commas
commas_join [] ys = omega arith
commas_join (x ∷ xs) ys = go (eqb x 44) (commas_join xs ys)
  where
    go : (b : Bool) → commas (xs ++ ys) ≡ commas xs + commas ys
        → cond b (suc (commas (xs ++ ys))) (commas (xs ++ ys)) ≡ cond b (suc (commas xs)) (commas xs) + commas ys
    go true e = omega arith
    go false e = e

commas_none : (ds : List ℕ) → Digits ds → commas ds ≡ 0
unfolding commas
commas_none [] d = refl
commas_none (x ∷ ds) d =
    ap (λ (b : Bool). cond b (suc (commas ds)) (commas ds)) (ne_eqb x 44 (λ e. omega (arith, d.0.0))) ∙ commas_none ds d.1

commas_fields : (xs : List ℕ) → commas (fields xs) ≡ length xs
unfolding commas fields
commas_fields [] = refl
commas_fields (x ∷ xs) =
    ap suc (commas_join (numeral x) (fields xs) ∙ ap₂ ◌+◌ (commas_none (numeral x) (digits_are_digits (size x) x)) (commas_fields xs) ∙ omega arith)

module _ (row : ℕ) (posts : List ℕ) (small : Small (row ∷ posts)) where
  abbrev line : List ℕ
  line = access_text row posts

  abbrev rest : List ℕ
  rest = fields posts ++ line_end_of posts

  abbrev at : ℕ
  at = 1 + length (fields (row ∷ []))

  -- the row's field, and what stands behind it
  parted : drop 1 line ≡ fields (row ∷ []) ++ rest
  unfolding fields
  parted = append_assoc (field row) (fields posts) (line_end_of posts) ∙ sym (append_assoc (field row) [] rest)

  bare : (cs : List ℕ) → leading (fields cs ++ line_end_of cs) ≡ 0
  unfolding leading fields
  bare [] = refl
  bare (c ∷ cs) = refl

  row_read : fields_at 1 line 1 ≡ parsed (row ∷ []) at
  row_read = fields_read (row ∷ []) line rest 1 (small.0, tt) (bare posts) parted

  rest_at : drop at line ≡ rest
  rest_at = drop_past line 1 (length (fields (row ∷ []))) (fields (row ∷ [])) rest parted refl

  long : length line ≡ at + length rest
  unfolding fields
  long =
      ap (λ (l : List ℕ). suc (length l)) parted
      ∙ ap suc (length-append (fields (row ∷ [])) rest) ∙ omega arith

none_read : (row : ℕ) → (small : Small (row ∷ [])) → numbers_of_of (access_fields (access_text row [])) ≡ row ∷ []
unfolding fields
none_read row small =
    let s = access_text row [] in
    let i = at row [] small in
    let d = rest_at row [] small in
    let a : get_or s i 0 ≡ 44 = head_at s i ∙ ap (λ (l : List ℕ). get_or l 0 0) d in
    let b : get_or s (i + 1) 0 ≡ 10 = head_at s (i + 1) ∙ ap (λ (l : List ℕ). get_or l 0 0) (drop_past s i 1 (44 ∷ []) (10 ∷ []) d refl) in
    let c : alone s i ≡ true = ap₂ ◌&&◌ (eq-eqb (get_or s i 0) 44 a) (ap₂ ◌&&◌ (eq-eqb (get_or s (i + 1) 0) 10 b) (eq-eqb (length s) (i + 2) (long row [] small))) in
    ap (λ (o : Parsed). numbers_of_of (behind_row s o)) (row_read row [] small) ∙ ap (λ (t : Bool). numbers_of_of (push row (cond t (parsed [] (i + 1)) (several_at s i)))) c

module _ (row c : ℕ) (cs : List ℕ) (small : Small (row ∷ c ∷ cs)) where
  abbrev s' : List ℕ
  s' = access_text row (c ∷ cs)

  abbrev i : ℕ
  i = at row (c ∷ cs) small

  abbrev end : ℕ
  end = i + length (fields (c ∷ cs))

  end_long : length s' ≡ end + 1
  end_long = long row (c ∷ cs) small ∙ ap (λ (k : ℕ). i + k) (length-append (fields (c ∷ cs)) (10 ∷ [])) ∙ omega arith

  some_bytes : 2 ≤ length (fields (c ∷ cs))
  unfolding fields
  some_bytes = omega (arith, length-append (field c) (fields cs), length_field c, size_pos 9 c)

  not_alone : alone s' i ≡ false
  not_alone = go (eqb (get_or s' i 0) 44) (eqb (get_or s' (i + 1) 0) 10) (ne_eqb (length s') (i + 2) (λ e. omega (arith, end_long, some_bytes)))
    where
      go : (a b : Bool) {t : Bool} → t ≡ false → (a && (b && t)) ≡ false
      go true true e = e
      go true false e = refl
      go false b e = refl

  counted : commas s' ≡ 2 + length cs
  unfolding commas
  counted = commas_join (fields (row ∷ c ∷ cs)) (10 ∷ []) ∙ ap (λ (k : ℕ). k + 0) (commas_fields (row ∷ c ∷ cs)) ∙ omega arith

  posts_read : fields_at (length (c ∷ cs)) s' i ≡ parsed (c ∷ cs) end
  unfolding leading
  posts_read = fields_read (c ∷ cs) s' (10 ∷ []) i small.1 refl (rest_at row (c ∷ cs) small)

  ends : ended s' (fields_at (commas s' - 1) s' i) ≡ parsed (c ∷ cs) end
  ends =
      let d : drop end s' ≡ 10 ∷ [] = drop_past s' i (length (fields (c ∷ cs))) (fields (c ∷ cs)) (10 ∷ []) (rest_at row (c ∷ cs) small) refl in
      let g : get_or s' end 0 ≡ 10 = head_at s' end ∙ ap (λ (l : List ℕ). get_or l 0 0) d in
      let k : commas s' - 1 ≡ length (c ∷ cs) = omega (arith, counted) in
      ap (λ (k : ℕ). ended s' (fields_at k s' i)) k ∙ ap (ended s') posts_read
      ∙ ap (λ (t : Bool). cond t (parsed (c ∷ cs) end) malformed) (ap₂ ◌&&◌ (eq-eqb (get_or s' end 0) 10 g) (eq-eqb (length s') (end + 1) end_long))

  several_read : numbers_of_of (access_fields s') ≡ row ∷ c ∷ cs
  several_read =
      ap (λ (o : Parsed). numbers_of_of (behind_row s' o)) (row_read row (c ∷ cs) small)
      ∙ ap (λ (t : Bool). numbers_of_of (push row (cond t (parsed [] (i + 1)) (several_at s' i)))) not_alone
      ∙ ap (λ (t : Bool). numbers_of_of (push row (cond t malformed (ended s' (fields_at (commas s' - 1) s' i))))) (le-ltb (commas s') 2 (omega (arith, counted)))
      ∙ ap (λ (o : Parsed). numbers_of_of (push row o)) ends

posts_again : (row : ℕ) (posts : List ℕ) → Small (row ∷ posts) → numbers_of_of (access_fields (access_text row posts)) ≡ row ∷ posts
posts_again row [] small = none_read row small
posts_again row (c ∷ cs) small = several_read row c cs small

pub access_bytes : AccessBytes
access_bytes = record { read = posts_again; only = spelled }
