-- What a line says, from the walk over its posts.
use Prim.Native.Nat.{ℕ, zero, suc, ◌+◌, ◌-◌, ◌≤◌, ◌<◌}
use mathlib.Core.Path.{◌≡◌, refl, sym, ◌∙◌, ap, subst}
use mathlib.Core.Bool.{Bool, true, false, not, ◌||◌, ◌&&◌, cond}
use mathlib.Core.List.{List, [], ◌∷◌}
use native.Mathlib.Omega.{arith}
use lib.Dec.{eqb, ltb}
use lib.ListN.{length, get_or, get_or-eq_default}
use borrow.Author.Tests.{lt-ltb, le-ltb, eq-eqb, ne_eqb}
use Rattle.refusal.specs.Refusal.{outcome}
use Rattle.refusal.specs.Conditions.{outside}
use Rattle.csv_fields.specs.declared.Run.{Run}
use Rattle.std.specs.Prelude.{Option, Some, None}
use Rattle.csv_fields.specs.Fields.{Parsed, parsed, malformed, push, fields_at, ended, run, run_of}
use Rattle.csv_fields.specs.Walk.{end_of}
use Rattle.csv_fields.proofs.Single.{first_found, first_broken}
use Rattle.access.specs.declared.Posts.{Posts}
use Rattle.access.specs.declared.Read.{Read}
use Rattle.access.specs.Access.{commas, alone, several_at, posts_at, behind_row, access_fields, rising_from, rising, any_outside, every_post, admitted_all}
use Rattle.access.specs.Between.{further, walked, start, unread, beyond, told, ended_of, read_of}

-- ---- the empty set
module _ (s : List ℕ) (at : ℕ) where
  last_false : (a b c : Bool) → c ≡ false → false ≡ a && (b && c)
  last_false true true c e = sym e
  last_false true false c e = refl
  last_false false b c e = refl

  alone_none : (length s ≡ at + 2 → ⊥) → false ≡ alone s at
  alone_none h = last_false (eqb (get_or s at 0) 44) (eqb (get_or s (at + 1) 0) 10) (eqb (length s) (at + 2)) (ne_eqb (length s) (at + 2) h)

  pub alone_short : length s < 2 → false ≡ alone s at
  alone_short h = alone_none (λ e. absurd (omega arith))

  pub alone_else : 2 ≤ length s → (length s - 2 ≡ at → ⊥) → false ≡ alone s at
  alone_else l h = alone_none (λ e. h (omega arith))

  pub alone_byte : (get_or s at 0 ≡ 44 → ⊥) → false ≡ alone s at
  alone_byte h = rw (ne_eqb (get_or s at 0) 44 h)

  pub alone_is : 2 ≤ length s → length s - 2 ≡ at → get_or s at 0 ≡ 44 → eqb (get_or s (at + 1) 0) 10 ≡ alone s at
  alone_is l e h = rw (eq-eqb (get_or s at 0) 44 h, eq-eqb (length s) (at + 2) (omega arith)) (go (eqb (get_or s (at + 1) 0) 10))
    where
      go : (b : Bool) → b ≡ b && true
      go true = refl
      go false = refl

-- ---- 10, 11 or none
module _ (risen out : Bool) (row : ℕ) (words : List ℕ) (x : Read) where
  pub told_unrisen : risen ≡ false → x ≡ unread → x ≡ told risen out row words
  unfolding told outcome
  told_unrisen e q = q ∙ rw e

  pub told_row : risen ≡ true → 95 < row → x ≡ beyond → x ≡ told risen out row words
  unfolding told outcome
  told_row e h q = q ∙ rw (e, lt-ltb 95 row h)

  pub told_out : risen ≡ true → row ≤ 95 → out ≡ true → x ≡ beyond → x ≡ told risen out row words
  unfolding told outcome
  told_out e h o q = q ∙ rw (e, le-ltb 95 row h, o)

pub told_right : (risen out : Bool) (row : ℕ) (words : List ℕ) → risen ≡ true → row ≤ 95 → out ≡ false
    → ◌≡◌ {A = Read} (record { refusal = 0; row = row; words = words }) (told risen out row words)
unfolding told outcome
told_right risen out row words e h o = rw (e, le-ltb 95 row h, o)

-- ---- a walk over fields
and_true : (a : Bool) → a ≡ a && true
and_true true = refl
and_true false = refl

or_false : (a : Bool) → a ≡ a || false
or_false true = refl
or_false false = refl

and_assoc : (a b c : Bool) → (a && b) && c ≡ a && (b && c)
and_assoc true b c = refl
and_assoc false b c = refl

or_assoc : (a b c : Bool) → (a || b) || c ≡ a || (b || c)
or_assoc true b c = refl
or_assoc false b c = refl

abbrev risen_from : Bool → ℕ → List ℕ → Bool
risen_from begun low [] = true
risen_from begun low (x ∷ xs) = (not begun || ltb low x) && risen_from true x xs

risen_from_lem : (low : ℕ) (xs : List ℕ) → risen_from true low xs ≡ rising_from low xs
risen_from_lem low [] = refl
risen_from_lem low (x ∷ xs) = ap (λ (b : Bool). ltb low x && b) (risen_from_lem x xs)

risen_first : (xs : List ℕ) → risen_from false 0 xs ≡ rising xs
risen_first [] = refl
risen_first (x ∷ xs) = risen_from_lem x xs

-- what k fields say of the walk behind them
abbrev Follows : ℕ → Posts → Parsed → Posts → Type 0
Follows n p malformed q = q.rising ≡ false
Follows n p (parsed cs next) q =
    (q.at ≡ next) × (q.rising ≡ p.rising && risen_from p.begun p.low cs) × (q.out ≡ p.out || any_outside n cs)
    × (q.words ≡ admitted_all p.words cs)

module _ (n : ℕ) (s : List ℕ) where
  stays : (p : Posts) (r : Option Run) → p.rising ≡ false → (further n p r).rising ≡ false
  stays p (Some r) e = rw e
  stays p None e = refl

  stays_all : (k : ℕ) (p : Posts) → p.rising ≡ false → (walked k n s p).rising ≡ false
  unfolding walked
  stays_all zero p e = e
  stays_all (suc k) p e = stays_all k (further n p (run_of (fields_at 1 s p.at))) (stays p (run_of (fields_at 1 s p.at)) e)

  pushes : (p : Posts) (r : Run) (o : Parsed) (q : Posts) → Follows n (further n p (Some r)) o q → Follows n p (push r.largest o) q
  pushes p r malformed q f = f
  pushes p r (parsed cs end) q f = (
    f.0,
    f.1 ∙ and_assoc p.rising (not p.begun || ltb p.low r.largest) (risen_from true r.largest cs),
    f.2 ∙ or_assoc p.out (outside 1 n r.largest) (any_outside n cs),
    f.3,
  )

  follows_none : (p : Posts) → Follows n p (fields_at 0 s p.at) p
  unfolding fields_at
  follows_none p = (refl, and_true p.rising, or_false p.out, refl)

  follows : (k : ℕ) (p : Posts) → Follows n p (fields_at k s p.at) (walked k n s p)
  unfolding walked
  follows zero p = follows_none p
  follows (suc k) p = go (run_of (fields_at 1 s p.at)) refl (λ q. follows k q)
    where
      go : (r : Option Run) → r ≡ run_of (fields_at 1 s p.at) → ((q : Posts) → Follows n q (fields_at k s q.at) (walked k n s q))
          → Follows n p (fields_at (suc k) s p.at) (walked k n s (further n p r))
      go (Some r) e rest =
          subst (λ (o : Parsed). Follows n p o (walked k n s (further n p (Some r)))) (sym (first_found k s p.at r e))
          (pushes p r (fields_at k s r.next) _ (rest (further n p (Some r))))
      go None e rest =
          subst (λ (o : Parsed). Follows n p o (walked k n s (further n p None))) (sym (first_broken k s p.at e))
          (stays_all k (further n p None) refl)

-- ---- the line's end
module _ (s : List ℕ) (row : ℕ) (p : Posts) where
  pub end_broken : None ≡ end_of s p.at 0 → unread ≡ ended_of s row p
  unfolding ended_of
  end_broken = go (eqb (get_or s p.at 0) 10 && eqb (length s) (p.at + 1))
    where
      go : (t : Bool) → None ≡ cond t (run 0 p.at) None → unread ≡ cond t (told p.rising p.out row p.words) unread
      go true z = let z' : ◌≡◌ {A = ℕ} 0 1 = cc in absurd (omega arith)
      go false z = refl

  pub end_right : (r : Run) → Some r ≡ end_of s p.at 0 → told p.rising p.out row p.words ≡ ended_of s row p
  unfolding ended_of
  end_right r = go (eqb (get_or s p.at 0) 10 && eqb (length s) (p.at + 1))
    where
      go : (t : Bool) → Some r ≡ cond t (run 0 p.at) None
          → told p.rising p.out row p.words ≡ cond t (told p.rising p.out row p.words) unread
      go true z = refl
      go false z = let z' : ◌≡◌ {A = ℕ} 0 1 = cc in absurd (omega arith)

-- ---- the posts behind a row
module _ (s : List ℕ) (n row at : ℕ) (x : Read) where
  pub posts_alone : (b : Bool) → b ≡ alone s at → b ≡ true → x ≡ told true false row every_post → x ≡ read_of n (push row (posts_at s at))
  posts_alone b e t q = let k : alone s at ≡ true = sym e ∙ t in q ∙ rw k

  pub posts_listed : (b : Bool) → b ≡ alone s at → b ≡ false → x ≡ read_of n (push row (several_at s at)) → x ≡ read_of n (push row (posts_at s at))
  posts_listed b e t q = let k : alone s at ≡ false = sym e ∙ t in q ∙ rw k

  module _ (found : ℕ) (ec : found ≡ commas s) where
    pub posts_few : found < 2 → x ≡ unread → x ≡ read_of n (push row (several_at s at))
    posts_few h q =
        let k : ltb (commas s) 2 ≡ true = ap (λ (c : ℕ). ltb c 2) (sym ec) ∙ lt-ltb found 2 h in
        q ∙ rw k

    pub posts_walked : (p : Posts) → 2 ≤ found → p ≡ walked (found - 1) n s (start at) → x ≡ ended_of s row p → x ≡ read_of n (push row (several_at s at))
    unfolding ended_of told outcome
    posts_walked p many ep q = q ∙ go rest walk_follows ∙ ap (λ (o : Parsed). read_of n (push row o)) (sym listed)
      where
        rest : Parsed
        rest = fields_at (commas s - 1) s at

        listed : several_at s at ≡ ended s (fields_at (commas s - 1) s at)
        listed = let k : ltb (commas s) 2 ≡ false = ap (λ (c : ℕ). ltb c 2) (sym ec) ∙ le-ltb found 2 many in rw k refl

        walk_follows : Follows n (start at) (fields_at (commas s - 1) s at) p
        walk_follows =
            subst (λ (q : Posts). Follows n (start at) (fields_at (commas s - 1) s at) q) (sym (ep ∙ ap (λ (c : ℕ). walked (c - 1) n s (start at)) ec))
            (follows n s (commas s - 1) (start at))

        same : (t : Bool) (a b : Bool) (ws cs : List ℕ) (next : ℕ) → a ≡ rising cs → b ≡ any_outside n cs → ws ≡ admitted_all every_post cs
            → cond t (told a b row ws) unread ≡ read_of n (push row (cond t (parsed cs next) malformed))
        same true a b ws cs next ea eb ew = rw (ea, eb, ew)
        same false a b ws cs next ea eb ew = refl

        none : (t : Bool) (b : Bool) (ws : List ℕ) → cond t (told false b row ws) unread ≡ unread
        none true b ws = refl
        none false b ws = refl

        go : (o : Parsed) → Follows n (start at) o p → ended_of s row p ≡ read_of n (push row (ended s o))
        go malformed z =
            ap (λ (a : Bool). cond (eqb (get_or s p.at 0) 10 && eqb (length s) (p.at + 1)) (told a p.out row p.words) unread) z
            ∙ none (eqb (get_or s p.at 0) 10 && eqb (length s) (p.at + 1)) p.out p.words
        go (parsed cs next) z =
            ap (λ (j : ℕ). cond (eqb (get_or s j 0) 10 && eqb (length s) (j + 1)) (told p.rising p.out row p.words) unread) z.0
            ∙ same (eqb (get_or s next 0) 10 && eqb (length s) (next + 1)) p.rising p.out p.words cs next (z.1 ∙ risen_first cs) z.2 z.3

-- ---- the line
module _ (s : List ℕ) (n : ℕ) (x : Read) where
  pub line_short : length s < 1 → x ≡ unread → x ≡ read_of n (access_fields s)
  line_short h q = let k : length s ≤ 0 = omega arith in q ∙ rw (get_or-eq_default s 0 k)

  pub line_letter : (get_or s 0 0 ≡ 65 → ⊥) → x ≡ unread → x ≡ read_of n (access_fields s)
  line_letter h q = q ∙ rw (ne_eqb (get_or s 0 0) 65 h)

  module _ (h : get_or s 0 0 ≡ 65) where
    pub line_broken : None ≡ run_of (fields_at 1 s 1) → x ≡ unread → x ≡ read_of n (access_fields s)
    line_broken e q =
        let k : fields_at 1 s 1 ≡ malformed = first_broken 0 s 1 e in
        q ∙ rw (eq-eqb (get_or s 0 0) 65 h, k)

    pub line_right : (r : Run) → Some r ≡ run_of (fields_at 1 s 1) → x ≡ read_of n (push r.largest (posts_at s r.next)) → x ≡ read_of n (access_fields s)
    unfolding fields_at
    line_right r e q =
        let k : fields_at 1 s 1 ≡ parsed (r.largest ∷ []) r.next = first_found 0 s 1 r e in
        q ∙ ap (λ (o : Parsed). read_of n (behind_row s o)) (sym k) ∙ rw (eq-eqb (get_or s 0 0) 65 h)
