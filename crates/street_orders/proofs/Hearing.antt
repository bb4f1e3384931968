-- Broadcast lines, read for a session that was accepted: what the reader says is what the line says.
use Prim.Native.Nat.{ℕ, zero, suc, ◌+◌, ◌-◌, ◌≤◌}
use mathlib.Core.Path.{◌≡◌, refl, ap, sym, ◌∙◌}
use mathlib.Core.List.{List, [], ◌∷◌, append-nil}
use mathlib.Core.Bool.{Bool, true, false, cond, ◌||◌}
use native.Mathlib.Nat.{sub-zero}
use native.Mathlib.Omega.{arith}
use borrow.Author.Tests.{le-ltb, eq-eqb, ne_eqb}
use lib.ListN.{length, get_or, take, length-drop}
use lib.Seq.{take_at}
use lib.Dec.{eqb, ltb}
use Rattle.shape.specs.Bounds.{fewest_posts, most_posts, most_points}
use Rattle.shape.specs.Lengths.{v_length, masks_length}
use Rattle.refusal.specs.Refusal.{outcome}
use Rattle.refusal.specs.Conditions.{outside, any_beyond}
use Rattle.refusal.proofs.Laws.{or_false, all_fail, inside}
use Rattle.csv_fields.specs.Fields.{Parsed, parsed, malformed, padded}
use Rattle.forms.specs.Lines.{Message, last_row_of}
use Rattle.forms.specs.Forms.{form_of, field_count, is_malformed, line_tests}
use Rattle.forms.proofs.Forms.{form_spelled}
use Rattle.lines.specs.declared.Line.{Line}
use Rattle.lines.specs.Order.{line_refusal}
use Rattle.lines.specs.Reading.{read_refusal, line_as, list_as}
use Rattle.session.specs.declared.Session.{Session}
use Rattle.session.specs.Sessions.{shape_of}
use Rattle.street_store.specs.Sizes.{InStreet}
use Rattle.street_postlines.specs.Steps.{heard_refusal, heard}

-- ---- 1, 2, 4 and 5 hold nothing against the line's session and list
pub no_posts_lem : (s : Session) (line out : List ℕ) → InStreet (shape_of s) → length out ≡ masks_length (shape_of s)
    → read_refusal s.n s.t s.points line out ≡ heard_refusal s line
unfolding line_refusal heard_refusal
no_posts_lem s line out i e =
    let v = i.valid in
    rw (
      le-ltb s.n fewest_posts v.n_in.0,
      le-ltb most_posts s.n v.n_in.1,
      le-ltb s.t 1 v.t_in.0,
      le-ltb (s.n - 1) s.t v.t_in.1,
      le-ltb s.points 1 v.points_in_is.0,
      le-ltb most_points s.points v.points_in_is.1,
      eq-eqb (length out) (masks_length (shape_of s)) e,
    )

-- ---- what the reader says
pub line_refusal_lem : (x : ℕ) (m : Message) → (line_as x m).refusal ≡ x
unfolding outcome
line_refusal_lem zero m = refl
line_refusal_lem (suc k) m = refl

line_fine : (x : ℕ) (m : Message) → x ≡ 0 → line_as x m ≡ line_as 0 m
line_fine x m e = ap (λ (y : ℕ). line_as y m) e

list_fine : (x : ℕ) (m : Message) (out : List ℕ) → x ≡ 0 → list_as x m out ≡ padded (length out) m.numbers
unfolding outcome
list_fine x m out e = rw e

pub padded_first : (k : ℕ) (l : List ℕ) → get_or (padded k l) 0 0 ≡ get_or l 0 0
padded_first zero [] = refl
padded_first (suc k) [] = rw (sub-zero (suc k))
padded_first k (x ∷ l) = refl

skip : (b x : Bool) → b ≡ false → cond b false x ≡ false → x ≡ false
skip true x e q = cc
skip false x e q = q

module _ (s : Session) (line out : List ℕ) (i : InStreet (shape_of s)) (l : length out ≡ masks_length (shape_of s)) (said : Line)
    (e : said ≡ line_as (read_refusal s.n s.t s.points line out) (heard s line)) where
  same : read_refusal s.n s.t s.points line out ≡ heard_refusal s line
  same = no_posts_lem s line out i l

  pub refusal_is : said.refusal ≡ heard_refusal s line
  refusal_is = ap (λ (v : Line). v.refusal) e ∙ line_refusal_lem _ (heard s line) ∙ same

  module _ (out' : List ℕ) (z : said.refusal ≡ 0) (f : out' ≡ list_as (read_refusal s.n s.t s.points line out) (heard s line) out) where
    none : read_refusal s.n s.t s.points line out ≡ 0
    none = same ∙ sym refusal_is ∙ z

    line_is : said ≡ line_as 0 (heard s line)
    line_is = e ∙ line_fine _ (heard s line) none

    pub letter_is : said.letter ≡ get_or line 0 0
    unfolding outcome
    letter_is = ap (λ (v : Line). v.letter) line_is

    pub row_is : said.row ≡ (heard s line).row
    unfolding outcome
    row_is = ap (λ (v : Line). v.row) line_is

    pub post_is : said.post ≡ (heard s line).post
    unfolding outcome
    post_is = ap (λ (v : Line). v.post) line_is

    pub list_is : out' ≡ padded (masks_length (shape_of s)) (heard s line).numbers
    list_is = f ∙ list_fine _ (heard s line) out none ∙ ap (λ (k : ℕ). padded k (heard s line).numbers) l

    far : Bool
    far = cond (eqb (get_or line 0 0) 68) false (outside 1 s.n (heard s line).post)

    none_holds : (is_malformed (form_of (v_length (shape_of s)) line) ≡ false) × (far ≡ false)
    unfolding heard_refusal far
    none_holds =
        let t = all_fail (line_tests s.n (v_length (shape_of s)) line) tt (sym refusal_is ∙ z) in
        let m = heard s line in
        let x = or_false (ltb (last_row_of (get_or line 0 0)) m.row) (far || any_beyond m.numbers) t.1.0 in
        (t.0, (or_false far (any_beyond m.numbers) x.1).0)

    pub hear_post : (get_or line 0 0 ≡ 68 → ⊥) → (1 ≤ said.post) × (said.post ≤ s.n)
    unfolding far
    hear_post n =
        rw post_is
        (inside 1 s.n (heard s line).post
        (skip (eqb (get_or line 0 0) 68) (outside 1 s.n (heard s line).post) (ne_eqb (get_or line 0 0) 68 n) none_holds.1))

    -- an `O` has t+1 numbers, an `M` twice as many
    numbers_length : (k : ℕ) → field_count (v_length (shape_of s)) (get_or line 0 0) ≡ 2 + k → eqb (get_or line 0 0) 68 ≡ false → length (heard s line).numbers ≡ k
    numbers_length k o x = go (form_of (v_length (shape_of s)) line) refl none_holds.0
      where
        go : (y : Parsed) → form_of (v_length (shape_of s)) line ≡ y → is_malformed y ≡ false → length (heard s line).numbers ≡ k
        go malformed p f = let q : ◌≡◌ {A = ℕ} 0 1 = cc in absurd (omega arith)
        go (parsed xs next) p f =
            let g = form_spelled (v_length (shape_of s)) line xs next p in
            rw (p, x) (length-drop 2 xs ∙ omega (arith, g.number, o))

    abbrev theirs : List ℕ
    theirs = (heard s line).numbers

    abbrev v : ℕ
    v = v_length (shape_of s)

    pub opening_numbers : get_or line 0 0 ≡ 79 → take v out' ≡ theirs
    opening_numbers o = ap (take v) list_is ∙ take_at theirs _ v (numbers_length v (rw o) (rw o))

    pub masks_numbers : get_or line 0 0 ≡ 77 → out' ≡ theirs
    masks_numbers o =
        let n : length theirs ≡ masks_length (shape_of s) = numbers_length (masks_length (shape_of s)) (rw o) (rw o) in
        let z : masks_length (shape_of s) - length theirs ≡ 0 = omega arith in
        list_is ∙ rw z (append-nil theirs)
