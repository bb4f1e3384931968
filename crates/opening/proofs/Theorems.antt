-- An opening keeps to the law of every call, and what it answers where only 9 and 13 are left to decide.
use Prim.Native.Nat.{ℕ, zero, suc, ◌<◌}
use mathlib.Core.Path.{◌≡◌, refl, sym, subst}
use mathlib.Core.Bool.{true, false}
use mathlib.Core.List.{List, [], ◌∷◌}
use native.Mathlib.Omega.{arith}
use Rattle.field.specs.Modulus.{p}
use Rattle.poly.proofs.Bounds.{interpolated_below}
use Rattle.refusal.specs.Refusal.{Test, ◌when◌, first, outcome}
use Rattle.refusal.proofs.Groups.{went_on}
use Rattle.session.specs.declared.Session.{Session}
use Rattle.session.specs.Sessions.{holding}
use Rattle.session.specs.Rows.{width, row_at}
use Rattle.session.specs.Law.{Lawful}
use Rattle.session.proofs.Lawful.{lawful_by}
use Rattle.session.proofs.Endings.{refused_answer, accepted_answer}
use Rattle.accepting.specs.Accepting as Accepting
use Rattle.opening.specs.Walking.{too_few_of, disagree, opened}
use Rattle.opening.specs.Opening.{open_checks_of, open_refusal_of, open_answer}
use Rattle.opening.specs.Table.{open_table}
use Rattle.opening.specs.Claims.{OpeningLawful}
use Rattle.opening.proofs.Tables.{opening_table}

-- a call that writes no list
pub kept : (k : ℕ) (l : List ℕ) → outcome k l l ≡ l
unfolding outcome
kept zero l = refl
kept (suc k) l = refl

pub opening_lawful : OpeningLawful
unfolding open_refusal_of
opening_lawful s rows r blocks =
    let number = opened s (row_at (width s) rows r) blocks in
    subst (λ (l : List ℕ). Lawful (open_table s rows r blocks) number s s rows rows (open_answer s rows r blocks) l)
    (kept (open_refusal_of s rows r blocks) rows) (lawful_by (opening_table s rows r blocks) (omega arith) number s s rows rows)

-- the tests of the walks
abbrev late : Session → List ℕ → List ℕ → List Test
late s row blocks = 9 when too_few_of s row blocks ∷ 13 when disagree s row blocks ∷ []

-- 1 to 8 refuse nothing, and fewer than t+1 are accepted: 9
pub open_nine : (s : Session) (rows : List ℕ) (r : ℕ) (blocks : List ℕ) → first (open_checks_of s rows r blocks) ≡ 0
    → too_few_of s (row_at (width s) rows r) blocks ≡ true → open_answer s rows r blocks ≡ holding 9 0 s
unfolding open_refusal_of
open_nine s rows r blocks clear e =
    let row = row_at (width s) rows r in
    sym
    (refused_answer 9 (open_refusal_of s rows r blocks) (opened s row blocks) s s s
    (went_on (open_checks_of s rows r blocks) (late s row blocks) tt 0 (sym clear) 9 refl (rw e))
    (λ z. omega arith) refl)

-- t+1 or more, and a further share disagrees: 13
pub open_thirteen : (s : Session) (rows : List ℕ) (r : ℕ) (blocks : List ℕ) → first (open_checks_of s rows r blocks) ≡ 0
    → too_few_of s (row_at (width s) rows r) blocks ≡ false → disagree s (row_at (width s) rows r) blocks ≡ true
    → open_answer s rows r blocks ≡ holding 13 0 s
unfolding open_refusal_of
open_thirteen s rows r blocks clear e a =
    let row = row_at (width s) rows r in
    sym
    (refused_answer 13 (open_refusal_of s rows r blocks) (opened s row blocks) s s s
    (went_on (open_checks_of s rows r blocks) (late s row blocks) tt 0 (sym clear) 13 refl (rw (e, a))) (λ z. omega arith) refl)

-- and none does: the number
pub open_number_lem : (s : Session) (rows : List ℕ) (r : ℕ) (blocks : List ℕ) → first (open_checks_of s rows r blocks) ≡ 0
    → too_few_of s (row_at (width s) rows r) blocks ≡ false → disagree s (row_at (width s) rows r) blocks ≡ false
    → open_answer s rows r blocks ≡ holding 0 (opened s (row_at (width s) rows r) blocks) s
unfolding open_refusal_of
open_number_lem s rows r blocks clear e a =
    let row = row_at (width s) rows r in
    sym
    (accepted_answer 0 (open_refusal_of s rows r blocks) (opened s row blocks) (opened s row blocks) s s s
    (went_on (open_checks_of s rows r blocks) (late s row blocks) tt 0 (sym clear) 0 refl (rw (e, a))) refl refl refl)

-- the number opened is an element
pub opened_below : (s : Session) (row blocks : List ℕ) → opened s row blocks < p
unfolding Accepting.opened
opened_below s row blocks = interpolated_below _ _ 0
