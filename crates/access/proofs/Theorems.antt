-- The A line keeps to demand 1.
use mathlib.Core.Path.{◌≡◌, refl, sym, ◌∙◌, ap}
use mathlib.Core.Bool.{true, false}
use mathlib.Core.List.{List, [], ◌∷◌}
use Rattle.refusal.specs.Refusal.{Test, ◌when◌, first}
use Rattle.refusal.proofs.Laws.{all_fail, not_refused}
use Rattle.session.specs.Sessions.{with_barred, answer}
use Rattle.session.proofs.Endings.{refused_answer, accepted_answer}
use Rattle.access.specs.Access.{access_refusal, access_sets, access_answer}
use Rattle.access.specs.Table.{access_table}
use Rattle.access.specs.Claims.{FirstOf, here, later, AccessLawful}
use Rattle.access.proofs.Tables.{access_table_lem}

first_of : (ts : List Test) → (first ts ≡ 0 → ⊥) → FirstOf (first ts) ts
first_of [] n = absurd (n refl)
first_of (k when true ∷ ts) n = here
first_of (k when false ∷ ts) n = later (first_of ts n)

pub access_lawful : AccessLawful
unfolding access_refusal
access_lawful s line =
    let x = first (access_table s line) in
    let new = with_barred s (access_sets line s.barred) in
    let own : answer x 0 new s ≡ access_answer s line = ap (λ (ts : List Test). answer (first ts) 0 new s) (sym (access_table_lem s line)) in
    record {
      accepts = λ z. all_fail (access_table s line) tt z;
      only = λ a. not_refused (access_table s line) a;
      applies = λ n. first_of (access_table s line) n;
      untouched = λ n. sym own ∙ sym (refused_answer x x 0 s new s refl n refl);
      done = λ z. sym own ∙ sym (accepted_answer x x 0 0 new new s refl z refl refl);
    }
