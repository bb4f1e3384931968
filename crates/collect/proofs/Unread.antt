-- Numbers of the two records that nobody looks at change no answer of a finish's first call.
use Prim.Native.Nat.{ℕ}
use mathlib.Core.Path.{◌≡◌, ◌∙◌, ap, ap₂}
use mathlib.Core.List.{List}
use Rattle.session.specs.Sessions.{answer, collected_triple}
use Rattle.opening.proofs.Unread.{bad_same, few_same, off_same, number_same}
use Rattle.collect.specs.Collect.{mask_a, mask_b, number_a, number_b, collect_refusal}
use Rattle.collect.specs.Claims.{RecordsUnread}

pub records_unread : RecordsUnread
unfolding collect_refusal
records_unread s rows r a a' b b' la la' lb lb' like like' =
    ap (λ (k : ℕ). answer k 0 (collected_triple s r (number_a s rows r a) (number_b s rows r b)) s) refused
    ∙ ap₂ (λ (x y : ℕ). answer (collect_refusal s rows r a' b') 0 (collected_triple s r x y) s) (number_same s x a a' la la' like) (number_same s y b b' lb lb' like')
  where
    x : List ℕ
    x = mask_a s rows r

    y : List ℕ
    y = mask_b s rows r

    refused : collect_refusal s rows r a b ≡ collect_refusal s rows r a' b'
    refused =
        rw (
          la,
          la',
          lb,
          lb',
          bad_same s x a a' la la' like,
          bad_same s y b b' lb lb' like',
          few_same s x a a' la la' like,
          few_same s y b b' lb lb' like',
          off_same s x a a' la la' like,
          off_same s y b b' lb lb' like',
        )
