-- A record of one half of posts' masks, at a row that is the post's part of a vector: what it opens to where each polynomial accepted is
-- truly its sender's, and where at least t+1 are.
use Prim.Native.Nat.{ℕ, ◌≤◌}
use mathlib.Core.Path.{◌≡◌, sym, ◌∙◌, ap}
use mathlib.Core.Bool.{false}
use mathlib.Core.List.{List}
use Rattle.shape.specs.Lengths.{needed, v_length}
use Rattle.session.specs.declared.Session.{Session}
use Rattle.session.specs.Sessions.{shape_of}
use Rattle.opening.specs.Walking.{too_few_of, disagree, opened}
use Rattle.vectors.specs.Vector.{Vector, number, numbers}
use Rattle.vectors.specs.Claims.{held_row, EnoughTruly}
use Rattle.vectors.proofs.Shares.{true_agree, all_enough, truly_enough}
use Rattle.runs.specs.Draws.{plan_shape}
use Rattle.runs.proofs.Finishing.{Trusted, opened_is}
use Rattle.runs.proofs.Start.{sizes}
use Rattle.correctness.specs.History.{World}
use Rattle.correctness.specs.Truth.{TrueMask, TrueOf, EnoughTrue}
use Rattle.correctness.specs.Claim.{how_many}
use Rattle.correctness.proofs.Accepting.{not_few, enough_of}
use Rattle.correctness.proofs.Fitting.{all_true_of, enough_true_of}
use Rattle.correctness.proofs.Permitted as Permitted
use Rattle.correctness.proofs.Permitted.{Stander, holder}

module _ (G : Stander) (S : ℕ → Type 0) (w : World) (half : List ℕ → List ℕ) (r : ℕ) where
  open G use {plan, sound}

  abbrev s : Session
  s = Permitted.s G

  abbrev Half : ℕ → List ℕ → Type 0
  Half = TrueMask S w (plan_shape plan) half r

  module _ (x : List ℕ) (X : Vector) (e : x ≡ held_row s X)
      (theirs : (j : ℕ) → 1 ≤ j → j ≤ plan.n → (xs : List ℕ) → Half j xs → xs ≡ numbers (v_length (plan_shape plan)) (X.v j)) (blocks : List ℕ) where
    -- each one true: no share is off
    pub all_agree_is : needed (shape_of s) ≤ how_many s x blocks → TrueOf Half s x blocks → disagree s x blocks ≡ false
    all_agree_is many t =
        ap (λ (y : List ℕ). disagree s y blocks) e
        ∙ true_agree s X blocks (sizes plan sound).n_element (sym (ap (λ (y : List ℕ). too_few_of s y blocks) e) ∙ not_few s x blocks many)
        (all_true_of s X blocks Half x e (λ j lj hj ne o. theirs j lj hj _ o) t)

    pub all_trusted : TrueOf Half s x blocks → Trusted s X blocks
    all_trusted t few enough = all_enough s X blocks few enough (all_true_of s X blocks Half x e (λ j lj hj ne o. theirs j lj hj _ o) t)

    -- t+1 true: enough, and where no share is off it opens to the vector's number
    module _ (t : EnoughTrue Half s x blocks) where
      pub trusted : EnoughTruly s X blocks
      trusted = enough_true_of s X blocks Half x e (λ j lj hj ne o. theirs j lj hj _ o) t

      some : too_few_of s x blocks ≡ false
      some = ap (λ (y : List ℕ). too_few_of s y blocks) e ∙ truly_enough s X blocks trusted

      pub many : needed (shape_of s) ≤ how_many s x blocks
      many = enough_of s x blocks some

      pub opens_to : disagree s x blocks ≡ false → opened s x blocks ≡ (number X).0
      opens_to on = opened_is (holder G) (sizes plan sound).n_element x X blocks e (λ few enough. trusted) some on
