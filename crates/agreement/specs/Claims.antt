-- Request (iv): what agreement of the accepted shares means and makes exact, for any nodes; proved in proofs/Agreeing.antt and
-- proofs/Meaning.antt.
use Rattle.std.specs.Prelude.{ℕ, ◌≤◌, ◌≡◌, true, List, ◌++◌, map, length}
use Rattle.poly.specs.Polynomial.{value}
use Rattle.poly.specs.Interpolation.{interpolated}
use Rattle.poly.specs.Counting.{All, Distinct, Elements}
use Rattle.agreement.specs.Agreement.{all_agree, Given}

-- Where all further values agree, and at as many nodes as there are coefficients, whichever they are, the values are truly a polynomial's,
-- the interpolation is that polynomial at any point.
abbrev pub AgreementExact : Type 0
AgreementExact =
    (xs ys zs ws : List ℕ) → Elements xs → Distinct xs → length xs ≡ length ys → length zs ≡ length ws → all_agree xs ys zs ws ≡ true
    → (g good : List ℕ) → length g ≤ length xs → length xs ≤ length good → Elements good → Distinct good
    → All (λ x. Given x (value g x) (xs ++ zs) (ys ++ ws)) good → (z : ℕ) → interpolated xs ys z ≡ value g z

-- Where all values are a polynomial's, they agree.
abbrev pub TrueValuesAgree : Type 0
TrueValuesAgree =
    (xs zs : List ℕ) → Elements xs → Distinct xs → (g : List ℕ) → length g ≤ length xs
    → all_agree xs (map (value g) xs) zs (map (value g) zs) ≡ true

-- One polynomial, with as many coefficients as there are first nodes, has all these values at all these nodes.
abbrev pub OnOne : List ℕ → List ℕ → List ℕ → List ℕ → Type 0
OnOne xs ys zs ws = (g : List ℕ) × (length g ≡ length xs) × (map (value g) (xs ++ zs) ≡ ys ++ ws)

-- "every further accepted share must lie on the same polynomial of degree at most t": all agree exactly where there is such a polynomial.
abbrev pub AgreementMeans : Type 0
AgreementMeans =
    (xs ys zs ws : List ℕ) → Elements xs → Distinct xs → Elements ys → length xs ≡ length ys → length zs ≡ length ws
    → (all_agree xs ys zs ws ≡ true → OnOne xs ys zs ws) × (OnOne xs ys zs ws → all_agree xs ys zs ws ≡ true)
