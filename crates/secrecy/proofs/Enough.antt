-- The premises of demand 3 from the figures.
use Prim.Native.Nat.{ℕ, ◌≤◌, ◌<◌}
use mathlib.Core.Path.{◌≡◌, refl, sym, subst}
use mathlib.Core.Bool.{Bool, true, false, ◌||◌, false≢true}
use mathlib.Core.Logic.{◌⊎◌, inl, inr}
use mathlib.Core.List.{List, [], ◌∷◌}
use native.Mathlib.Omega.{arith}
use borrow.Author.Tests.{eqb-true, eq-eqb}
use lib.Dec.{eqb}
use Rattle.shape.specs.Bounds.{fewest_posts, most_posts, most_points}
use Rattle.refusal.specs.Conditions.{posts_tests}
use Rattle.refusal.proofs.Laws.{not_refused as passes}
use Rattle.refusal.proofs.Figures.{conditions_mean}
use Rattle.runs.specs.Draws.{Plan, Sound}
use Rattle.runs.specs.Calls.{Among}
use Rattle.runs.proofs.Inside.{among_all}
use Rattle.secrecy.specs.Seen.{Entry, member}
use Rattle.secrecy.specs.Rules.{AllSame}
use Rattle.secrecy.specs.Enough.{Station, Alike, DemandAsks}

-- the test of a group's members, both ways
pub member_among : (i : ℕ) (group : List ℕ) → member i group ≡ true → Among i group
member_among i [] e = absurd (false≢true e)
member_among i (g ∷ group) e = go (eqb i g) refl e (member_among i group)
  where
    go : (b : Bool) → eqb i g ≡ b → (b || member i group) ≡ true → (member i group ≡ true → Among i group) → (i ≡ g) ⊎ Among i group
    go true q e h = inl (eqb-true i g q)
    go false q e h = inr (h e)

pub among_member : (i : ℕ) (group : List ℕ) → Among i group → member i group ≡ true
among_member i [] k = elim k [ ]
among_member i (g ∷ group) (inl e) = rw (eq-eqb i g e) refl
among_member i (g ∷ group) (inr m) = go (eqb i g) (among_member i group m)
  where
    go : (b : Bool) → member i group ≡ true → (b || member i group) ≡ true
    go true h = refl
    go false h = h

sound_of : (plan : Plan) → Station plan → Sound plan
sound_of plan s =
    record {
      posts =
          passes (posts_tests plan.n plan.t) (
            conditions_mean.inside_passes fewest_posts most_posts plan.n s.posts.0 s.posts.1,
            (conditions_mean.inside_passes 1 _ plan.t s.degree.0 (omega (arith, s.degree.1)), tt),
          );
      counted = conditions_mean.inside_passes 1 most_points plan.points few.0 few.1;
      raws = s.raws;
      triples = s.triples;
    }
  where
    go : (plan.points ≡ 1) ⊎ (plan.points ≡ 2) → (1 ≤ plan.points) × (plan.points ≤ 2)
    go (inl e) = (omega (arith, e), omega (arith, e))
    go (inr e) = (omega (arith, e), omega (arith, e))

    few : (1 ≤ plan.points) × (plan.points ≤ most_points)
    few = go s.points

all_same : (xs : List ℕ) → ((x y : ℕ) → Among x xs → Among y xs → x ≡ y) → AllSame xs
all_same [] h = tt
all_same (x ∷ xs) h = among_all xs (λ y m. h y x (inr m) (inl refl))

pub demand_asks : DemandAsks
demand_asks plan group u u' os R s g secrets dealers alike rules agree =
    record {
      sound = sound_of plan s;
      group_few = record { few = g.few; members = among_all group g.members };
      secrets = secrets;
      dealers = λ r dealer e m. dealers r dealer e (member_among dealer group m);
      same_answers = among_all R.entries (λ e m. all_same e.refusals (alike e m));
      rules = rules;
      agree = agree;
    }
