-- The premises of demand 2 from the figures.
use Prim.Native.Nat.{ℕ, ◌≤◌}
use mathlib.Core.Path.{◌≡◌, refl, ap}
use mathlib.Core.Bool.{Bool, true, false, cond}
use mathlib.Core.Logic.{◌⊎◌, inl, inr}
use mathlib.Core.List.{List, [], ◌∷◌}
use native.Mathlib.Omega.{arith}
use lib.ListN.{get_or}
use Rattle.shape.specs.Bounds.{fewest_posts, most_posts, most_points}
use Rattle.refusal.specs.Conditions.{posts_tests}
use Rattle.refusal.proofs.Laws.{not_refused as passes}
use Rattle.refusal.proofs.Figures.{conditions_mean}
use Rattle.opening.specs.Walking.{accepted}
use Rattle.session.specs.Sessions.{party_of}
use Rattle.blocks.proofs.Reading.{record_read}
use Rattle.runs.specs.Draws.{Plan, Draw, Sound, IsDraw, Raw, none, by, IsRaw, when_raw}
use Rattle.runs.specs.Calls.{Call}
use Rattle.runs.proofs.Inside.{among_all}
use Rattle.correctness.specs.History.{World, Event, step, history, begin, Each}
use Rattle.correctness.specs.Asked.{AsksOnly}
use Rattle.correctness.specs.Enough.{Station, Drawn, DrawsAsk, InRun, PremisesMet, RecordsAsk, TruthIs}
use Rattle.correctness.proofs.Asked.{premises_ask, runs_ask}

sound_of : (plan : Plan) → Station plan → Sound plan
sound_of plan s =
    record {
      posts =
          passes (posts_tests plan.n plan.t) (
            conditions_mean.inside_passes fewest_posts most_posts plan.n s.posts.0 s.posts.1,
            (conditions_mean.inside_passes 1 _ plan.t s.degree.0 (omega (arith, s.degree.1)), tt),
          );
      counted = conditions_mean.inside_passes 1 most_points plan.points few.0 few.1;
      raws = s.raws;
      triples = s.triples;
    }
  where
    go : (plan.points ≡ 1) ⊎ (plan.points ≡ 2) → (1 ≤ plan.points) × (plan.points ≤ 2)
    go (inl e) = (omega (arith, e), omega (arith, e))
    go (inr e) = (omega (arith, e), omega (arith, e))

    few : (1 ≤ plan.points) × (plan.points ≤ most_points)
    few = go s.points

raw_long : (x : Raw) (k m : ℕ) → (IsRaw x → k ≡ m) → (x ≡ none → k ≡ 0) → k ≡ when_raw x m 0
raw_long none k m a b = b refl
raw_long (by d) k m a b = a tt

triple_long : (x : Bool) (k m : ℕ) → (x ≡ true → k ≡ m) → (x ≡ false → k ≡ 0) → k ≡ cond x m 0
triple_long true k m a b = a refl
triple_long false k m a b = b refl

draw_of_lem : (plan : Plan) (draw : Draw) → Drawn plan draw → IsDraw plan draw
draw_of_lem plan draw d =
    record {
      posts = d.points_many;
      points = among_all draw.points d.points;
      raws =
          record {
            count = d.raws_many;
            each = λ r l. (raw_long (plan.raw r) _ _ (d.raw r l) (d.not_raw r l), among_all (get_or draw.raws r []) (λ x m. d.raw_numbers r x l m));
          };
      triples =
          record {
            count = d.triples_many;
            each = λ r l. (triple_long (plan.triple r) _ _ (d.triple r l) (d.no_triple_is r l), among_all (get_or draw.triples r []) (λ x m. d.triple_numbers r x l m));
          };
    }

pub draws_ask : DrawsAsk
draws_ask plan draw s d = (sound_of plan s, draw_of_lem plan draw d)

module _ (S : ℕ → Type 0) (P : ℕ → Call → World → Type 0) where
  in_run : (es : List Event) (w : World) → InRun S es w P → Each S P es w
  in_run [] w h = (runs_ask S P).ends w
  in_run (e ∷ es) w h =
      (runs_ask S P).next e es w (λ s z c q. h [] es e refl s z c q)
      (in_run es (step e w) (λ before behind x q. h (e ∷ before) behind x (ap (λ (l : List Event). e ∷ l) q)))

pub premises_met : PremisesMet
premises_met plan draw L S es rows states s d run =
    record {
      sound = sound_of plan s;
      is_draw = draw_of_lem plan draw d;
      parts = in_run S _ es _ (λ before behind e q m z c k. (asked before e.post c).part (run.parts before behind e q m z c k));
      ledger = in_run S _ es _ (λ before behind e q m z c k. (asked before e.post c).ledger (run.ledger before behind e q m z c k));
      finishes = in_run S _ es _ (λ before behind e q m z c k. (asked before e.post c).truth (run.truth before behind e q m z c k));
    }
  where
    asked : (before : List Event) (i : ℕ) (c : Call)
        → AsksOnly plan draw L S (history before (begin plan draw rows states)) i ((history before (begin plan draw rows states)).posts i) c
    asked before i c = premises_ask plan draw L S (history before (begin plan draw rows states)) i ((history before (begin plan draw rows states)).posts i) c

pub records_ask : RecordsAsk
records_ask s blocks a =
    record {
      long = a.long;
      low = (record_read (party_of s) blocks).passes (λ j o. record { mark_in_is = a.marks j o.0 o.1 o.2; elements = a.numbers j o.0 o.1 o.2 });
    }

pub truth_is : TruthIs
truth_is S w =
    record {
      told = λ r j xs m a. (m, inl a);
      held = λ r j m e. (m, inr (e, refl));
      masks = λ s half r j both m e low a. (m, (both, e, among_all both low, a, refl));
      each = λ P s row blocks h. among_all (accepted s row blocks) h;
      some = λ P s row blocks good many different inside theirs.
          record {
            good = good;
            many = many;
            different = different;
            theirs = among_all good (λ j m. ((inside j m).0, (inside j m).1, (inside j m).2, theirs j m));
          };
    }
