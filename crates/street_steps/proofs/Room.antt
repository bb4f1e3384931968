-- The store has room, and the session is one of the street's, exactly where a step refuses neither.
use Prim.Native.Nat.{ℕ, ◌-◌, ◌≤◌, ◌<◌}
use mathlib.Core.Path.{◌≡◌, refl, ap, ap₂, sym, ◌∙◌}
use mathlib.Core.List.{List, [], ◌∷◌}
use mathlib.Core.Bool.{Bool, true, false, cond, ◌||◌}
use borrow.Author.Tests.{lt-ltb, le-ltb, eq-eqb, ltb-false}
use lib.ListN.{length}
use lib.Dec.{ltb}
use Rattle.shape.specs.Bounds.{fewest_posts, most_posts, most_points}
use Rattle.shape.specs.Lengths.{shape}
use Rattle.refusal.specs.Refusal.{◌when◌, first, or_else}
use Rattle.refusal.specs.Conditions.{wrong_length, station_tests}
use Rattle.std.specs.Prelude.{Result}
use Rattle.std.specs.Result.{result_and}
use Rattle.refusal.specs.declared.Refusal.{Refusal}
use Rattle.refusal.specs.Numbers.{refused}
use Rattle.refusal.proofs.Checks.{refused_and}
use Rattle.refusal.proofs.Laws.{or_else_zero, all_fail, equal}
use Rattle.refusal.proofs.Ranges.{station_valid}
use Rattle.session.specs.Sessions.{shape_of}
use Rattle.street_store.specs.Sizes.{street_posts, store_room, InStreet}
use Rattle.street_states.specs.declared.State.{State}
use Rattle.street_steps.specs.Stepping.{station_refusal_of, room_refusal_of, Ready}

-- ---- a session, once a start line was accepted
pub tests_street : (n t points : ℕ) → first (1 when ltb street_posts n ∷ station_tests n t points) ≡ 0 → InStreet (shape n t points)
tests_street n t points f =
    let a = all_fail (1 when ltb street_posts n ∷ station_tests n t points) tt f in
    record { valid = station_valid n t points a.1; few = ltb-false street_posts n a.0 }

station_range : (st : State) → station_refusal_of st ≡ 0 → st.started ≡ true → InStreet (shape_of st.session)
station_range st e b = tests_street st.session.n st.session.t st.session.points (rw b at e)

clear : (a b c d e x y : Bool) → a ≡ false → b ≡ false → c ≡ false → d ≡ false → e ≡ false → x ≡ false → y ≡ false
    → first (1 when a ∷ 1 when (b || c) ∷ 2 when (d || e) ∷ 4 when (x || y) ∷ []) ≡ 0
clear a b c d e x y p q r s t u v = rw (p, q, r, s, t, u, v)

range_station : (st : State) → (st.started ≡ true → InStreet (shape_of st.session)) → station_refusal_of st ≡ 0
range_station st h = go st.started h
  where
    go : (b : Bool) → (b ≡ true → InStreet (shape_of st.session))
        → cond b (first (1 when ltb street_posts st.session.n ∷ station_tests st.session.n st.session.t st.session.points)) 0 ≡ 0
    go false f = refl
    go true f =
        let i = f refl in
        let v = i.valid in
        let n : ℕ = st.session.n in
        let t : ℕ = st.session.t in
        let k : ℕ = st.session.points in
        clear (ltb street_posts n) (ltb n fewest_posts) (ltb most_posts n) (ltb t 1) (ltb (n - 1) t) (ltb k 1) (ltb most_points k) (le-ltb street_posts n i.few)
        (le-ltb n fewest_posts v.n_in.0) (le-ltb most_posts n v.n_in.1) (le-ltb t 1 v.t_in.0) (le-ltb (n - 1) t v.t_in.1)
        (le-ltb k 1 v.points_in_is.0) (le-ltb most_points k v.points_in_is.1)

-- ---- the room
pub none_ready : (st : State) (store : List ℕ) (r : ℕ) → r ≡ room_refusal_of st store → r ≡ 0 → Ready st store
unfolding room_refusal_of
none_ready st store r e z =
    let a = or_else_zero (station_refusal_of st) (first (5 when wrong_length store store_room ∷ [])) (sym e ∙ z) in
    record {
      store_room_is = equal (length store) store_room (all_fail (5 when wrong_length store store_room ∷ []) tt a.1).0;
      in_range = station_range st a.0;
    }

pub ready_none : (st : State) (store : List ℕ) → Ready st store → room_refusal_of st store ≡ 0
unfolding room_refusal_of
ready_none st store h = rw (range_station st h.in_range, eq-eqb (length store) store_room h.store_room_is)

-- ---- the ways in which a step ends
pub room_joined : {A : Type 0} (st : State) (store : List ℕ) (r a b : Result A Refusal) → r ≡ result_and a b → refused a ≡ station_refusal_of st
    → refused b ≡ first (5 when wrong_length store store_room ∷ []) → refused r ≡ room_refusal_of st store
unfolding room_refusal_of
room_joined st store r a b e p q = ap refused e ∙ refused_and a b ∙ ap₂ or_else p q

pub station_many : (st : State) → st.started ≡ true → street_posts < st.session.n → 1 ≡ station_refusal_of st
station_many st e h = rw (e, lt-ltb street_posts st.session.n h)

pub station_asked : (st : State) (r : ℕ) → st.started ≡ true → st.session.n ≤ street_posts → r ≡ first (station_tests st.session.n st.session.t st.session.points)
    → r ≡ station_refusal_of st
station_asked st r e h q = q ∙ rw (e, le-ltb street_posts st.session.n h)

pub station_unasked : (st : State) → st.started ≡ false → 0 ≡ station_refusal_of st
station_unasked st e = rw e
