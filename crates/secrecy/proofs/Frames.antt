-- 1 to 5, of a session and its list of rows: where these refuse at a post, every call that takes the rows is refused, so that they refuse there to
-- the end.
use Prim.Native.Nat.{ℕ, zero, suc, ◌-◌, ◌≤◌}
use mathlib.Core.Path.{◌≡◌, refl, sym, ◌∙◌, ap}
use mathlib.Core.Bool.{Bool, true, false}
use mathlib.Core.List.{List, [], ◌∷◌, ◌++◌}
use native.Mathlib.Omega.{arith}
use lib.ListN.{drop}
use Rattle.shape.specs.Bounds.{fewest_posts, most_posts}
use Rattle.shape.specs.Lengths.{rows_length}
use Rattle.refusal.specs.Refusal.{Test, ◌when◌, first}
use Rattle.refusal.specs.Conditions.{outside, bad_points, wrong_length}
use Rattle.session.specs.declared.Session.{Session}
use Rattle.session.specs.Sessions.{shape_of, points_of}
use Rattle.session.specs.Checks.{frame_tests}
use Rattle.load.specs.Load.{load_row_tests, load_row_refusal_of, load_triple_tests, load_triple_refusal_of}
use Rattle.deal.specs.Deal.{deal_tests, deal_refusal_of}
use Rattle.message.specs.Message.{message_tests, message_refusal_of}
use Rattle.linear.specs.Linear.{linear_tests, linear_refusal_of}
use Rattle.opening.specs.Opening.{open_tests, open_refusal_of}
use Rattle.product_masks.specs.Masks.{masks_tests, masks_refusal_of}
use Rattle.collect.specs.Collect.{collect_tests, collect_refusal}
use Rattle.multiply.specs.Multiply.{multiply_tests, multiply_refusal_of}
use Rattle.terms.specs.Listed.{collected}
use Rattle.relation.specs.Masks.{relation_masks_tests, relation_masks_refusal}
use Rattle.relation.specs.Finish.{relation_finish_tests, relation_finish_refusal}
use Rattle.runs.specs.Outline.{load_row_of, load_triple_of, deal, message, opening, linear, masks, collect, multiply, relation_masks_of, relation_finish_of, access}
use Rattle.runs.specs.Calls.{Actual, Post, Call, Performed, perform, after}
use Rattle.runs.specs.Orders.{Order, Desk, carry, Comes, no_call, a_call, comes_to}
use Rattle.runs.proofs.Outcomes.{refusal_of, refused, done}
use Rattle.runs.proofs.Orders.{orders_come}

-- 1 to 5, or 0
unfoldable pub frame : Post → ℕ
frame q = first (frame_tests q.session q.rows)

first_five : (a b c d e : Bool) → first (1 when a ∷ 2 when b ∷ 3 when c ∷ 4 when d ∷ 5 when e ∷ []) ≤ 5
first_five true b c d e = omega arith
first_five false true c d e = omega arith
first_five false false true d e = omega arith
first_five false false false true e = omega arith
first_five false false false false true = omega arith
first_five false false false false false = omega arith

pub frame_small : (q : Post) → frame q ≤ 5
unfolding frame
frame_small q =
    let s = q.session in
    first_five (outside fewest_posts most_posts s.n) (outside 1 (s.n - 1) s.t) (outside 1 s.n s.post) (bad_points s.points (points_of s))
    (wrong_length q.rows (rows_length (shape_of s)))

five_pass : (a b c d e : Bool) (more : List Test) → first (1 when a ∷ 2 when b ∷ 3 when c ∷ 4 when d ∷ 5 when e ∷ more) ≡ 0
    → first (1 when a ∷ 2 when b ∷ 3 when c ∷ 4 when d ∷ 5 when e ∷ []) ≡ 0
five_pass true b c d e more z = absurd (omega arith)
five_pass false true c d e more z = absurd (omega arith)
five_pass false false true d e more z = absurd (omega arith)
five_pass false false false true e more z = absurd (omega arith)
five_pass false false false false true more z = absurd (omega arith)
five_pass false false false false false more z = refl

front : (s : Session) (rows : List ℕ) (ts : List Test) → first (frame_tests s rows ++ drop 5 ts) ≡ 0 → first (frame_tests s rows) ≡ 0
front s rows ts z =
    five_pass (outside fewest_posts most_posts s.n) (outside 1 (s.n - 1) s.t) (outside 1 s.n s.post) (bad_points s.points (points_of s))
    (wrong_length rows (rows_length (shape_of s))) (drop 5 ts) z

-- a call that is done: 1 to 5 let it pass, or it is one that takes no rows, and leaves what they look at
frame_done : (c : Call) (q : Post) → refusal_of c q ≡ 0 → frame (after (perform c q)) ≡ 0 → frame q ≡ 0
unfolding frame load_row_refusal_of load_triple_refusal_of deal_refusal_of message_refusal_of open_refusal_of linear_refusal_of masks_refusal_of collect_refusal multiply_refusal_of relation_masks_refusal relation_finish_refusal
frame_done (load_row_of x) q z g = front q.session q.rows (load_row_tests q.session q.rows x.r x.pack) z
frame_done (load_triple_of x) q z g = front q.session q.rows (load_triple_tests q.session q.rows x.r x.pack) z
frame_done (deal x) q z g = front q.session q.rows (deal_tests q.session q.rows x.r x.c) z
frame_done (message x) q z g = front q.session q.rows (message_tests q.session q.rows x.r x.caller x.lent) z
frame_done (opening x) q z g = front q.session q.rows (open_tests q.session q.rows x.r x.blocks) z
frame_done (linear x) q z g = front q.session q.rows (linear_tests q.session q.rows x.r x.a x.b x.scale x.fee) z
frame_done (masks x) q z g = front q.session q.rows (masks_tests q.session q.rows x.a x.b x.r x.lent) z
frame_done (collect x) q z g = front q.session q.rows (collect_tests q.session q.rows x.r x.blocks_a x.blocks_b) z
frame_done (multiply x) q z g = front q.session q.rows (multiply_tests q.session q.rows x.r) z
frame_done (relation_masks_of x) q z g = front q.session q.rows (relation_masks_tests q.session q.rows (collected x.terms) x.lent) z
frame_done (relation_finish_of x) q z g = front q.session q.rows (relation_finish_tests q.session q.rows (collected x.terms) x.r x.blocks) z
frame_done (access x) q z g = sym (ap (λ (p : Post). first (frame_tests p.session p.rows)) (done (access x) q z)) ∙ g

frame_call : (c : Call) (q : Post) → frame (after (perform c q)) ≡ 0 → frame q ≡ 0
frame_call c q g = go (refusal_of c q) refl
  where
    go : (k : ℕ) → refusal_of c q ≡ k → frame q ≡ 0
    go zero z = frame_done c q z g
    go (suc k) z =
        let o = refused c q k z in
        let same : ◌≡◌ {A = Post} (after (perform c q)) q = λ j. record { session = o.0 j; rows = o.1 j } in
        sym (ap frame same) ∙ g

pub frame_back : (o : Order) (q : Desk) → frame (after (carry o q).done) ≡ 0 → frame q.post ≡ 0
frame_back o q g = go (comes_to o q) refl
  where
    go : (m : Comes Actual) → comes_to o q ≡ m → frame q.post ≡ 0
    go no_call z = sym (ap frame ((orders_come o q).none z)) ∙ g
    go (a_call c) z = frame_call c q.post (sym (ap (λ (x : Performed). frame (after x)) ((orders_come o q).one c z)) ∙ g)
