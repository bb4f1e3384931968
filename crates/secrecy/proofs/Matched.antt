-- From one draw to the matched one: the two runs of a list stand side by side to its end.
use Prim.Native.Nat.{ℕ, ◌≤◌, ◌<◌}
use mathlib.Core.Path.{◌≡◌, refl, sym, ◌∙◌, ap, subst}
use mathlib.Core.Logic.{inl, inr}
use mathlib.Core.List.{List}
use native.Mathlib.Omega.{arith}
use lib.ListN.{length}
use Rattle.field.specs.Modulus.{p}
use Rattle.poly.proofs.Lists.{all_of}
use Rattle.shape.specs.declared.Points.{Points}
use Rattle.shape.specs.Bounds.{last_row_at}
use Rattle.shape.specs.Marks.{held as heldMark}
use Rattle.shape.specs.Lengths.{row_length}
use Rattle.session.specs.declared.Session.{Session}
use Rattle.session.specs.Sessions.{mark, created}
use Rattle.session.specs.Rows.{width, row_at}
use Rattle.runs.specs.Draws.{Plan, Draw, IsDraw, IsRaw, point_of, plan_shape}
use Rattle.runs.specs.Calls.{Post, new_post, opening_line, Among}
use Rattle.runs.proofs.Marks.{mark_of, raw_vector, session_at}
use Rattle.runs.proofs.Start.{start, start_mark}
use Rattle.secrecy.specs.Steps.{Secrets, Step}
use Rattle.secrecy.specs.Seen.{Entry, Seen, deal_lines}
use Rattle.secrecy.specs.Rules.{SameAnswers}
use Rattle.secrecy.specs.Book.{Book, blank}
use Rattle.secrecy.proofs.CallRuns.{run, seen, Rules, book_after, Agree}
use Rattle.secrecy.proofs.CallClaims.{Premises, Shows, Abreast, posts_of, Beside}
use Rattle.secrecy.proofs.Near.{group_kernel}
use Rattle.secrecy.proofs.Link.{Gaps}
use Rattle.secrecy.proofs.Moved.{moved, moved_is, moved_points}
use Rattle.secrecy.proofs.Linked.{link}
use Rattle.secrecy.proofs.Unchanged.{same_points, same_raws, same_triples, same_polynomials, same_deals}
use Rattle.secrecy.proofs.State.{State}
use Rattle.secrecy.proofs.Dealings.{no_opening, fresh, begun}
use Rattle.secrecy.proofs.Twins.{row_same}
use Rattle.secrecy.proofs.Answers.{twin}
use Rattle.secrecy.proofs.Pair.{Two, run_one, Moments, Pair, place_number}
use Rattle.secrecy.proofs.Reckoned.{reckoned}
use Rattle.secrecy.proofs.Runs.{Ended, runs}

module _ (plan : Plan) (group : List ℕ) (rows : ℕ → List ℕ) (cs : List Step) (u u' : Secrets) (R : Seen) (h : Premises plan group u u' cs R) where
  -- the masks that the list makes
  unfoldable pub Δ : ℕ → Gaps
  Δ r = reckoned u u' cs R.entries blank blank r

  module _ (d : Draw) (s : Shows plan group rows cs u R d) where
    is' : IsDraw plan (moved plan group u u' Δ d)
    is' = moved_is plan group u u' Δ d s.is_draw

    abbrev two : Two
    two =
        record {
          plan = plan;
          group = group;
          members = h.group_few.members;
          sound = h.sound;
          len = λ i. length (rows i);
          d = d;
          d' = moved plan group u u' Δ d;
          u = u;
          u' = u';
          is_draw = s.is_draw;
          is_draw' = is';
          low = λ r raw. (h.secrets r raw).0;
          low' = λ r raw. (h.secrets r raw).1;
          K = group_kernel plan.points (point_of plan d) group;
          Δ = Δ;
          link = link plan group u u' Δ d h.sound h.group_few h.secrets s.is_draw;
        }

    -- new posts of a draw
    new : Draw → ℕ → Post
    new e i = new_post plan e (rows i) i

    beginning : Moments
    beginning =
        record {
          marks = start;
          vec = raw_vector plan d;
          vec' = raw_vector plan (moved plan group u u' Δ d);
          book = blank;
          book' = blank;
          lines = R.deals;
          posts = new d;
          posts' = new (moved plan group u u' Δ d);
        }

    -- the D lines are the record's, of both draws
    deals_one : deal_lines plan d u ≡ R.deals
    unfolding seen
    deals_one = ap (λ (x : Seen). x.deals) s.same

    deals_two : deal_lines plan (moved plan group u u' Δ d) u' ≡ R.deals
    deals_two = sym (same_deals plan group u u' Δ d h.sound h.group_few h.secrets s.is_draw) ∙ deals_one

    -- the runs start side by side
    begins : (e : Draw) (w : Secrets) (is : IsDraw plan e) (low : (r : ℕ) → IsRaw (plan.raw r) → w r < p) → deal_lines plan e w ≡ R.deals
        → State (fresh plan e w rows h.sound is low group)
        (record { marks = start; vec = raw_vector plan e; book = blank; lines = R.deals; posts = new e })
    unfolding new
    begins e w is low are =
        subst
        (λ (l : List (List ℕ)). State (fresh plan e w rows h.sound is low group)
        (record { marks = start; vec = raw_vector plan e; book = blank; lines = l; posts = new e }))
        are (begun plan e w rows h.sound is low group)

    new_same : (i : ℕ) → new d i ≡ new (moved plan group u u' Δ d) i
    unfolding new new_post
    new_same i =
        ap (λ (f : ℕ → Points). record { session = (created plan.n plan.t i plan.points (f i)).session; rows = rows i }) (sym (moved_points plan group u u' Δ d))

    pair : Pair two beginning
    unfolding beginning new new_post
    pair =
        record {
          one = begins d u s.is_draw (λ r raw. (h.secrets r raw).0) deals_one;
          two = begins (moved plan group u u' Δ d) u' is' (λ r raw. (h.secrets r raw).1) deals_two;
          near = λ r lr ne. absurd (ne (start_mark r));
          sessions = λ i lo hi. ap (λ (x : Post). x.session) (new_same i);
          group_same = all_of new_same group;
          agreed = λ r j xs o a. absurd (no_opening (run_one two) group r j xs (subst (Among (opening_line r j xs)) (sym deals_one) a));
          waiting = λ r lr masked. elim masked [ inl five ↦ absurd (omega (arith, start_mark r)) | inr seven ↦ absurd (omega (arith, start_mark r)) ];
        }

    -- the entries of the run are the record's
    shown : run plan group d u cs R.deals (new d) ≡ R.entries
    unfolding seen new
    shown = ap (λ (l : List (List ℕ)). run plan group d u cs l (new d)) (sym deals_one) ∙ ap (λ (x : Seen). x.entries) s.same

    ended : Ended two cs beginning
    unfolding beginning Δ
    ended =
        runs two cs beginning pair (subst SameAnswers (sym shown) h.same_answers) (subst (λ (x : List Entry). Rules plan cs x R.deals) (sym shown) h.rules)
        (subst (λ (x : List Entry). Agree u u' cs x blank blank) (sym shown) h.agree)
        (λ r lr np. ap (λ (x : List Entry). reckoned u u' cs x blank blank r) shown)

    entries_same : run plan group d u cs (deal_lines plan d u) (λ i. new_post plan d (rows i) i)
        ≡ run plan group (moved plan group u u' Δ d) u' cs (deal_lines plan (moved plan group u u' Δ d) u') (λ i. new_post plan (moved plan group u u' Δ d) (rows i) i)
    unfolding beginning new
    entries_same =
        ap (λ (l : List (List ℕ)). run plan group d u cs l (new d)) deals_one ∙ ended.entries
        ∙ ap (λ (l : List (List ℕ)). run plan group (moved plan group u u' Δ d) u' cs l (new (moved plan group u u' Δ d))) (sym deals_two)

    -- ---- after the calls

    abbrev end : Moments
    end = ended.end

    abbrev side : Pair two ended.end
    side = ended.pair

    q : ℕ → Post
    q = posts_of plan rows cs R u d

    q' : ℕ → Post
    q' = posts_of plan rows cs R u' (moved plan group u u' Δ d)

    ends : end.posts ≡ q
    unfolding q beginning new
    ends = ended.posts_are

    ends' : end.posts' ≡ q'
    unfolding q' beginning new
    ends' = ended.posts_are'

    module _ (i : ℕ) (lo : 1 ≤ i) (hi : i ≤ plan.n) where
      session : (q i).session ≡ session_at plan d i end.marks (side.one.posts i lo hi).opened
      session = sym (ap (λ (f : ℕ → Post). (f i).session) ends) ∙ (side.one.posts i lo hi).session

      -- a held row whose place agrees
      row_is : (r : ℕ) → r ≤ last_row_at → mark (q i).session r ≡ heldMark
          → (book_after u cs R.entries blank).place r ≡ (book_after u' cs R.entries blank).place r
          → row_at (width (q i).session) (q i).rows r ≡ row_at (width (q i).session) (q' i).rows r
      unfolding beginning
      row_is r low held agree =
          ap (λ (w : ℕ). row_at w (q i).rows r) (ap width session) ∙ same
          ∙ sym (ap (λ (w : ℕ). row_at w (q' i).rows r) (ap width session))
        where
          two_is : mark_of ended.end.marks r ≡ heldMark
          two_is = sym (ap (λ (x : Session). mark x r) session) ∙ held

          places : ended.end.book.place r ≡ ended.end.book'.place r
          places =
              ap (λ (x : Book). x.place r) ended.book_is
              ∙ subst (λ (es : List Entry). (book_after u cs es blank).place r ≡ (book_after u' cs es blank).place r) (sym shown) agree
              ∙ sym (ap (λ (x : Book). x.place r) ended.book_is')

          same : row_at (row_length (plan_shape plan)) (q i).rows r ≡ row_at (row_length (plan_shape plan)) (q' i).rows r
          same =
              ap (λ (f : ℕ → Post). row_at (row_length (plan_shape plan)) (f i).rows r) (sym ends)
              ∙ row_same (twin two ended.end ended.pair i lo hi) r low two_is
              (place_number two ended.end ended.pair r (omega arith) two_is places)
              ∙ ap (λ (f : ℕ → Post). row_at (row_length (plan_shape plan)) (f i).rows r) ends'

      abreast : Abreast (q i) (q' i) (book_after u cs R.entries blank) (book_after u' cs R.entries blank)
      abreast =
          record {
            session =
                ap (λ (f : ℕ → Post). (f i).session) (sym ends) ∙ side.sessions i lo hi ∙ ap (λ (f : ℕ → Post). (f i).session) ends';
            long =
                ap (λ (f : ℕ → Post). length (f i).rows) (sym ends) ∙ (side.one.posts i lo hi).holds.long
                ∙ sym (side.two.posts i lo hi).holds.long ∙ ap (λ (f : ℕ → Post). length (f i).rows) ends';
            rows = row_is;
          }

    pub beside : Beside plan rows cs u u' R d (moved plan group u u' Δ d)
    unfolding q q' moved
    beside = record { points = refl; posts = abreast }

    -- the matched draw shows the record under the other secrets
    pub transfer : Shows plan group rows cs u' R (moved plan group u u' Δ d)
    unfolding seen
    transfer =
        let points = same_points plan group u u' Δ d h.sound h.group_few h.secrets s.is_draw in
        let raws = same_raws plan group u u' Δ d h.sound h.group_few h.secrets s.is_draw in
        let triples = same_triples plan group u u' Δ d h.sound h.group_few h.secrets s.is_draw in
        let polynomials = same_polynomials plan group u u' Δ d h.sound h.group_few h.secrets s.is_draw h.dealers in
        let deals = same_deals plan group u u' Δ d h.sound h.group_few h.secrets s.is_draw in
        let all : seen plan group d u rows cs ≡ seen plan group (moved plan group u u' Δ d) u' rows cs =
        λ j. record { points = points j; raws = raws j; triples = triples j; polynomials = polynomials j; deals = deals j; entries = entries_same j } in
        record { is_draw = is'; same = sym all ∙ s.same }
