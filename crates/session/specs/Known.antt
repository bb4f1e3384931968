-- What a session is to the calls, in figures: its shape, its party, the lengths and places of its rows; and the session that a sum leaves, field by
-- field. Tables and laws cite these by name (`width`, `sums_at_of`, `coefficients`, `summed`, `with_opened`, `sharing_all`, `summed_row`); `Places` has what they are
-- made of. Proved in proofs/Known.antt.
use Rattle.std.specs.Prelude.{ℕ, ◌+◌, ◌*◌, ◌≡◌, List, set, take}
use Rattle.callers.specs.Sets.{shared_all}
use Rattle.session.specs.declared.Session.{Session}
use Rattle.session.specs.Sessions.{shape_of, points_of, party_of, with_opened, sharing_all, summed_row}
use Rattle.session.specs.Rows.{width, sums_at_of, coefficients, combined, plus_sums, summed}

pub record Known (s : Session) : Type 0 where
  pub shape_is : shape_of s ≡ record { n = s.n; t = s.t; points = s.points }
  pub points_are : points_of s ≡ record { first = s.first; second = s.second }
  pub party_is : party_of s
      ≡ record {
        shape = record { n = s.n; t = s.t; points = s.points };
        post = s.post;
        points = record { first = s.first; second = s.second };
      }
  -- "t+1+2n elements", with two points "2t+1+3n numbers": the coefficients, the check values, the public sums
  pub width_is : width s ≡ s.points * s.t + 1 + s.points * s.n + s.n
  pub sums_at : sums_at_of s ≡ s.points * s.t + 1 + s.points * s.n
  pub coefficients_are : (row : List ℕ) → coefficients s row ≡ take (s.points * s.t + 1) row
  -- y and y' in their two lists, and no other field
  pub with_opened_is : (ys ys' : List ℕ) → with_opened s ys ys' ≡ record {
    n = s.n;
    t = s.t;
    post = s.post;
    points = s.points;
    first = s.first;
    second = s.second;
    marks = s.marks;
    factor_a = s.factor_a;
    factor_b = s.factor_b;
    y_a = ys;
    y_b = ys';
    barred = s.barred;
  }
  -- "A row made from others has the posts that all of them share": its set, and its mark; no other field
  pub sharing_all_is : (d : ℕ) (rows : List ℕ) → sharing_all s d rows ≡ record {
    n = s.n;
    t = s.t;
    post = s.post;
    points = s.points;
    first = s.first;
    second = s.second;
    marks = s.marks;
    factor_a = s.factor_a;
    factor_b = s.factor_b;
    y_a = s.y_a;
    y_b = s.y_b;
    barred = shared_all s.barred d rows;
  }
  pub summed_row_is : (d : ℕ) (rows : List ℕ) → summed_row s d rows ≡ record {
    n = s.n;
    t = s.t;
    post = s.post;
    points = s.points;
    first = s.first;
    second = s.second;
    marks = set s.marks d 2;
    factor_a = s.factor_a;
    factor_b = s.factor_b;
    y_a = s.y_a;
    y_b = s.y_b;
    barred = shared_all s.barred d rows;
  }

-- "a plus s times b", and the fee to the public sums, which stand from the k-th number on: the two of `Places`, and no more
pub record SessionKnown : Type 0 where
  pub known : (s : Session) → Known s
  pub summed_is : (k scale fee : ℕ) (x y : List ℕ) → summed k scale fee x y ≡ plus_sums k fee (combined scale x y)
