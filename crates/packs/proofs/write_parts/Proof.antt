-- What is written, and the parts of the posts from the j-th on, make them all.
use Prim.Native.Nat.{◌*◌, ◌-◌, ◌≤◌}
use mathlib.Core.Path.{◌≡◌}
use lib.ListN.{length}
use borrow.Author.Rules.{rules}
use Rattle.packs.specs.Between.{first_sums, points_on_of}
use Rattle.packs.proofs.Posts.{end_room, next_place, end_fits, place_fits, part_lent, parts_room, same_room, out_kept, row_at, Standing, standing_start, next_sized, standing_next, standing_end, few_posts_is}
use Rattle.packs.proofs.write_parts.Statement.{statement}
use Rattle.packs.proofs.write_parts.Tie as tie

abbrev invariant-loop-j : tie.invariant-loop-j
invariant-loop-j shape i count points vs out₀ width at₀ j₀ out at j =
    (j ≤ count) × (at ≡ j * width) × (length out ≡ count * width)
    × Standing shape vs (first_sums shape out₀) (points_on_of shape points i) i count out at j

abbrev decreases-loop-j : tie.decreases-loop-j
decreases-loop-j shape i count points vs out₀ width at₀ j₀ out at j = count - j

ruleset turns = (rules, end_room, next_place, end_fits, place_fits, part_lent, parts_room, same_room, row_at, standing_start, next_sized, standing_end, few_posts_is)

loop_again : tie.Need-loop-j-preserved invariant-loop-j decreases-loop-j
loop_again c =
    let a = c.args in
    let l = c.loop-j in
    let w = c.row_len-width in (
      search rules,
      search (rules, next_place),
      search (rules, out_kept, next_sized),
      standing_next a.shape a.vs.now (first_sums a.shape a.out.now) a.i a.count a.points.now a.out.now l.out c.pass_sums_on.new.out c.write_part.new.out l.j l.at
          w.result (search rules) (search rules) (search rules) (search rules) (search rules) (search rules) (search rules) (search rules) (search rules)
          c.points_at-w.result (search rules) (search rules),
    )

pub write_parts_spec : {M : Type 1} → statement M
write_parts_spec =
    tie.close
    (tie.spec invariant-loop-j decreases-loop-j (λ c κs. search turns) (λ c. search turns) (λ c. search turns) (λ c κs. search turns) (λ c κs. search turns)
    (λ c. search turns) (λ c. search turns) (λ c. search turns) (λ c. search turns) (λ c. search turns)
    (λ c κs. search turns) (λ c. search turns) (λ c. search turns) loop_again (λ c. search turns) (λ c. search turns))
