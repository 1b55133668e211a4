-- Each join that is made is that of the record which was read, and where the log leaves the joins it is not theirs.
use Rattle.std.proofs.Common.{◌≡◌, List, ◌++◌, length, sym, ap, ◌∙◌, arith, rules}
use Rattle.std.specs.Prelude.{None, Some, eqb}
use Rattle.std.proofs.lemmas.Bool.{false≢true}
use Rattle.std.proofs.lemmas.Bool.Decides.{Decides-int_eq}
use Rattle.std.proofs.lemmas.Slice.Eq.{strip_prefix_is}
use Rattle.segmentation.specs.declared.Join.{Join}
use Rattle.segmentation.specs.Held.{held, join_found}
use Rattle.segmentation.specs.Runs.{reader_of, joins_of}
use Rattle.segmentation.proofs.Applied.{held-step}
use Rattle.segmentation.proofs.Settled.{joins-none, line-shortens}
use Rattle.segmentation.proofs.Stepping.{on-line-count, next-within, fewer, on-line-after}
use Rattle.joinlog.specs.JoinLog.{joins_made, record_of, numbers_of, log_of, same_numbers}
use Rattle.joinlog.proofs.Made.{made_none, held-made, made_held}
use Rattle.joinlog.proofs.Logs.{log-ends, log-departs, log-goes-on}
use Rattle.joinlog.proofs.following.follow.Goals as goal

pub record_of-requires : goal.record_of-requires
record_of-requires c =
    let a = c.args in
    let v = c.loop-join.segments in
    let on = c.loop-join.invariant.on_line in
    let bins = on-line-count a.line.now v on in
    let within = next-within a.line.now v on c.in-Some.join (sym c.next_on_line.ensures ∙ ap join_found c.in-Some.is) in
    (omega (arith, on.small.bins), omega (arith, on.small.bins))

pub returns-in_default-strip_prefix : goal.returns-in_default-strip_prefix
returns-in_default-strip_prefix c =
    let a = c.args in
    let v = c.loop-join.segments in
    let w = joins_of a.line.now in
    let j = c.in-Some.join in
    let rest = c.loop-join.rest.now in
    let after = w.after (held v) j in
    let js = joins_made (length after) w after in
    let made = held-made w (line-shortens a.line.now.closeness (reader_of a.line.now)) v.separators v.peaks v.count j (sym c.next_on_line.ensures ∙ ap join_found c.in-Some.is) in
    let numbers : c.into-numbers.result ≡ numbers_of (record_of j) = search rules in
    let never = strip_prefix_is Decides-int_eq rest _ None c.in_default-strip_prefix.ensures.cases in (
      sym (log-departs j js rest (rw numbers at never))
          ∙ ap (λ (is : List Join). same_numbers rest (log_of is)) (sym made)
          ∙ c.loop-join.invariant.same,
      λ t. absurd (false≢true t),
    )

pub apply-requires : goal.apply-requires
apply-requires c =
    let a = c.args in
    let v = c.loop-join.segments in
    (search rules, next-within a.line.now v c.loop-join.invariant.on_line c.in-Some.join (sym c.next_on_line.ensures ∙ ap join_found c.in-Some.is))

pub loop-join-smaller : goal.loop-join-smaller
loop-join-smaller c =
    let a = c.args in
    let v = c.loop-join.segments in
    let t = c.apply.new.self in
    let next = sym c.next_on_line.ensures ∙ ap join_found c.in-Some.is in
    fewer a.line.now v c.loop-join.invariant.on_line c.in-Some.join next t c.apply.ensures.joined

pub loop-join-preserved : goal.loop-join-preserved
loop-join-preserved c =
    let a = c.args in
    let v = c.loop-join.segments in
    let t = c.apply.new.self in
    let w = joins_of a.line.now in
    let shortens = line-shortens a.line.now.closeness (reader_of a.line.now) in
    let j = c.in-Some.join in
    let rest = c.loop-join.rest.now in
    let behind = c.in-Some-strip_prefix.behind in
    let after = w.after (held v) j in
    let js = joins_made (length after) w after in
    let next = sym c.next_on_line.ensures ∙ ap join_found c.in-Some.is in
    let done = c.apply.ensures.joined in
    let numbers : c.into-numbers.result ≡ numbers_of (record_of j) = search rules in
    let begins : rest ≡ numbers_of (record_of j) ++ behind.now = rw numbers at (strip_prefix_is Decides-int_eq rest _ (Some behind) c.in-Some-strip_prefix.ensures.cases) in
    record {
      on_line = on-line-after a.line.now v c.loop-join.invariant.on_line j next t done;
      same = ap (λ (is : List Join). same_numbers behind.now (log_of is)) (made_held w t.separators t.peaks t.count after done)
          ∙ log-goes-on j js rest behind.now begins
          ∙ ap (λ (is : List Join). same_numbers rest (log_of is)) (sym (held-made w shortens v.separators v.peaks v.count j next))
          ∙ c.loop-join.invariant.same;
      modes = held-step w shortens v.separators v.peaks t.separators t.peaks v.count t.count j next done ∙ c.loop-join.invariant.modes;
    }

pub returns : goal.returns
returns c =
    let a = c.args in
    let v = c.loop-join.segments in
    let w = joins_of a.line.now in
    let left = held v in
    let rest = c.loop-join.rest.now in
    let none = sym c.next_on_line.ensures ∙ ap join_found c.in_default.is in
    let empty : c.is_empty.result ≡ eqb (length rest) 0 = grind (arith, c.is_empty.ensures) in (
      empty ∙ sym (log-ends rest) ∙ ap (λ (is : List Join). same_numbers rest (log_of is)) (sym (made_none w v.count left none)) ∙ c.loop-join.invariant.same,
      λ t. sym (joins-none w v.count left none) ∙ c.loop-join.invariant.modes,
    )
