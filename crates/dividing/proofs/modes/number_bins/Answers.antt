use Rattle.std.proofs.Common.{◌≡◌, ◌∙◌, ◌+◌, ◌%◌, ◌<◌, length, arith, add-one}
use Rattle.std.proofs.Math.Nat.{mod-lt}
use Rattle.std.proofs.Math.Seq.{get_or-set_same, get_or-set_other}
use Rattle.lists.proofs.Cases.{by_order}
use Rattle.dividing.proofs.Turns.{turned_apart}
use Rattle.dividing.proofs.modes.number_bins.Goals as goal

pub loop-i-init : goal.loop-i-init
loop-i-init c = record {
  before = record {
    mode = omega (arith, c.requires.0.some);
    none_yet = λ l. omega (arith, c.requires.0.some);
    begun = λ l. absurd (omega arith);
    not_next = λ l k. absurd (omega arith);
  };
  borne = λ k l. absurd (omega arith);
}

pub mode_at-m-requires : goal.mode_at-m-requires
mode_at-m-requires c = (c.requires.0, c.loop-i.invariant.before)

-- no other place so far has the bin of this one
pub loop-i-preserved : goal.loop-i-preserved
loop-i-preserved c =
    let a = c.args in
    let l = c.loop-i in
    let n = length a.modes.now in
    let here = (a.opening + l.i) % n in
    let v = c.mode_at-m.result in
    let inside : here < length l.modes = omega (arith, mod-lt (a.opening + l.i) {m = n} (omega arith), l.auto.modes) in
    record {
      before = rw (add-one l.i) c.mode_at-m.ensures;
      borne = λ k r. by_order k l.i
          (λ q.
          let old = l.invariant.borne k q in
          (old.0, old.1, get_or-set_other l.modes here ((a.opening + k) % n) v 0 (λ e. turned_apart a.opening k l.i n (omega arith) q (omega arith) e) ∙ old.2))
          (λ q.
          let e : k ≡ l.i = omega arith in
          rw e (v, c.mode_at-m.ensures, get_or-set_same l.modes here v 0 inside));
    }

pub returns : goal.returns
returns c = λ i k. rw c.loop-i.auto.modes (c.loop-i.invariant.borne i (omega (arith, c.loop-i.auto.modes, c.loop-i-test.false)))
