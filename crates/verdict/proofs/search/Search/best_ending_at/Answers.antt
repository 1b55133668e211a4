-- The near parts are no better than the best so far, and the part that is weighed is taken in.
use Rattle.std.proofs.Common.{◌≡◌, refl, ℕ, suc, ◌<◌, ◌≤◌, ℤ, List, length, arith}
use Rattle.lists.specs.Lists.{total}
use Rattle.lists.proofs.Signed.{le-trans-ℤ}
use Rattle.pooling.specs.declared.Place.{Place}
use Rattle.pooling.specs.Blocks.{Direction, direction, blocks}
use Rattle.pooling.specs.Limits.{Small}
use Rattle.verdict.specs.declared.Best.{Best}
use Rattle.verdict.specs.declared.parts.Turn.{Turn}
use Rattle.verdict.specs.Near.{Spares, NearUpTo}
use Rattle.verdict.specs.Scratch.{PlacesHeld, BestOf, EndingAt, first_of, end_of, start_of}
use Rattle.verdict.proofs.Machine.{handed-back}
use Rattle.verdict.proofs.Caps.{start-le, end-le, larger-above, near-no-better, best-stops, best-same, best-more, best-no-better}
use Rattle.verdict.proofs.search.Search.best_ending_at.Goals as goal

end_low : (w : Direction) (h : List ℕ) (ps : List Place) (turn : Turn) (j start end : ℕ) → PlacesHeld w h ps → j < length h
    → start ≡ start_of ps j → end ≡ end_of turn start j → end ≤ suc j
end_low w h ps turn j start end held l e f = rw (f, e) (end-le turn (start_of ps j) j (start-le w h ps j held l))

-- the best so far is also that of the near parts
passed : (w : Direction) (h : List ℕ) → Small h → (limit : ℤ) (first next i j : ℕ) (b : Best) → Spares (total h) b → j < length h → i ≤ suc j
    → BestOf h (blocks w h) limit (EndingAt j first next) b.weight → NearUpTo h (blocks w h) b.threshold j next i
    → BestOf h (blocks w h) limit (EndingAt j first i) b.weight
passed w h small limit first next i j b s l e a near =
    best-no-better h (blocks w h) limit first next i j a (near-no-better w h small b s j next i l e near)

pub returns-then-found-self-clause-best_of : goal.returns-then-found-self-clause-best_of
returns-then-found-self-clause-best_of c =
    let s = c.args.self.now.stretch in
    let limit = c.args.self.now.limit in
    let w = direction s.rising in
    let first = first_of c.args.turn (start_of s.places.now c.args.j) in
    let r = c.first_far-next.ensures in
    let e = end_low w s.h.now s.places.now c.args.turn c.args.j c.start-start.result c.end_of-end.result s.held.places c.requires.j_in_bounds c.start-start.ensures c.end_of-end.ensures in
    let p = passed w s.h.now s.held.small limit first c.loop-next.next c.first_far-next.result c.args.j c.loop-next.found c.loop-next.invariant.2 c.requires.j_in_bounds (omega (arith, r.1, e)) c.loop-next.invariant.3 r.2 in
    let z = handed-back {z = c.tried-found.result.weight} (omega arith) in
    let l = handed-back {z = limit} (omega arith) in
    best-stops s.h.now (blocks w s.h.now) limit
    (best-more s.h.now (blocks w s.h.now) limit first c.first_far-next.result c.args.j _ _ _ (omega (arith, r.1, e)) c.requires.j_in_bounds p refl c.tried-found.ensures.larger)
    (rw (z, l) at c.if-found-self.true)

pub loop-next-preserved-then-next-end : goal.loop-next-preserved-then-next-end
loop-next-preserved-then-next-end c =
    let s = c.args.self.now.stretch in
    let w = direction s.rising in
    let first = first_of c.args.turn (start_of s.places.now c.args.j) in
    let r = c.first_far-next.ensures in
    let e = end_low w s.h.now s.places.now c.args.turn c.args.j c.start-start.result c.end_of-end.result s.held.places c.requires.j_in_bounds c.start-start.ensures c.end_of-end.ensures in
    let p = passed w s.h.now s.held.small c.args.self.now.limit first c.loop-next.next c.first_far-next.result c.args.j c.loop-next.found c.loop-next.invariant.2 c.requires.j_in_bounds (omega (arith, r.1, e)) c.loop-next.invariant.3 r.2 in (
      omega (arith, r.0, c.loop-next.invariant.0),
      le-trans-ℤ _ _ _ c.loop-next.invariant.1 (larger-above _ _ _ c.tried-found.ensures.larger),
      c.tried-found.ensures.spares,
      best-more s.h.now (blocks w s.h.now) c.args.self.now.limit first c.first_far-next.result c.args.j _ _ _ (omega (arith, r.1, e)) c.requires.j_in_bounds p refl c.tried-found.ensures.larger,
    )

pub loop-next-preserved : goal.loop-next-preserved
loop-next-preserved c =
    let s = c.args.self.now.stretch in
    let w = direction s.rising in
    let first = first_of c.args.turn (start_of s.places.now c.args.j) in
    let r = c.first_far-next.ensures in
    let e = end_low w s.h.now s.places.now c.args.turn c.args.j c.start-start.result c.end_of-end.result s.held.places c.requires.j_in_bounds c.start-start.ensures c.end_of-end.ensures in
    let p = passed w s.h.now s.held.small c.args.self.now.limit first c.loop-next.next c.first_far-next.result c.args.j c.loop-next.found c.loop-next.invariant.2 c.requires.j_in_bounds (omega (arith, r.1, e)) c.loop-next.invariant.3 r.2 in (
      omega (arith, r.0, c.loop-next.invariant.0),
      c.loop-next.invariant.1,
      c.loop-next.invariant.2,
      p,
    )

pub returns-clause-best_of : goal.returns-clause-best_of
returns-clause-best_of c =
    let s = c.args.self.now.stretch in
    let f : c.end_of-end.result ≡ end_of c.args.turn (start_of s.places.now c.args.j) c.args.j = rw c.start-start.ensures at c.end_of-end.ensures in
    best-same _ _ _ c.loop-next.invariant.3 (λ i j v. (v.0, v.1, omega (arith, v.2, f)))
