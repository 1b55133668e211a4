-- One turn of the modes is moved to the front, and the run is joined in it. Assumes nothing.
use Rattle.std.proofs.Common.{◌≡◌, ◌+◌, ◌-◌, refl, arith}
use Rattle.rings.proofs.HeldTwice.{join-turn}
use Rattle.rings.proofs.rounds.apply_round.Goals as goal

pub returns : goal.returns
returns c =
    let v = c.args.modes.now in
    let j = c.args.j in
    let past = c.saturating_sub-past.result in
    let over : past ≡ j.first + j.len - v.count = omega arith in (
      join-turn v.separators v.peaks _ _ v.count past j _ (omega (arith, over, c.requires)) (omega (arith, v.room, c.requires)) (omega (arith, v.room, c.requires))
          c.shift.ensures c.shift-2.ensures over refl refl refl _ c.apply.ensures.joined,
      c.apply.ensures.fewer,
    )
