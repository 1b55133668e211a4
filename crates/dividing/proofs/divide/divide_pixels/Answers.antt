use Rattle.std.proofs.Common.{◌≡◌, ◌-◌, ◌++◌, ◌∙◌, length, drop, sym, arith, rules}
use Rattle.dividing.proofs.Walking.{slice_from, put_from}
use Rattle.dividing.proofs.Halves.{kinds-laid, greys-long, greys-room, colours-lent, colours-long, colours-room, both-divided, found-few}
use Rattle.dividing.proofs.divide.divide_pixels.Goals as goal

-- the greys
pub split_some-found-requires : goal.split_some-found-requires
split_some-found-requires c =
    let k = c.sort_kinds-greys in
    let o = k.new.greys in
    let t = k.new.colours in
    let g = k.result in
    let n = length c.args.order.now in
    let bytes = c.args.pixels.now in
    let laid = kinds-laid bytes o t g n c.requires.0 k.auto.greys (k.auto.colours ∙ sym c.requires.1) k.ensures in
    let long = greys-long bytes o t g n laid in
    record {
      room = omega arith;
      codes = omega arith;
      lists = greys-room bytes o t g n laid;
      keyed = omega (arith, long, laid.some, c.requires.2);
      few = omega (arith, long, laid.some, c.requires.3);
      inside = laid.greys_in;
      coloured = λ e. absurd (omega arith);
    }

-- the colours
pub split_some-found-requires-2 : goal.split_some-found-requires-2
split_some-found-requires-2 c =
    let k = c.sort_kinds-greys in
    let o = k.new.greys in
    let t = k.new.colours in
    let g = k.result in
    let n = length c.args.order.now in
    let bytes = c.args.pixels.now in
    let laid = kinds-laid bytes o t g n c.requires.0 k.auto.greys (k.auto.colours ∙ sym c.requires.1) k.ensures in
    let f = c.split_some-found in
    let u = f.new.order in
    let v = f.new.other in
    let long = colours-long bytes o t g n laid u v f.auto.order f.auto.other in
    let lent = colours-lent bytes o t g n laid u v f.auto.order f.auto.other in
    let few = found-few _ _ _ _ _ _ _ _ _ _ _ _ f.ensures in
    record {
      room = omega (arith, few);
      codes = omega arith;
      lists = colours-room bytes o t g n laid u v f.auto.order f.auto.other;
      keyed = omega (arith, long, laid.order, c.requires.2, f.auto.keys);
      few = omega (arith, long, laid.order, c.requires.3);
      inside = rw lent laid.colours_in;
      coloured = λ e. rw lent laid.coloured;
    }

pub returns : goal.returns
returns c =
    let k = c.sort_kinds-greys in
    let o = k.new.greys in
    let t = k.new.colours in
    let g = k.result in
    let n = length c.args.order.now in
    let bytes = c.args.pixels.now in
    let laid = kinds-laid bytes o t g n c.requires.0 k.auto.greys (k.auto.colours ∙ sym c.requires.1) k.ensures in
    let f = c.split_some-found in
    let u = f.new.order in
    let v = f.new.other in
    let s = c.split_some-found-2 in
    let w = s.new.order in
    let copied : c.copy.new.list ≡ slice_from (length o - g) (w ++ drop (length o - g) (put_from (length o - g) t v)) = search rules in
    both-divided bytes o t g n laid u v f.auto.order f.auto.other w s.new.other s.auto.order s.auto.other c.copy.new.list copied
    c.args.closeness (λ j. let known = c.type_inv.pixels j in omega arith)
    _ _ _ _ _ _ f.result s.result f.ensures s.ensures
