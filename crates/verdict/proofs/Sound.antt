-- What stands behind every verdict, put together. Assumes nothing.
use Rattle.pooling.proofs.Always.{always-pooled}
use Rattle.verdict.specs.Exactness.{VerdictAlwaysSound}
use Rattle.verdict.proofs.Masses.{mass-of-fit}
use Rattle.verdict.proofs.Range.{in-range}
use Rattle.verdict.proofs.Band.{exact}
use Rattle.verdict.proofs.Monotone.{monotone-cost}
use Rattle.verdict.proofs.Ordered.{monotone-kept}
use Rattle.verdict.proofs.Covered.{never-by-missing-step}

pub verdict-sound : VerdictAlwaysSound
verdict-sound e w h hl hn = record {
  fit = always-pooled w h;
  masses = mass-of-fit e w h;
  in_range = in-range w h hl hn;
  exact = λ l. exact e w h l hl (in-range w h hl hn);
  monotone = λ l m. monotone-cost w h m e l;
  kept = monotone-kept e w h;
  covered = never-by-missing-step e w h hl;
}
