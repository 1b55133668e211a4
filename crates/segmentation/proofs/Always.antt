-- Every line ends finished, and so does every ring. Assumes nothing.
use Rattle.segmentation.specs.Finished.{AlwaysFinished, RingAlwaysFinished}
use Rattle.segmentation.proofs.Finishing.{line-finished}
use Rattle.segmentation.proofs.RingModes.{ring-finished}

pub always-finished : AlwaysFinished
always-finished = line-finished

pub ring-always-finished : RingAlwaysFinished
ring-always-finished = ring-finished
