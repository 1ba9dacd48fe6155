use Rattle.modem.proofs.Laying.{none_laid}
use Rattle.modem.proofs.frames.put_frames.Goals as goal

pub loop-at-init : goal.loop-at-init
loop-at-init c = none_laid _ _ c.requires
